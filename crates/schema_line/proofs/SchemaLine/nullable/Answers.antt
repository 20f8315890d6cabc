-- The mask 2 is 2 ^ 2 - 2 ^ 1: `masked` of FlagLaws says what it leaves. Assumes nothing.
use borrow.Author.Rules.{rules}
use native.Mathlib.Omega.{arith}
use Rattle.schema_line.proofs.FlagLaws.{masked}
use Rattle.schema_line.proofs.SchemaLine.nullable.Goals as goal

pub returns : goal.returns
returns c = masked 1 (omega arith) c.args.self.flags (search rules)
