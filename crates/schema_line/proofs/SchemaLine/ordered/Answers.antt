-- The mask 1 is 2 ^ 1 - 2 ^ 0: `masked` of FlagLaws says what it leaves. Assumes nothing.
use borrow.Author.Rules.{rules}
use native.Mathlib.Omega.{arith}
use Rattle.schema_line.proofs.FlagLaws.{masked}
use Rattle.schema_line.proofs.SchemaLine.ordered.Goals as goal

pub returns : goal.returns
returns c = masked 0 (omega arith) c.args.self.flags (search rules)
