-- The mask 4 is 2 ^ 3 - 2 ^ 2: `masked` of FlagLaws says what it leaves. Assumes nothing.
use borrow.Author.Rules.{rules}
use native.Mathlib.Omega.{arith}
use Rattle.schema_line.proofs.FlagLaws.{masked}
use Rattle.schema_line.proofs.SchemaLine.sorted.Goals as goal

pub returns : goal.returns
returns c = masked 2 (omega arith) c.args.self.flags (search rules)
