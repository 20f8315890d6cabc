-- `name_length` meets its contract: neighbouring rows have names of one length (`lengths`). Assumes nothing.
use mathlib.Core.Path.{refl}
use mathlib.Core.Bool.{◌||◌}
use native.Mathlib.Omega.{arith}
use lib.Dec.{eqb, ltb}
use lib.ListN.{length}
use Rattle.sheets.proofs.Tests.{meets, every}
use Rattle.format_names.specs.Names.{row_at}
use Rattle.format_names.proofs.NameLaws.{lengths}
use Rattle.format_names.proofs.names.name_length.Goals as goal

pub returns-then-i-lt10 : goal.returns-then-i-lt10
unfolding row_at
returns-then-i-lt10 c = lengths 0 10 1 (meets (every 10 (λ j. ltb j 0 || eqb (length (row_at j).name) 1)) refl) c.args.i (omega arith) (omega arith)

pub returns-then-i-lt12 : goal.returns-then-i-lt12
unfolding row_at
returns-then-i-lt12 c = lengths 10 12 7 (meets (every 12 (λ j. ltb j 10 || eqb (length (row_at j).name) 7)) refl) c.args.i (omega arith) (omega arith)

pub returns-then-i-lt19 : goal.returns-then-i-lt19
unfolding row_at
returns-then-i-lt19 c = lengths 12 19 1 (meets (every 19 (λ j. ltb j 12 || eqb (length (row_at j).name) 1)) refl) c.args.i (omega arith) (omega arith)

pub returns-then-i-lt32 : goal.returns-then-i-lt32
unfolding row_at
returns-then-i-lt32 c = lengths 19 32 3 (meets (every 32 (λ j. ltb j 19 || eqb (length (row_at j).name) 3)) refl) c.args.i (omega arith) (omega arith)

pub returns : goal.returns
unfolding row_at
returns c = lengths 32 38 2 (meets (every 38 (λ j. ltb j 32 || eqb (length (row_at j).name) 2)) refl) c.args.i (omega arith) (omega arith)
