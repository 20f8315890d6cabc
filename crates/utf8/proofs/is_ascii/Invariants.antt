-- `is_ascii` meets its contract. The loop's invariant: all bytes are ASCII exactly if `ok` is true and those that are left are. Assumes nothing.
use mathlib.Core.Path.{◌≡◌}
use mathlib.Core.Bool.{◌&&◌}
use lib.ListN.{drop}
use Rattle.utf8.specs.Tables.{all_ascii}
use Rattle.utf8.proofs.is_ascii.Given as goal

abbrev pub invariant-loop-b : goal.invariant-loop-b
invariant-loop-b l = all_ascii l.s ≡ (l.ok && all_ascii (drop l.b-index l.s))
