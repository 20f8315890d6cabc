-- `decide` meets its contract. The loop's invariant: the whole is UTF-8 exactly if the bytes that are left are what the state `q` awaits. Assumes nothing.
use mathlib.Core.Path.{◌≡◌}
use Prim.Native.Nat.{◌<◌}
use lib.ListN.{drop}
use Rattle.sheets.specs.Utf8.{is_utf8}
use Rattle.sheets.proofs.Utf8Laws.{from_state}
use Rattle.utf8.proofs.decide.Given as goal

abbrev pub invariant-loop-b : goal.invariant-loop-b
invariant-loop-b l = (l.q < 9) × (is_utf8 l.s ≡ from_state l.q (drop l.b-index l.s))
