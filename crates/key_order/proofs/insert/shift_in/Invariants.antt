-- `shift_in` meets its contract. The invariant: the first are those of v and then part, and `w` is the next of them. Assumes nothing.
use mathlib.Core.Path.{◌≡◌}
use mathlib.Core.List.{◌∷◌, ◌++◌}
use lib.ListN.{get_or, take, drop}
use Rattle.key_order.proofs.insert.shift_in.Given as goal

abbrev pub invariant-loop-e : goal.invariant-loop-e
invariant-loop-e l = (l.w ≡ get_or (l.v ∷ l.initial.part) l.e-index 0) × (l.part ≡ take l.e-index (l.v ∷ l.initial.part) ++ drop l.e-index l.initial.part)
