-- `shared_by` meets its contract. The invariant: the keys of the entries passed begin with the first `r` bytes of the first key. Assumes nothing.
use Prim.Native.Nat.{◌+◌, ◌≤◌}
use lib.ListN.{length, take}
use Rattle.key_order.specs.Entry.{Each, Begins}
use Rattle.key_order.proofs.shared.shared_by.Given as goal

abbrev pub invariant-loop-e : goal.invariant-loop-e
invariant-loop-e l = (l.r ≤ length l.first) × Each (Begins l.text l.first l.r) (take (l.e-index + 1) l.entries)
