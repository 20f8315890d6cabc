-- `sort_few` meets its contract. The invariant: the first `r` of `to` are those of `from` after what is left of it, in order. Assumes nothing.
use mathlib.Core.Path.{◌≡◌}
use mathlib.Core.List.{◌++◌}
use Prim.Native.Nat.{◌+◌, ◌≤◌}
use lib.ListN.{length, take, drop}
use Rattle.key_order.specs.Entry.{rest_at}
use Rattle.key_order.specs.Order.{ordered}
use Rattle.key_order.proofs.insert.sort_few.Given as goal

abbrev pub invariant-loop-p : goal.invariant-loop-p
invariant-loop-p l =
    (l.r + length l.p-iterator.iter.rest.now ≤ length l.from)
    × (l.p-iterator.iter.rest.now ++ drop (length l.p-iterator.iter.rest.now) l.from ≡ l.from)
    × (take l.r l.to ≡ ordered (rest_at l.text l.shared) (drop (length l.p-iterator.iter.rest.now) l.from))
