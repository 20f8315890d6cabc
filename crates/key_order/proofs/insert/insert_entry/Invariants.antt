-- `insert_entry` meets its contract. The invariant: the list with p put in is its first `j` entries, and then the others with p put in.
-- Assumes nothing.
use mathlib.Core.List.{◌++◌}
use mathlib.Core.Path.{◌≡◌}
use lib.ListN.{take}
use Rattle.key_order.specs.Entry.{rest_at}
use Rattle.key_order.specs.Order.{insert_entry}
use Rattle.key_order.proofs.InsertLaws.{between}
use Rattle.key_order.proofs.insert.insert_entry.Given as goal

abbrev pub invariant-loop-j : goal.invariant-loop-j
invariant-loop-j l = insert_entry (rest_at l.text l.shared) l.p (take l.n l.initial.out) ≡ take l.j l.out ++ insert_entry (rest_at l.text l.shared) l.p (between l.out l.j l.n)
