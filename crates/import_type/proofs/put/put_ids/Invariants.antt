-- `put_ids` meets its contract. The loop's invariant: the ids before the part that begins at `from` are read and written, each with a comma, and have at most
-- 21 bytes for each byte read. The measure is what is left of the bytes. Assumes nothing.
use Prim.Native.Nat.{◌+◌, ◌-◌, ◌*◌, ◌≤◌}
use lib.ListN.{length}
use Rattle.hexadecimal.specs.Hex.{bytes_of}
use Rattle.import_type.proofs.IdsLaws.{Going}
use Rattle.import_type.proofs.put.put_ids.Given as goal

abbrev pub invariant-loop-id : goal.invariant-loop-id
invariant-loop-id l = (l.from ≤ length (bytes_of l.ids)) × (l.end ≤ l.at + 21 * l.from) × Going (bytes_of l.ids) l.at l.initial.out l.from l.end l.out

abbrev pub decreases-loop-id : goal.decreases-loop-id
decreases-loop-id l = length (bytes_of l.ids) - l.from
