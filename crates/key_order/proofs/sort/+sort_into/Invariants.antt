-- `sort_into` meets its contract. The measure is the number of entries. Both halves come back sorted in `from`, and merging sorts the
-- whole (`HalvesLaws`). Assumes nothing.
use lib.ListN.{length}
use Rattle.key_order.proofs.sort.+sort_into.Given as goal

abbrev pub decreases-sort_into : goal.decreases-sort_into
decreases-sort_into l = length l.to.now
