-- `mentions` meets its contract: `found` tells of the places before i. The measure is the places that are left. Assumes nothing.
use mathlib.Core.Path.{◌≡◌}
use Prim.Native.Nat.{◌-◌, ◌≤◌}
use lib.ListN.{length}
use Rattle.field_pairs.proofs.MentionLaws.{mentions_below}
use Rattle.field_pairs.proofs.mentions.Given as goal

abbrev pub invariant-loop-i : goal.invariant-loop-i
invariant-loop-i l = (l.i ≤ length l.pairs - 40) × (l.found ≡ mentions_below l.pairs l.i)

abbrev pub decreases-loop-i : goal.decreases-loop-i
decreases-loop-i l = length l.pairs - 40 - l.i
