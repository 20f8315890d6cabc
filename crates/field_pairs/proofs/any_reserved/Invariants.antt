-- `any_reserved` meets its contract: a pair from `from` on has a reserved key if one from `place` on has. The measure is what is left of the column. Assumes nothing.
use mathlib.Core.Path.{◌≡◌}
use Prim.Native.Nat.{◌-◌}
use lib.ListN.{length, drop}
use Rattle.field_pairs.specs.Pairs.{Pairs, pairs_of}
use Rattle.field_pairs.specs.Reserved.{any_reserved}
use Rattle.field_pairs.proofs.any_reserved.Given as goal

abbrev pub invariant-loop-place : goal.invariant-loop-place
invariant-loop-place l = Pairs l.pairs l.place × (any_reserved (pairs_of (drop l.from l.pairs)) ≡ any_reserved (pairs_of (drop l.place l.pairs)))

abbrev pub decreases-loop-place : goal.decreases-loop-place
decreases-loop-place l = length l.pairs - l.place
