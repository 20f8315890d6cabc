-- `text::known_pairs_end` meets its contract. The loop's invariant: from `i` on pairs are left up to the text's end, and so no byte before the end is
-- the space. The measure is what is left of the text. Assumes nothing.
use mathlib.Core.Path.{◌∙◌}
use Prim.Native.Nat.{◌-◌}
use native.Mathlib.Omega.{arith}
use Rattle.columns.proofs.KnownTextLaws.{end_within, left_first, left_within, left_none, left_less, left_more, left_on}
use Rattle.columns.proofs.text.known_pairs_end.Goals as goal

pub overflow_add-i : goal.overflow_add-i
overflow_add-i c = omega (arith, c.ranges, left_within c.requires.0 (left_first c.requires.0 c.requires.1))

pub loop-i-init : goal.loop-i-init
loop-i-init c = (left_first c.requires.0 c.requires.1)

pub overflow_sub-i : goal.overflow_sub-i
overflow_sub-i c = c.loop-i.invariant.low

pub bounds-s-i : goal.bounds-s-i
bounds-s-i c = left_within c.requires.0 c.loop-i.invariant

pub returns-then-s-i-eq32 : goal.returns-then-s-i-eq32
returns-then-s-i-eq32 c = left_none c.requires.0 c.loop-i.invariant c.if-s-i-eq32.true

pub overflow_add-i-in-loop-i : goal.overflow_add-i-in-loop-i
overflow_add-i-in-loop-i c = omega (arith, c.ranges, end_within c.requires.0, left_less c.requires.0 c.loop-i.invariant c.if-s-i-eq32.false)

pub loop-i-smaller : goal.loop-i-smaller
loop-i-smaller c = omega (arith, left_less c.requires.0 c.loop-i.invariant c.if-s-i-eq32.false)

pub loop-i-preserved : goal.loop-i-preserved
loop-i-preserved c = left_more c.requires.0 c.loop-i.invariant c.if-s-i-eq32.false

pub returns : goal.returns
returns c = c.any_end.ensures ∙ left_on c.loop-i.invariant
