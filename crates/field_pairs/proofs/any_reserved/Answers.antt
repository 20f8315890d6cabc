-- `any_reserved` meets its contract: a pair from `from` on has a reserved key if one from `place` on has. The measure is what is left of the column. Assumes nothing.
use mathlib.Core.Path.{refl, sym, ◌∙◌}
use native.Mathlib.Omega.{arith}
use Rattle.field_pairs.proofs.ReservedLaws.{reserved_end, reserved_past, reserved_here, reserved_on}
use Rattle.field_pairs.proofs.any_reserved.Goals as goal

pub loop-place-init : goal.loop-place-init
loop-place-init c = (c.requires, refl)

pub is_past-requires : goal.is_past-requires
is_past-requires c = (c.loop-place.invariant.0, c.loop-place-test.true)

pub returns-then-is_past : goal.returns-then-is_past
returns-then-is_past c =
    let l = c.loop-place in
    sym (l.invariant.1 ∙ reserved_past c.args.pairs.now l.place l.invariant.0 (sym c.is_past.ensures ∙ c.if-is_past.true))

pub pair_at-p-requires : goal.pair_at-p-requires
pair_at-p-requires c = (c.loop-place.invariant.0, c.loop-place-test.true)

pub returns-then-is_reserved : goal.returns-then-is_reserved
returns-then-is_reserved c =
    let l = c.loop-place in
    sym (l.invariant.1 ∙ reserved_here c.args.pairs.now l.place l.invariant.0 c.pair_at-p.result c.pair_at-p.ensures (sym c.is_reserved.ensures ∙ c.if-is_reserved.true))

pub loop-place-smaller : goal.loop-place-smaller
loop-place-smaller c = omega (arith, c.pair_at-p.ensures.more, c.pair_at-p.ensures.rest.within)

pub loop-place-preserved : goal.loop-place-preserved
loop-place-preserved c =
    let l = c.loop-place in
    (c.pair_at-p.ensures.rest, l.invariant.1 ∙ reserved_on c.args.pairs.now l.place l.invariant.0 c.pair_at-p.result c.pair_at-p.ensures (sym c.is_reserved.ensures ∙ c.if-is_reserved.false))

pub returns : goal.returns
returns c =
    let l = c.loop-place in
    sym (l.invariant.1 ∙ reserved_end c.args.pairs.now l.place c.loop-place-test.false)
