-- `sort_into` meets its contract. The measure is the number of entries. Both halves come back sorted in `from`, and merging sorts the
-- whole (`HalvesLaws`). Assumes nothing.
use mathlib.Core.List.{List}
use mathlib.Core.Path.{◌≡◌, sym, ap, subst, ◌∙◌}
use lib.Seq.{length-take-le, length_front}
use Rattle.key_order.specs.Merge.{Sorts}
use Rattle.key_order.specs.Entry.{rest_at}
use Rattle.key_order.proofs.HalvesLaws.{second_half, back, back_length, halves, sorted}
use native.Mathlib.Omega.{arith}
use lib.ListN.{length, length-drop, take, drop}
use Prim.Native.Nat.{ℕ, ◌/◌}
use Rattle.key_order.proofs.sort.+sort_into.Goals as goal

pub sort_few-requires : goal.sort_few-requires
sort_few-requires t c = omega (arith, ap length c.requires)

pub returns-then-n-lt9 : goal.returns-then-n-lt9
returns-then-n-lt9 t c =
    let few = c.sort_few in
    subst (λ (l : List ℕ). Sorts (rest_at c.args.text.now c.args.shared) l few.new.to few.result) c.requires few.ensures

pub slice_bounds-sort_into-end-2 : goal.slice_bounds-sort_into-end-2
slice_bounds-sort_into-end-2 t c = sym (length-take-le (length c.args.to.now / 2) c.args.to.now (omega arith))

pub slice_bounds-sort_into-end-3 : goal.slice_bounds-sort_into-end-3
slice_bounds-sort_into-end-3 t c = omega (arith, ap length c.requires)

pub slice_bounds-sort_into-end-4 : goal.slice_bounds-sort_into-end-4
slice_bounds-sort_into-end-4 t c = sym (length-take-le (length c.args.to.now / 2) c.args.from.now (omega (arith, ap length c.requires)))

pub sort_into-a-requires : goal.sort_into-a-requires
sort_into-a-requires t c =
    let half = length c.args.to.now / 2 in
    let e = ap length c.requires in
    (omega (arith, c.decreases, length-take-le half c.args.from.now (omega arith)), ap (take half) (sym c.requires))

pub slice_bounds-sort_into-count-2 : goal.slice_bounds-sort_into-count-2
slice_bounds-sort_into-count-2 t c =
    let first = c.sort_into-a in
    omega (arith, ap length c.requires, length_front c.args.from.now first.new.to (length c.args.to.now / 2) first.auto.to)

pub slice_bounds-sort_into-start-2 : goal.slice_bounds-sort_into-start-2
slice_bounds-sort_into-start-2 t c =
    let first = c.sort_into-a in
    omega (arith, ap length c.requires, length_front c.args.from.now first.new.to (length c.args.to.now / 2) first.auto.to)

pub sort_into-b-requires : goal.sort_into-b-requires
sort_into-b-requires t c =
    let from = c.args.from.now in
    let to = c.args.to.now in
    let half = length to / 2 in
    let e : length from ≡ length to = ap length c.requires in
    let first = c.sort_into-a in
    let f = second_half from first.new.to half (omega arith) first.auto.to in
    let g = second_half to first.new.from half (omega arith) first.auto.from in
    (omega (arith, c.decreases, ap length f, length-drop half from), g ∙ ap (drop half) (sym c.requires) ∙ sym f)

pub join_halves-requires : goal.join_halves-requires
join_halves-requires t c =
    let from = c.args.from.now in
    let to = c.args.to.now in
    let half = length to / 2 in
    let e : length from ≡ length to = ap length c.requires in
    let first = c.sort_into-a in
    let then = c.sort_into-b in
    let n = back_length to first.new.from half (omega arith) first.auto.from then.new.from then.auto.from in
    halves (rest_at c.args.text.now c.args.shared) from first.new.to then.new.to half first.result then.result (omega arith) first.auto.to then.auto.to first.ensures then.ensures
    (back to first.new.from then.new.from half) (omega (arith, n))

pub shape_of-from : goal.shape_of-from
shape_of-from t c =
    let from = c.args.from.now in
    let to = c.args.to.now in
    let half = length to / 2 in
    let e : length from ≡ length to = ap length c.requires in
    let first = c.sort_into-a in
    let then = c.sort_into-b in
    back_length from first.new.to half (omega arith) first.auto.to then.new.to then.auto.to

pub shape_of-to : goal.shape_of-to
shape_of-to t c =
    let from = c.args.from.now in
    let to = c.args.to.now in
    let half = length to / 2 in
    let e : length from ≡ length to = ap length c.requires in
    let first = c.sort_into-a in
    let then = c.sort_into-b in
    c.join_halves.auto.out ∙ back_length to first.new.from half (omega arith) first.auto.from then.new.from then.auto.from

pub returns : goal.returns
returns t c =
    let from = c.args.from.now in
    let to = c.args.to.now in
    let half = length to / 2 in
    let e : length from ≡ length to = ap length c.requires in
    let first = c.sort_into-a in
    let then = c.sort_into-b in
    let joined = c.join_halves in
    let key = rest_at c.args.text.now c.args.shared in
    let all = sorted key from first.new.to then.new.to half first.result then.result (omega arith) first.auto.to then.auto.to first.ensures then.ensures joined.new.out joined.result joined.ensures in
    subst (λ (l : List ℕ). Sorts key l joined.new.out joined.result) c.requires all
