-- The proof of the cycle of calls {next_field, to_dtype, to_field, to_fields}. `to_field` calls `to_dtype` at one level less, which calls `to_fields`, that
-- `next_field`, and that `to_field` at the same number of levels: four times the levels for `to_field`, one more for `next_field`, two more for `to_fields`,
-- three more for `to_dtype`. The laws are in `FieldLaws`, `TypeLaws`, `FieldsLaws` and `LeafLaws`. Assumes nothing.
use mathlib.Core.Path.{refl, ◌∙◌}
use native.Mathlib.Omega.{arith}
use borrow.Author.Rules.{rules}
use Rattle.buffer.proofs.OverLaws.{length_lent}
use Rattle.refusal.specs.declared.Refusal.TheVariants.{TooDeep}
use Rattle.refusal.proofs.ErrLaws.{passed}
use Rattle.import_field.proofs.OwnLaws.{room_kept, no_level}
use Rattle.import_field.proofs.FieldLaws.{field_refused, below_within, below_refused, field_next, field_long, field_each, field_told}
use Rattle.import_field.proofs.TypeLaws.{type_refused, rows_within, type_told}
use Rattle.import_field.proofs.FieldsLaws.{row_none, row_more, row_within, row_all, row_past, going_none, going_more, going_refused, going_all}
use Rattle.import_field.proofs.LeafLaws.{leaf_done, leaf_other}
use Rattle.import_field.proofs.+next_field_to_dtype_to_field_to_fields.Goals as goal

pub next_field-returns-then-tree-eq0 : goal.next_field-returns-then-tree-eq0
next_field-returns-then-tree-eq0 t c =
    let a = c.args in (tt, no_level a.s.now a.tree c.if-tree-eq0.true a.out.now a.out.now TooDeep)

pub next_field-to_field-requires : goal.next_field-to_field-requires
next_field-to_field-requires t c = (omega (arith, c.decreases), (omega arith, (c.requires.s_len_bound, c.requires.has_entries)))

pub next_field-shape_of-out-in-Some : goal.next_field-shape_of-out-in-Some
next_field-shape_of-out-in-Some t c = c.put_leaf.auto.out

pub next_field-returns-in-Some : goal.next_field-returns-in-Some
next_field-returns-in-Some t c =
    let a = c.args in
    let r = c.put_leaf in
    leaf_done a.s.now a.tree a.out.now r.new.out r.result r.ensures _ _ c.in-Some.is (omega arith)

pub next_field-shape_of-out-in-None : goal.next_field-shape_of-out-in-None
next_field-shape_of-out-in-None t c = c.to_field.auto.out ∙ c.put_leaf.auto.out

pub next_field-shape_of-entries : goal.next_field-shape_of-entries
next_field-shape_of-entries t c = c.to_field.auto.entries

pub next_field-shape_of-spare : goal.next_field-shape_of-spare
next_field-shape_of-spare t c = c.to_field.auto.spare

pub next_field-returns-in-None : goal.next_field-returns-in-None
next_field-returns-in-None t c =
    let a = c.args in
    let r = c.put_leaf in
    let f = c.to_field in
    leaf_other a.s.now a.tree a.out.now r.new.out r.result r.ensures c.in-None.is f.new.out f.result f.ensures

pub to_dtype-to_fields-requires : goal.to_dtype-to_fields-requires
to_dtype-to_fields-requires t c = (omega (arith, c.decreases), (c.requires.s_len_bound, (c.requires.at_in_bounds, c.requires.has_entries)))

pub to_dtype-end_type-requires : goal.to_dtype-end_type-requires
to_dtype-end_type-requires t c =
    let a = c.args in
    let r = c.to_fields in
    rows_within a.s.now a.row a.last a.out.now r.new.out r.result r.ensures _ _ c.in_ok-next.was

pub to_dtype-shape_of-out-in_err-next : goal.to_dtype-shape_of-out-in_err-next
to_dtype-shape_of-out-in_err-next t c = c.to_fields.auto.out

pub to_dtype-shape_of-entries-in_err-next : goal.to_dtype-shape_of-entries-in_err-next
to_dtype-shape_of-entries-in_err-next t c = c.to_fields.auto.entries

pub to_dtype-shape_of-spare-in_err-next : goal.to_dtype-shape_of-spare-in_err-next
to_dtype-shape_of-spare-in_err-next t c = c.to_fields.auto.spare

pub to_dtype-returns-in_err-next : goal.to_dtype-returns-in_err-next
to_dtype-returns-in_err-next t c =
    let a = c.args in
    let r = c.to_fields in
    rw (passed c.from_residual.result _ c.from_residual.ensures.1) (type_refused a.s.now a.row a.last a.out.now r.new.out r.result r.ensures _ c.in_err-next.was)

pub to_dtype-shape_of-out : goal.to_dtype-shape_of-out
to_dtype-shape_of-out t c = c.to_fields.auto.out

pub to_dtype-shape_of-entries : goal.to_dtype-shape_of-entries
to_dtype-shape_of-entries t c = c.to_fields.auto.entries

pub to_dtype-shape_of-spare : goal.to_dtype-shape_of-spare
to_dtype-shape_of-spare t c = c.to_fields.auto.spare

pub to_dtype-returns : goal.to_dtype-returns
to_dtype-returns t c =
    let a = c.args in
    let r = c.to_fields in
    type_told a.s.now a.row a.last a.out.now r.new.out r.result r.ensures _ _ c.in_ok-next.was c.end_type.result c.end_type.ensures

pub to_field-begin_node-requires : goal.to_field-begin_node-requires
to_field-begin_node-requires t c = c.requires

pub to_field-overflow_sub-row : goal.to_field-overflow_sub-row
to_field-overflow_sub-row t c = omega (arith, c.requires.le_levels)

pub to_field-slice_bounds-to_dtype-count : goal.to_field-slice_bounds-to_dtype-count
to_field-slice_bounds-to_dtype-count t c = omega arith

pub to_field-slice_bounds-to_dtype-start : goal.to_field-slice_bounds-to_dtype-start
to_field-slice_bounds-to_dtype-start t c = omega arith

pub to_field-slice_bounds-to_dtype-end : goal.to_field-slice_bounds-to_dtype-end
to_field-slice_bounds-to_dtype-end t c = omega arith

pub to_field-to_dtype-requires : goal.to_field-to_dtype-requires
to_field-to_dtype-requires t c =
    let a = c.args in
    let b = c.begin_node in
    (omega (arith, c.decreases, c.requires.le_levels), (c.requires.s_len_bound, (below_within a.s.now a.tree a.out.now b.new.out b.result b.ensures _ _ _ _ c.in_ok-from.was, room_kept c.requires.has_entries b.auto.entries b.auto.spare)))

pub to_field-overflow_add-size : goal.to_field-overflow_add-size
to_field-overflow_add-size t c =
    let a = c.args in
    let b = c.begin_node in
    let r = c.to_dtype in
    omega (arith, c.requires.s_len_bound, field_long a.s.now a.tree a.out.now b.new.out b.result b.ensures _ _ _ _ c.in_ok-from.was _ r.new.out r.result r.ensures _ _ c.in_ok-next.was, field_next a.s.now a.tree a.out.now b.new.out b.result b.ensures _ _ _ _ c.in_ok-from.was _ r.new.out r.result r.ensures _ _ c.in_ok-next.was)

pub to_field-overflow_add-size-2 : goal.to_field-overflow_add-size-2
to_field-overflow_add-size-2 t c =
    let a = c.args in
    let b = c.begin_node in
    let r = c.to_dtype in
    omega (arith, c.requires.s_len_bound, field_each a.s.now a.tree a.out.now b.new.out b.result b.ensures _ _ _ _ c.in_ok-from.was _ r.new.out r.result r.ensures _ _ c.in_ok-next.was, field_next a.s.now a.tree a.out.now b.new.out b.result b.ensures _ _ _ _ c.in_ok-from.was _ r.new.out r.result r.ensures _ _ c.in_ok-next.was)

pub to_field-shape_of-out-in_err-from : goal.to_field-shape_of-out-in_err-from
to_field-shape_of-out-in_err-from t c = c.begin_node.auto.out

pub to_field-shape_of-entries-in_err-from : goal.to_field-shape_of-entries-in_err-from
to_field-shape_of-entries-in_err-from t c = c.begin_node.auto.entries

pub to_field-shape_of-spare-in_err-from : goal.to_field-shape_of-spare-in_err-from
to_field-shape_of-spare-in_err-from t c = c.begin_node.auto.spare

pub to_field-returns-in_err-from : goal.to_field-returns-in_err-from
to_field-returns-in_err-from t c =
    let a = c.args in
    let b = c.begin_node in
    rw (passed c.from_residual.result _ c.from_residual.ensures.1) (field_refused a.s.now a.tree a.out.now b.new.out b.result b.ensures _ c.in_err-from.was)

pub to_field-shape_of-out-in_err-next : goal.to_field-shape_of-out-in_err-next
to_field-shape_of-out-in_err-next t c =
    let b = c.begin_node in
    let r = c.to_dtype in
    length_lent c.within-w.result b.new.out r.new.out r.auto.out ∙ b.auto.out

pub to_field-shape_of-entries-in_err-next : goal.to_field-shape_of-entries-in_err-next
to_field-shape_of-entries-in_err-next t c = c.to_dtype.auto.entries ∙ c.begin_node.auto.entries

pub to_field-shape_of-spare-in_err-next : goal.to_field-shape_of-spare-in_err-next
to_field-shape_of-spare-in_err-next t c = c.to_dtype.auto.spare ∙ c.begin_node.auto.spare

pub to_field-returns-in_err-next : goal.to_field-returns-in_err-next
to_field-returns-in_err-next t c =
    let a = c.args in
    let b = c.begin_node in
    let r = c.to_dtype in
    rw (passed c.from_residual-in_err-next.result _ c.from_residual-in_err-next.ensures.1) (below_refused a.s.now a.tree a.out.now b.new.out b.result b.ensures _ _ _ _ c.in_ok-from.was _ r.new.out r.result r.ensures _ c.in_err-next.was)

pub to_field-shape_of-out : goal.to_field-shape_of-out
to_field-shape_of-out t c =
    let b = c.begin_node in
    let r = c.to_dtype in
    length_lent c.within-w.result b.new.out r.new.out r.auto.out ∙ b.auto.out

pub to_field-shape_of-entries : goal.to_field-shape_of-entries
to_field-shape_of-entries t c = c.to_dtype.auto.entries ∙ c.begin_node.auto.entries

pub to_field-shape_of-spare : goal.to_field-shape_of-spare
to_field-shape_of-spare t c = c.to_dtype.auto.spare ∙ c.begin_node.auto.spare

pub to_field-returns : goal.to_field-returns
to_field-returns t c =
    let a = c.args in
    let b = c.begin_node in
    let r = c.to_dtype in
    let w = c.within-w in
    field_told a.s.now a.tree a.out.now b.new.out b.result b.ensures _ _ _ _ c.in_ok-from.was _ r.new.out r.result r.ensures _ _ c.in_ok-next.was (omega (arith, c.requires.le_levels)) w.result w.ensures refl c.end_field.result c.end_field.ensures

pub to_fields-loop-i-init : goal.to_fields-loop-i-init
to_fields-loop-i-init t c = (search rules, refl, refl, refl, row_none _ _ _ _ c.requires.at_in_bounds, λ us ts h. going_none _ _ _ _ _ _ _ _ _ h)

pub to_fields-slice_bounds-next_field-count : goal.to_fields-slice_bounds-next_field-count
to_fields-slice_bounds-next_field-count t c = omega arith

pub to_fields-slice_bounds-next_field-start : goal.to_fields-slice_bounds-next_field-start
to_fields-slice_bounds-next_field-start t c = omega arith

pub to_fields-slice_bounds-next_field-end : goal.to_fields-slice_bounds-next_field-end
to_fields-slice_bounds-next_field-end t c = omega arith

pub to_fields-next_field-requires : goal.to_fields-next_field-requires
to_fields-next_field-requires t c =
    let inv = c.loop-i.invariant in
    (omega (arith, c.decreases), (c.requires.s_len_bound, room_kept c.requires.has_entries inv.2 inv.3))

pub to_fields-shape_of-out-in_err-next : goal.to_fields-shape_of-out-in_err-next
to_fields-shape_of-out-in_err-next t c =
    let l = c.loop-i in
    let r = c.next_field in
    length_lent c.within-w.result l.out r.new.out r.auto.out ∙ l.invariant.1

pub to_fields-shape_of-entries-in_err-next : goal.to_fields-shape_of-entries-in_err-next
to_fields-shape_of-entries-in_err-next t c = c.next_field.auto.entries ∙ c.loop-i.invariant.2

pub to_fields-shape_of-spare-in_err-next : goal.to_fields-shape_of-spare-in_err-next
to_fields-shape_of-spare-in_err-next t c = c.next_field.auto.spare ∙ c.loop-i.invariant.3

pub to_fields-returns-in_err-next : goal.to_fields-returns-in_err-next
to_fields-returns-in_err-next t c =
    let r = c.next_field in
    rw (passed c.from_residual.result _ c.from_residual.ensures.1) ((tt, tt, λ us ts h. going_refused _ _ _ _ _ _ _ _ _ _ _ _ _ _ (c.loop-i.invariant.5 us ts h) c.loop-i-test.true _ r.new.out _ _ c.in_err-next.was r.ensures.1))

pub to_fields-overflow_add-sum : goal.to_fields-overflow_add-sum
to_fields-overflow_add-sum t c =
    let g = (row_more c.loop-i.invariant.4 c.loop-i-test.true _ _ _ c.in_ok-next.was c.next_field.ensures.0) in omega (arith, g.long, row_within g, c.requires.s_len_bound)

pub to_fields-overflow_add-lines : goal.to_fields-overflow_add-lines
to_fields-overflow_add-lines t c =
    let g = (row_more c.loop-i.invariant.4 c.loop-i-test.true _ _ _ c.in_ok-next.was c.next_field.ensures.0) in omega (arith, g.each, row_within g, c.requires.s_len_bound)

pub to_fields-loop-i-preserved : goal.to_fields-loop-i-preserved
to_fields-loop-i-preserved t c =
    let l = c.loop-i in
    let r = c.next_field in (
      omega arith,
      length_lent c.within-w.result l.out r.new.out r.auto.out ∙ l.invariant.1,
      r.auto.entries ∙ l.invariant.2,
      r.auto.spare ∙ l.invariant.3,
      (row_more c.loop-i.invariant.4 c.loop-i-test.true _ _ _ c.in_ok-next.was c.next_field.ensures.0),
      λ us ts h. going_more _ _ _ _ _ _ _ _ _ _ _ _ _ _ (l.invariant.5 us ts h) c.loop-i-test.true c.within-w.result c.within-w.ensures r.new.out _ _ _ c.in_ok-next.was r.ensures.1,
    )

pub to_fields-shape_of-out : goal.to_fields-shape_of-out
to_fields-shape_of-out t c = c.loop-i.invariant.1

pub to_fields-shape_of-entries : goal.to_fields-shape_of-entries
to_fields-shape_of-entries t c = c.loop-i.invariant.2

pub to_fields-shape_of-spare : goal.to_fields-shape_of-spare
to_fields-shape_of-spare t c = c.loop-i.invariant.3

pub to_fields-returns : goal.to_fields-returns
to_fields-returns t c =
    let g = c.loop-i.invariant in (row_all g.4 c.loop-i-test.false, row_past g.4 c.loop-i-test.false, λ us ts h. going_all _ _ _ _ _ _ _ _ _ _ _ _ _ _ (g.5 us ts h) c.loop-i-test.false)
