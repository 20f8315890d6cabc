-- `put_schema_leaf` meets its contract: format, name and tail one after the other (`schema_written_lem`). Assumes nothing.
use Rattle.put_schema_leaf.proofs.PutLaws.{format_size, no_leaf, no_format, no_room, name_can, tail_room, schema_counted, schema_written_lem}
use mathlib.Core.Path.{refl, sym}
use native.Mathlib.Omega.{arith}
use Rattle.field_leaf.specs.FieldLeaves.{FieldLeafAt}
use Rattle.field_leaf.proofs.LeafLaws.{leaf_told}
use Rattle.put_schema_leaf.proofs.FormatLaws.{Format, format_told}
use Rattle.put_schema_leaf.proofs.put_schema_leaf.Goals as goal

pub overflow_sub-name : goal.overflow_sub-name
overflow_sub-name c =
    let k = (leaf_told c.args.s.now c.args.at (sym c.in_ok-kind.ensures)) in omega (arith, k.long)

pub overflow_add-result : goal.overflow_add-result
overflow_add-result c =
    let k = (leaf_told c.args.s.now c.args.at (sym c.in_ok-kind.ensures)) in omega (arith, k.high)

pub overflow_add-result-then-out-eq0 : goal.overflow_add-result-then-out-eq0
overflow_add-result-then-out-eq0 c =
    let k = (leaf_told c.args.s.now c.args.at (sym c.in_ok-kind.ensures)) in omega (arith, k.high, (format_size (format_told c.in_ok-kind.field-0.kind _ _ _ (sym c.in_ok-low.ensures))).1)

pub overflow_add-result-then-out-eq0-2 : goal.overflow_add-result-then-out-eq0-2
overflow_add-result-then-out-eq0-2 c =
    let k = (leaf_told c.args.s.now c.args.at (sym c.in_ok-kind.ensures)) in omega (arith, k.high, (format_size (format_told c.in_ok-kind.field-0.kind _ _ _ (sym c.in_ok-low.ensures))).1)

pub returns-then-out-eq0 : goal.returns-then-out-eq0
returns-then-out-eq0 c = schema_counted (leaf_told c.args.s.now c.args.at (sym c.in_ok-kind.ensures)) (format_told c.in_ok-kind.field-0.kind _ _ _ (sym c.in_ok-low.ensures)) c.args.out.now c.if-out-eq0.true

pub returns-then-out-name : goal.returns-then-out-name
returns-then-out-name c =
    let a = c.args in (no_room a.s.now a.at a.out.now _ _ _ _ c.in_ok-kind.ensures _ _ _ c.in_ok-low.ensures c.if-out-eq0.false (omega (arith, c.if-out-name.true)), refl)

pub overflow_add-len : goal.overflow_add-len
overflow_add-len c = omega (arith, (format_size (format_told c.in_ok-kind.field-0.kind _ _ _ (sym c.in_ok-low.ensures))).1)

pub returns-then-out-name-2 : goal.returns-then-out-name-2
returns-then-out-name-2 c =
    let a = c.args in (no_room a.s.now a.at a.out.now _ _ _ _ c.in_ok-kind.ensures _ _ _ c.in_ok-low.ensures (λ z. let k = (leaf_told a.s.now a.at (sym c.in_ok-kind.ensures)) in omega (arith, z, c.if-out-name.false, k.long)) (omega (arith, c.if-out-name-2.true, c.if-out-name.false)), refl)

pub put_format-to-requires : goal.put_format-to-requires
put_format-to-requires c = ((format_size (format_told c.in_ok-kind.field-0.kind _ _ _ (sym c.in_ok-low.ensures))).0, omega (arith, c.if-out-name-2.false))

pub copy_part-end-requires : goal.copy_part-end-requires
copy_part-end-requires c =
    let k : FieldLeafAt c.args.s.now c.args.at c.in_ok-kind.field-0.kind c.in_ok-kind.field-0.start c.in_ok-kind.field-0.end c.in_ok-kind.field-0.nullable = leaf_told c.args.s.now c.args.at (sym c.in_ok-kind.ensures) in
    let f : Format c.in_ok-kind.field-0.kind c.in_ok-low.field-0.low c.in_ok-low.field-0.high c.in_ok-low.field-0.len = format_told c.in_ok-kind.field-0.kind _ _ _ (sym c.in_ok-low.ensures) in
    name_can k f c.args.out.now c.if-out-name.false c.if-out-name-2.false c.put_format-to.new.out c.put_format-to.result c.put_format-to.ensures

pub put_tail-written-requires : goal.put_tail-written-requires
put_tail-written-requires c =
    let k : FieldLeafAt c.args.s.now c.args.at c.in_ok-kind.field-0.kind c.in_ok-kind.field-0.start c.in_ok-kind.field-0.end c.in_ok-kind.field-0.nullable = leaf_told c.args.s.now c.args.at (sym c.in_ok-kind.ensures) in
    let f : Format c.in_ok-kind.field-0.kind c.in_ok-low.field-0.low c.in_ok-low.field-0.high c.in_ok-low.field-0.len = format_told c.in_ok-kind.field-0.kind _ _ _ (sym c.in_ok-low.ensures) in
    (k.flag, tail_room k f c.args.out.now c.if-out-name.false c.if-out-name-2.false c.put_format-to.new.out c.copy_part-end.new.out c.put_format-to.result c.copy_part-end.result c.put_format-to.ensures c.copy_part-end.ensures)

pub overflow_add-result-2 : goal.overflow_add-result-2
overflow_add-result-2 c =
    let k = (leaf_told c.args.s.now c.args.at (sym c.in_ok-kind.ensures)) in omega (arith, k.high)

pub returns : goal.returns
returns c =
    let k : FieldLeafAt c.args.s.now c.args.at c.in_ok-kind.field-0.kind c.in_ok-kind.field-0.start c.in_ok-kind.field-0.end c.in_ok-kind.field-0.nullable = leaf_told c.args.s.now c.args.at (sym c.in_ok-kind.ensures) in
    let f : Format c.in_ok-kind.field-0.kind c.in_ok-low.field-0.low c.in_ok-low.field-0.high c.in_ok-low.field-0.len = format_told c.in_ok-kind.field-0.kind _ _ _ (sym c.in_ok-low.ensures) in
    schema_written_lem k f c.args.out.now c.if-out-name.false c.if-out-name-2.false
    c.put_format-to.new.out c.copy_part-end.new.out c.put_tail-written.new.out c.put_format-to.result c.copy_part-end.result c.put_tail-written.result
    c.put_format-to.ensures c.copy_part-end.ensures c.put_tail-written.ensures
