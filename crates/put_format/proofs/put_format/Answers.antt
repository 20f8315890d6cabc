-- `put_format` meets its contract: in each arm the kind is known, and the definition computes there or by the shape that was read. Assumes nothing.
use Rattle.format_names.specs.Names.{row_at}
use Rattle.put_format.proofs.ArmLaws.{fixed_arm, map_arm, index_arm, index_small, can_index, can_zone, zone_arm, can_union, union_arm, leaf_arm, can_leaf, decimal_none, decimal_wide}
use Rattle.put_format.specs.LineFormat.{decimal_text, timestamp_format, ids_in, union_format, line_format}
use Rattle.put_format.proofs.LeafLaws.{formats_as}
use Rattle.column_text.specs.ColumnText.{column_text}
use Rattle.sheets.specs.Format.{scalar_format, union_name}
use Rattle.sheets.specs.Field.{leaf}
use Rattle.sheets.specs.Number.{decimal}
use Rattle.sheets.specs.Answer.{given}
use Rattle.sheets.specs.Kind
use Rattle.sheets.specs.Bytes.{ascii}
use lib.Dec.{eqb}
use native.Mathlib.Omega.{arith}
use Prim.Native.Nat.{◌+◌}
use mathlib.Core.List.{[], ◌++◌}
use mathlib.Core.Path.{refl, sym, ap}
use Rattle.put_format.proofs.put_format.Goals as goal

pub put_timestamp-requires : goal.put_timestamp-requires
put_timestamp-requires c =
    let a = c.args in
    can_zone a.kind a.p a.q a.text.now a.fields a.at c.requires c.in-15.is

pub put_row-requires : goal.put_row-requires
put_row-requires c = record { known = omega arith; low = omega (arith, c.requires.low) }

pub put_row-requires-in-29 : goal.put_row-requires-in-29
put_row-requires-in-29 c = record { known = omega arith; low = omega (arith, c.requires.low) }

pub put_row-requires-in-30 : goal.put_row-requires-in-30
put_row-requires-in-30 c = record { known = omega arith; low = omega (arith, c.requires.low) }

pub put_row-requires-in-31 : goal.put_row-requires-in-31
put_row-requires-in-31 c = record { known = omega arith; low = omega (arith, c.requires.low) }

pub overflow_add-p : goal.overflow_add-p
overflow_add-p c =
    let a = c.args in
    omega (arith, index_small a.kind a.p a.q a.text.now a.fields a.at c.requires c.in-32.is)

pub put_leaf-requires : goal.put_leaf-requires
put_leaf-requires c =
    let a = c.args in
    can_index a.p a.at (index_small a.kind a.p a.q a.text.now a.fields a.at c.requires c.in-32.is) (omega (arith, c.requires.low))

pub put_union-requires : goal.put_union-requires
put_union-requires c =
    let a = c.args in
    can_union a.kind a.p a.q a.text.now a.fields a.at c.requires c.in-41.is

pub put_leaf-requires-in_default : goal.put_leaf-requires-in_default
put_leaf-requires-in_default c =
    let a = c.args in
    can_leaf a.kind a.p a.q a.text.now a.fields a.at c.requires c.in_default.in_default-own.rest

pub returns-in-15 : goal.returns-in-15
returns-in-15 c =
    let a = c.args in
    let h = c.requires in
    let r = c.put_timestamp in
    formats_as (timestamp_format a.p (column_text a.text.now)) (line_format a.kind a.p a.q a.text.now a.fields) a.at r.result a.out.now r.new.out (zone_arm a.kind a.p a.q a.text.now a.fields a.at h c.in-15.is) r.ensures

pub returns-in-23 : goal.returns-in-23
unfolding line_format
returns-in-23 c =
    let a = c.args in
    let h = c.requires in
    let r = c.put_sized in
    formats_as (given (ascii "w:" ++ decimal a.p)) (line_format a.kind a.p a.q a.text.now a.fields) a.at r.result a.out.now r.new.out (fixed_arm a.kind a.p a.q a.text.now a.fields a.at h Kind.FixedSizeBinary (given (ascii "w:" ++ decimal a.p)) c.in-23.is refl) r.ensures

pub returns-in-27 : goal.returns-in-27
unfolding row_at line_format
returns-in-27 c =
    let a = c.args in
    let h = c.requires in
    let r = c.put_row in
    formats_as (given (ascii "+l")) (line_format a.kind a.p a.q a.text.now a.fields) a.at r.result a.out.now r.new.out (fixed_arm a.kind a.p a.q a.text.now a.fields a.at h Kind.List (given (ascii "+l")) c.in-27.is refl) r.ensures

pub returns-in-28 : goal.returns-in-28
unfolding line_format
returns-in-28 c =
    let a = c.args in
    let h = c.requires in
    let r = c.put_sized-in-28 in
    formats_as (given (ascii "+w:" ++ decimal a.p)) (line_format a.kind a.p a.q a.text.now a.fields) a.at r.result a.out.now r.new.out (fixed_arm a.kind a.p a.q a.text.now a.fields a.at h Kind.FixedSizeList (given (ascii "+w:" ++ decimal a.p)) c.in-28.is refl) r.ensures

pub returns-in-29 : goal.returns-in-29
unfolding row_at line_format
returns-in-29 c =
    let a = c.args in
    let h = c.requires in
    let r = c.put_row-in-29 in
    formats_as (given (ascii "+L")) (line_format a.kind a.p a.q a.text.now a.fields) a.at r.result a.out.now r.new.out (fixed_arm a.kind a.p a.q a.text.now a.fields a.at h Kind.LargeList (given (ascii "+L")) c.in-29.is refl) r.ensures

pub returns-in-30 : goal.returns-in-30
unfolding row_at line_format
returns-in-30 c =
    let a = c.args in
    let h = c.requires in
    let r = c.put_row-in-30 in
    formats_as (given (ascii "+s")) (line_format a.kind a.p a.q a.text.now a.fields) a.at r.result a.out.now r.new.out (fixed_arm a.kind a.p a.q a.text.now a.fields a.at h Kind.Struct (given (ascii "+s")) c.in-30.is refl) r.ensures

pub returns-in-31 : goal.returns-in-31
unfolding row_at
returns-in-31 c =
    let a = c.args in
    let h = c.requires in
    let r = c.put_row-in-31 in
    formats_as (given (ascii "+m")) (line_format a.kind a.p a.q a.text.now a.fields) a.at r.result a.out.now r.new.out (map_arm a.kind a.p a.q a.text.now a.fields a.at h c.in-31.is) r.ensures

pub returns-in-32 : goal.returns-in-32
returns-in-32 c =
    let a = c.args in
    let h = c.requires in
    let r = c.put_leaf in
    formats_as (scalar_format (leaf (a.p + Kind.Int8) 0)) (line_format a.kind a.p a.q a.text.now a.fields) a.at r.result a.out.now r.new.out (index_arm a.kind a.p a.q a.text.now a.fields a.at h c.in-32.is) r.ensures

pub returns-in-33 : goal.returns-in-33
unfolding line_format
returns-in-33 c =
    let a = c.args in
    let h = c.requires in
    let r = c.put_decimal_type in
    formats_as (given (decimal_text a.p a.q [])) (line_format a.kind a.p a.q a.text.now a.fields) a.at r.result a.out.now r.new.out (fixed_arm a.kind a.p a.q a.text.now a.fields a.at h Kind.Decimal (given (decimal_text a.p a.q [])) c.in-33.is (ap given (sym (decimal_none a.p a.q)))) r.ensures

pub returns-in-34 : goal.returns-in-34
unfolding line_format
returns-in-34 c =
    let a = c.args in
    let h = c.requires in
    let r = c.put_decimal_type-in-34 in
    formats_as (given (decimal_text a.p a.q (ascii ",32"))) (line_format a.kind a.p a.q a.text.now a.fields) a.at r.result a.out.now r.new.out (fixed_arm a.kind a.p a.q a.text.now a.fields a.at h Kind.Decimal32 (given (decimal_text a.p a.q (ascii ",32"))) c.in-34.is (ap given (sym (decimal_wide a.p a.q (ascii "32"))))) r.ensures

pub returns-in-35 : goal.returns-in-35
unfolding line_format
returns-in-35 c =
    let a = c.args in
    let h = c.requires in
    let r = c.put_decimal_type-in-35 in
    formats_as (given (decimal_text a.p a.q (ascii ",64"))) (line_format a.kind a.p a.q a.text.now a.fields) a.at r.result a.out.now r.new.out (fixed_arm a.kind a.p a.q a.text.now a.fields a.at h Kind.Decimal64 (given (decimal_text a.p a.q (ascii ",64"))) c.in-35.is (ap given (sym (decimal_wide a.p a.q (ascii "64"))))) r.ensures

pub returns-in-36 : goal.returns-in-36
unfolding line_format
returns-in-36 c =
    let a = c.args in
    let h = c.requires in
    let r = c.put_decimal_type-in-36 in
    formats_as (given (decimal_text a.p a.q (ascii ",256"))) (line_format a.kind a.p a.q a.text.now a.fields) a.at r.result a.out.now r.new.out (fixed_arm a.kind a.p a.q a.text.now a.fields a.at h Kind.Decimal256 (given (decimal_text a.p a.q (ascii ",256"))) c.in-36.is (ap given (sym (decimal_wide a.p a.q (ascii "256"))))) r.ensures

pub returns-in-41 : goal.returns-in-41
returns-in-41 c =
    let a = c.args in
    let h = c.requires in
    let r = c.put_union in
    formats_as (union_format (union_name (eqb a.p 1)) (ids_in a.text.now) a.fields) (line_format a.kind a.p a.q a.text.now a.fields) a.at r.result a.out.now r.new.out (union_arm a.kind a.p a.q a.text.now a.fields a.at h c.in-41.is) r.ensures

pub returns-in_default : goal.returns-in_default
returns-in_default c =
    let a = c.args in
    let h = c.requires in
    let r = c.put_leaf-in_default in
    formats_as (scalar_format (leaf a.kind a.p)) (line_format a.kind a.p a.q a.text.now a.fields) a.at r.result a.out.now r.new.out (leaf_arm a.kind a.p a.q a.text.now a.fields a.at h c.in_default.in_default-own.rest) r.ensures
