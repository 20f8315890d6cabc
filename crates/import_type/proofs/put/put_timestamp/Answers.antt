-- `put_timestamp` meets its contract: an empty zone is none. Assumes nothing.
use mathlib.Core.Path.{◌∙◌, ap₂}
use mathlib.Core.List.{[], ◌∷◌, ◌++◌}
use Prim.Native.Nat.{ℕ}
use native.Mathlib.Omega.{arith}
use Rattle.sheets.specs.FieldSheet.{columns, no_text}
use Rattle.sheets.specs.Kind
use Rattle.sheets.specs.Bytes.{Bytes}
use Rattle.hexadecimal.specs.Hex.{bytes_of}
use Rattle.buffer.proofs.OverLaws.{none_yet, and_then}
use Rattle.field_line.specs.Columns.{kind_piece, shape_piece, columns_piece}
use Rattle.field_line.proofs.LengthLaws.{kind_short}
use Rattle.field_line.proofs.ColumnLaws.{put_same, text_written}
use Rattle.format.specs.Formats.{timestamp_format}
use Rattle.import_type.specs.TypeColumns.{shape_of}
use Rattle.import_type.proofs.PutLaws.{unit_small, no_zone, some_zone}
use Rattle.import_type.proofs.put.put_timestamp.Goals as goal

pub returns-then-zone-eq0 : goal.returns-then-zone-eq0
returns-then-zone-eq0 c =
    let a = c.args in
    let p = c.place in
    let e = ap₂ (λ (x : ℕ) (t : Bytes). shape_piece Kind.Timestamp x 0 t no_text) p.ensures (no_zone a.zone.now c.if-zone-eq0.true) in
    put_same a.at a.out.now (shape_piece Kind.Timestamp p.result 0 no_text no_text) (columns_piece (columns (shape_of (timestamp_format a.unit (bytes_of a.zone.now))))) e c.put_numbers.ensures

pub put_at-end-requires : goal.put_at-end-requires
put_at-end-requires c = omega (arith, c.put_kind-text.ensures.0, kind_short Kind.Timestamp c.place-2.result 0 (omega arith) (omega (arith, c.place-2.ensures, unit_small c.args.unit)) (omega arith), c.requires.low, c.requires.short)

pub put_at-requires : goal.put_at-requires
put_at-requires c = omega (arith, c.put_kind-text.ensures.0, c.put_at-end.ensures.0, kind_short Kind.Timestamp c.place-2.result 0 (omega arith) (omega (arith, c.place-2.ensures, unit_small c.args.unit)) (omega arith), c.requires.low, c.requires.short)

pub returns : goal.returns
returns c =
    let a = c.args in
    let p = c.place-2 in
    let kind = and_then (kind_piece Kind.Timestamp p.result 0) (none_yet a.at a.out.now) c.put_kind-text.ensures in
    let text = and_then a.zone.now kind c.put_at-end.ensures in
    let w = and_then (32 ∷ 126 ∷ 32 ∷ []) text c.put_at.ensures in
    let e = ap₂ (λ (x : ℕ) (t : Bytes). shape_piece Kind.Timestamp x 0 t no_text) p.ensures (some_zone a.zone.now c.requires.is_text c.if-zone-eq0.false) in
    put_same a.at a.out.now ((kind_piece Kind.Timestamp p.result 0 ++ a.zone.now) ++ (32 ∷ 126 ∷ 32 ∷ [])) (columns_piece (columns (shape_of (timestamp_format a.unit (bytes_of a.zone.now))))) (text_written Kind.Timestamp p.result 0 a.zone.now ∙ e) (w.place, w.holds)
