-- `put_extension` meets its contract: a chain of five writes. Assumes nothing.
use Rattle.sheets.specs.Bytes.{Bytes}
use Rattle.metadata.specs.Entry.{value_at}
use Rattle.sheets.specs.Text.{write_text}
use Rattle.metadata.proofs.ColumnLaws.{value_column_lem}
use Rattle.metadata.proofs.SizeLaws.{value_short}
use Rattle.node.specs.Pieces.{extension_piece}
use Rattle.field_line.proofs.ColumnLaws.{put_same}
use Rattle.node.proofs.LineLaws.{extension_shape, extension_kind}
use mathlib.Core.Path.{ap, ◌∙◌}
use Rattle.metadata.specs.Pairs.{value_column}
use Rattle.hexadecimal.specs.Hex.{bytes_of}
use Rattle.field_line.specs.Columns.{kind_piece, shape_piece}
use Rattle.sheets.specs.Kind
use mathlib.Core.List.{[], ◌∷◌, ◌++◌}
use Rattle.buffer.proofs.OverLaws.{none_yet, and_then}
use native.Mathlib.Omega.{arith}
use Rattle.node.proofs.lines.put_extension.Goals as goal

pub put_value-b-requires : goal.put_value-b-requires
put_value-b-requires c =
    let a = c.args in
    let h = c.requires in
    record { is_text = h.is_text; or_none = h.has_name; fits = omega (arith, h.short, c.put_kind-a.ensures.0, extension_kind, value_short a.big a.m.now h.is_text a.d.name) }

pub put_byte-c-requires : goal.put_byte-c-requires
put_byte-c-requires c =
    let a = c.args in
    let h = c.requires in
    omega (arith, h.short, c.put_kind-a.ensures.0, extension_kind, c.put_value-b.ensures.0, value_short a.big a.m.now h.is_text a.d.name)

pub put_value-e-requires : goal.put_value-e-requires
put_value-e-requires c =
    let a = c.args in
    let h = c.requires in
    record { is_text = h.is_text; or_none = h.has_more; fits = omega (arith, h.short, c.put_kind-a.ensures.0, extension_kind, c.put_value-b.ensures.0, c.put_byte-c.ensures.0, value_short a.big a.m.now h.is_text a.d.name, value_short a.big a.m.now h.is_text a.d.more) }

pub put_byte-requires : goal.put_byte-requires
put_byte-requires c =
    let a = c.args in
    let h = c.requires in
    omega (arith, h.short, c.put_kind-a.ensures.0, extension_kind, c.put_value-b.ensures.0, c.put_byte-c.ensures.0, c.put_value-e.ensures.0, value_short a.big a.m.now h.is_text a.d.name, value_short a.big a.m.now h.is_text a.d.more)

pub returns : goal.returns
unfolding extension_piece
returns c =
    let a = c.args in
    let head = and_then (kind_piece Kind.Extension 0 0) (none_yet 0 a.out.now) c.put_kind-a.ensures in
    let name = and_then (value_column a.big (bytes_of a.m.now) a.d.name) head c.put_value-b.ensures in
    let space = and_then (32 ∷ []) name c.put_byte-c.ensures in
    let more = and_then (value_column a.big (bytes_of a.m.now) a.d.more) space c.put_value-e.ensures in
    let w = and_then (32 ∷ []) more c.put_byte.ensures in
    put_same 0 a.out.now (((((kind_piece Kind.Extension 0 0) ++ value_column a.big (bytes_of a.m.now) a.d.name) ++ (32 ∷ [])) ++ value_column a.big (bytes_of a.m.now) a.d.more) ++ (32 ∷ [])) (extension_piece a.big (bytes_of a.m.now) a.d)
    (extension_shape (value_column a.big (bytes_of a.m.now) a.d.name) (value_column a.big (bytes_of a.m.now) a.d.more) ∙ ap (λ (y : Bytes). shape_piece Kind.Extension 0 0 y (value_column a.big (bytes_of a.m.now) a.d.more)) (value_column_lem a.big (bytes_of a.m.now) a.d.name) ∙ ap (λ (y : Bytes). shape_piece Kind.Extension 0 0 (write_text (value_at a.big (bytes_of a.m.now) a.d.name)) y) (value_column_lem a.big (bytes_of a.m.now) a.d.more))
    (w.place, w.holds)
