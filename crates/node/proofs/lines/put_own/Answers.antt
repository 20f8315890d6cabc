-- `put_own` meets its contract: a bare line, or a chain of three writes. Assumes nothing.
use mathlib.Core.List.{[], ◌∷◌, ◌++◌}
use native.Mathlib.Omega.{arith}
use Rattle.sheets.specs.FieldSheet.{no_text}
use Rattle.hexadecimal.specs.Hex.{bytes_of}
use Rattle.buffer.proofs.OverLaws.{none_yet, and_then}
use Rattle.field_line.specs.Columns.{own_piece}
use Rattle.metadata.specs.Pairs.{pairs_column}
use Rattle.node.specs.Names.{name_piece}
use Rattle.node.specs.Pieces.{shown_text}
use Rattle.node.proofs.NameLaws.{name_piece_length}
use Rattle.field_line.proofs.ColumnLaws.{put_same}
use Rattle.node.proofs.LineLaws.{own_bare, own_named}
use Rattle.node.proofs.lines.put_own.Goals as goal

pub returns-then-shown : goal.returns-then-shown
returns-then-shown c =
    let a = c.args in
    put_same a.at a.out.now (own_piece no_text no_text no_text) (shown_text a.name.now a.m.now a.entries.now a.shown) (own_bare a.shown.bare a.name.now a.shown.nullable (pairs_column a.shown.big (bytes_of a.m.now) a.entries.now a.shown.count) c.if-shown.true) c.put_bare.ensures

pub put_pairs-b-requires : goal.put_pairs-b-requires
put_pairs-b-requires c =
    let a = c.args in
    let h = c.requires in
    record { is_text = h.1.pairs.is_text; entries = h.1.pairs.entries; fits = omega (arith, c.put_name-a.ensures.0, name_piece_length a.name.now a.shown.nullable, h.0, h.1.named, h.1.pairs.column, h.1.pairs.short) }

pub put_byte-requires : goal.put_byte-requires
put_byte-requires c =
    let a = c.args in
    let h = c.requires in
    omega (arith, c.put_pairs-b.ensures.0, c.put_name-a.ensures.0, name_piece_length a.name.now a.shown.nullable, h.0, h.1.named, h.1.pairs.column, h.1.pairs.short)

pub returns : goal.returns
returns c =
    let a = c.args in
    let name = and_then (name_piece a.name.now a.shown.nullable) (none_yet a.at a.out.now) c.put_name-a.ensures in
    let pairs = and_then (pairs_column a.shown.big (bytes_of a.m.now) a.entries.now a.shown.count) name c.put_pairs-b.ensures in
    let w = and_then (32 ∷ []) pairs c.put_byte.ensures in
    put_same a.at a.out.now ((name_piece a.name.now a.shown.nullable ++ pairs_column a.shown.big (bytes_of a.m.now) a.entries.now a.shown.count) ++ (32 ∷ [])) (shown_text a.name.now a.m.now a.entries.now a.shown)
    (own_named a.shown.bare a.name.now a.shown.nullable (pairs_column a.shown.big (bytes_of a.m.now) a.entries.now a.shown.count) c.if-shown.false) (w.place, w.holds)
