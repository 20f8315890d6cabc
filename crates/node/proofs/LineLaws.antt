-- The pieces of a node's lines as the writers leave them, how long they are, and that they are the line of the field. By associativity of `◌++◌` and by
-- cases of a bare line. Assumes nothing.
use mathlib.Core.Path.{◌≡◌, refl, sym, ap, ◌∙◌}
use mathlib.Core.Bool.{Bool, true, false}
use mathlib.Core.List.{List, [], ◌∷◌, ◌++◌, append_assoc}
use Rattle.std.specs.Prelude.{Option, Some}
use Prim.Native.Nat.{ℕ, ◌+◌, ◌*◌, ◌≤◌}
use native.Mathlib.Omega.{arith}
use lib.ListN.{length, length-append}
use Rattle.sheets.specs.Bytes.{Bytes}
use Rattle.sheets.specs.Answer.{given}
use Rattle.sheets.specs.Number.{decimal}
use Rattle.sheets.specs.Text.{read_text, write_text}
use Rattle.sheets.specs.Sheet.{ended}
use Rattle.sheets.specs.Field.{Info}
use Rattle.sheets.specs.FieldSheet.{Shape, of_extension, columns, no_text, to_nat, write_list, pair_text, field_line, line_of}
use Rattle.sheets.specs.Import.{name_text}
use Rattle.sheets.specs.ImportLines.{shown}
use Rattle.sheets.specs.Kind
use Rattle.hexadecimal.specs.Hex.{is_hex, bytes_of}
use Rattle.field_line.specs.Columns.{column, kind_piece, shape_piece, columns_piece, own_piece, end_piece}
use Rattle.field_line.proofs.ColumnLaws.{then_space, line_pieces_left}
use Rattle.field_line.proofs.LengthLaws.{column_length_lem, bare_length, shape_short}
use Rattle.metadata.specs.declared.Metadata.{Metadata}
use Rattle.metadata.specs.Entry.{value_at}
use Rattle.metadata.specs.Pairs.{pairs_column}
use Rattle.metadata.proofs.ColumnLaws.{value_column_lem}
use Rattle.metadata.proofs.SizeLaws.{value_short}
use Rattle.node.specs.Names.{name_piece}
use Rattle.node.specs.Pieces.{info_piece, own_text, shown_text, extension_piece, extension_text, CanShow}
use Rattle.node.specs.declared.lines.Shown.{Shown}
use Rattle.node.proofs.NameLaws.{name_piece_length, name_imported, own_pieces}

-- ── what the writers leave

-- the columns of an extension
pub extension_shape : (n m : Bytes) → (((kind_piece Kind.Extension 0 0 ++ n) ++ (32 ∷ [])) ++ m) ++ (32 ∷ []) ≡ shape_piece Kind.Extension 0 0 n m
unfolding column kind_piece shape_piece
extension_shape n m = simp append_assoc

pub extension_kind : length (kind_piece Kind.Extension 0 0) ≡ 7
unfolding column kind_piece decimal
extension_kind = refl

pub own_bare : (bare : Bool) (name : Bytes) (nullable : Bool) (pairs : Bytes) → bare ≡ true → own_piece no_text no_text no_text ≡ own_text bare name nullable pairs
own_bare bare name nullable pairs e = ap (λ (b : Bool). own_text b name nullable pairs) (sym e)

pub own_named : (bare : Bool) (name : Bytes) (nullable : Bool) (pairs : Bytes) → bare ≡ false → (name_piece name nullable ++ pairs) ++ (32 ∷ []) ≡ own_text bare name nullable pairs
own_named bare name nullable pairs e = then_space (name_piece name nullable) pairs ∙ ap (λ (b : Bool). own_text b name nullable pairs) (sym e)

-- ── lengths

own_short : (bare : Bool) (name : Bytes) (nullable : Bool) (pairs : Bytes) → length (own_text bare name nullable pairs) ≤ 6 + length name + length pairs
own_short true name nullable pairs = omega (arith, bare_length)
own_short false name nullable pairs = omega (arith, length-append (name_piece name nullable) (column pairs), name_piece_length name nullable, column_length_lem pairs)

pub shown_short : (name m : Bytes) (es : List ℕ) (w : Shown) → CanShow name m es w → length (shown_text name m es w) ≤ 7 + length name + length m
shown_short name m es w h = omega (arith, own_short w.bare name w.nullable (pairs_column w.big (bytes_of m) es w.count), h.pairs.column)

pub extension_short : (big : Bool) (m : Bytes) → is_hex m ≡ true → (d : Metadata) → length (extension_piece big (bytes_of m) d) ≤ 67 + 2 * length m
unfolding extension_piece
extension_short big m h d =
    let b = bytes_of m in
    omega (
      arith,
      shape_short Kind.Extension 0 0 (write_text (value_at big b d.name)) (write_text (value_at big b d.more)) (omega arith) (omega arith) (omega arith),
      ap length (value_column_lem big b d.name),
      ap length (value_column_lem big b d.more),
      value_short big m h d.name,
      value_short big m h d.more,
    )

-- ── the line of a field

-- the columns of a name that import reads are those of the field, shown or not
pub own_info : (bare : Bool) (name : Bytes) (x : Option Bytes) (i : Info) → read_text name ≡ given x → name_text x ≡ given i.name
    → own_text bare name i.nullable (write_list pair_text i.pairs) ≡ info_piece (shown bare i)
own_info true name x i e n = refl
own_info false name x i e n =
    sym (own_pieces name i.nullable (write_list pair_text i.pairs))
    ∙ ap (λ (c : Bytes). own_piece c (decimal (to_nat i.nullable)) (write_list pair_text i.pairs)) (name_imported name x i.name e n)

-- the pieces of a line
pub line_text_lem : (sh : Shape) (j : Option Info) (k : ℕ) (own : Bytes) → own ≡ info_piece j
    → (columns_piece (columns sh) ++ own) ++ end_piece k ≡ ended (field_line.write (line_of sh j k) ∷ [])
line_text_lem sh j k own e = ap (λ (c : Bytes). (columns_piece (columns sh) ++ c) ++ end_piece k) e ∙ sym (line_pieces_left sh j k)

-- the line of an extension
pub extension_line : (name m : Bytes) (es : List ℕ) (w : Shown) (d : Metadata) (j : Option Info) (n : Bytes) (more : Option Bytes)
    → value_at w.big (bytes_of m) d.name ≡ Some n → value_at w.big (bytes_of m) d.more ≡ more → shown_text name m es w ≡ info_piece j
    → extension_text name m es w d ≡ ended (field_line.write (line_of (of_extension n more) j 1) ∷ [])
unfolding extension_text extension_piece
extension_line name m es w d j n more e f g =
    ap (λ (v : Option Bytes). (shape_piece Kind.Extension 0 0 (write_text v) (write_text (value_at w.big (bytes_of m) d.more)) ++ shown_text name m es w) ++ end_piece 1) e
    ∙ ap (λ (v : Option Bytes). (shape_piece Kind.Extension 0 0 (write_text (Some n)) (write_text v) ++ shown_text name m es w) ++ end_piece 1) f
    ∙ line_text_lem (of_extension n more) j 1 (shown_text name m es w) g
