-- The pieces of a field line make up the line, also of a field that import reads from a schema's line; a pair's text; and what single writes leave.
-- By cases and by associativity of `◌++◌`. Assumes nothing.
use mathlib.Core.Path.{◌≡◌, refl, sym, subst, ◌∙◌}
use mathlib.Core.Bool.{Bool, true, false}
use mathlib.Core.List.{[], ◌∷◌, ◌++◌, append_assoc}
use Rattle.std.specs.Prelude.{Option, None}
use Prim.Native.Nat.{ℕ, ◌+◌}
use Rattle.sheets.specs.Bytes.{Bytes, line_end, space, equals}
use Rattle.sheets.specs.Number.{decimal}
use Rattle.sheets.specs.Text.{hex}
use Rattle.sheets.specs.Sheet.{ended}
use Rattle.sheets.specs.Field.{Info}
use Rattle.sheets.specs.FieldSheet.{Shape, Line, columns, info_columns, columns_of, own_of, children_of, field_line, line_of, pair_text, no_text, to_nat}
use Rattle.buffer.specs.Over.{PutAt}
use Rattle.hexadecimal.specs.Hex.{is_hex, bytes_of}
use Rattle.hexadecimal.proofs.PartLaws.{hex_bytes}
use Rattle.field_line.specs.Columns.{column, kind_piece, shape_piece, columns_piece, own_piece, end_piece, pair_piece}

-- ── a line

-- any line is its three pieces one after the other
pub line_written_lem : (l : Line)
    → field_line.write l ++ (line_end ∷ []) ≡ columns_piece (columns_of l) ++ (own_piece (own_of l).0 (own_of l).1.0 (own_of l).1.1 ++ end_piece (children_of l))
unfolding column shape_piece own_piece end_piece
line_written_lem l = simp append_assoc

module _ (s : Shape) (own : Option Info) (children : ℕ) where
  -- the line of a type
  pub line_pieces : field_line.write (line_of s own children) ++ (line_end ∷ [])
      ≡ columns_piece (columns s) ++ (own_piece (info_columns own).0 (info_columns own).1.0 (info_columns own).1.1 ++ end_piece children)
  line_pieces = line_written_lem (line_of s own children)

  -- the same, as three writers one after the other leave it
  pub line_pieces_left : field_line.write (line_of s own children) ++ (line_end ∷ [])
      ≡ (columns_piece (columns s) ++ own_piece (info_columns own).0 (info_columns own).1.0 (info_columns own).1.1) ++ end_piece children
  line_pieces_left = line_pieces ∙ sym (append_assoc (columns_piece (columns s)) (own_piece (info_columns own).0 (info_columns own).1.0 (info_columns own).1.1) (end_piece children))

-- a text, and then the space after it
pub then_space : (before text : Bytes) → (before ++ text) ++ (space ∷ []) ≡ before ++ column text
unfolding column
then_space before text = append_assoc before text (space ∷ [])

-- a bare line, as the writers of its shape, of `~ ~ ~ ` and of its end leave it
pub bare_line : (s : Shape) (children : ℕ)
    → ended (field_line.write (line_of s None children) ∷ []) ≡ (columns_piece (columns s) ++ own_piece no_text no_text no_text) ++ end_piece children
bare_line s children = line_pieces_left s None children

-- ── pairs

-- key, sign and value, as three writers one after the other leave them
pub pair_pieces_lem : (key value : Bytes) → pair_piece key value ≡ (key ++ (equals ∷ [])) ++ value
unfolding pair_piece
pair_pieces_lem key value = sym (append_assoc key (equals ∷ []) value)

-- hexadecimal texts of a key and a value are the pair's text
pub pair_hex : (k v : Bytes) → pair_piece (hex k) (hex v) ≡ pair_text (k, v)
unfolding pair_piece
pair_hex k v = refl

pub pair_text_lem : (key value : Bytes) → is_hex key ≡ true → is_hex value ≡ true → pair_piece key value ≡ pair_text (bytes_of key, bytes_of value)
unfolding pair_piece
pair_text_lem key value h k = rw (hex_bytes key h, hex_bytes value k)

-- ── writing

pub flag_column : (b : Bool) → column (decimal (to_nat b)) ≡ (48 + to_nat b) ∷ 32 ∷ []
unfolding column decimal
flag_column true = refl
flag_column false = refl

-- the same text was written
pub put_same : (at : ℕ) (out : Bytes) {r : ℕ} {end : Bytes} (x y : Bytes) → x ≡ y → PutAt at x r out end → PutAt at y r out end
put_same at out {r} {end} x y e h = subst (λ (z : Bytes). PutAt at z r out end) e h

-- a type that needs no text
pub numbers_written : (kind p q : ℕ) → kind_piece kind p q ++ (126 ∷ 32 ∷ 126 ∷ 32 ∷ []) ≡ shape_piece kind p q no_text no_text
unfolding column kind_piece shape_piece
numbers_written kind p q = simp append_assoc

-- a text, after which `more` is `~`
pub text_written : (kind p q : ℕ) (text : Bytes) → (kind_piece kind p q ++ text) ++ (32 ∷ 126 ∷ 32 ∷ []) ≡ shape_piece kind p q text no_text
unfolding column kind_piece shape_piece
text_written kind p q text = simp append_assoc
