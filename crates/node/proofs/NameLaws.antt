-- The name of a field that import reads from a schema's name column: what is written is the column of the name, `-` for `~`, and how long it is. By
-- the column's two cases. Assumes nothing.
use mathlib.Core.Path.{◌≡◌, refl, sym, ap, ◌∙◌}
use mathlib.Core.Bool.{Bool, true, false}
use mathlib.Core.List.{[], ◌∷◌, ◌++◌, append_assoc}
use Rattle.std.specs.Prelude.{Option, None, Some}
use Prim.Native.Nat.{ℕ, ◌+◌}
use native.Mathlib.Omega.{arith}
use lib.ListN.{length, length-append}
use Rattle.sheets.specs.Refusal.{not_utf8}
use Rattle.sheets.specs.Rule.{is}
use Rattle.sheets.specs.Answer.{given}
use Rattle.sheets.specs.Bytes.{Bytes, same}
use Rattle.sheets.specs.Number.{decimal}
use Rattle.sheets.specs.Text.{write_text, read_text}
use Rattle.sheets.specs.Utf8.{is_utf8}
use Rattle.sheets.specs.Sheet.{ended}
use Rattle.sheets.specs.Field.{Info}
use Rattle.sheets.specs.FieldSheet.{Shape, columns, field_line, line_of, pair_text, write_list, no_text, to_nat}
use Rattle.sheets.specs.Format.{or_empty}
use Rattle.sheets.specs.Import.{name_text}
use Rattle.sheets.proofs.Tests.{met_when}
use Rattle.sheets.proofs.BytesLaws.{same_eq}
use Rattle.sheets.proofs.InverseLaws.{text_read}
use Rattle.field_line.specs.Columns.{column, columns_piece, own_piece, end_piece}
use Rattle.field_line.proofs.ColumnLaws.{line_pieces_left}
use Rattle.field_line.proofs.LengthLaws.{column_length_lem, flag_length}
use Rattle.node.specs.Names.{name_column, name_piece}

-- the pairs after name and nullable
pub own_pieces : (name : Bytes) (nullable : Bool) (pairs : Bytes) → own_piece (name_column name) (decimal (to_nat nullable)) pairs ≡ name_piece name nullable ++ column pairs
unfolding own_piece name_piece
own_pieces name nullable pairs = refl

name_null : (name : Bytes) → same name no_text ≡ true → name_column name ≡ write_text (Some [])
unfolding name_column
name_null name e = rw e

-- a column that is no `~` is written as it stands
pub name_kept : (name : Bytes) → same name no_text ≡ false → name_column name ≡ name
unfolding name_column
name_kept name e = rw e

-- "Null names read as empty"
pub name_written : (name : Bytes) (t : Option Bytes) → read_text name ≡ given t → name_column name ≡ write_text (Some (or_empty t))
unfolding name_column
name_written name None e =
    let q : write_text None ≡ name = text_read name None e in
    rw (← q) refl
name_written name (Some b) e = pick (same name no_text) refl
  where
    pick : (t : Bool) → same name no_text ≡ t → name_column name ≡ write_text (Some b)
    pick true s =
        let q : name ≡ no_text = same_eq name no_text s in
        let r : read_text no_text ≡ given (Some b) = rw q at e in
        let z : ◌≡◌ {A = ℕ} 0 1 = cc in
        absurd (omega arith)
    pick false s = name_kept name s ∙ sym (text_read name (Some b) e)

-- the name that import reads
name_read : (t : Option Bytes) (m : Bytes) → name_text t ≡ given m → or_empty t ≡ m
name_read None m e = cc
name_read (Some b) m e = (met_when not_utf8 (is (is_utf8 b)) b m e).1

pub name_imported : (name : Bytes) (t : Option Bytes) (m : Bytes) → read_text name ≡ given t → name_text t ≡ given m → name_column name ≡ write_text (Some m)
name_imported name t m e f = name_written name t e ∙ ap (λ (b : Bytes). write_text (Some b)) (name_read t m f)

-- the line of a field that import reads, as the writers of its shape, its name, its pairs and its end leave it one after the other
pub named_line : (s : Shape) (i : Info) (children : ℕ) (name : Bytes) (t : Option Bytes) → read_text name ≡ given t → name_text t ≡ given i.name
    → ended (field_line.write (line_of s (Some i) children) ∷ [])
    ≡ ((columns_piece (columns s) ++ name_piece name i.nullable) ++ column (write_list pair_text i.pairs)) ++ end_piece children
named_line s i children name t e f =
    let n = decimal (to_nat i.nullable) in
    let pairs = write_list pair_text i.pairs in
    line_pieces_left s (Some i) children
    ∙ ap (λ (c : Bytes). (columns_piece (columns s) ++ own_piece c n pairs) ++ end_piece children) (sym (name_imported name t i.name e f))
    ∙ ap (λ (c : Bytes). (columns_piece (columns s) ++ c) ++ end_piece children) (own_pieces name i.nullable pairs)
    ∙ ap (λ (c : Bytes). c ++ end_piece children) (sym (append_assoc (columns_piece (columns s)) (name_piece name i.nullable) (column pairs)))

pub null_column : (name : Bytes) → same name no_text ≡ true → column (name_column name) ≡ 45 ∷ 32 ∷ []
unfolding column
null_column name e = rw (name_null name e)

-- ── lengths

pub name_length : (name : Bytes) → length (name_column name) ≡ length name
unfolding name_column
name_length name = pick (same name no_text) refl
  where
    pick : (t : Bool) → same name no_text ≡ t → length (name_column name) ≡ length name
    pick true s = rw (s, same_eq name no_text s)
    pick false s = rw s

-- `~` has one byte
pub null_length : (name : Bytes) → same name no_text ≡ true → length name ≡ 1
null_length name e = rw (same_eq name no_text e)

pub name_piece_length : (name : Bytes) (nullable : Bool) → length (name_piece name nullable) ≡ 3 + length name
unfolding name_piece
name_piece_length name nullable = simp (length-append, column_length_lem, name_length, flag_length) (omega arith)
