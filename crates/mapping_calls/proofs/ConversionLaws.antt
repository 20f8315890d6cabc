-- The sheet of a conversion is that of the type, which is a scalar; and each way out is the outcome that is defined. Assumes nothing.
use mathlib.Core.Path.{◌≡◌, refl, sym, ap, ◌∙◌}
use mathlib.Core.List.{List, [], ◌∷◌, ◌++◌, append_assoc}
use Rattle.std.specs.Prelude.{None, Some, Result}
use Prim.Native.Nat.{ℕ, ◌≤◌, ◌<◌, ◌^◌}
use native.Mathlib.Omega.{arith}
use lib.ListN.{length}
use Rattle.sheets.specs.Bytes.{Bytes, line_end}
use Rattle.sheets.specs.Answer.{Answer, given, ◌>>=◌}
use Rattle.sheets.specs.Sheet.{ended, heading_line}
use Rattle.sheets.specs.Field.{Scalar, ArrowDataType, scalar}
use Rattle.sheets.specs.FieldSheet.{Columns, columns, of_scalar, field_heading, no_text, type_lines, write_bare_sheet}
use Rattle.sheets.specs.Outcome.{outcome}
use Rattle.buffer.specs.Over.{PutAt}
use Rattle.buffer.proofs.OverLaws.{put_over}
use Rattle.field_line.specs.Columns.{columns_piece, own_piece, end_piece}
use Rattle.field_line.proofs.ColumnLaws.{bare_line}
use Rattle.field_line.proofs.LengthLaws.{shape_short}
use Rattle.datatypes.specs.At.{first_at}
use Rattle.datatypes.specs.Dtypes.{dtype_columns}
use Rattle.datatypes.specs.declared.dtype.Dtype.{Dtype}
use Rattle.datatypes.proofs.AtLaws.{Each, found}
use Rattle.datatypes.proofs.DtypeLaws.{converted}
use Rattle.outcome.specs.Answers.{outcome_of, Tells}
use Rattle.outcome.specs.declared.Refused.{Refused}
use Rattle.mapping_calls.specs.Conversions.{dtype_sheet, DtypeAnswered}

dtype_sheet_lem : (d : Dtype) (s : Scalar) → columns (of_scalar s) ≡ dtype_columns d → dtype_sheet d ≡ write_bare_sheet (scalar s)
unfolding dtype_sheet
dtype_sheet_lem d s e =
    let bare = own_piece no_text no_text no_text in
    let heading = heading_line field_heading in
    ap (λ (b : Bytes). b ++ end_piece 0) (append_assoc heading (columns_piece (dtype_columns d)) bare)
    ∙ append_assoc heading (columns_piece (dtype_columns d) ++ bare) (end_piece 0)
    ∙ ap (λ (c : Columns). heading ++ ((columns_piece c ++ bare) ++ end_piece 0)) (sym e)
    ∙ ap (λ (b : Bytes). heading ++ b) (sym (bare_line (of_scalar s) 0))
    ∙ append_assoc field_heading (line_end ∷ []) (ended (type_lines (scalar s) None))

pub dtype_answered : (d : Dtype) (out mid out' : Bytes) (len : ℕ) (r : Result ℕ Refused) → PutAt 0 (dtype_sheet d) len out mid → Tells mid len r out' → DtypeAnswered d out (outcome_of r out')
dtype_answered d out mid out' len r p t a h =
    let c = converted a d h in
    t (dtype_sheet d) out (put_over (dtype_sheet d) out p)
    ∙ ap (λ (x : Bytes). outcome (given x) out) (dtype_sheet_lem d c.0 c.2)
    ∙ ap (λ (m : Answer ArrowDataType). outcome (m >>= λ u. given (write_bare_sheet u)) out) (sym c.1)

-- the writes of `put_dtype`, one after the other
pub dtype_written : (d : Dtype) → ((heading_line field_heading ++ columns_piece (dtype_columns d)) ++ own_piece no_text no_text no_text) ++ end_piece 0 ≡ dtype_sheet d
unfolding dtype_sheet
dtype_written d = refl

-- no sum wraps
pub heading_short : length (heading_line field_heading) ≤ 48
heading_short = omega arith

pub numbers_short : (d : Dtype) → d.kind < 2 ^ 64 → d.p < 2 ^ 64 → d.q < 2 ^ 64 → length (columns_piece (dtype_columns d)) ≤ 67
numbers_short d h k l = omega (arith, shape_short d.kind d.p d.q no_text no_text h k l)

-- the case at a place has that place
pub place_is : {A : Type 0} (place : A → ℕ) (n : ℕ) (l : List A) (x : A) → first_at place n l ≡ Some x → place x ≡ n
place_is {A} place n l x h = found place (λ m y. place y ≡ m) n l (same l) x h
  where
    same : (l : List A) → Each (λ (a : A). place a ≡ place a) l
    same [] = tt
    same (a ∷ l) = (refl, same l)
