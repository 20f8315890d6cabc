-- `put_union` meets its contract: a chain of three writes, unless an id does not read. Assumes nothing.
use mathlib.Core.Path.{refl, ◌∙◌, ap}
use mathlib.Core.List.{List, [], ◌∷◌, ◌++◌}
use Rattle.std.specs.Prelude.{Some}
use Prim.Native.Nat.{ℕ}
use native.Mathlib.Omega.{arith}
use lib.IntN.{ℤ}
use Rattle.sheets.specs.Format.{of_grouping}
use Rattle.sheets.specs.FieldSheet.{columns, no_text, write_list}
use Rattle.sheets.specs.Field.{union}
use Rattle.sheets.specs.Kind
use Rattle.sheets.specs.Number.{write_signed}
use Rattle.sheets.specs.Answer.{Answer, given, ◌>>=◌}
use Rattle.hexadecimal.specs.Hex.{bytes_of}
use Rattle.hexadecimal.proofs.HexLaws.{twice_length}
use Rattle.buffer.proofs.OverLaws.{none_yet, and_then}
use Rattle.datatypes.specs.Places.{is_sparse}
use Rattle.field_line.specs.Columns.{kind_piece, shape_piece, columns_piece}
use Rattle.field_line.proofs.LengthLaws.{kind_short}
use Rattle.field_line.proofs.ColumnLaws.{put_same, text_written}
use Rattle.import_type.specs.TypeColumns.{shape_of}
use Rattle.refusal.proofs.ErrLaws.{passed}
use Rattle.import_type.proofs.LengthLaws.{ids_short}
use Rattle.import_type.proofs.PutLaws.{mode_place, mode_small}
use Rattle.import_type.proofs.put.put_union.Goals as goal

pub put_ids-requires : goal.put_ids-requires
put_ids-requires c =
    let p = c.place in
    record { is_text = c.requires.is_text; short = c.requires.short; low = omega (arith, c.put_kind-text.ensures.0, kind_short Kind.Union p.result 0 (omega arith) (omega (arith, p.ensures, mode_small c.args.mode)) (omega arith), c.requires.low) }

pub put_at-requires : goal.put_at-requires
put_at-requires c =
    let p = c.place in
    let told = c.in_ok-end.ensures in
    omega (arith, c.put_kind-text.ensures.0, kind_short Kind.Union p.result 0 (omega arith) (omega (arith, p.ensures, mode_small c.args.mode)) (omega arith), c.requires.low, c.requires.short, told.2.0, ids_short (bytes_of c.args.ids.now) told.0 told.1, twice_length c.args.ids.now c.requires.is_text)

pub returns-in_err-end : goal.returns-in_err-end
returns-in_err-end c =
    rw (passed c.from_residual.result _ c.from_residual.ensures.1) (ap (λ (a : Answer (List ℤ)). a >>= λ zs. given (of_grouping (union (is_sparse c.args.mode) (Some zs)))) c.in_err-end.ensures)

pub returns : goal.returns
returns c =
    let a = c.args in
    let p = c.place in
    let told = c.in_ok-end.ensures in
    let zs = told.0 in
    let text = write_list write_signed (Some zs) in
    let kind = and_then (kind_piece Kind.Union p.result 0) (none_yet a.at a.out.now) c.put_kind-text.ensures in
    let ids = and_then text kind told.2 in
    let w = and_then (32 ∷ 126 ∷ 32 ∷ []) ids c.put_at.ensures in
    let e = ap (λ (x : ℕ). shape_piece Kind.Union x 0 text no_text) (p.ensures ∙ mode_place a.mode) in (
      of_grouping (union (is_sparse a.mode) (Some zs)),
      ap (λ (x : Answer (List ℤ)). x >>= λ ys. given (of_grouping (union (is_sparse a.mode) (Some ys)))) told.1,
      put_same a.at a.out.now ((kind_piece Kind.Union p.result 0 ++ text) ++ (32 ∷ 126 ∷ 32 ∷ [])) (columns_piece (columns (shape_of (of_grouping (union (is_sparse a.mode) (Some zs)))))) (text_written Kind.Union p.result 0 text ∙ e) (w.place, w.holds),
      refl,
    )
