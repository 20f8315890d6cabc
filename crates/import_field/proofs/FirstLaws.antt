-- A field is a row of one field. Assumes nothing.
use mathlib.Core.Path.{◌≡◌, refl, ap, subst}
use mathlib.Core.List.{List, [], ◌++◌, append-nil}
use Prim.Native.Nat.{ℕ}
use native.Mathlib.Omega.{arith}
use lib.ListN.{length-drop}
use Rattle.sheets.specs.Bytes.{Bytes}
use Rattle.sheets.specs.Answer.{Answer, refused, given, ◌>>=◌}
use Rattle.sheets.specs.Schema.{Schema, end, ◌&◌}
use Rattle.sheets.proofs.FormLaws.{standing_row, row_many}
use Rattle.sheets.specs.ImportLines.{written}
use Rattle.sheets.specs.Visits.{import_lines, row_lines}
use Rattle.import_field.specs.Recursion.{FieldAt, FieldsAt, Wrote, FieldWrote, FieldsWrote, RowRead, RowPast, FieldRead, FieldTold, FieldsTold}
use Rattle.outcome.specs.declared.Size.{Size}
use Rattle.schema_sheet.proofs.ReadLaws.{row_one}
use Rattle.import_field.specs.declared.Tree.{Tree}
use Rattle.refusal.specs.Refusals.{Refusing, answer_of}
use Rattle.import_field.specs.declared.Trees.{Trees}

-- the row of one tree
abbrev pub row_of : Tree → Trees
row_of t = record { at = t.at; count = 1; levels = t.levels; bare = t.bare; big = t.big }

module _ (s : Bytes) (t : Tree) where
  row_at : (u : Schema) (ts : List Schema) → FieldAt s t.at t.levels u ts → FieldsAt s t.at 1 t.levels (u & end) ts
  row_at u ts f =
      record {
        stands = f.stands;
        counted = refl;
        deep = omega (arith, f.deep);
        within = omega (arith, row_many (standing_row f.stands), length-drop t.at s);
        short = f.short;
      }

  one_written : (m : Answer (List Bytes)) → (m >>= λ a. given (a ++ [])) ≡ m
  one_written (refused r) = refl
  one_written (given a) = ap given (append-nil a)

  one_counted : (u : Schema) → row_lines (u & end) ≡ import_lines u
  one_counted u = omega arith

  row_wrote : (out out' : Bytes) (r : Refusing (ℕ × Size)) → FieldsWrote s (row_of t) out out' r → FieldWrote s t out out' r
  row_wrote out out' r h u ts f =
      subst (λ (n : ℕ). Wrote s ts (written t.big t.bare u) n out out' r) (one_counted u)
      (subst (λ (o : Answer (List Bytes)). Wrote s ts o (row_lines (u & end)) out out' r) (one_written (written t.big t.bare u)) (h (u & end) ts (row_at u ts f)))

  -- a row of one that was read is a tree that was read
  one_read : (a : Answer (ℕ × Size)) → RowRead s t.at 1 t.levels a → RowPast t.at 1 a → FieldRead s t.at t.levels a
  one_read (refused q) h p = tt
  one_read (given (next, size)) (h, long, each) p = (row_one s t.at t.levels next (omega arith) h, omega (arith, long), each)

  pub row_told : (out out' : Bytes) (r : Refusing (ℕ × Size)) → FieldsTold s (row_of t) out out' r → FieldTold s t out out' r
  row_told out out' r h = (one_read (answer_of r) h.0 h.1, row_wrote out out' r h.2)
