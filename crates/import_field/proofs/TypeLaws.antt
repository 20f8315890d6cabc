-- What is known at each place of `to_dtype`: its fields are read and written, and the subtrees after them are read: two rows that adjoin. Assumes nothing.
use Rattle.std.specs.Prelude.{Ok, Err}
use mathlib.Core.Path.{◌≡◌, sym, ap, subst, ◌∙◌}
use mathlib.Core.List.{◌++◌}
use Prim.Native.Nat.{ℕ, ◌+◌, ◌≤◌}
use native.Mathlib.Omega.{arith}
use lib.ListN.{length}
use Rattle.sheets.specs.Bytes.{Bytes}
use Rattle.sheets.specs.Answer.{Answer, refused, given}
use Rattle.sheets.specs.ImportLines.{row_written}
use Rattle.sheets.specs.Visits.{row_lines}
use Rattle.sheets.specs.Sheet.{ended}
use Rattle.buffer.specs.Over.{PutFirst}
use Rattle.outcome.specs.declared.Size.{Size}
use Rattle.refusal.specs.declared.Refusal.{Refusal as Reason}
use Rattle.refusal.specs.Refusals.{Refusing, answer_of}
use Rattle.schema_sheet.proofs.ReadLaws.{reads_both}
use Rattle.import_field.specs.declared.Trees.{Trees}
use Rattle.import_field.specs.Recursion.{LeftAt, WroteAs, Wrote, FieldsWrote, TypeWrote, FieldsTold, TypeTold, RowRead, Ends, LastRead, EndedTold}

module _ (s : Bytes) (w : Trees) (last : ℕ) (out out' : Bytes) (r : Refusing (ℕ × Size)) (h : FieldsTold s w out out' r) where
  -- one of the fields is refused
  pub type_refused : (q : Reason) → r ≡ Err q → TypeTold s w last out out' (Err q)
  type_refused q e = (tt, λ us vs ts f n low. subst (λ (y : Refusing (ℕ × Size)). FieldsWrote s w out out' y) e h.2 us (vs ++ ts) f)

  module _ (next : ℕ) (size : Size) (e : r ≡ Ok (next, size)) where
    rows : RowRead s w.at w.count w.levels (given (next, size))
    rows = subst (λ (y : Refusing (ℕ × Size)). RowRead s w.at w.count w.levels (answer_of y)) e h.0

    pub rows_within : next ≤ length s
    rows_within = rows.0.0.1

    pub type_told : (z : Refusing (ℕ × Size)) → EndedTold s next last w.levels size z → TypeTold s w last out out' z
    type_told z (read, ends) = (all_read (answer_of z) read, wrote)
      where
        all_read : (y : Answer (ℕ × Size)) → LastRead s next last w.levels size y → RowRead s w.at (w.count + last) w.levels y
        all_read (refused q) k = tt
        all_read (given (past, more)) (same, k) =
            let long : more.len ≡ size.len = ap (λ (x : Size). x.len) same in
            let seen : more.lines ≡ size.lines = ap (λ (x : Size). x.lines) same in
            (reads_both s w.at w.count next last past w.levels rows.0 k, omega (arith, rows.1, k.0.0, long), omega (arith, rows.2, k.0.0, seen))

        wrote : TypeWrote s w last out out' z
        wrote us vs ts f n low = go (answer_of z) (ends vs ts left)
          where
            done : Wrote s (vs ++ ts) (row_written w.big w.bare us) (row_lines us) out out' (Ok (next, size))
            done = subst (λ (y : Refusing (ℕ × Size)). FieldsWrote s w out out' y) e h.2 us (vs ++ ts) f

            left : LeftAt s next last w.levels vs ts
            left = record { stands = done.3; counted = n; deep = low; within = done.4 }

            go : (y : Answer (ℕ × Size)) → Ends s next size ts y → WroteAs s ts (row_written w.big w.bare us) (row_lines us) out out' y
            go (refused q) k = absurd k
            go (given (past, more)) k =
                let long : size.len ≡ more.len = sym (ap (λ (x : Size). x.len) k.0) in
                let seen : more.lines ≡ size.lines = ap (λ (x : Size). x.lines) k.0 in
                (done.0, done.1, subst (λ (n : ℕ). PutFirst (ended done.0) n out out') long done.2, k.1, k.3, seen ∙ done.5)
