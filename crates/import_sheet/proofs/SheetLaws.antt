-- What is known at each place of `put_sheet`, `convert`, `import` and `measure_import`: the heading is written, then the field's lines; and each way out of
-- the two calls is the outcome, or the measure, that is defined. Assumes nothing.
use Rattle.std.specs.Prelude.{Result, Ok, Err}
use mathlib.Core.Path.{◌≡◌, refl, sym, ap, subst, ◌∙◌}
use mathlib.Core.Bool.{Bool, true, false, cond}
use mathlib.Core.List.{List, [], ◌∷◌, ◌++◌}
use Prim.Native.Nat.{ℕ, ◌+◌, ◌-◌, ◌≤◌, min}
use native.Mathlib.Omega.{arith}
use lib.Dec.{ltb}
use lib.ListN.{length, take, drop}
use borrow.Author.Tests.{ltb-true, ltb-false}
use Rattle.sheets.specs.Refusal.{bad_lines, number_of}
use Rattle.sheets.proofs.Tests.{first_gave, same_given}
use Rattle.sheets.specs.Bytes.{Bytes}
use Rattle.sheets.specs.Answer.{Answer, refused, given, ◌>>=◌}
use Rattle.sheets.specs.Sheet.{sheet_limit, ended}
use Rattle.sheets.specs.Schema.{Schema, read_schema_sheet}
use Rattle.sheets.specs.Field.{Field}
use Rattle.sheets.specs.FieldSheet.{field_heading, write_field_sheet, type_lines}
use Rattle.sheets.specs.Import.{to_field}
use Rattle.sheets.specs.Visits.{import_lines}
use Rattle.sheets.specs.Outcome.{Outcome, imported, refusal, import_outcome_in, Measure, lines_in, measure_import_outcome}
use Rattle.sheets.specs.ImportLines.{written, shown}
use Rattle.sheets.proofs.SheetLaws.{sheet_headed}
use Rattle.buffer.specs.Over.{PutAt, PutFirst}
use Rattle.buffer.proofs.OverLaws.{put_lent, put_over}
use Rattle.outcome.specs.Answers.{outcome_of, Tells, SheetTold, refused_measure}
use Rattle.outcome.specs.declared.Refused.{Refused}
use Rattle.outcome.specs.declared.Size.{Size}
use Rattle.outcome.proofs.AnswerLaws.{told_refused, told_done, measure_refused, measure_done}
use Rattle.refusal.specs.declared.Refusal.{Refusal as Reason}
use Rattle.refusal.specs.declared.Refusal.TheVariants.{NotSheet, BadLines}
use Rattle.refusal.specs.Refusals.{refusal_of, Refusing, answer_of}
use Rattle.schema_sheet.specs.Sheets.{is_sheet, sheet_body}
use Rattle.schema_sheet.specs.Trees.{ReadsTree}
use Rattle.schema_sheet.proofs.SheetLaws.{Opens, sheet_not, sheet_whole, sheet_left, sheet_opens, sheet_refused as sheet_unread}
use Rattle.import_field.specs.Recursion.{FieldAt, Wrote, FieldWrote, FieldRead}
use Rattle.import_sheet.specs.Sheets.{sheet_of, tree_of, SheetWrote, SheetWrites, EndsAt, or_else, FirstOf, Converts}

-- ── the heading and the lines

-- the heading's bytes with byte 10
abbrev pub head_line : Bytes
head_line = field_heading ++ (10 ∷ [])

-- a sheet is its field's lines under the heading
sheet_lines : (big : Bool) (t : Schema) → sheet_of big t ≡ (written big false t >>= λ ls. given (head_line ++ ended ls))
unfolding sheet_of
sheet_lines big t = go (to_field big t)
  where
    go : (a : Answer Field) → (a >>= λ f. given (write_field_sheet f)) ≡ ((a >>= λ f. given (type_lines f.type (shown false f.info))) >>= λ ls. given (head_line ++ ended ls))
    go (refused r) = refl
    go (given f) = ap given (sheet_headed field_heading (type_lines f.type (shown false f.info)))

-- what is told of the sheet's lines, whatever they are
module _ (s : Bytes) (at : ℕ) (r : Refusing (ℕ × Size)) (next : ℕ) (size : Size) (e : r ≡ Ok (next, size)) (h : FieldRead s at 32 (answer_of r)) where
  read : FieldRead s at 32 (given (next, size))
  read = subst (λ (y : Refusing (ℕ × Size)). FieldRead s at 32 (answer_of y)) e h

  pub lines_long : length s ≤ sheet_limit → size.len ≤ 2097120
  lines_long short = omega (arith, read.1, read.0.0.1, short)

  pub lines_read : ReadsTree s at 32 (given next)
  lines_read = read.0

module _ (s : Bytes) (at : ℕ) (big : Bool) (t : Schema) (ts : List Schema) (f : FieldAt s at 32 t ts) where
  abbrev sheet : Answer (List Bytes) → Answer Bytes
  sheet o = o >>= λ ls. given (head_line ++ ended ls)

  pub sheet_refused : (lent part : Bytes) (r : Refusing (ℕ × Size)) (q : Reason) → r ≡ Err q → FieldWrote s (tree_of at big) lent part r → sheet_of big t ≡ refused (refusal_of q)
  sheet_refused lent part r q e h =
      let w : FieldWrote s (tree_of at big) lent part (Err q) = subst (λ (y : Refusing (ℕ × Size)). FieldWrote s (tree_of at big) lent part y) e h in
      sheet_lines big t ∙ ap sheet (w t ts f)

  module _ (lent part : Bytes) (r : Refusing (ℕ × Size)) (next : ℕ) (size : Size) (e : r ≡ Ok (next, size)) (h : FieldWrote s (tree_of at big) lent part r) where
    lines_done : Wrote s ts (written big false t) (import_lines t) lent part (Ok (next, size))
    lines_done = subst (λ (y : Refusing (ℕ × Size)). FieldWrote s (tree_of at big) lent part y) e h t ts f

    pub sheet_done : (out mid : Bytes) (head w : ℕ) → PutAt 0 head_line head out mid → w ≡ min head (length mid)
        → lent ≡ take (length mid - w) (drop w mid)
        → SheetTold (sheet_of big t) (import_lines t) out (take w mid ++ (part ++ drop (length mid - w) (drop w mid))) (given (next, record { len = head + size.len; lines = size.lines }))
    sheet_done out mid head w p e₁ e₂ =
        let (ls, is, put, there, within, lines) = lines_done in (
          head_line ++ ended ls,
          sheet_lines big t ∙ ap sheet is,
          put_lent head_line (ended ls) out (put_over head_line out p) e₁ (subst (λ (y : Bytes). PutFirst (ended ls) size.len y part) e₂ put) refl,
          lines,
        )

-- ── the conversion

-- the sheet's own refusal comes first
pub first_of : (s : Bytes) (k : Refusing ℕ) → answer_of k ≡ sheet_body s → (r q : Reason) → k ≡ Err q → FirstOf s r q
first_of s k h r q e = ap (λ (a : Answer ℕ). or_else a r) (sym (ap answer_of e) ∙ h)

pub none_first : (s : Bytes) (k : Refusing ℕ) → answer_of k ≡ sheet_body s → (r : Reason) (at : ℕ) → k ≡ Ok at → FirstOf s r r
none_first s k h r at e = ap (λ (a : Answer ℕ). or_else a r) (sym (ap answer_of e) ∙ h)

module _ (s : Bytes) (big : Bool) where
  -- no schema sheet
  convert_unread : (out mid : Bytes) (q : Reason) → refused (refusal_of q) ≡ sheet_body s → Converts big s out mid (Err q)
  unfolding imported
  convert_unread out mid q h =
      let is : read_schema_sheet s ≡ refused (refusal_of q) = sheet_unread s (sym h) in
      ap (λ (a : Answer Schema). a >>= λ t. to_field big t >>= λ f. given (write_field_sheet f)) is

  pub convert_not : (out : Bytes) → is_sheet s ≡ false → Converts big s out out (Err NotSheet)
  convert_not out e = convert_unread out out NotSheet (sheet_not s e)

  -- the sheet is read
  module _ (at : ℕ) (h : given at ≡ sheet_body s) where
    opened : (t : Schema) × Opens s at t
    opened = sheet_opens s (sym h)

    field_at : FieldAt s at 32 opened.0 []
    field_at = let o = opened.1 in record { stands = o.stands; deep = o.levels; short = o.short }

    of_sheet : imported big s ≡ sheet_of big opened.0
    unfolding imported sheet_of
    of_sheet = ap (λ (o : Answer Schema). o >>= λ t. to_field big t >>= λ f. given (write_field_sheet f)) opened.1.is_read

    of_lines : lines_in import_lines (read_schema_sheet s) ≡ import_lines opened.0
    of_lines = ap (λ (o : Answer Schema). lines_in import_lines o) opened.1.is_read

    convert_read : (out mid : Bytes) (z : Refusing (ℕ × Size)) → SheetWrote s at big out mid z → Converts big s out mid z
    convert_read out mid z w =
        subst (λ (n : ℕ). SheetTold (imported big s) n out mid (answer_of z)) (sym of_lines)
        (subst (λ (a : Answer Bytes). SheetTold a (import_lines opened.0) out mid (answer_of z)) (sym of_sheet) (w opened.0 [] field_at))

  module _ (headed : is_sheet s ≡ true) (out mid : Bytes) (r : Refusing (ℕ × Size)) (w : SheetWrites s 47 big out mid r) where
    told : (z : Refusing (ℕ × Size)) → r ≡ z → SheetWrites s 47 big out mid z
    told z e = subst (SheetWrites s 47 big out mid) e w

    -- the lines begin after the heading
    start_of : (at : ℕ) → sheet_body s ≡ given at → 47 ≡ at
    unfolding sheet_body
    start_of at h = same_given (first_gave (read_schema_sheet s) (λ t. given 47) at h).2

    -- something was refused: by the sheet's form, or as it was told
    pub convert_refused : (p q : Reason) → r ≡ Err p → FirstOf s p q → Converts big s out mid (Err q)
    convert_refused p q e f = go (sheet_body s) refl
      where
        go : (a : Answer ℕ) → sheet_body s ≡ a → Converts big s out mid (Err q)
        go (refused x) h =
            let same : ◌≡◌ {A = Answer ℕ} (refused (refusal_of q)) (refused x) = f ∙ ap (λ (a : Answer ℕ). or_else a p) h in
            convert_unread out mid q (same ∙ sym h)
        go (given at) h =
            let same : ◌≡◌ {A = Answer ℕ} (refused (refusal_of q)) (refused (refusal_of p)) = f ∙ ap (λ (a : Answer ℕ). or_else a p) h in
            let is : refusal_of q ≡ refusal_of p = cc in
            let w : Converts big s out mid (Err p) = convert_read at (sym h) out mid (Err p) (subst (λ (i : ℕ). SheetWrote s i big out mid (Err p)) (start_of at h) (told (Err p) e).1) in
            w ∙ ap refused (sym is)

    -- all lines were read
    pub convert_done : (next : ℕ) (size : Size) → r ≡ Ok (next, size) → (z : Refusing (ℕ × Size)) → EndsAt s next size z → Converts big s out mid z
    convert_done next size e z f = go (ltb next (length s)) refl
      where
        go : (b : Bool) → ltb next (length s) ≡ b → Converts big s out mid z
        go true h = subst (λ (a : Answer (ℕ × Size)). SheetTold (imported big s) (lines_in import_lines (read_schema_sheet s)) out mid a) (sym (f ∙ ap (λ (b : Bool). cond b (refused bad_lines) (given (next, size))) h))
            (convert_unread out mid BadLines (sheet_left s headed (Ok next) (told (Ok (next, size)) e).0 next refl (ltb-true next (length s) h)))
        go false h = subst (λ (a : Answer (ℕ × Size)). SheetTold (imported big s) (lines_in import_lines (read_schema_sheet s)) out mid a) (sym (f ∙ ap (λ (b : Bool). cond b (refused bad_lines) (given (next, size))) h))
            (convert_read 47 (sheet_whole s headed (Ok next) (told (Ok (next, size)) e).0 next refl (ltb-false next (length s) h)) out mid (Ok (next, size)) (told (Ok (next, size)) e).1)

  -- ── the outcome, and the measure

  module _ (out mid : Bytes) (z : Refusing (ℕ × Size)) (w : Converts big s out mid z) where
    refused_is : (q : Reason) → z ≡ Err q → imported big s ≡ refused (refusal_of q)
    refused_is q d = subst (λ (y : Refusing (ℕ × Size)). Converts big s out mid y) d w

    pub import_refused_lem : (q : Reason) → z ≡ Err q → length mid ≡ length out → (o : Outcome) → o ≡ refusal (number_of (refusal_of q)) mid → o ≡ import_outcome_in big s out
    import_refused_lem q d l o c = told_refused (imported big s) out mid (refusal_of q) o (refused_is q d) c l

    -- the sheet is written, as far as it fits
    pub import_done : (next : ℕ) (size : Size) → z ≡ Ok (next, size) → (r : Result ℕ Refused) (out' : Bytes) → Tells mid size.len r out' → outcome_of r out' ≡ import_outcome_in big s out
    import_done next size d r out' c = told_done (imported big s) out mid (lines_in import_lines (read_schema_sheet s)) (answer_of z) next size (ap answer_of d) w r out' c

    pub measure_turned : (q : Reason) → z ≡ Err q → (m : Measure) → m ≡ refused_measure (refusal_of q) → m ≡ measure_import_outcome big s
    measure_turned q d m c = measure_refused (imported big s) (lines_in import_lines (read_schema_sheet s)) (refusal_of q) m (refused_is q d) c

    pub measure_told_lem : (next : ℕ) (size : Size) → z ≡ Ok (next, size) → (m : Measure) → m ≡ record { number = 0; size = size.len; lines = size.lines } → m ≡ measure_import_outcome big s
    measure_told_lem next size d m c = measure_done (imported big s) (lines_in import_lines (read_schema_sheet s)) out mid (answer_of z) next size (ap answer_of d) w m c
