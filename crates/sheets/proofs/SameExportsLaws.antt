-- `same_exports`: under the conditions of demand 3 its two answers are equal; for all fields, equal plain forms have equal exports; which numbers
-- it gives, and what every lent byte is. With `RoundTripLaws` this is demand 3 through the calls (`demand3_called`). Assumes nothing.
use mathlib.Core.Path.{◌≡◌, refl, sym, ◌∙◌, ap, subst}
use mathlib.Core.Logic.{◌↔◌, ◌≢◌}
use mathlib.Core.Bool.{Bool, true, false, cond}
use mathlib.Core.List.{[], ◌∷◌}
use Prim.Native.Nat.{ℕ, ◌≤◌}
use native.Mathlib.Omega.{arith}
use lib.Dec.{eqb}
use lib.ListN.{length}
use borrow.Author.Tests.{le-leb, leb-true, leb-false, eqb-true, eqb-false}
use Rattle.sheets.specs.Bytes.{Bytes, same}
use Rattle.sheets.specs.Refusal.{last_number, one_of}
use Rattle.sheets.specs.Answer.{Answer, given}
use Rattle.sheets.specs.Outcome.{Outcome, success, outcome, exported, plained}
use Rattle.sheets.specs.Demand3.{written, Exportable, export_of, plain_form_of}
use Rattle.sheets.specs.RoundTrip.{Steps, Buffers, step_buffers, cleared, buffers_after, same_written, SameExports, compared, one_export_refused, other_export_refused, one_plain_refused, other_plain_refused, same_exports_number, pair_steps, pair_answer, same_exports_outcome, PairRoom, four_sheets, Demand3Called}
use Rattle.sheets.proofs.Tests.{never}
use Rattle.sheets.proofs.BytesLaws.{same_refl, same_eq}
use Rattle.sheets.proofs.OutcomeLaws.{fits, fits_not, number_at_most, written_success}
use Rattle.sheets.proofs.OnlyLaws.{only_known, export_numbers, export_numbers_lem}
use Rattle.sheets.proofs.Demand3.{exported_given, same_plain, same_export}
use Rattle.sheets.proofs.RoundTripLaws.{plained_given, zero_gave, number_among, both_of, plain_there, alike_any, NoneRefused, zero_test, after_refusal, after_answer, fits_in, round_trip}

-- ── under the conditions

module _ {big : Bool} where
  -- "two such fields export to the same bytes exactly when their plain forms are equal", as one truth value
  pub same_alike : (d e : Exportable big) → same (plain_form_of d) (plain_form_of e) ≡ same (export_of d) (export_of e)
  same_alike d e = pick (same (plain_form_of d) (plain_form_of e)) (same (export_of d) (export_of e)) refl refl
    where
      pick : (s t : Bool) → same (plain_form_of d) (plain_form_of e) ≡ s → same (export_of d) (export_of e) ≡ t → s ≡ t
      pick true true p q = refl
      pick false false p q = refl
      pick true false p q =
          never (sym q ∙ ap (same (export_of d)) (sym (same_export big d e (same_eq (plain_form_of d) (plain_form_of e) p))) ∙ same_refl (export_of d))
      pick false true p q =
          never (sym p ∙ ap (same (plain_form_of d)) (sym (same_plain big d e (same_eq (export_of d) (export_of e) q))) ∙ same_refl (plain_form_of d))

step : (a : Answer Bytes) (x out : Bytes) → a ≡ given x → fits_in x out ≡ true → outcome a out ≡ success x out
step a x out h r = ap (λ (c : Answer Bytes). outcome c out) h ∙ fits x out (leb-true (length x) (length out) r)

no_step : (a : Answer Bytes) (x out : Bytes) → a ≡ given x → fits_in x out ≡ false → (outcome a out).number ≡ 16
no_step a x out h r = ap (λ (y : Outcome). y.number) (ap (λ (c : Answer Bytes). outcome c out) h ∙ fits_not x out (leb-false (length x) (length out) r))

module _ {big : Bool} where
  -- 16 at the first step whose sheet is longer than its buffer; else one truth value, twice
  abbrev pub pair_expected : Exportable big → Exportable big → Buffers → SameExports
  pair_expected d e out =
      cond (fits_in (export_of d) out.first)
      (cond (fits_in (export_of e) out.second)
      (cond (fits_in (plain_form_of d) out.third)
      (cond (fits_in (plain_form_of e) out.fourth)
      (compared (same (export_of d) (export_of e)) (same (export_of d) (export_of e)))
      (other_plain_refused 16))
      (one_plain_refused 16))
      (other_export_refused 16))
      (one_export_refused 16)

written_compared : (x y p q : Bytes) (out : Buffers) → pair_answer (four_sheets x y p q out) ≡ compared (same x y) (same p q)
written_compared x y p q out = rw (written_success x out.first, written_success y out.second, written_success p out.third, written_success q out.fourth)

module _ {big : Bool} where
  module _ (d e : Exportable big) (out : Buffers) where
    success_compared : pair_answer (four_sheets (export_of d) (export_of e) (plain_form_of d) (plain_form_of e) out) ≡ compared (same (export_of d) (export_of e)) (same (export_of d) (export_of e))
    success_compared = written_compared (export_of d) (export_of e) (plain_form_of d) (plain_form_of e) out ∙ ap (compared (same (export_of d) (export_of e))) (same_alike d e)

    abbrev Expects : Bool → Bool → Bool → Bool → Type 0
    Expects r s t u =
        pair_answer (pair_steps big d.sheet e.sheet out)
        ≡ cond r (cond s (cond t (cond u (compared (same (export_of d) (export_of e)) (same (export_of d) (export_of e))) (other_plain_refused 16)) (one_plain_refused 16)) (other_export_refused 16)) (one_export_refused 16)

    all_steps : fits_in (export_of d) out.first ≡ true → fits_in (export_of e) out.second ≡ true → fits_in (plain_form_of d) out.third ≡ true → fits_in (plain_form_of e) out.fourth ≡ true
        → pair_steps big d.sheet e.sheet out ≡ four_sheets (export_of d) (export_of e) (plain_form_of d) (plain_form_of e) out
    all_steps r s t u =
        λ i. record {
          first = step (exported big d.sheet) (export_of d) out.first (exported_given d) r i;
          second = step (exported big e.sheet) (export_of e) out.second (exported_given e) s i;
          third = step (plained d.sheet) (plain_form_of d) out.third (plained_given d) t i;
          fourth = step (plained e.sheet) (plain_form_of e) out.fourth (plained_given e) u i;
        }

    expected : (r s t u : Bool) → fits_in (export_of d) out.first ≡ r → fits_in (export_of e) out.second ≡ s → fits_in (plain_form_of d) out.third ≡ t → fits_in (plain_form_of e) out.fourth ≡ u → Expects r s t u
    expected false s t u a b c f = rw (no_step (exported big d.sheet) (export_of d) out.first (exported_given d) a)
    expected true false t u a b c f =
        rw (step (exported big d.sheet) (export_of d) out.first (exported_given d) a, no_step (exported big e.sheet) (export_of e) out.second (exported_given e) b)
    expected true true false u a b c f =
        rw (step (exported big d.sheet) (export_of d) out.first (exported_given d) a, step (exported big e.sheet) (export_of e) out.second (exported_given e) b, no_step (plained d.sheet) (plain_form_of d) out.third (plained_given d) c)
    expected true true true false a b c f =
        rw (
          step (exported big d.sheet) (export_of d) out.first (exported_given d) a,
          step (exported big e.sheet) (export_of e) out.second (exported_given e) b,
          step (plained d.sheet) (plain_form_of d) out.third (plained_given d) c,
          no_step (plained e.sheet) (plain_form_of e) out.fourth (plained_given e) f,
        )
    expected true true true true a b c f = ap pair_answer (all_steps a b c f) ∙ success_compared

    -- with any buffers, exactly this is answered
    pub same_exports_exactly : (same_exports_outcome big d.sheet e.sheet out).answer ≡ pair_expected d e out
    same_exports_exactly =
        expected (fits_in (export_of d) out.first) (fits_in (export_of e) out.second) (fits_in (plain_form_of d) out.third) (fits_in (plain_form_of e) out.fourth) refl refl refl refl

    -- with room, the two answers are equal, and each buffer has the sheet that the demand says, and past it what it held
    pub same_exports_lem : PairRoom d e out
        → same_exports_outcome big d.sheet e.sheet out
        ≡ record {
          answer = compared (same (export_of d) (export_of e)) (same (export_of d) (export_of e));
          buffers = step_buffers (four_sheets (export_of d) (export_of e) (plain_form_of d) (plain_form_of e) out);
        }
    same_exports_lem room =
        let s = all_steps (le-leb _ _ room.first) (le-leb _ _ room.second) (le-leb _ _ room.third) (le-leb _ _ room.fourth) in
        let a = ap pair_answer s ∙ success_compared in
        λ i. record { answer = a i; buffers = (ap (λ (n : ℕ). buffers_after n (pair_steps big d.sheet e.sheet out) out) (ap same_exports_number a) ∙ ap step_buffers s) i }

-- ── demand 3 through the two calls

pub demand3_called : (big : Bool) → Demand3Called big
demand3_called big = record { round_trips = round_trip false; compares_alike = same_exports_lem }

-- ── what an answer means, for all sheets and all buffers

-- what each answer says of the steps
abbrev pub Told : Steps → SameExports → Type 0
Told s (compared x y) = NoneRefused s × (same_written s.first s.second ≡ x) × (same_written s.third s.fourth ≡ y)
Told s (one_export_refused n) = (s.first.number ≡ n) × (s.first.number ≢ 0)
Told s (other_export_refused n) = (s.second.number ≡ n) × (s.second.number ≢ 0) × (s.first.number ≡ 0)
Told s (one_plain_refused n) = (s.third.number ≡ n) × (s.third.number ≢ 0) × (s.first.number ≡ 0) × (s.second.number ≡ 0)
Told s (other_plain_refused n) = (s.fourth.number ≡ n) × (s.fourth.number ≢ 0) × (s.first.number ≡ 0) × (s.second.number ≡ 0) × (s.third.number ≡ 0)

told : (s : Steps) → Told s (pair_answer s)
told s = first (eqb s.first.number 0) refl
  where
    fourth : s.first.number ≡ 0 → s.second.number ≡ 0 → s.third.number ≡ 0 → (t : Bool) → eqb s.fourth.number 0 ≡ t → Told s (pair_answer s)
    fourth a b c false e = rw (zero_test a, zero_test b, zero_test c, e) (refl, eqb-false s.fourth.number 0 e, a, b, c)
    fourth a b c true e = rw (zero_test a, zero_test b, zero_test c, e) (record { first = a; second = b; third = c; fourth = eqb-true s.fourth.number 0 e }, refl, refl)

    third : s.first.number ≡ 0 → s.second.number ≡ 0 → (t : Bool) → eqb s.third.number 0 ≡ t → Told s (pair_answer s)
    third a b false e = rw (zero_test a, zero_test b, e) (refl, eqb-false s.third.number 0 e, a, b)
    third a b true e = fourth a b (eqb-true s.third.number 0 e) (eqb s.fourth.number 0) refl

    second : s.first.number ≡ 0 → (t : Bool) → eqb s.second.number 0 ≡ t → Told s (pair_answer s)
    second a false e = rw (zero_test a, e) (refl, eqb-false s.second.number 0 e, a)
    second a true e = third a (eqb-true s.second.number 0 e) (eqb s.third.number 0) refl

    first : (t : Bool) → eqb s.first.number 0 ≡ t → Told s (pair_answer s)
    first false e = rw e (refl, eqb-false s.first.number 0 e)
    first true e = second (eqb-true s.first.number 0 e) (eqb s.second.number 0) refl

module _ (big : Bool) where
  module _ (one other : Bytes) (out : Buffers) where
    abbrev Says : SameExports → Type 0
    Says x = (same_exports_outcome big one other out).answer ≡ x

    abbrev steps : Steps
    steps = pair_steps big one other out

    -- what the answer x says of the steps: it compares only where no step was refused
    pub says : (x : SameExports) → Says x → Told steps x
    says x h = subst (Told steps) h (told steps)

    -- "their plain forms are equal" comes with equal exports, whatever is in the fields
    pub plains_exports : (x : Bool) → Says (compared x true) → x ≡ true
    plains_exports x h =
        let t = says (compared x true) h in
        let a = both_of big one (written steps.first) (written steps.third) (zero_gave (exported big one) out.first t.0.first) (zero_gave (plained one) out.third t.0.third) in
        let b = both_of big other (written steps.second) (written steps.fourth) (zero_gave (exported big other) out.second t.0.second) (zero_gave (plained other) out.fourth t.0.fourth) in
        let e : written steps.first ≡ written steps.second = alike_any big a b (same_eq (written steps.third) (written steps.fourth) t.2) in
        sym t.1 ∙ ap (same (written steps.first)) (sym e) ∙ same_refl (written steps.first)

    -- a refused export: the numbers of the sheet's maker, of the field's owner, or 16
    pub one_export_refused_lem : (n : ℕ) → Says (one_export_refused n) → one_of (16 ∷ export_numbers) n ≡ true
    one_export_refused_lem n h =
        let t = says (one_export_refused n) h in
        subst (λ (m : ℕ). one_of (16 ∷ export_numbers) m ≡ true) t.0 (number_among export_numbers (exported big one) out.first (export_numbers_lem big one) t.1)

    pub other_export_refused_lem : (n : ℕ) → Says (other_export_refused n) → one_of (16 ∷ export_numbers) n ≡ true
    other_export_refused_lem n h =
        let t = says (other_export_refused n) h in
        subst (λ (m : ℕ). one_of (16 ∷ export_numbers) m ≡ true) t.0 (number_among export_numbers (exported big other) out.second (export_numbers_lem big other) t.1)

    -- a refused plain form: 16 only
    pub one_plain_refused_lem : (n : ℕ) → Says (one_plain_refused n) → one_of (16 ∷ []) n ≡ true
    one_plain_refused_lem n h =
        let t = says (one_plain_refused n) h in
        let p = plain_there big one (written steps.first) (zero_gave (exported big one) out.first t.2) in
        subst (λ (m : ℕ). one_of (16 ∷ []) m ≡ true) t.0 (number_among [] (plained one) out.third (only_known [] (plained one) p.0 p.1) t.1)

    pub other_plain_refused_lem : (n : ℕ) → Says (other_plain_refused n) → one_of (16 ∷ []) n ≡ true
    other_plain_refused_lem n h =
        let t = says (other_plain_refused n) h in
        let p = plain_there big other (written steps.second) (zero_gave (exported big other) out.second t.3) in
        subst (λ (m : ℕ). one_of (16 ∷ []) m ≡ true) t.0 (number_among [] (plained other) out.fourth (only_known [] (plained other) p.0 p.1) t.1)

    -- the number of the answer is at most the last, and 0 exactly if no step was refused
    pub number_means : (same_exports_number (same_exports_outcome big one other out).answer ≤ last_number) × ((same_exports_number (same_exports_outcome big one other out).answer ≡ 0) ↔ NoneRefused steps)
    number_means = go (same_exports_outcome big one other out).answer (told steps)
      where
        go : (r : SameExports) → Told steps r → (same_exports_number r ≤ last_number) × ((same_exports_number r ≡ 0) ↔ NoneRefused steps)
        go (compared x y) t = (omega arith, (λ e. t.0, λ z. refl))
        go (one_export_refused n) t = (omega (arith, t.0, number_at_most (exported big one) out.first), (λ e. absurd (t.1 (t.0 ∙ e)), λ z. sym t.0 ∙ z.first))
        go (other_export_refused n) t = (omega (arith, t.0, number_at_most (exported big other) out.second), (λ e. absurd (t.1 (t.0 ∙ e)), λ z. sym t.0 ∙ z.second))
        go (one_plain_refused n) t = (omega (arith, t.0, number_at_most (plained one) out.third), (λ e. absurd (t.1 (t.0 ∙ e)), λ z. sym t.0 ∙ z.third))
        go (other_plain_refused n) t = (omega (arith, t.0, number_at_most (plained other) out.fourth), (λ e. absurd (t.1 (t.0 ∙ e)), λ z. sym t.0 ∙ z.fourth))

    -- every lent byte: zeros where a step was refused, else what the steps left
    pub refused_clears : same_exports_number (same_exports_outcome big one other out).answer ≢ 0 → (same_exports_outcome big one other out).buffers ≡ cleared out
    refused_clears h = after_refusal (same_exports_number (same_exports_outcome big one other out).answer) steps out h

    pub answered_keeps : same_exports_number (same_exports_outcome big one other out).answer ≡ 0 → (same_exports_outcome big one other out).buffers ≡ step_buffers steps
    answered_keeps h = after_answer (same_exports_number (same_exports_outcome big one other out).answer) steps out h
