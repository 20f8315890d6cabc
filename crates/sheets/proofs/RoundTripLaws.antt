-- `round_trip`: under the conditions of demand 3 it says that all is the same, and each buffer is what the demand says; what it answers then with
-- any buffers; and, for every sheet and all buffers, what each answer means, which numbers each step can give, and what every lent byte is. By cases
-- of the four steps in order; once for both orders of the metadata, and once for both exports, the present one and the strict one (document 02, #106): where
-- their laws differ the flag `strict` tells. Assumes nothing.
use mathlib.Core.Path.{◌≡◌, refl, sym, ◌∙◌, ap, subst}
use mathlib.Core.Logic.{◌↔◌, ◌≢◌}
use mathlib.Core.Bool.{Bool, true, false, cond, or-true}
use mathlib.Core.List.{List, [], ◌∷◌}
use Prim.Native.Nat.{ℕ, ◌≤◌}
use native.Mathlib.Omega.{arith}
use lib.Dec.{eqb, leb}
use lib.ListN.{length}
use borrow.Author.Tests.{le-leb, leb-true, leb-false, eqb-true, eqb-false, eq-eqb, ne_eqb}
use Rattle.sheets.specs.Bytes.{Bytes, same}
use Rattle.sheets.specs.Refusal.{number_of, not_sheet, last_number, one_of}
use Rattle.sheets.specs.Answer.{Answer, refused, given}
use Rattle.sheets.specs.FieldSheet.{read_field_sheet, write_field_sheet}
use Rattle.sheets.specs.Rule.{Meets}
use Rattle.sheets.specs.Schema.{Schema, write_schema_sheet}
use Rattle.sheets.specs.Field.{Field, field_rule, field_levels}
use Rattle.sheets.specs.Export.{schema_new}
use Rattle.sheets.specs.Plain.{plain}
use Rattle.sheets.specs.Outcome.{Outcome, success, outcome, imported, exported, strict_exported, exported_as, plained, export_outcome_as}
use Rattle.sheets.specs.Demand3.{NoReservedKey, NoWideIndex, IsShort, written, Exportable, export_of, plain_form_of}
use Rattle.sheets.specs.RoundTrip.{Steps, Buffers, step_buffers, cleared, buffers_after, same_written, RoundTrip, all_same, export_refused, import_refused, plain_refused, again_refused, import_differs, again_differs, round_trip_number, trip_steps, trip_answer, round_trip_outcome_as, TripRoom, four_sheets}
use Rattle.sheets.proofs.BytesLaws.{same_refl, same_eq}
use Rattle.sheets.proofs.OutcomeLaws.{Cases, turned_back, too_long, answered, cases, turned, fits, fits_not, number_at_most, zero_answers, written_success}
use Rattle.sheets.proofs.Tests.{first_gave, same_given, not_given, never}
use Rattle.sheets.proofs.FieldSheetLaws.{read_field_sheet_lem, sheet_field, field_read, field_sheet_short}
use Rattle.sheets.proofs.PlainLaws.{export_plain, plain_rule, plain_levels}
use Rattle.sheets.proofs.SizeLaws.{field_few}
use Rattle.sheets.proofs.OnlyLaws.{Only, only_refused, only_known, export_numbers_as, export_numbers_as_lem}
use Rattle.sheets.proofs.ReturnNumbers.{return_numbers, return_numbers_lem}
use Rattle.sheets.proofs.ConditionLaws.{field_free, free, plain_free}
use Rattle.sheets.proofs.StrictConditions.{strict_free, strict_gave, as_free, as_gave, too_long_lem}
use Rattle.sheets.proofs.Demand3.{exported_given, returned, comes_back, goes_again}

-- ── under the conditions

plained_of : (b : Bytes) (f : Field) → read_field_sheet b ≡ given f → plained b ≡ given (write_field_sheet (plain f))
unfolding plained
plained_of b f h = rw h

-- a plain form that is short is the sheet of the plain field
plain_read : (b : Bytes) (f : Field) → read_field_sheet b ≡ given f → IsShort (write_field_sheet (plain f)) → read_field_sheet (write_field_sheet (plain f)) ≡ given (plain f)
plain_read b f r short =
    let k = field_read b f r in
    let levels : leb (field_levels (plain f)) 32 ≡ true = le-leb (field_levels (plain f)) 32 (omega (arith, plain_levels f, leb-true (field_levels f) 32 k.1)) in
    read_field_sheet_lem (plain f) (plain_rule f (field_few f (field_sheet_short b f r)) k.0) levels (le-leb (length (write_field_sheet (plain f))) 65535 short)

module _ {big : Bool} where
  pub plained_given : (e : Exportable big) → plained e.sheet ≡ given (plain_form_of e)
  plained_given e = plained_of e.sheet e.field e.is_field

  -- both conditions
  both_met : (e : Exportable big) → Meets (field_free e.field)
  both_met e = free e.field e.no_reserved_key e.no_wide_index

  -- either export of the field, and of its plain form
  as_exported : (strict : Bool) (e : Exportable big) → exported_as strict big e.sheet ≡ given (export_of e)
  as_exported strict e = as_free big strict e.sheet e.field e.is_field (both_met e) ∙ exported_given e

  as_again : (strict : Bool) (e : Exportable big) → IsShort (plain_form_of e) → exported_as strict big (plain_form_of e) ≡ given (export_of e)
  as_again strict e short =
      as_free big strict (plain_form_of e) (plain e.field) (plain_read e.sheet e.field e.is_field short) (plain_free e.field (both_met e)) ∙ goes_again big e short

abbrev trip_success : Bytes → Bytes → Buffers → Steps
trip_success x p out = four_sheets x p p x out

module _ (strict big : Bool) where
  given_steps : (b x p : Bytes) (out : Buffers) → exported_as strict big b ≡ given x → imported big x ≡ given p → plained b ≡ given p → exported_as strict big p ≡ given x
      → length x ≤ length out.first → length p ≤ length out.second → length p ≤ length out.third → length x ≤ length out.fourth
      → trip_steps strict big b out ≡ trip_success x p out
  given_steps b x p out h i j k r s t u =
      simp (h, fits x out.first r, written_success, i, fits p out.second s, j, fits p out.third t, k, fits x out.fourth u)

success_same : (x p : Bytes) (out : Buffers) → trip_answer (trip_success x p out) ≡ all_same
success_same x p out = simp (written_success, same_refl)

module _ (strict big : Bool) where
  -- four steps that give these sheets, with room for each: the answer is that all is the same
  pub trip_given : (b x p : Bytes) (out : Buffers) → exported_as strict big b ≡ given x → imported big x ≡ given p → plained b ≡ given p → exported_as strict big p ≡ given x
      → length x ≤ length out.first → length p ≤ length out.second → length p ≤ length out.third → length x ≤ length out.fourth
      → round_trip_outcome_as strict big b out ≡ record { answer = all_same; buffers = step_buffers (four_sheets x p p x out) }
  trip_given b x p out h i j k r s t u =
      let q = given_steps strict big b x p out h i j k r s t u in
      let a = ap trip_answer q ∙ success_same x p out in
      λ i. record { answer = a i; buffers = (ap (λ (n : ℕ). buffers_after n (trip_steps strict big b out) out) (ap round_trip_number a) ∙ ap step_buffers q) i }

module _ {big : Bool} where
  -- "importing its export answers 0 and gives its plain form, byte for byte; exporting the plain form gives the same bytes as exporting the field":
  -- the answer is that all is the same, and each buffer has the sheet that the demand says, and past it what it held
  pub round_trip : (strict : Bool) (e : Exportable big) (out : Buffers) → TripRoom e out → IsShort (plain_form_of e)
      → round_trip_outcome_as strict big e.sheet out ≡ record { answer = all_same; buffers = step_buffers (four_sheets (export_of e) (plain_form_of e) (plain_form_of e) (export_of e) out) }
  round_trip strict e out room short =
      trip_given strict big e.sheet (export_of e) (plain_form_of e) out (as_exported strict e) (comes_back big e) (plained_given e) (as_again strict e short) room.first room.second room.third room.fourth

-- ── under the conditions, whatever the buffers hold and however long they are: exactly this is answered

-- whether the sheet fits the buffer
abbrev pub fits_in : Bytes → Bytes → Bool
fits_in x out = leb (length x) (length out)

-- 16 at the first step whose sheet is longer than its buffer; 1 where the plain form is too long to be handed in
abbrev pub trip_expected : Bytes → Bytes → Buffers → RoundTrip
trip_expected x p out =
    cond (fits_in x out.first)
    (cond (fits_in p out.second)
    (cond (fits_in p out.third)
    (cond (leb (length p) 65535) (cond (fits_in x out.fourth) all_same (again_refused 16)) (again_refused 1))
    (plain_refused 16))
    (import_refused 16))
    (export_refused 16)

module _ (strict big : Bool) where
  module _ (b x p : Bytes) (out : Buffers) (h : exported_as strict big b ≡ given x) (i : imported big x ≡ given p) (j : plained b ≡ given p) (k : IsShort p → exported_as strict big p ≡ given x) where
    step_1 : fits_in x out.first ≡ true → export_outcome_as strict big b out.first ≡ success x out.first
    step_1 r = ap (λ (a : Answer Bytes). outcome a out.first) h ∙ fits x out.first (leb-true (length x) (length out.first) r)

    abbrev Expects : Bool → Bool → Bool → Bool → Bool → Type 0
    Expects r s t l u =
        trip_answer (trip_steps strict big b out) ≡ cond r (cond s (cond t (cond l (cond u all_same (again_refused 16)) (again_refused 1)) (plain_refused 16)) (import_refused 16)) (export_refused 16)

    expected : (r s t l u : Bool) → fits_in x out.first ≡ r → fits_in p out.second ≡ s → fits_in p out.third ≡ t → leb (length p) 65535 ≡ l → fits_in x out.fourth ≡ u → Expects r s t l u
    expected false s t l u er es et el eu = rw (h, fits_not x out.first (leb-false (length x) (length out.first) er))
    expected true false t l u er es et el eu =
        rw (step_1 er, written_success x out.first, i, fits_not p out.second (leb-false (length p) (length out.second) es))
    expected true true false l u er es et el eu =
        simp (step_1 er, written_success, i, fits p out.second (leb-true (length p) (length out.second) es), j, fits_not p out.third (leb-false (length p) (length out.third) et))
    expected true true true false u er es et el eu =
        simp (step_1 er, written_success, i, fits p out.second (leb-true (length p) (length out.second) es), j, fits p out.third (leb-true (length p) (length out.third) et), too_long_lem big strict p el, turned not_sheet out.fourth)
    expected true true true true false er es et el eu =
        simp (step_1 er, written_success, i, fits p out.second (leb-true (length p) (length out.second) es), j, fits p out.third (leb-true (length p) (length out.third) et), k (leb-true (length p) 65535 el), fits_not x out.fourth (leb-false (length x) (length out.fourth) eu))
    expected true true true true true er es et el eu =
        ap trip_answer (given_steps strict big b x p out h i j (k (leb-true (length p) 65535 el)) (leb-true (length x) (length out.first) er) (leb-true (length p) (length out.second) es) (leb-true (length p) (length out.third) et) (leb-true (length x) (length out.fourth) eu))
        ∙ success_same x p out

  -- what `round_trip` answers where the steps give these sheets, with any buffers
  pub trip_exactly : (b x p : Bytes) (out : Buffers) → exported_as strict big b ≡ given x → imported big x ≡ given p → plained b ≡ given p → (IsShort p → exported_as strict big p ≡ given x)
      → (round_trip_outcome_as strict big b out).answer ≡ trip_expected x p out
  trip_exactly b x p out h i j k =
      expected b x p out h i j k (fits_in x out.first) (fits_in p out.second) (fits_in p out.third) (leb (length p) 65535) (fits_in x out.fourth) refl refl refl refl refl

  -- and to a field that meets the conditions
  pub round_trip_exactly : (e : Exportable big) (out : Buffers) → (round_trip_outcome_as strict big e.sheet out).answer ≡ trip_expected (export_of e) (plain_form_of e) out
  round_trip_exactly e out =
      trip_exactly e.sheet (export_of e) (plain_form_of e) out (as_exported strict e) (comes_back big e) (plained_given e) (as_again strict e)

-- ── the buffers after a call, by its number

pub zero_test : {n : ℕ} → n ≡ 0 → eqb n 0 ≡ true
zero_test {n} h = eq-eqb n 0 h

pub after_refusal : (n : ℕ) (s : Steps) (out : Buffers) → n ≢ 0 → buffers_after n s out ≡ cleared out
after_refusal n s out h = rw (ne_eqb n 0 h)

pub after_answer : (n : ℕ) (s : Steps) (out : Buffers) → n ≡ 0 → buffers_after n s out ≡ step_buffers s
after_answer n s out h = rw (zero_test h)

-- ── what an answer means, for every sheet and all buffers

-- no step was refused
pub record NoneRefused (s : Steps) : Type 0 where
  pub first : s.first.number ≡ 0
  pub second : s.second.number ≡ 0
  pub third : s.third.number ≡ 0
  pub fourth : s.fourth.number ≡ 0

-- what each answer says of the steps
abbrev pub Told : Steps → RoundTrip → Type 0
Told s all_same = NoneRefused s × (written s.second ≡ written s.third) × (written s.fourth ≡ written s.first)
Told s (export_refused n) = (s.first.number ≡ n) × (s.first.number ≢ 0)
Told s (import_refused n) = (s.second.number ≡ n) × (s.second.number ≢ 0) × (s.first.number ≡ 0)
Told s (plain_refused n) = (s.third.number ≡ n) × (s.third.number ≢ 0) × (s.first.number ≡ 0) × (s.second.number ≡ 0)
Told s (again_refused n) = (s.fourth.number ≡ n) × (s.fourth.number ≢ 0) × (s.first.number ≡ 0) × (s.second.number ≡ 0) × (s.third.number ≡ 0)
Told s import_differs = NoneRefused s × (same_written s.second s.third ≡ false)
Told s again_differs = NoneRefused s × (same_written s.second s.third ≡ true) × (same_written s.fourth s.first ≡ false)

told : (s : Steps) → Told s (trip_answer s)
told s = first (eqb s.first.number 0) refl
  where
    last : NoneRefused s → (t u : Bool) → same_written s.second s.third ≡ t → same_written s.fourth s.first ≡ u → Told s (trip_answer s)
    last z false u p q = rw (zero_test z.first, zero_test z.second, zero_test z.third, zero_test z.fourth, p) (z, p)
    last z true false p q = rw (zero_test z.first, zero_test z.second, zero_test z.third, zero_test z.fourth, p, q) (z, p, q)
    last z true true p q =
        rw (zero_test z.first, zero_test z.second, zero_test z.third, zero_test z.fourth, p, q)
        (z, same_eq (written s.second) (written s.third) p, same_eq (written s.fourth) (written s.first) q)

    fourth : s.first.number ≡ 0 → s.second.number ≡ 0 → s.third.number ≡ 0 → (t : Bool) → eqb s.fourth.number 0 ≡ t → Told s (trip_answer s)
    fourth a b c false e = rw (zero_test a, zero_test b, zero_test c, e) (refl, eqb-false s.fourth.number 0 e, a, b, c)
    fourth a b c true e = last (record { first = a; second = b; third = c; fourth = eqb-true s.fourth.number 0 e }) (same_written s.second s.third) (same_written s.fourth s.first) refl refl

    third : s.first.number ≡ 0 → s.second.number ≡ 0 → (t : Bool) → eqb s.third.number 0 ≡ t → Told s (trip_answer s)
    third a b false e = rw (zero_test a, zero_test b, e) (refl, eqb-false s.third.number 0 e, a, b)
    third a b true e = fourth a b (eqb-true s.third.number 0 e) (eqb s.fourth.number 0) refl

    second : s.first.number ≡ 0 → (t : Bool) → eqb s.second.number 0 ≡ t → Told s (trip_answer s)
    second a false e = rw (zero_test a, e) (refl, eqb-false s.second.number 0 e, a)
    second a true e = third a (eqb-true s.second.number 0 e) (eqb s.third.number 0) refl

    first : (t : Bool) → eqb s.first.number 0 ≡ t → Told s (trip_answer s)
    first false e = rw e (refl, eqb-false s.first.number 0 e)
    first true e = second (eqb-true s.first.number 0 e) (eqb s.second.number 0) refl

-- ── what each step says

-- a step that was not refused gave what stands within its length
pub zero_gave : (a : Answer Bytes) (out : Bytes) → (outcome a out).number ≡ 0 → a ≡ given (written (outcome a out))
zero_gave a out h =
    let z = zero_answers a out h in
    z.1 ∙ ap given (sym (ap written z.3 ∙ written_success z.0 out))

-- a step that was refused has a number of its answer's, or 16
pub number_among : (ns : List ℕ) (a : Answer Bytes) (out : Bytes) → Only ns a → (outcome a out).number ≢ 0 → one_of (16 ∷ ns) (outcome a out).number ≡ true
number_among ns a out h d = go (cases a out)
  where
    go : Cases a out → one_of (16 ∷ ns) (outcome a out).number ≡ true
    go (turned_back r e o) =
        subst (λ (n : ℕ). one_of (16 ∷ ns) n ≡ true) (sym (ap (λ (y : Outcome). y.number) o)) (rw (h r e) (or-true (eqb (number_of r) 16)))
    go (too_long x e l o) = subst (λ (n : ℕ). one_of (16 ∷ ns) n ≡ true) (sym (ap (λ (y : Outcome). y.number) o)) refl
    go (answered x e l o) = absurd (d (ap (λ (y : Outcome). y.number) o))

-- what import can answer to an export: 1 where it is too long to be handed in, and 9 for a dictionary index of 128 bits, which the strict one never writes
abbrev pub return_numbers_as : Bool → List ℕ
return_numbers_as true = 1 ∷ []
return_numbers_as false = return_numbers

-- a sheet that was exported and its plain form
pub record Both (big : Bool) (b x p : Bytes) : Type 0 where
  pub field : Field
  pub schema : Schema
  pub is_field : read_field_sheet b ≡ given field
  pub is_exported : schema_new big field ≡ given schema
  pub is_written : write_schema_sheet schema ≡ x
  pub is_plain : write_field_sheet (plain field) ≡ p

module _ (big : Bool) where
  pub both_of : (b x p : Bytes) → exported big b ≡ given x → plained b ≡ given p → Both big b x p
  unfolding exported plained
  both_of b x p h k =
      let f = first_gave (read_field_sheet b) _ x h in
      let s = first_gave (schema_new big f.0) _ x f.2 in
      let q : given (write_field_sheet (plain f.0)) ≡ given p = rw f.1 at k in
      record { field = f.0; schema = s.0; is_field = f.1; is_exported = s.1; is_written = same_given s.2; is_plain = same_given q }

  -- a sheet that can be exported has a plain form
  pub plain_there : (b x : Bytes) → exported big b ≡ given x → (p : Bytes) × (plained b ≡ given p)
  unfolding exported
  plain_there b x h =
      let f = first_gave (read_field_sheet b) _ x h in
      (write_field_sheet (plain f.0), plained_of b f.0 f.1)

  both_rule : {b x p : Bytes} → (t : Both big b x p) → Meets (field_rule (plain t.field))
  both_rule {b} t = plain_rule t.field (field_few t.field (field_sheet_short b t.field t.is_field)) (field_read b t.field t.is_field).0

  -- "exporting the plain form gives the same bytes as exporting the field": whatever is in the field
  again_any : {b x p : Bytes} → Both big b x p → IsShort p → exported big p ≡ given x
  unfolding exported
  again_any {b} {x} t short =
      let f = t.field in
      subst (λ y. IsShort y → exported big y ≡ given x) t.is_plain
      (λ l. rw (plain_read b f t.is_field l, export_plain big f, t.is_exported) (ap given t.is_written)) short

  -- by either export: what the strict one answered has neither a reserved key nor a wide index, and nor has its plain form
  pub again_as : (strict : Bool) (b x p : Bytes) → exported_as strict big b ≡ given x → plained b ≡ given p → IsShort p → exported_as strict big p ≡ given x
  again_as false b x p h k short = again_any (both_of b x p h k) short
  again_as true b x p h k short =
      let g = strict_gave big b x h in
      let q : write_field_sheet (plain g.0) ≡ p = same_given (sym (plained_of b g.0 g.1) ∙ k) in
      let r : read_field_sheet p ≡ given (plain g.0) = subst (λ y. IsShort y → read_field_sheet y ≡ given (plain g.0)) q (plain_read b g.0 g.1) short in
      strict_free big p (plain g.0) r (plain_free g.0 g.2) ∙ again_any (both_of b x p g.3 k) short

  -- plain forms that are equal have equal exports: whatever is in the fields
  pub alike_any : {b x p c y q : Bytes} → Both big b x p → Both big c y q → p ≡ q → x ≡ y
  alike_any t u e =
      let f : plain t.field ≡ plain u.field = sheet_field (plain t.field) (plain u.field) (both_rule t) (both_rule u) (t.is_plain ∙ e ∙ sym u.is_plain) in
      let s : t.schema ≡ u.schema = same_given (sym t.is_exported ∙ sym (export_plain big t.field) ∙ ap (schema_new big) f ∙ export_plain big u.field ∙ u.is_exported) in
      sym t.is_written ∙ ap write_schema_sheet s ∙ u.is_written

  again_numbers : (strict : Bool) (b x p : Bytes) → exported_as strict big b ≡ given x → plained b ≡ given p → Only (1 ∷ []) (exported_as strict big p)
  again_numbers strict b x p h k = pick (leb (length p) 65535) refl
    where
      pick : (s : Bool) → leb (length p) 65535 ≡ s → Only (1 ∷ []) (exported_as strict big p)
      pick true e = only_known (1 ∷ []) (exported_as strict big p) x (again_as strict b x p h k (leb-true (length p) 65535 e))
      pick false e = subst (λ (a : Answer Bytes). Only (1 ∷ []) a) (sym (too_long_lem big strict p e)) (only_refused (1 ∷ []) not_sheet refl)

  -- a sheet that is too long is refused with 1
  long_import : (x : Bytes) → leb (length x) 65535 ≡ false → imported big x ≡ refused not_sheet
  unfolding imported
  long_import x h = rw h

  -- a sheet that was answered was short
  short_imported : (x y : Bytes) → imported big x ≡ given y → IsShort x
  short_imported x y h = pick (leb (length x) 65535) refl
    where
      pick : (s : Bool) → leb (length x) 65535 ≡ s → IsShort x
      pick true e = leb-true (length x) 65535 e
      pick false e = not_given (sym (long_import x e) ∙ h)

  short_exported : (strict : Bool) (x y : Bytes) → exported_as strict big x ≡ given y → IsShort x
  short_exported strict x y h = pick (leb (length x) 65535) refl
    where
      pick : (s : Bool) → leb (length x) 65535 ≡ s → IsShort x
      pick true e = leb-true (length x) 65535 e
      pick false e = not_given (sym (too_long_lem big strict x e) ∙ h)

  -- what the strict export answered comes back, where it is short
  pub strict_returned : (b x : Bytes) → strict_exported big b ≡ given x → IsShort x → imported big x ≡ plained b
  strict_returned b x h short =
      let g = strict_gave big b x h in
      returned big b x g.0 g.1 g.2 g.3 short ∙ sym (plained_of b g.0 g.1)

  return_numbers_as_lem : (strict : Bool) (b x : Bytes) → exported_as strict big b ≡ given x → Only (return_numbers_as strict) (imported big x)
  return_numbers_as_lem false b x h = return_numbers_lem big b x h
  return_numbers_as_lem true b x h = pick (leb (length x) 65535) refl
    where
      pick : (s : Bool) → leb (length x) 65535 ≡ s → Only (1 ∷ []) (imported big x)
      pick true e =
          let p = plain_there b x (as_gave big true b x h) in
          only_known (1 ∷ []) (imported big x) p.0 (strict_returned b x h (leb-true (length x) 65535 e) ∙ p.1)
      pick false e = subst (λ (a : Answer Bytes). Only (1 ∷ []) a) (sym (long_import x e)) (only_refused (1 ∷ []) not_sheet refl)

-- ── the laws, for every sheet and all buffers

module _ (strict big : Bool) where
  module _ (b : Bytes) (out : Buffers) where
    abbrev Says : RoundTrip → Type 0
    Says x = (round_trip_outcome_as strict big b out).answer ≡ x

    abbrev steps : Steps
    steps = trip_steps strict big b out

    -- what the first step gave, and the third, where they were not refused
    first_gives : steps.first.number ≡ 0 → exported_as strict big b ≡ given (written steps.first)
    first_gives z = zero_gave (exported_as strict big b) out.first z

    third_gives : steps.third.number ≡ 0 → plained b ≡ given (written steps.third)
    third_gives z = zero_gave (plained b) out.third z

    -- what the answer x says of the steps
    pub says : (x : RoundTrip) → Says x → Told steps x
    says x h = subst (Told steps) h (told steps)

    -- it never says that all is the same when a step was refused, or when the bytes differ
    pub same_means : Says all_same → NoneRefused steps × (written steps.second ≡ written steps.third) × (written steps.fourth ≡ written steps.first)
    same_means h = says all_same h

    -- a refused export: the numbers of the sheet's maker, of the field's owner, or 16; 17 and 18 are among them if it is strict
    pub export_refused_lem : (n : ℕ) → Says (export_refused n) → one_of (16 ∷ export_numbers_as strict) n ≡ true
    export_refused_lem n h =
        let t = says (export_refused n) h in
        subst (λ (m : ℕ). one_of (16 ∷ export_numbers_as strict) m ≡ true) t.0 (number_among (export_numbers_as strict) (exported_as strict big b) out.first (export_numbers_as_lem strict big b) t.1)

    -- a refused import: 1 where the export is too long to be handed in, 9 for a dictionary index of 128 bits, or 16; no 9 if it is strict
    pub import_refused_lem : (n : ℕ) → Says (import_refused n) → one_of (16 ∷ return_numbers_as strict) n ≡ true
    import_refused_lem n h =
        let t = says (import_refused n) h in
        let only = return_numbers_as_lem big strict b (written steps.first) (first_gives t.2) in
        subst (λ (m : ℕ). one_of (16 ∷ return_numbers_as strict) m ≡ true) t.0 (number_among (return_numbers_as strict) (imported big (written steps.first)) out.second only t.1)

    -- a refused plain form: 16 only
    pub plain_refused_lem : (n : ℕ) → Says (plain_refused n) → one_of (16 ∷ []) n ≡ true
    plain_refused_lem n h =
        let t = says (plain_refused n) h in
        let p = plain_there big b (written steps.first) (as_gave big strict b (written steps.first) (first_gives t.2)) in
        subst (λ (m : ℕ). one_of (16 ∷ []) m ≡ true) t.0 (number_among [] (plained b) out.third (only_known [] (plained b) p.0 p.1) t.1)

    -- a refused second export: 1 where the plain form is too long to be handed in, or 16
    pub again_refused_lem : (n : ℕ) → Says (again_refused n) → one_of (16 ∷ 1 ∷ []) n ≡ true
    again_refused_lem n h =
        let t = says (again_refused n) h in
        subst (λ (m : ℕ). one_of (16 ∷ 1 ∷ []) m ≡ true) t.0 (number_among (1 ∷ []) (exported_as strict big (written steps.third)) out.fourth (again_numbers big strict b (written steps.first) (written steps.third) (first_gives t.2) (third_gives t.4)) t.1)

    -- the second export never differs from the first, whatever is in the field
    pub again_never_differs : Says again_differs → ⊥
    again_never_differs h =
        let t = says again_differs h in
        never (sym t.2 ∙ ap (λ (y : Bytes). same y (written steps.first)) (alike t.0) ∙ same_refl (written steps.first))
      where
        alike : NoneRefused steps → written steps.fourth ≡ written steps.first
        alike z =
            let four = zero_gave (exported_as strict big (written steps.third)) out.fourth z.fourth in
            let short = short_exported big strict (written steps.third) (written steps.fourth) four in
            same_given (sym four ∙ again_as big strict b (written steps.first) (written steps.third) (first_gives z.first) (third_gives z.third) short)

    -- import gives another field than the plain form only where a key is reserved or an index has 128 bits
    pub import_differs_lem : Says import_differs → (f : Field) → read_field_sheet b ≡ given f → NoReservedKey f → NoWideIndex f → ⊥
    import_differs_lem h f r k w =
        let t = says import_differs h in
        never (sym t.1 ∙ ap (λ (y : Bytes). same y (written steps.third)) (alike t.0) ∙ same_refl (written steps.third))
      where
        alike : NoneRefused steps → written steps.second ≡ written steps.third
        alike z =
            let two = zero_gave (imported big (written steps.first)) out.second z.second in
            let one = as_gave big strict b (written steps.first) (first_gives z.first) in
            let short = short_imported big (written steps.first) (written steps.second) two in
            same_given (sym two ∙ returned big b (written steps.first) f r (free f k w) one short ∙ sym (plained_of b f r) ∙ third_gives z.third)

    -- the number of the answer is at most the last, and 0 exactly if no step was refused
    pub number_means : (round_trip_number (round_trip_outcome_as strict big b out).answer ≤ last_number) × ((round_trip_number (round_trip_outcome_as strict big b out).answer ≡ 0) ↔ NoneRefused steps)
    number_means = go (round_trip_outcome_as strict big b out).answer (told steps)
      where
        go : (r : RoundTrip) → Told steps r → (round_trip_number r ≤ last_number) × ((round_trip_number r ≡ 0) ↔ NoneRefused steps)
        go all_same t = (omega arith, (λ e. t.0, λ z. refl))
        go (export_refused n) t = (omega (arith, t.0, number_at_most (exported_as strict big b) out.first), (λ e. absurd (t.1 (t.0 ∙ e)), λ z. sym t.0 ∙ z.first))
        go (import_refused n) t =
            (omega (arith, t.0, number_at_most (imported big (written steps.first)) out.second), (λ e. absurd (t.1 (t.0 ∙ e)), λ z. sym t.0 ∙ z.second))
        go (plain_refused n) t = (omega (arith, t.0, number_at_most (plained b) out.third), (λ e. absurd (t.1 (t.0 ∙ e)), λ z. sym t.0 ∙ z.third))
        go (again_refused n) t =
            (omega (arith, t.0, number_at_most (exported_as strict big (written steps.third)) out.fourth), (λ e. absurd (t.1 (t.0 ∙ e)), λ z. sym t.0 ∙ z.fourth))
        go import_differs t = (omega arith, (λ e. t.0, λ z. refl))
        go again_differs t = (omega arith, (λ e. t.0, λ z. refl))

    -- every lent byte: zeros where a step was refused, else what the steps left
    pub refused_clears : round_trip_number (round_trip_outcome_as strict big b out).answer ≢ 0 → (round_trip_outcome_as strict big b out).buffers ≡ cleared out
    refused_clears h = after_refusal (round_trip_number (round_trip_outcome_as strict big b out).answer) steps out h

    pub answered_keeps : round_trip_number (round_trip_outcome_as strict big b out).answer ≡ 0 → (round_trip_outcome_as strict big b out).buffers ≡ step_buffers steps
    answered_keeps h = after_answer (round_trip_number (round_trip_outcome_as strict big b out).answer) steps out h
