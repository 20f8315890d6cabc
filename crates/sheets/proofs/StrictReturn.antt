-- Document 02, #106, proved, once for both orders of the metadata: the request's statements (`strict_return`), and what `round_trip` answers with the strict
-- export (`strict_trip`). What the tests find is in StrictConditions; a field in which they find neither meets the conditions of demand 3, so its export comes
-- back (Demand3); its plain form meets them too (ConditionLaws), so that is exported strictly (RoundTripLaws). Assumes nothing.
use mathlib.Core.Path.{◌≡◌, refl, sym, ◌∙◌, ap, subst}
use mathlib.Core.Logic.{◌↔◌, ◌≢◌}
use mathlib.Core.Bool.{Bool, true, false}
use mathlib.Core.List.{List, ◌∷◌}
use Rattle.std.specs.Prelude.{Some}
use Prim.Native.Nat.{ℕ}
use native.Mathlib.Omega.{arith}
use Rattle.sheets.specs.Refusal.{Refusal, reserved_key, wide_index, number_of, one_of}
use Rattle.sheets.specs.Bytes.{Bytes}
use Rattle.sheets.specs.Rule.{passes}
use Rattle.sheets.specs.Answer.{Answer, refused, given, ◌>>=◌}
use Rattle.sheets.specs.Sheet.{write_sheet}
use Rattle.sheets.specs.Field.{Field}
use Rattle.sheets.specs.FieldSheet.{field_heading, read_field_sheet}
use Rattle.sheets.specs.FieldTrees.{Head}
use Rattle.sheets.specs.Strict.{keys_rule, index_rule, type_heads, lines_return, field_returns}
use Rattle.sheets.specs.Outcome.{Outcome, outcome, imported, exported, strict_exported, plained, export_outcome_in, strict_export_outcome}
use Rattle.sheets.specs.Demand3.{IsShort}
use Rattle.sheets.specs.RoundTrip.{Buffers, RoundTrip, all_same, export_refused, import_refused, plain_refused, again_refused, import_differs, again_differs, strict_round_trip_outcome}
use Rattle.sheets.specs.StrictReturn.{FirstLine, StrictlyExported, strict_export_of, StrictReturn, StrictAnswer, StrictTrip}
use Rattle.sheets.proofs.Tests.{never}
use Rattle.sheets.proofs.OutcomeLaws.{turned}
use Rattle.sheets.proofs.FieldSheetLaws.{field_sheet_read}
use Rattle.sheets.proofs.OnlyLaws.{export_numbers, export_numbers_lem}
use Rattle.sheets.proofs.ConditionLaws.{free, free_each}
use Rattle.sheets.proofs.StrictConditions.{heads_lines, Found, clear, at_key, at_index, found_in, key_first, index_first, lines_after, strict_read, strict_form, export_form, strict_free, strict_gave, as_gave}
use Rattle.sheets.proofs.RoundTripLaws.{zero_gave, number_among, both_of, plain_there, alike_any, again_as, strict_returned, trip_given, trip_expected, trip_exactly, export_refused_lem, import_refused_lem, plain_refused_lem, again_refused_lem, again_never_differs, import_differs_lem, says}

-- ── what is found

abbrev heads : Field → List Head
heads f = type_heads f.type (Some f.info)

module _ (big : Bool) (b : Bytes) (f : Field) (r : read_field_sheet b ≡ given f) (out : Bytes) where
  abbrev number : ℕ
  number = (strict_export_outcome big b out).number

  -- the number of what the tests find
  found_number : (q : Refusal) → field_returns f ≡ refused q → number ≡ number_of q
  found_number q h =
      let a : strict_exported big b ≡ refused q = strict_read big b f r ∙ ap (λ (a : Answer (Unit {0})). a >>= λ u. exported big b) h in
      ap (λ (y : Outcome). y.number) (ap (λ (a : Answer Bytes). outcome a out) a ∙ turned q out)

  -- where they find neither, the number is the present export's, which is neither 17 nor 18
  clear_number : field_returns f ≡ given tt → (n : ℕ) → number ≡ n → n ≢ 0 → one_of (16 ∷ export_numbers) n ≡ true
  clear_number h n e z =
      let a : strict_exported big b ≡ exported big b = strict_read big b f r ∙ ap (λ (a : Answer (Unit {0})). a >>= λ u. exported big b) h in
      let p : (export_outcome_in big b out).number ≡ n = ap (λ (a : Answer Bytes). (outcome a out).number) (sym a) ∙ e in
      subst (λ (m : ℕ). one_of (16 ∷ export_numbers) m ≡ true) p (number_among export_numbers (exported big b) out (export_numbers_lem big b) (λ y. z (sym p ∙ y)))

  pub reserved_exactly_lem : (number ≡ number_of reserved_key) ↔ ((h : Head) × FirstLine f h × (passes (keys_rule h.info) ≡ false))
  reserved_exactly_lem = (λ e. there e (found_in (heads f)), λ (h, l, k). back h l k)
    where
      there : number ≡ number_of reserved_key → Found (heads f) → (h : Head) × FirstLine f h × (passes (keys_rule h.info) ≡ false)
      there e (clear m c) = never (clear_number c 17 e (omega arith))
      there e (at_key before h after p m k c) = (h, record { before = before; after = after; lines = p; neither_before = m }, k)
      there e (at_index before h after p m k x c) = absurd (omega (arith, sym e ∙ found_number wide_index c))

      back : (h : Head) → FirstLine f h → passes (keys_rule h.info) ≡ false → number ≡ number_of reserved_key
      back h l k = found_number reserved_key (ap lines_return l.lines ∙ lines_after l.before (h ∷ l.after) l.neither_before ∙ key_first h l.after k)

  pub wide_exactly_lem : (number ≡ number_of wide_index) ↔ ((h : Head) × FirstLine f h × (passes (keys_rule h.info) ≡ true) × (passes (index_rule h.shape) ≡ false))
  wide_exactly_lem = (λ e. there e (found_in (heads f)), λ (h, l, k, x). back h l k x)
    where
      there : number ≡ number_of wide_index → Found (heads f) → (h : Head) × FirstLine f h × (passes (keys_rule h.info) ≡ true) × (passes (index_rule h.shape) ≡ false)
      there e (clear m c) = never (clear_number c 18 e (omega arith))
      there e (at_key before h after p m k c) = absurd (omega (arith, sym e ∙ found_number reserved_key c))
      there e (at_index before h after p m k x c) = (h, record { before = before; after = after; lines = p; neither_before = m }, k, x)

      back : (h : Head) → FirstLine f h → passes (keys_rule h.info) ≡ true → passes (index_rule h.shape) ≡ false → number ≡ number_of wide_index
      back h l k x = found_number wide_index (ap lines_return l.lines ∙ lines_after l.before (h ∷ l.after) l.neither_before ∙ index_first h l.after k x)

-- ── what was answered

module _ {big : Bool} where
  strict_given : (e : StrictlyExported big) → strict_exported big e.sheet ≡ given (strict_export_of e)
  strict_given e = zero_gave (strict_exported big e.sheet) e.buffer e.answers_zero

  present_given : (e : StrictlyExported big) → exported big e.sheet ≡ given (strict_export_of e)
  present_given e = as_gave big true e.sheet (strict_export_of e) (strict_given e)

  comes_back : (e : StrictlyExported big) → imported big (strict_export_of e) ≡ plained e.sheet
  comes_back e = strict_returned big e.sheet (strict_export_of e) (strict_given e) e.short_export

  has_plain_lem : (e : StrictlyExported big) → (p : Bytes) × (plained e.sheet ≡ given p)
  has_plain_lem e = plain_there big e.sheet (strict_export_of e) (present_given e)

  goes_again : (e : StrictlyExported big) (p : Bytes) → plained e.sheet ≡ given p → IsShort p → strict_exported big p ≡ given (strict_export_of e)
  goes_again e p k short = again_as big true e.sheet (strict_export_of e) p (strict_given e) k short

  same_export : (d e : StrictlyExported big) → plained d.sheet ≡ plained e.sheet → strict_export_of d ≡ strict_export_of e
  same_export d e h =
      let p = has_plain_lem d in
      alike_any big (both_of big d.sheet (strict_export_of d) p.0 (present_given d) p.1) (both_of big e.sheet (strict_export_of e) p.0 (present_given e) (sym h ∙ p.1)) refl

-- ── the request

pub strict_return : (big : Bool) → StrictReturn big
strict_return big =
    record {
      all_lines = λ b f r. field_sheet_read b f r ∙ ap (write_sheet field_heading) (sym (heads_lines f.type (Some f.info)));
      as_export = λ b f r k w out. ap (λ (a : Answer Bytes). outcome a out) (strict_free big b f r (free f k w));
      as_form = λ b r h out. ap (λ (a : Answer Bytes). outcome a out) (strict_form big b r h ∙ sym (export_form big b r h));
      reserved_exactly = λ b f r out. reserved_exactly_lem big b f r out;
      wide_exactly = λ b f r out. wide_exactly_lem big b f r out;
      imports_back = λ e out. ap (λ (a : Answer Bytes). outcome a out) (comes_back e);
      has_plain = has_plain_lem;
      exports_again = λ e p k short out. ap (λ (a : Answer Bytes). outcome a out) (goes_again e p k short ∙ sym (strict_given e));
      same_exports = λ d e. (λ h. sym (comes_back d) ∙ ap (imported big) h ∙ comes_back e, same_export d e);
    }

-- ── `round_trip`

module _ (big : Bool) (sheet : Bytes) (out : Buffers) where
  -- import gives the plain form, whatever is in the field: what the strict export answered meets both conditions
  import_never_differs : (strict_round_trip_outcome big sheet out).answer ≡ import_differs → ⊥
  import_never_differs h =
      let z = (says true big sheet out import_differs h).0 in
      let g = strict_gave big sheet _ (zero_gave (strict_exported big sheet) out.first z.first) in
      let c = free_each g.0 g.2 in
      import_differs_lem true big sheet out h g.0 g.1 c.0 c.1

  strict_answers : StrictAnswer (strict_round_trip_outcome big sheet out).answer
  strict_answers = go (strict_round_trip_outcome big sheet out).answer refl
    where
      go : (x : RoundTrip) → (strict_round_trip_outcome big sheet out).answer ≡ x → StrictAnswer x
      go all_same h = tt
      go (export_refused n) h = export_refused_lem true big sheet out n h
      go (import_refused n) h = import_refused_lem true big sheet out n h
      go (plain_refused n) h = plain_refused_lem true big sheet out n h
      go (again_refused n) h = again_refused_lem true big sheet out n h
      go import_differs h = import_never_differs h
      go again_differs h = again_never_differs true big sheet out h

-- and exactly this to a sheet that was exported strictly, with any buffers
pub strict_exactly : {big : Bool} (e : StrictlyExported big) (p : Bytes) → plained e.sheet ≡ given p → (out : Buffers) → (strict_round_trip_outcome big e.sheet out).answer ≡ trip_expected (strict_export_of e) p out
strict_exactly {big} e p k out = trip_exactly true big e.sheet (strict_export_of e) p out (strict_given e) (comes_back e ∙ k) k (goes_again e p k)

pub strict_trip : (big : Bool) → StrictTrip big
strict_trip big =
    record {
      answers = strict_answers big;
      returns = λ e p k short out room. trip_given true big e.sheet (strict_export_of e) p out (strict_given e) (comes_back e ∙ k) k (goes_again e p k short) room.first room.second room.third room.fourth;
    }
