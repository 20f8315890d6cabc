-- What the calls that measure answer (document 02, #105), against the conversion that they measure: said once, for any answer and any number of lines
-- (`Measures`, `measures`), then of import and of export. By cases of the answer, and, where it is a sheet, of the test whether the buffer holds it; what
-- the conversion answers then is in OutcomeLaws. That an accepted sheet has a byte and a line at least is its heading's byte 10 and its first line. Assumes
-- nothing.
use mathlib.Core.Path.{◌≡◌, refl, sym, ap, subst}
use mathlib.Core.Logic.{◌↔◌, ◌≢◌}
use mathlib.Core.Bool.{Bool, true, false}
use mathlib.Core.List.{List, ◌∷◌}
use Rattle.std.specs.Prelude.{Option, Some}
use Prim.Native.Nat.{ℕ, ◌≤◌, ◌<◌}
use native.Mathlib.Omega.{arith}
use lib.Dec.{leb}
use lib.ListN.{length, length-append}
use borrow.Author.Tests.{leb-true, leb-false}
use Rattle.sheets.specs.Bytes.{Bytes, line_end}
use Rattle.sheets.specs.Refusal.{no_room, last_number}
use Rattle.sheets.specs.Answer.{Answer, refused, given, ◌>>=◌}
use Rattle.sheets.specs.Sheet.{ended, write_sheet}
use Rattle.sheets.specs.Schema.{Schema, schema, schema_heading, schema_lines, read_schema_sheet}
use Rattle.sheets.specs.Field.{Info, ArrowDataType, scalar, nested, grouped, dictionary, extension, Field}
use Rattle.sheets.specs.FieldSheet.{field_heading, type_lines, read_field_sheet}
use Rattle.sheets.specs.Import.{to_field}
use Rattle.sheets.specs.Export.{schema_new}
use Rattle.sheets.specs.Visits.{import_lines, export_visits, export_lines}
use Rattle.sheets.specs.Outcome.{Outcome, imported, exported, outcome, import_outcome_in, export_outcome_in, Measure, measure, lines_in, measure_import_outcome, measure_export_outcome}
use Rattle.sheets.proofs.Tests.{not_given, same_given}
use Rattle.sheets.proofs.OutcomeLaws.{number_range, turned, fits, fits_not}

-- what a measure says of a conversion that is lent a buffer
pub record Measures (convert : Bytes → Outcome) (m : Measure) : Type 0 where
  -- "The length is the least buffer that is not given 16"
  pub least : m.number ≡ 0 → (out : Bytes) → ((convert out).number ≢ no_room) ↔ (m.size ≤ length out)
  -- "and one byte fewer is given it"; every shorter one too
  pub fewer : m.number ≡ 0 → (out : Bytes) → ((convert out).number ≡ no_room) ↔ (length out < m.size)
  -- "the exact length the import or export would write"
  pub exact : m.number ≡ 0 → (out : Bytes) → m.size ≤ length out → ((convert out).number ≡ 0) × ((convert out).size ≡ m.size)
  -- so there is one byte fewer, and there is a line
  pub positive : m.number ≡ 0 → (1 ≤ m.size) × (1 ≤ m.lines)
  -- "An input that the conversion refuses for another cause gets that same number here, with both counts 0"
  pub cause : (out : Bytes) → (convert out).number ≢ 0 → (convert out).number ≢ no_room → m.number ≡ (convert out).number
  pub zeros : m.number ≢ 0 → (m.size ≡ 0) × (m.lines ≡ 0)
  -- and a number here is the conversion's, whatever it is lent
  pub same : m.number ≢ 0 → (out : Bytes) → (convert out).number ≡ m.number
  -- "for another cause": it is lent no buffer, so 16 never comes
  pub at_most : m.number ≤ last_number
  pub not_no_room : m.number ≢ no_room

-- the number of an answer, in a buffer that holds it and in one that does not
fits_number : (x out : Bytes) → length x ≤ length out → (outcome (given x) out).number ≡ 0
fits_number x out h = ap (λ (y : Outcome). y.number) (fits x out h)

short_number : (x out : Bytes) → length out < length x → (outcome (given x) out).number ≡ no_room
short_number x out h = ap (λ (y : Outcome). y.number) (fits_not x out h)

-- it holds it or not
by_room : {P : Type 0} (x out : Bytes) → (length x ≤ length out → P) → (length out < length x → P) → P
by_room {P} x out room short = pick (leb (length x) (length out)) refl
  where
    pick : (t : Bool) → leb (length x) (length out) ≡ t → P
    pick true e = room (leb-true (length x) (length out) e)
    pick false e = short (leb-false (length x) (length out) e)

pub measures : (a : Answer Bytes) (n : ℕ) → ((x : Bytes) → a ≡ given x → (1 ≤ length x) × (1 ≤ n)) → Measures (outcome a) (measure a n)
measures (refused r) n large =
    record {
      least = λ h out. absurd (omega (arith, number_range r));
      fewer = λ h out. absurd (omega (arith, number_range r));
      exact = λ h out k. absurd (omega (arith, number_range r));
      positive = λ h. absurd (omega (arith, number_range r));
      cause = λ out h k. sym (ap (λ (y : Outcome). y.number) (turned r out));
      zeros = λ h. (refl, refl);
      same = λ h out. ap (λ (y : Outcome). y.number) (turned r out);
      at_most = (number_range r).1;
      not_no_room = (number_range r).2;
    }
measures (given x) n large =
    record {
      least = λ h out. (λ d. by_room x out (λ k. k) (λ k. absurd (d (short_number x out k))), λ k e. omega (arith, fits_number x out k));
      fewer = λ h out. (λ e. by_room x out (λ k. absurd (omega (arith, fits_number x out k))) (λ k. k), λ k. short_number x out k);
      exact = λ h out k. (fits_number x out k, ap (λ (y : Outcome). y.size) (fits x out k));
      positive = λ h. large x refl;
      cause = λ out h k. by_room x out (λ l. absurd (h (fits_number x out l))) (λ l. absurd (k (short_number x out l)));
      zeros = λ h. absurd (h refl);
      same = λ h out. absurd (h refl);
      at_most = omega arith;
      not_no_room = omega arith;
    }

-- ── import and export

-- what was read, converted and written under a heading: a sheet of a byte at least, and a line at least
read_some : {A B : Type 0} (a : Answer A) (convert : A → Answer B) (heading : Bytes) (ls : B → List Bytes) (lines : A → ℕ) → ((s : A) → 1 ≤ lines s)
    → (x : Bytes) → (a >>= λ s. convert s >>= λ f. given (write_sheet heading (ls f))) ≡ given x → (1 ≤ length x) × (1 ≤ lines_in lines a)
read_some (refused r) convert heading ls lines least x h = not_given h
read_some {B = B} (given s) convert heading ls lines least x h = (written (convert s) h, least s)
  where
    written : (c : Answer B) → (c >>= λ f. given (write_sheet heading (ls f))) ≡ given x → 1 ≤ length x
    written (refused r) e = not_given e
    written (given f) e = subst (λ (y : Bytes). 1 ≤ length y) (same_given e) (omega (arith, length-append heading (line_end ∷ ended (ls f))))

pub import_some : (s : Schema) → 1 ≤ import_lines s
unfolding import_lines
import_some (schema n cs d) = omega arith

pub export_some : (f : Field) → 1 ≤ export_lines f
unfolding export_lines
export_some f = go f.type (Some f.info) false
  where
    go : (t : ArrowDataType) (i : Option Info) (inside : Bool) → 1 ≤ length (export_visits t i inside)
    go (scalar s) i inside = omega arith
    go (nested n j t) i inside = omega arith
    go (grouped g fs) i inside = omega arith
    go (dictionary ix ordered t) i false = omega arith
    go (dictionary ix ordered t) i true = omega arith
    go (extension n m t) i inside = omega arith

pub import_measures : (big : Bool) (b : Bytes) → Measures (import_outcome_in big b) (measure_import_outcome big b)
unfolding imported
import_measures big b =
    measures (imported big b) (lines_in import_lines (read_schema_sheet b))
    (read_some (read_schema_sheet b) (to_field big) field_heading (λ f. type_lines f.type (Some f.info)) import_lines import_some)

pub export_measures : (big : Bool) (b : Bytes) → Measures (export_outcome_in big b) (measure_export_outcome big b)
unfolding exported
export_measures big b =
    measures (exported big b) (lines_in export_lines (read_field_sheet b)) (read_some (read_field_sheet b) (schema_new big) schema_heading schema_lines export_lines export_some)
