-- What every public call keeps to (demand 1). One that answers a sheet: its number is at most `last_number`; a number that is not 0 comes with length 0 and
-- zeros; 0 comes with the sheet and with what the buffer held past it; 16 comes exactly if the sheet is longer than the buffer. One that answers
-- numbers (`Keeps`): its number is at most `last_number` and not 16, 0 exactly if there is an answer, and else all is 0. By cases of the answer and of the one
-- test. Which of the numbers each call can give is in CallNumbers. Assumes nothing.
use mathlib.Core.Path.{◌≡◌, refl, sym, ◌∙◌, ap}
use mathlib.Core.Logic.{◌↔◌, ◌≢◌}
use mathlib.Core.Bool.{Bool, true, false}
use mathlib.Core.List.{[], ◌∷◌, ◌++◌}
use Prim.Native.Nat.{ℕ, zero, suc, ◌≤◌, ◌<◌}
use native.Mathlib.Omega.{arith}
use lib.Dec.{leb}
use lib.ListN.{length, take, drop, replicate}
use borrow.Author.Tests.{le-leb, lt-leb, leb-true, leb-false}
use Rattle.sheets.specs.Bytes.{Bytes}
use Rattle.sheets.specs.Refusal.{Refusal, not_sheet, bad_lines, too_deep, null_format, not_utf8, unsupported_format, bad_number, bad_decimal, bad_index, no_child, bad_metadata, no_format, no_union_ids, zero_byte, undefined_mapping, reserved_key, wide_index, number_of, no_room, last_number}
use Rattle.sheets.specs.Answer.{Answer, refused, given}
use Rattle.sheets.specs.Mappings.{PhysicalType}
use Rattle.sheets.specs.Outcome.{Outcome, success, refusal, outcome, places, yes_no}
use Rattle.sheets.proofs.Tests.{not_given}

-- the numbers of refusals are from 1 to the last, without 16, which is the caller's
pub number_range : (r : Refusal) → (1 ≤ number_of r) × (number_of r ≤ last_number) × (number_of r ≢ no_room)
number_range not_sheet = omega arith
number_range bad_lines = omega arith
number_range too_deep = omega arith
number_range null_format = omega arith
number_range not_utf8 = omega arith
number_range unsupported_format = omega arith
number_range bad_number = omega arith
number_range bad_decimal = omega arith
number_range bad_index = omega arith
number_range no_child = omega arith
number_range bad_metadata = omega arith
number_range no_format = omega arith
number_range no_union_ids = omega arith
number_range zero_byte = omega arith
number_range undefined_mapping = omega arith
number_range reserved_key = omega arith
number_range wide_index = omega arith

-- the outcome of a refusal, of an answer that fits, and of one that does not
pub turned : (r : Refusal) (out : Bytes) → outcome (refused r) out ≡ refusal (number_of r) out
unfolding outcome
turned r out = refl

pub fits : (x out : Bytes) → length x ≤ length out → outcome (given x) out ≡ success x out
unfolding outcome
fits x out h = rw (le-leb (length x) (length out) h)

pub fits_not : (x out : Bytes) → length out < length x → outcome (given x) out ≡ refusal no_room out
unfolding outcome
fits_not x out h = rw (lt-leb (length x) (length out) h)

-- the three cases of an outcome
pub data Cases (a : Answer Bytes) (out : Bytes) : Type 0 where
  turned_back : (r : Refusal) → a ≡ refused r → outcome a out ≡ refusal (number_of r) out → Cases a out
  too_long : (x : Bytes) → a ≡ given x → length out < length x → outcome a out ≡ refusal no_room out → Cases a out
  answered : (x : Bytes) → a ≡ given x → length x ≤ length out → outcome a out ≡ success x out → Cases a out

pub cases : (a : Answer Bytes) (out : Bytes) → Cases a out
cases (refused r) out = turned_back r refl (turned r out)
cases (given x) out = pick (leb (length x) (length out)) refl
  where
    pick : (t : Bool) → leb (length x) (length out) ≡ t → Cases (given x) out
    pick true e = answered x refl (leb-true (length x) (length out) e) (fits x out (leb-true (length x) (length out) e))
    pick false e = too_long x refl (leb-false (length x) (length out) e) (fits_not x out (leb-false (length x) (length out) e))

-- a number is at most the last
pub number_at_most : (a : Answer Bytes) (out : Bytes) → (outcome a out).number ≤ last_number
number_at_most a out = go (cases a out)
  where
    go : Cases a out → (outcome a out).number ≤ last_number
    go (turned_back r e o) = omega (arith, ap (λ (y : Outcome). y.number) o, number_range r)
    go (too_long x e l o) = omega (arith, ap (λ (y : Outcome). y.number) o)
    go (answered x e l o) = omega (arith, ap (λ (y : Outcome). y.number) o)

-- "A refusal gives length 0, an output buffer of zeros"
pub refusal_empty : (a : Answer Bytes) (out : Bytes) → (outcome a out).number ≢ 0 → ((outcome a out).size ≡ 0) × ((outcome a out).buffer ≡ replicate (length out) 0)
refusal_empty a out h = go (cases a out)
  where
    go : Cases a out → ((outcome a out).size ≡ 0) × ((outcome a out).buffer ≡ replicate (length out) 0)
    go (turned_back r e o) = (ap (λ (y : Outcome). y.size) o, ap (λ (y : Outcome). y.buffer) o)
    go (too_long x e l o) = (ap (λ (y : Outcome). y.size) o, ap (λ (y : Outcome). y.buffer) o)
    go (answered x e l o) = absurd (h (ap (λ (y : Outcome). y.number) o))

-- 0 comes with the sheet
pub zero_answers : (a : Answer Bytes) (out : Bytes) → (outcome a out).number ≡ 0 → (x : Bytes) × (a ≡ given x) × (length x ≤ length out) × (outcome a out ≡ success x out)
zero_answers a out h = go (cases a out)
  where
    go : Cases a out → (x : Bytes) × (a ≡ given x) × (length x ≤ length out) × (outcome a out ≡ success x out)
    go (turned_back r e o) = absurd (omega (arith, sym h ∙ ap (λ (y : Outcome). y.number) o, number_range r))
    go (too_long x e l o) = absurd (omega (arith, sym h ∙ ap (λ (y : Outcome). y.number) o))
    go (answered x e l o) = (x, e, l, o)

-- "16 comes exactly if the sheet is longer than the buffer"
pub sixteen_exactly : (a : Answer Bytes) (out : Bytes) → ((outcome a out).number ≡ no_room) ↔ ((x : Bytes) × (a ≡ given x) × (length out < length x))
sixteen_exactly a out = (λ h. go h (cases a out), λ w. back w.0 w.1 w.2)
  where
    go : (outcome a out).number ≡ no_room → Cases a out → (x : Bytes) × (a ≡ given x) × (length out < length x)
    go h (turned_back r e o) = absurd ((number_range r).2 (sym (ap (λ (y : Outcome). y.number) o) ∙ h))
    go h (too_long x e l o) = (x, e, l)
    go h (answered x e l o) = absurd (omega (arith, sym h ∙ ap (λ (y : Outcome). y.number) o))

    back : (x : Bytes) → a ≡ given x → length out < length x → (outcome a out).number ≡ no_room
    back x e l = ap (λ (y : Outcome). y.number) (ap (λ (c : Answer Bytes). outcome c out) e ∙ fits_not x out l)

-- what stands within the length is the sheet
pub written_success : (x out : Bytes) → take (success x out).size (success x out).buffer ≡ x
written_success x out = first x (drop (length x) out)
  where
    first : (a b : Bytes) → take (length a) (a ++ b) ≡ a
    first [] b = refl
    first (y ∷ a) b = ap (λ l. y ∷ l) (first a b)

-- ── calls that answer numbers

-- They are lent no buffer, so the number is never 16; it is 0 exactly if there is an answer; "Refusal is the number with length 0, yes/no answers 0", and of
-- a physical type "both 0 on refusal".
pub record Keeps {A : Type 0} (a : Answer A) (number : ℕ) (AllZero : Type 0) : Type 0 where
  pub at_most : number ≤ last_number
  pub not_no_room : number ≢ no_room
  pub exactly : (number ≡ 0) ↔ ((v : A) × (a ≡ given v))
  pub zeros : number ≢ 0 → AllZero

-- what a refusal and an answer keep to, whatever the values are
refusal_keeps : {A : Type 0} (r : Refusal) (AllZero : Type 0) → AllZero → Keeps {A = A} (refused r) (number_of r) AllZero
refusal_keeps r AllZero z =
    record { at_most = (number_range r).1; not_no_room = (number_range r).2; exactly = (λ h. absurd (omega (arith, number_range r)), λ w. not_given w.1); zeros = λ h. z }

answer_keeps : {A : Type 0} (v : A) (AllZero : Type 0) → Keeps (given v) 0 AllZero
answer_keeps v AllZero = record { at_most = omega arith; not_no_room = omega arith; exactly = (λ h. (v, refl), λ w. refl); zeros = λ h. absurd (h refl) }

pub places_keep : (a : Answer PhysicalType) → Keeps a (places a).number (((places a).place ≡ 0) × ((places a).inner ≡ 0))
places_keep (refused r) = refusal_keeps r (((places (refused r)).place ≡ 0) × ((places (refused r)).inner ≡ 0)) (refl, refl)
places_keep (given p) = answer_keeps p (((places (given p)).place ≡ 0) × ((places (given p)).inner ≡ 0))

-- besides, the answer is 0 or 1
pub yes_no_keeps : (a : Answer Bool) → Keeps a (yes_no a).number ((yes_no a).answer ≡ 0) × ((yes_no a).answer ≤ 1)
yes_no_keeps (refused r) = (refusal_keeps r ((yes_no (refused r)).answer ≡ 0) refl, omega arith)
yes_no_keeps (given true) = (answer_keeps true ((yes_no (given true)).answer ≡ 0), omega arith)
yes_no_keeps (given false) = (answer_keeps false ((yes_no (given false)).answer ≡ 0), omega arith)
