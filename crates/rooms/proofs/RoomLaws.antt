-- From the length of the sheet that a call answers to the two sentences on the call (`Fits`, `HasRoom`), for any answer; and how to show a property of
-- what an answer gives, step by step as the answer is worked out. By cases of the outcome and of the answer. Assumes nothing.
use mathlib.Core.Path.{◌≡◌, refl, ap, subst}
use mathlib.Core.Bool.{Bool, true, false, cond}
use Rattle.std.specs.Prelude.{Option, None, Some}
use Prim.Native.Nat.{ℕ, ◌≤◌}
use native.Mathlib.Omega.{arith}
use lib.ListN.{length}
use Rattle.sheets.specs.Bytes.{Bytes}
use Rattle.sheets.specs.Refusal.{Refusal}
use Rattle.sheets.specs.Rule.{Rule, Meets}
use Rattle.sheets.specs.Answer.{Answer, refused, given, ◌>>=◌, when, found}
use Rattle.sheets.specs.Outcome.{Outcome, outcome}
use Rattle.sheets.proofs.Tests.{not_given, same_given, met_when}
use Rattle.sheets.proofs.OutcomeLaws.{Cases, cases, turned_back, too_long, answered, sixteen_exactly}
use Rattle.rooms.specs.Room.{Fits, HasRoom}

-- ── a property of what is given

-- what the answer gives, if it is not refused, has the property
pub record Gives {A : Type 0} (P : A → Type 0) (a : Answer A) : Type 0 where
  pub gave : (x : A) → a ≡ given x → P x

pub gives_refused : {A : Type 0} {P : A → Type 0} {r : Refusal} → Gives P (refused r)
gives_refused = record { gave = λ x e. not_given e }

pub gives_given : {A : Type 0} {P : A → Type 0} {a : A} → P a → Gives P (given a)
gives_given {P = P} h = record { gave = λ x e. subst P (same_given e) h }

-- a weaker property
pub gives_more : {A : Type 0} {P Q : A → Type 0} {a : Answer A} → ((x : A) → Q x → P x) → Gives Q a → Gives P a
gives_more w h = record { gave = λ x e. w x (h.gave x e) }

-- a step, and the next from what the first gives
pub gives_then : {A B : Type 0} {Q : A → Type 0} {P : B → Type 0} {m : Answer A} {f : A → Answer B}
    → Gives Q m → ((a : A) → Q a → Gives P (f a)) → Gives P (m >>= f)
gives_then {A} {B} {Q} {P} {m} {f} h k = go m h
  where
    go : (n : Answer A) → Gives Q n → Gives P (n >>= f)
    go (refused r) g = gives_refused
    go (given a) g = k a (g.gave a refl)

pub gives_when : {A : Type 0} {P : A → Type 0} (r : Refusal) (rule : Rule) (a : A) → (Meets rule → P a) → Gives P (when r rule a)
gives_when {P = P} r rule a h = record { gave = λ x e. let m = met_when r rule a x e in subst P m.1 (h m.0) }

pub gives_found : {A : Type 0} {P : A → Type 0} (r : Refusal) (o : Option A) → ((a : A) → o ≡ Some a → P a) → Gives P (found r o)
gives_found r None h = gives_refused
gives_found r (Some a) h = gives_given (h a refl)

pub gives_cond : {A : Type 0} {P : A → Type 0} (t : Bool) {a b : Answer A} → (t ≡ true → Gives P a) → (t ≡ false → Gives P b) → Gives P (cond t a b)
gives_cond true h k = h refl
gives_cond false h k = k refl

-- ── from the sheet to the call

-- the sheet that is answered, if one is, has at most n bytes
abbrev pub AtMost : ℕ → Answer Bytes → Type 0
AtMost n a = Gives (λ x. length x ≤ n) a

pub answer_fits : (n : ℕ) (a : Answer Bytes) (out : Bytes) → AtMost n a → Fits n (outcome a out)
answer_fits n a out h = go (cases a out)
  where
    go : Cases a out → (outcome a out).size ≤ n
    go (turned_back r e o) = omega (arith, ap (λ (y : Outcome). y.size) o)
    go (too_long x e l o) = omega (arith, ap (λ (y : Outcome). y.size) o)
    go (answered x e l o) = omega (arith, ap (λ (y : Outcome). y.size) o, h.gave x e)

pub answer_has_room : (n : ℕ) (a : Answer Bytes) (out : Bytes) → AtMost n a → HasRoom n out (outcome a out)
answer_has_room n a out h lent e = let w = (sixteen_exactly a out).0 e in absurd (omega (arith, lent, h.gave w.0 w.1, w.2))
