-- What cannot be; rules that are met; and a test computed at every number below a bound. Assumes nothing.
use mathlib.Core.Path.{◌≡◌, refl}
use mathlib.Core.Logic.{◌≢◌}
use mathlib.Core.Bool.{Bool, true, false, ◌&&◌}
use Rattle.std.specs.Prelude.{None, Some}
use Prim.Native.Nat.{ℕ, zero, suc, ◌<◌}
use native.Mathlib.Nat.{not-suc-le-zero}
use native.Mathlib.Omega.{arith}
use lib.Dec.{eqb}
use borrow.Author.Tests.{eq-eqb, eqb-true, eqb-false}
use Rattle.sheets.specs.Refusal.{Refusal}
use Rattle.sheets.specs.Rule.{Rule, is, ◌and◌, passes, Meets}
use Rattle.sheets.specs.Answer.{Answer, refused, given, ◌>>=◌, when, decide}

-- what cannot be: said once, since a search for it in a large context is dear
pub never : {A : Type 0} → ◌≡◌ {A = Bool} false true → A
never h = absurd (let z : ◌≡◌ {A = ℕ} 0 1 = cc in omega arith)

pub not_some : {A B : Type 0} {b : B} → None ≡ Some b → A
not_some h = absurd (let z : ◌≡◌ {A = ℕ} 0 1 = cc in omega arith)

pub not_given : {A B : Type 0} {n : Refusal} {b : B} → refused n ≡ given b → A
not_given h = absurd (let z : ◌≡◌ {A = ℕ} 0 1 = cc in omega arith)

-- an answer's value
pub same_given : {A : Type 0} {a b : A} → given a ≡ given b → a ≡ b
same_given h = cc

pub same_some : {A : Type 0} {a b : A} → Some a ≡ Some b → a ≡ b
same_some h = cc

pub and_left : (a b : Bool) → (a && b) ≡ true → a ≡ true
and_left true b h = refl
and_left false b h = h

pub and_right : (a b : Bool) → (a && b) ≡ true → b ≡ true
and_right true b h = h
and_right false b h = cc

pub meets : (r : Rule) → passes r ≡ true → Meets r
meets (is b) h = h
meets (r and s) h = (meets r (and_left (passes r) (passes s) h), meets s (and_right (passes r) (passes s) h))

pub passing : (r : Rule) → Meets r → passes r ≡ true
passing (is b) h = h
passing (r and s) h = rw (passing r h.0, passing s h.1)

pub when_met : {A : Type 0} (n : Refusal) (r : Rule) (a : A) → Meets r → when n r a ≡ given a
when_met n r a h = rw (passing r h)

-- what a `when` that gave a value shows
pub met_when : {A : Type 0} (n : Refusal) (r : Rule) (a b : A) → when n r a ≡ given b → Meets r × (a ≡ b)
met_when {A} n r a b h = pick (passes r) refl h
  where
    pick : (t : Bool) → passes r ≡ t → decide {A = A} n t a ≡ given b → Meets r × (a ≡ b)
    pick true e k = (meets r e, cc)
    pick false e k = (meets r (cc), cc)

-- a chain that gave a value: its first step did
pub first_gave : {A B : Type 0} (m : Answer A) (f : A → Answer B) (b : B) → (m >>= f) ≡ given b → (a : A) × (m ≡ given a) × (f a ≡ given b)
first_gave (refused n) f b h = not_given h
first_gave (given a) f b h = (a, refl, h)

-- a chain of three steps
pub chained : {A B C : Type 0} (m : Answer A) (f : A → Answer B) (g : B → Answer C) → ((m >>= f) >>= g) ≡ (m >>= λ a. f a >>= g)
chained (refused r) f g = refl
chained (given a) f g = refl

-- chains whose steps agree
pub chain_same : {A B : Type 0} (m n : Answer A) (f g : A → Answer B) → m ≡ n → ((a : A) → f a ≡ g a) → (m >>= f) ≡ (n >>= g)
chain_same {A} m n f g e h = rw e (go n)
  where
    go : (k : Answer A) → (k >>= f) ≡ (k >>= g)
    go (refused r) = refl
    go (given a) = h a

pub same_number : (n : ℕ) → eqb n n ≡ true
same_number n = eq-eqb n n refl

-- a test at each number below n, computed
abbrev pub every : ℕ → (ℕ → Bool) → Rule
every zero f = is true
every (suc n) f = is (f n) and every n f

pub at_each : (n : ℕ) (f : ℕ → Bool) → Meets (every n f) → (k : ℕ) → k < n → f k ≡ true
at_each zero f h k l = absurd (not-suc-le-zero l)
at_each (suc n) f h k l = pick (eqb k n) refl (at_each n f h.1 k)
  where
    pick : (t : Bool) → eqb k n ≡ t → (k < n → f k ≡ true) → f k ≡ true
    pick true e next = rw (eqb-true k n e) h.0
    pick false e next = next (let d : k ≢ n = eqb-false k n e in omega arith)
