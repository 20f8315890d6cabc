-- The case at a place, one argument for every enumeration: over the places of the cases and the list of them. In an arm of a `match` the definition
-- computes; where the patterns are the places of all cases, the `_` finds none (`Rest` is what a `_` knows of its number). Assumes nothing.
use mathlib.Core.Path.{◌≡◌, refl, sym, ap, subst, ◌∙◌}
use mathlib.Core.Bool.{Bool, true, false, not, ◌&&◌, ◌||◌, cond}
use mathlib.Core.Logic.{inl, inr}
use mathlib.Core.List.{List, [], ◌∷◌}
use Rattle.std.specs.Prelude.{None, Some}
use Prim.Native.Nat.{ℕ, zero, suc, ◌≤◌}
use lib.Dec.{T, eqb, leb}
use types.Run.{OneOf, hit}
use mir.Val.{has_key}
use borrow.Author.Tests.{ne_eqb, eqb-true, leb-true, leb-false, not-true}
use Rattle.sheets.specs.Rule.{Meets}
use Rattle.sheets.proofs.Tests.{not_some, and_left, and_right, every, at_each}
use Rattle.sheets.specs.Sheet.{is_some}
use Rattle.datatypes.specs.At.{first_at}

-- the number is none of the patterns of the arms, the last arm's first
abbrev pub Rest : List (List ℕ) → ℕ → Type 0
Rest [] x = Unit {0}
Rest (ks ∷ kss) x = Rest kss x × (OneOf ks x → ⊥)

-- the arms of the numbers below n, each by itself
abbrev pub below : ℕ → List (List ℕ)
below zero = []
below (suc n) = (n ∷ []) ∷ below n

abbrev pub listed : List (List ℕ) → ℕ → Bool
listed [] j = false
listed (ks ∷ kss) j = has_key ks j || listed kss j

-- what a `_` knows is that no arm lists the number
pub not_listed : (x : ℕ) (kss : List (List ℕ)) → Rest kss x → not (listed kss x) ≡ true
not_listed x [] r = refl
not_listed x (ks ∷ kss) r = pick (has_key ks x) refl (not_listed x kss r.0)
  where
    pick : (t : Bool) → has_key ks x ≡ t → not (listed kss x) ≡ true → not (t || listed kss x) ≡ true
    pick true k later = absurd (r.1 (hit ks x (subst T (sym k) tt)))
    pick false k later = later

abbrev pub Each : {A : Type 0} → (A → Type 0) → List A → Type 0
Each P [] = Unit {0}
Each P (a ∷ l) = P a × Each P l

-- what f is at each pattern of an arm, it is at the arm's number
pub at_arm : {A : Type 0} (f : ℕ → A) (a : A) (ks : List ℕ) → Each (λ k. f k ≡ a) ks → (x : ℕ) → OneOf ks x → f x ≡ a
at_arm f a [] h x o = absurd o
at_arm f a (k ∷ []) h x o = ap f o ∙ h.0
at_arm f a (k ∷ k2 ∷ ks) h x (inl e) = ap f e ∙ h.0
at_arm f a (k ∷ k2 ∷ ks) h x (inr o) = at_arm f a (k2 ∷ ks) h.1 x o

-- ── the cases of any enumeration, by their places

module _ {A : Type 0} (place : A → ℕ) where
  -- where the place is a pattern, the definition computes at the pattern
  pub case_at : (n k : ℕ) → n ≡ k → (l : List A) → first_at place k l ≡ first_at place n l
  case_at n k e l = ap (λ (m : ℕ). first_at place m l) (sym e)

  abbrev pub none_is : (ℕ → Bool) → List A → Bool
  none_is f [] = true
  none_is f (a ∷ l) = not (f (place a)) && none_is f l

  -- where a test passes at x and at no case's place
  pub apart : (f : ℕ → Bool) (x : ℕ) → f x ≡ true → (l : List A) → none_is f l ≡ true → first_at place x l ≡ None
  apart f x h [] t = refl
  apart f x h (a ∷ l) t =
      let here : f (place a) ≡ false = not-true (f (place a)) (and_left (not (f (place a))) (none_is f l) t) in
      let differ : x ≡ place a → ⊥ = λ e. subst T (sym h ∙ (ap f e ∙ here)) tt in
      rw (ne_eqb x (place a) differ) (apart f x h l (and_right (not (f (place a))) (none_is f l) t))

  -- where the patterns of a `match` are the places of all cases, its `_` finds none
  pub nowhere : (x : ℕ) (kss : List (List ℕ)) → Rest kss x → (l : List A) → none_is (λ j. not (listed kss j)) l ≡ true → first_at place x l ≡ None
  nowhere x kss r l t = apart (λ j. not (listed kss j)) x (not_listed x kss r) l t

  -- what holds of each case and its place holds of the one that is found
  pub found : (P : ℕ → A → Type 0) (n : ℕ) (l : List A) → Each (λ a. P (place a) a) l → (x : A) → first_at place n l ≡ Some x → P n x
  found P n [] t x h = not_some h
  found P n (a ∷ l) t x h = pick (eqb n (place a)) refl h (found P n l t.1 x)
    where
      pick : (u : Bool) → eqb n (place a) ≡ u → cond u (Some a) (first_at place n l) ≡ Some x → (first_at place n l ≡ Some x → P n x) → P n x
      pick true e k later = let same : a ≡ x = cc in subst (P n) same (subst (λ (m : ℕ). P m a) (sym (eqb-true n (place a) e)) t.0)
      pick false e k later = later k

  abbrev pub has : List A → ℕ → Bool
  has l n = is_some (first_at place n l)

  -- where each place below m has a case, a place that has none is m or more
  pub past : (m : ℕ) (l : List A) → Meets (every m (has l)) → (n : ℕ) → first_at place n l ≡ None → m ≤ n
  past m l h n e = pick (leb m n) refl
    where
      pick : (t : Bool) → leb m n ≡ t → m ≤ n
      pick true q = leb-true m n q
      pick false q =
          let at : has l n ≡ true = at_each m (has l) h n (leb-false m n q) in
          let z : false ≡ true = ap is_some (sym e) ∙ at in
          absurd (subst T (sym z) tt)
