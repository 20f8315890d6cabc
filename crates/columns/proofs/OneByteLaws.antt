-- A column of one byte: what the two bytes there tell (`one_short`, `one_other`, `one_is`), what is known where it stands (`One`), and that it is a
-- column. Assumes nothing.
use mathlib.Core.Path.{◌≡◌, refl, sym, ap, ap₂, ◌∙◌}
use mathlib.Core.Bool.{Bool, true, false, ◌&&◌, not, and-true, and-false}
use mathlib.Core.List.{[], ◌∷◌, ◌++◌}
use Prim.Native.Nat.{ℕ, suc, ◌+◌, ◌≤◌, ◌<◌}
use native.Mathlib.Numerals.{add-one}
use native.Mathlib.Omega.{arith}
use lib.Dec.{eqb, ltb}
use lib.ListN.{length, get_or, drop, length-drop}
use lib.Seq.{drop-cons}
use borrow.Author.Tests.{eq-eqb, ne_eqb, eqb-true, ltb-true, ltb-false}
use Rattle.sheets.specs.Bytes.{Bytes}
use Rattle.sheets.proofs.Tests.{never, and_left, and_right}
use Rattle.columns.specs.Columns.{part, one_of, past_space, ColumnAt}
use Rattle.columns.proofs.ColumnLaws.{column_of_lem, column_part}

one_few : (f : ℕ → Bool) (stop : ℕ) (b : Bytes) → length b ≤ 1 → one_of f stop b ≡ false
unfolding one_of
one_few f stop [] h = refl
one_few f stop (x ∷ []) h = refl
one_few f stop (x ∷ y ∷ b) h = absurd (omega arith)

-- two bytes in front of the others
pub two_cons : (s : Bytes) (i : ℕ) → i + 1 < length s → drop i s ≡ get_or s i 0 ∷ get_or s (i + 1) 0 ∷ drop (i + 2) s
two_cons s i h =
    let n : suc (i + 1) ≡ i + 2 = omega arith in
    drop-cons s i 0 (omega arith) ∙ ap (λ (b : Bytes). get_or s i 0 ∷ b) (ap (λ (j : ℕ). drop j s) (sym (add-one i)) ∙ drop-cons s (i + 1) 0 h ∙ ap (λ (j : ℕ). get_or s (i + 1) 0 ∷ drop j s) n)

module _ (f : ℕ → Bool) (stop : ℕ) (s : Bytes) (a : ℕ) where
  pub one_short : length s ≤ a + 1 → one_of f stop (drop a s) ≡ false
  one_short h = one_few f stop (drop a s) (omega (arith, length-drop a s))

  module _ (h : a + 1 < length s) where
    one_here : one_of f stop (drop a s) ≡ (f (get_or s a 0) && eqb (get_or s (a + 1) 0) stop)
    unfolding one_of
    one_here = rw (two_cons s a h)

    pub one_other : (get_or s (a + 1) 0 ≡ stop → ⊥) → one_of f stop (drop a s) ≡ false
    one_other k = one_here ∙ ap (λ (t : Bool). f (get_or s a 0) && t) (ne_eqb (get_or s (a + 1) 0) stop k) ∙ and-false (f (get_or s a 0))

    pub one_is : get_or s (a + 1) 0 ≡ stop → one_of f stop (drop a s) ≡ f (get_or s a 0)
    one_is k = one_here ∙ ap (λ (t : Bool). f (get_or s a 0) && t) (eq-eqb (get_or s (a + 1) 0) stop k) ∙ and-true (f (get_or s a 0))

-- the byte, and the byte that ends it
pub record One (f : ℕ → Bool) (s : Bytes) (a stop : ℕ) : Type 0 where
  pub room : a + 1 < length s
  pub holds : f (get_or s a 0) ≡ true
  pub stops : get_or s (a + 1) 0 ≡ stop

pub one_told : (f : ℕ → Bool) (stop : ℕ) (s : Bytes) (a : ℕ) → one_of f stop (drop a s) ≡ true → One f s a stop
one_told f stop s a h = pick (ltb (a + 1) (length s)) refl
  where
    pick : (t : Bool) → ltb (a + 1) (length s) ≡ t → One f s a stop
    pick true l =
        let room : a + 1 < length s = ltb-true (a + 1) (length s) l in
        let both : (f (get_or s a 0) && eqb (get_or s (a + 1) 0) stop) ≡ true = sym (one_here f stop s a room) ∙ h in
        record {
          room = room;
          holds = and_left (f (get_or s a 0)) (eqb (get_or s (a + 1) 0) stop) both;
          stops = eqb-true (get_or s (a + 1) 0) stop (and_right (f (get_or s a 0)) (eqb (get_or s (a + 1) 0) stop) both);
        }
    pick false l = never (sym (one_short f stop s a (ltb-false (a + 1) (length s) l)) ∙ h)

-- a test that only bytes past the space meet
module _ (f : ℕ → Bool) (past : (b : ℕ) → f b ≡ true → past_space b ≡ true) (stop : ℕ) where
  one_narrow : (b : Bytes) → one_of past_space stop b ≡ false → one_of f stop b ≡ false
  unfolding one_of
  one_narrow [] h = refl
  one_narrow (x ∷ []) h = refl
  one_narrow (x ∷ y ∷ b) h = pick (f x) (eqb y stop) refl refl
    where
      pick : (t u : Bool) → f x ≡ t → eqb y stop ≡ u → (t && u) ≡ false
      pick true true p q = sym (ap₂ ◌&&◌ (past x p) q) ∙ h
      pick true false p q = refl
      pick false u p q = refl

  module _ (s : Bytes) (a : ℕ) where
    -- after the test of the byte past the space, the byte itself
    pub one_not : one_of past_space stop (drop a s) ≡ false → one_of f stop (drop a s) ≡ false
    one_not h = one_narrow (drop a s) h

    pub one_byte : one_of past_space stop (drop a s) ≡ true → one_of f stop (drop a s) ≡ f (get_or s a 0)
    one_byte h = let o = one_told past_space stop s a h in one_is f stop s a o.room o.stops

    pub one_past : One f s a stop → One past_space s a stop
    one_past o = record { room = o.room; holds = past (get_or s a 0) o.holds; stops = o.stops }

module _ {s : Bytes} {a stop : ℕ} (h : One past_space s a stop) where
  one_cut : drop a s ≡ (get_or s a 0 ∷ []) ++ (stop ∷ drop (a + 2) s)
  one_cut = two_cons s a h.room ∙ ap (λ (x : ℕ). get_or s a 0 ∷ x ∷ drop (a + 2) s) h.stops

  pub one_part : part s a (a + 1) ≡ get_or s a 0 ∷ []
  one_part = column_part s a (get_or s a 0 ∷ []) (drop (a + 2) s) stop one_cut

  pub one_column : ColumnAt s a (a + 1) stop
  one_column =
      let past : 32 < get_or s a 0 = ltb-true 32 (get_or s a 0) h.holds in
      let other : (b : ℕ) → b ≤ 32 → not (eqb (get_or s a 0) b) ≡ true = λ b l. ap not (ne_eqb (get_or s a 0) b (λ e. omega arith)) in
      column_of_lem s a (get_or s a 0 ∷ []) (drop (a + 2) s) stop one_cut (other 32 (omega arith), refl) (other 10 (omega arith), refl)
