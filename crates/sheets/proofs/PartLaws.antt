-- The parts between separators: how many bytes stand before a separator, and what `split` makes of that. By induction on the bytes. Assumes nothing.
use mathlib.Core.Path.{◌≡◌, refl, sym, ◌∙◌, ap, ap₂}
use mathlib.Core.Bool.{Bool, true, false, not}
use mathlib.Core.List.{List, [], ◌∷◌, ◌++◌}
use Prim.Native.Nat.{ℕ, suc, ◌+◌, ◌-◌, ◌≤◌, ◌<◌}
use native.Mathlib.Nat.{not-suc-le-zero}
use native.Mathlib.Numerals.{add-one}
use native.Mathlib.Omega.{arith}
use lib.Dec.{eqb, ltb}
use lib.ListN.{length, take, drop, get_or, length-drop, drop_of_length-le}
use lib.Seq.{take_all, drop-drop, drop-cons}
use borrow.Author.Tests.{le-leb, lt-leb, eq-eqb, ne_eqb, eqb-true, ltb-true, ltb-false}
use Rattle.sheets.specs.Rule.{Meets}
use Rattle.sheets.specs.Bytes.{Bytes, split, prepend, lacks}
use Rattle.sheets.specs.Parts.{bytes_before, parts_from}

-- ── the bytes before a separator

pub before_within : (x : ℕ) (b : Bytes) → bytes_before x b ≤ length b
before_within x [] = omega arith
before_within x (y ∷ b) = pick (eqb y x) refl (before_within x b)
  where
    pick : (t : Bool) → eqb y x ≡ t → bytes_before x b ≤ length b → bytes_before x (y ∷ b) ≤ length (y ∷ b)
    pick true e l = rw e (omega arith)
    pick false e l = rw e (omega arith)

module _ (x : ℕ) (b : Bytes) (k : ℕ) where
  pub before_past : length b ≤ k → bytes_before x (drop k b) ≡ 0
  before_past h = rw (drop_of_length-le b h)

  pub before_here : k < length b → get_or b k 0 ≡ x → bytes_before x (drop k b) ≡ 0
  before_here h e = rw (drop-cons b k 0 h, eq-eqb (get_or b k 0) x e)

  pub before_next : k < length b → (get_or b k 0 ≡ x → ⊥) → k + bytes_before x (drop k b) ≡ (k + 1) + bytes_before x (drop (k + 1) b)
  before_next h e = rw (drop-cons b k 0 h, ne_eqb (get_or b k 0) x e, add-one k) (omega arith)

-- the bytes before the separator lack it, and it stands after them
pub before_free : (x : ℕ) (b : Bytes) → Meets (lacks x (take (bytes_before x b) b))
before_free x [] = refl
before_free x (y ∷ b) = pick (eqb y x) refl (before_free x b)
  where
    pick : (t : Bool) → eqb y x ≡ t → Meets (lacks x (take (bytes_before x b) b)) → Meets (lacks x (take (bytes_before x (y ∷ b)) (y ∷ b)))
    pick true e h = rw e refl
    pick false e h = rw e (ap not e, h)

pub before_cut : (x : ℕ) (b : Bytes) → bytes_before x b < length b → b ≡ take (bytes_before x b) b ++ (x ∷ drop (suc (bytes_before x b)) b)
before_cut x [] h = absurd (omega arith)
before_cut x (y ∷ b) h = pick (eqb y x) refl h (before_cut x b)
  where
    pick : (t : Bool) → eqb y x ≡ t → bytes_before x (y ∷ b) < suc (length b) → (bytes_before x b < length b → b ≡ take (bytes_before x b) b ++ (x ∷ drop (suc (bytes_before x b)) b))
        → y ∷ b ≡ take (bytes_before x (y ∷ b)) (y ∷ b) ++ (x ∷ drop (suc (bytes_before x (y ∷ b))) (y ∷ b))
    pick true e h i = rw e (ap (λ (z : ℕ). z ∷ b) (eqb-true y x e))
    pick false e h i = rw e (ap (λ (l : Bytes). y ∷ l) (i (let k : suc (bytes_before x b) < suc (length b) = rw e at h in omega arith)))

-- ── split

abbrev Splits : ℕ → Bytes → ℕ → Type 0
Splits s b k = (k < length b → split s b ≡ take k b ∷ split s (drop (suc k) b)) × (length b ≤ k → split s b ≡ b ∷ [])

split_at : (s : ℕ) (b : Bytes) → Splits s b (bytes_before s b)
split_at s [] = (λ h. absurd (not-suc-le-zero h), λ h. refl)
split_at s (x ∷ b) = pick (eqb x s) refl (split_at s b)
  where
    pick : (t : Bool) → eqb x s ≡ t → Splits s b (bytes_before s b) → Splits s (x ∷ b) (bytes_before s (x ∷ b))
    pick true e h = rw e (λ l. refl, λ l. absurd (omega arith))
    pick false e h = rw e (λ l. ap (prepend x) (h.0 (omega arith)), λ l. ap (prepend x) (h.1 (omega arith)))

-- ── the parts from a place on

pub parts_here : (b : Bytes) (from : ℕ) → from ≤ length b → parts_from b from ≡ split 44 (drop from b)
parts_here b from h = rw (le-leb from (length b) h)

pub parts_past : (b : Bytes) (from : ℕ) → length b < from → parts_from b from ≡ []
parts_past b from h = rw (lt-leb from (length b) h)

-- a part from `from` on ends before `to`
pub record PartEnds (b : Bytes) (from to : ℕ) : Type 0 where
  pub low : from ≤ to
  pub high : to ≤ length b
  pub parts : parts_from b from ≡ take (to - from) (drop from b) ∷ parts_from b (to + 1)

parts_at : (b : Bytes) (from k : ℕ) → from ≤ length b → k ≤ length b - from → Splits 44 (drop from b) k
    → parts_from b from ≡ take k (drop from b) ∷ parts_from b (from + k + 1)
parts_at b from k h l s = parts_here b from h ∙ pick (ltb k (length b - from)) refl
  where
    size : length (drop from b) ≡ length b - from
    size = length-drop from b

    pick : (t : Bool) → ltb k (length b - from) ≡ t → split 44 (drop from b) ≡ take k (drop from b) ∷ parts_from b (from + k + 1)
    pick true e =
        let m : k < length b - from = ltb-true k (length b - from) e in
        let n : from + suc k ≡ from + k + 1 = omega arith in
        s.0 (omega (arith, size))
        ∙ ap (λ (r : List Bytes). take k (drop from b) ∷ r) (ap (split 44) (drop-drop (suc k) from b ∙ ap (λ (i : ℕ). drop i b) n) ∙ sym (parts_here b (from + k + 1) (omega arith)))
    pick false e =
        let m : length b - from ≤ k = ltb-false k (length b - from) e in
        s.1 (omega (arith, size))
        ∙ ap₂ (λ (p : Bytes) (r : List Bytes). p ∷ r) (sym (take_all k (drop from b) (omega (arith, size)))) (sym (parts_past b (from + k + 1) (omega arith)))

pub part_ends : (b : Bytes) (from to : ℕ) → from ≤ length b → to ≡ from + bytes_before 44 (drop from b) → PartEnds b from to
part_ends b from to h e =
    let k = bytes_before 44 (drop from b) in
    let l : k ≤ length b - from = rw (length-drop from b) at (before_within 44 (drop from b)) in
    let m : k ≡ to - from = omega arith in
    let n : from + k + 1 ≡ to + 1 = omega arith in
    record {
      low = omega arith;
      high = omega arith;
      parts = parts_at b from k h l (split_at 44 (drop from b)) ∙ ap₂ (λ (i j : ℕ). take i (drop from b) ∷ parts_from b j) m n;
    }

pub last_part : (b : Bytes) (from to : ℕ) → PartEnds b from to → length b ≤ to → parts_from b from ≡ take (to - from) (drop from b) ∷ []
last_part b from to p l = p.parts ∙ ap (λ (r : List Bytes). take (to - from) (drop from b) ∷ r) (parts_past b (to + 1) (omega arith))
