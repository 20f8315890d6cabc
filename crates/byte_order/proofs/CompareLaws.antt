-- The comparison of two byte strings at a place that they agree up to: the bytes there decide, one at a time or, read as one number in
-- big-endian order, four at a time. Assumes nothing.
use mathlib.Core.Path.{◌≡◌, refl, sym, ap, ap₂, ◌∙◌}
use mathlib.Core.Bool.{Bool, true, false, cond, ◌&&◌, ◌||◌}
use mathlib.Core.List.{[], ◌∷◌}
use mathlib.Core.Logic.{◌⊎◌, inl, inr, ⊎_elim}
use Prim.Native.Nat.{ℕ, zero, suc, ◌+◌, ◌-◌, ◌*◌, ◌≤◌, ◌<◌, min}
use native.Mathlib.Omega.{arith}
use native.Mathlib.Numerals.{add-one}
use lib.Dec.{ltb, eqb}
use lib.ListN.{length, get_or, take, drop, length-drop, drop_of_length-le}
use native.Mathlib.Nat.{le_of_eq}
use lib.Seq.{drop-cons, take_all}
use borrow.Author.Tests.{lt-ltb, le-ltb, ltb-true, ltb-false, eq-eqb, ne_eqb, eqb-true, eqb-false}
use Rattle.std.specs.Ordering.{is_lt, nat_cmp, ordering_then}
use Rattle.std.specs.Cmp.Lexicographic.{slice_cmp}
use Rattle.sheets.specs.Bytes.{Bytes, same}
use Rattle.sheets.specs.Field.{before}
use Rattle.std.specs.declared.cmp.Ordering.{Ordering}
use Rattle.std.specs.declared.cmp.Ordering.TheVariants.{Less, Equal, Greater}
use Rattle.byte_order.specs.Compare.{ordering, ordering_answer, Word}
use Rattle.sheets.proofs.OrderLaws.{connected}

-- ── what a comparison shows

module _ (a b : Bytes) (r : Ordering) (e : ordering_answer r ≡ ordering a b) where
  stand : (o : Ordering) → r ≡ o → (before a b, same a b) ≡ ordering_answer o
  unfolding ordering
  stand o h = sym e ∙ ap ordering_answer h

  pub is_less : r ≡ Less → before a b ≡ true
  is_less h = ap (λ (p : Bool × Bool). p.0) (stand Less h)

  pub is_equal : r ≡ Equal → same a b ≡ true
  is_equal h = ap (λ (p : Bool × Bool). p.1) (stand Equal h)

  pub is_greater : r ≡ Greater → before b a ≡ true
  is_greater h = connected a b (ap (λ (p : Bool × Bool). p.0) (stand Greater h)) (ap (λ (p : Bool × Bool). p.1) (stand Greater h))

less_first : (r : Ordering) → (ordering_answer r).0 ≡ is_lt r
less_first Less = refl
less_first Equal = refl
less_first Greater = refl

-- what the case Less says of the first
pub comes_before : (a b : Bytes) (r : Ordering) → ordering_answer r ≡ ordering a b → before a b ≡ is_lt r
unfolding ordering
comes_before a b r e = ap (λ (p : Bool × Bool). p.0) (sym e) ∙ less_first r

-- ── by first bytes

cons_less : (x y : ℕ) (a b : Bytes) → x < y → ordering (x ∷ a) (y ∷ b) ≡ ordering_answer Less
unfolding ordering
cons_less x y a b h = rw (lt-ltb x y h, ne_eqb x y (λ e. omega arith))

cons_greater : (x y : ℕ) (a b : Bytes) → y < x → ordering (x ∷ a) (y ∷ b) ≡ ordering_answer Greater
unfolding ordering
cons_greater x y a b h = rw (le-ltb x y (omega arith), ne_eqb x y (λ e. omega arith))

cons_same : (x y : ℕ) (a b : Bytes) → x ≡ y → ordering (x ∷ a) (y ∷ b) ≡ ordering a b
unfolding ordering
cons_same x y a b e = rw (le-ltb x y (omega arith), eq-eqb x y e)

-- ── after what both begin with

pub after_same : (n : ℕ) (a b : Bytes) → take n a ≡ take n b → ordering a b ≡ ordering (drop n a) (drop n b)
after_same zero a b e = refl
after_same (suc n) [] [] e = refl
after_same (suc n) [] (y ∷ b) e = absurd (omega (arith, ap length e))
after_same (suc n) (x ∷ a) [] e = absurd (omega (arith, ap length e))
after_same (suc n) (x ∷ a) (y ∷ b) e = cons_same x y a b (ap (λ (l : Bytes). get_or l 0 0) e) ∙ after_same n a b (ap (drop 1) e)

-- ── at a place, byte by byte

module _ (a b : Bytes) (i : ℕ) where
  pub no_more_b : i < length a → length b ≤ i → ordering (drop i a) (drop i b) ≡ ordering_answer Greater
  unfolding ordering
  no_more_b h k = rw (drop-cons a i 0 h, drop_of_length-le b k)

  pub no_more_a : length a ≤ i → i < length b → ordering (drop i a) (drop i b) ≡ ordering_answer Less
  unfolding ordering
  no_more_a h k = rw (drop_of_length-le a h, drop-cons b i 0 k)

  pub no_more : length a ≤ i → length b ≤ i → ordering (drop i a) (drop i b) ≡ ordering_answer Equal
  unfolding ordering
  no_more h k = rw (drop_of_length-le a h, drop_of_length-le b k)

  -- the shorter has ended: the lengths decide
  pub lengths_decide : i ≡ min (length a) (length b) → ordering (drop i a) (drop i b) ≡ ordering_answer (nat_cmp (length a) (length b))
  lengths_decide e = go (ltb (length a) (length b)) (eqb (length a) (length b)) refl refl
    where
      go : (t u : Bool) → ltb (length a) (length b) ≡ t → eqb (length a) (length b) ≡ u → ordering (drop i a) (drop i b) ≡ ordering_answer (cond t Less (cond u Equal Greater))
      go true u l m = let k = ltb-true (length a) (length b) l in no_more_a (omega (arith, e)) (omega (arith, e))
      go false true l m = let k = eqb-true (length a) (length b) m in no_more (omega (arith, e)) (omega (arith, e))
      go false false l m =
          let k = ltb-false (length a) (length b) l in
          let d = eqb-false (length a) (length b) m in
          no_more_b (omega (arith, e)) (omega (arith, e))

  module _ (h : i < length a) (k : i < length b) where
    pub smaller : get_or a i 0 < get_or b i 0 → ordering (drop i a) (drop i b) ≡ ordering_answer Less
    smaller l = rw (drop-cons a i 0 h, drop-cons b i 0 k) (cons_less (get_or a i 0) (get_or b i 0) (drop (suc i) a) (drop (suc i) b) l)

    pub greater : get_or b i 0 < get_or a i 0 → ordering (drop i a) (drop i b) ≡ ordering_answer Greater
    greater l = rw (drop-cons a i 0 h, drop-cons b i 0 k) (cons_greater (get_or a i 0) (get_or b i 0) (drop (suc i) a) (drop (suc i) b) l)

    pub next : get_or a i 0 ≤ get_or b i 0 → get_or b i 0 ≤ get_or a i 0 → ordering (drop i a) (drop i b) ≡ ordering (drop (i + 1) a) (drop (i + 1) b)
    next l m = rw (add-one, drop-cons a i 0 h, drop-cons b i 0 k) (cons_same (get_or a i 0) (get_or b i 0) (drop (suc i) a) (drop (suc i) b) (omega arith))

    -- two bytes that differ decide
    pub bytes_decide : (get_or a i 0 ≡ get_or b i 0 → ⊥) → ordering (drop i a) (drop i b) ≡ ordering_answer (nat_cmp (get_or a i 0) (get_or b i 0))
    bytes_decide ne = go (ltb (get_or a i 0) (get_or b i 0)) refl
      where
        go : (t : Bool) → ltb (get_or a i 0) (get_or b i 0) ≡ t → ordering (drop i a) (drop i b) ≡ ordering_answer (nat_cmp (get_or a i 0) (get_or b i 0))
        go true e = let l = ltb-true (get_or a i 0) (get_or b i 0) e in rw (lt-ltb (get_or a i 0) (get_or b i 0) l) (smaller l)
        go false e = let l = ltb-false (get_or a i 0) (get_or b i 0) e in rw (le-ltb (get_or a i 0) (get_or b i 0) l, ne_eqb (get_or a i 0) (get_or b i 0) ne) (greater (omega arith))

-- ── as std compares

std_step : (x y : ℕ) (o : Ordering) → ordering_answer (ordering_then (nat_cmp x y) o) ≡ (ltb x y || (eqb x y && (ordering_answer o).0), eqb x y && (ordering_answer o).1)
std_step x y o = go (ltb x y) (eqb x y) refl refl
  where
    go : (t u : Bool) → ltb x y ≡ t → eqb x y ≡ u → ordering_answer (ordering_then (cond t Less (cond u Equal Greater)) o) ≡ (t || (u && (ordering_answer o).0), u && (ordering_answer o).1)
    go true true e f = absurd (omega (arith, ltb-true x y e, eqb-true x y f))
    go true false e f = refl
    go false true e f = refl
    go false false e f = refl

pub as_std : (a b : Bytes) → ordering_answer (slice_cmp nat_cmp a b) ≡ ordering a b
unfolding ordering
as_std [] [] = refl
as_std [] (y ∷ b) = refl
as_std (x ∷ a) [] = refl
as_std (x ∷ a) (y ∷ b) = std_step x y (slice_cmp nat_cmp a b) ∙ ap (λ (p : Bool × Bool). (ltb x y || (eqb x y && p.0), eqb x y && p.1)) (as_std a b)

-- what is lent from a place on
pub rests : (a b : Bytes) (i : ℕ) → ordering (take (length a - i) (drop i a)) (take (length b - i) (drop i b)) ≡ ordering (drop i a) (drop i b)
rests a b i = ap₂ ordering (all a) (all b)
  where
    all : (s : Bytes) → take (length s - i) (drop i s) ≡ drop i s
    all s = take_all (length s - i) (drop i s) (le_of_eq (length-drop i s))

-- ── four bytes at a time

at_most : (x y : ℕ) → x ≤ y → (x < y) ⊎ (x ≡ y)
at_most x y h = go (ltb x y) refl
  where
    go : (t : Bool) → ltb x y ≡ t → (x < y) ⊎ (x ≡ y)
    go true e = inl (ltb-true x y e)
    go false e = let k = ltb-false x y e in inr (omega arith)

abbrev value : ℕ → ℕ → ℕ → ℕ → ℕ
value x y z w = x * 16777216 + y * 65536 + z * 256 + w

module _ (x₀ x₁ x₂ x₃ y₀ y₁ y₂ y₃ : ℕ) (a b : Bytes) where
  module _ (b₁ : x₁ < 256) (b₂ : x₂ < 256) (b₃ : x₃ < 256) (c₁ : y₁ < 256) (c₂ : y₂ < 256) (c₃ : y₃ < 256) where
    four_less : value x₀ x₁ x₂ x₃ < value y₀ y₁ y₂ y₃ → ordering (x₀ ∷ x₁ ∷ x₂ ∷ x₃ ∷ a) (y₀ ∷ y₁ ∷ y₂ ∷ y₃ ∷ b) ≡ ordering_answer Less
    four_less h =
        ⊎_elim (λ l. cons_less x₀ y₀ (x₁ ∷ x₂ ∷ x₃ ∷ a) (y₁ ∷ y₂ ∷ y₃ ∷ b) l)
        (λ e. cons_same x₀ y₀ (x₁ ∷ x₂ ∷ x₃ ∷ a) (y₁ ∷ y₂ ∷ y₃ ∷ b) e ∙ ⊎_elim (λ l. cons_less x₁ y₁ (x₂ ∷ x₃ ∷ a) (y₂ ∷ y₃ ∷ b) l)
        (λ f. cons_same x₁ y₁ (x₂ ∷ x₃ ∷ a) (y₂ ∷ y₃ ∷ b) f ∙ ⊎_elim (λ l. cons_less x₂ y₂ (x₃ ∷ a) (y₃ ∷ b) l)
        (λ g. cons_same x₂ y₂ (x₃ ∷ a) (y₃ ∷ b) g ∙ cons_less x₃ y₃ a b (omega arith))
        (at_most x₂ y₂ (omega arith)))
        (at_most x₁ y₁ (omega arith)))
        (at_most x₀ y₀ (omega arith))

    four_greater : value y₀ y₁ y₂ y₃ < value x₀ x₁ x₂ x₃ → ordering (x₀ ∷ x₁ ∷ x₂ ∷ x₃ ∷ a) (y₀ ∷ y₁ ∷ y₂ ∷ y₃ ∷ b) ≡ ordering_answer Greater
    four_greater h =
        ⊎_elim (λ l. cons_greater x₀ y₀ (x₁ ∷ x₂ ∷ x₃ ∷ a) (y₁ ∷ y₂ ∷ y₃ ∷ b) l)
        (λ e. cons_same x₀ y₀ (x₁ ∷ x₂ ∷ x₃ ∷ a) (y₁ ∷ y₂ ∷ y₃ ∷ b) (sym e) ∙ ⊎_elim (λ l. cons_greater x₁ y₁ (x₂ ∷ x₃ ∷ a) (y₂ ∷ y₃ ∷ b) l)
        (λ f. cons_same x₁ y₁ (x₂ ∷ x₃ ∷ a) (y₂ ∷ y₃ ∷ b) (sym f) ∙ ⊎_elim (λ l. cons_greater x₂ y₂ (x₃ ∷ a) (y₃ ∷ b) l)
        (λ g. cons_same x₂ y₂ (x₃ ∷ a) (y₃ ∷ b) (sym g) ∙ cons_greater x₃ y₃ a b (omega arith))
        (at_most y₂ x₂ (omega arith)))
        (at_most y₁ x₁ (omega arith)))
        (at_most y₀ x₀ (omega arith))

    four_same : value x₀ x₁ x₂ x₃ ≡ value y₀ y₁ y₂ y₃ → ordering (x₀ ∷ x₁ ∷ x₂ ∷ x₃ ∷ a) (y₀ ∷ y₁ ∷ y₂ ∷ y₃ ∷ b) ≡ ordering a b
    four_same h =
        cons_same x₀ y₀ (x₁ ∷ x₂ ∷ x₃ ∷ a) (y₁ ∷ y₂ ∷ y₃ ∷ b) (omega arith)
        ∙ cons_same x₁ y₁ (x₂ ∷ x₃ ∷ a) (y₂ ∷ y₃ ∷ b) (omega arith)
        ∙ cons_same x₂ y₂ (x₃ ∷ a) (y₃ ∷ b) (omega arith)
        ∙ cons_same x₃ y₃ a b (omega arith)

four : (s : Bytes) (i : ℕ) → i + 4 ≤ length s → drop i s ≡ get_or s i 0 ∷ get_or s (i + 1) 0 ∷ get_or s (i + 2) 0 ∷ get_or s (i + 3) 0 ∷ drop (i + 4) s
four s i h =
    one i (i + 1) refl (omega arith)
    ∙ ap (λ (l : Bytes). get_or s i 0 ∷ l) (one (i + 1) (i + 2) (omega arith) (omega arith))
    ∙ ap (λ (l : Bytes). get_or s i 0 ∷ get_or s (i + 1) 0 ∷ l) (one (i + 2) (i + 3) (omega arith) (omega arith))
    ∙ ap (λ (l : Bytes). get_or s i 0 ∷ get_or s (i + 1) 0 ∷ get_or s (i + 2) 0 ∷ l) (one (i + 3) (i + 4) (omega arith) (omega arith))
  where
    one : (j k : ℕ) → j + 1 ≡ k → j < length s → drop j s ≡ get_or s j 0 ∷ drop k s
    one j k e l = rw (← e, add-one) (drop-cons s j 0 l)

module _ (a b : Bytes) (i v w : ℕ) (h : i + 4 ≤ length a) (k : i + 4 ≤ length b) (p : Word a i v) (q : Word b i w) where
  words_less : v < w → ordering (drop i a) (drop i b) ≡ ordering_answer Less
  words_less l =
      let e = p.value in
      let f = q.value in
      rw (four a i h, four b i k)
      (four_less (get_or a i 0) (get_or a (i + 1) 0) (get_or a (i + 2) 0) (get_or a (i + 3) 0) (get_or b i 0) (get_or b (i + 1) 0) (get_or b (i + 2) 0) (get_or b (i + 3) 0) (drop (i + 4) a) (drop (i + 4) b)
      p.second p.third p.fourth q.second q.third q.fourth (omega arith))

  words_greater : w < v → ordering (drop i a) (drop i b) ≡ ordering_answer Greater
  words_greater l =
      let e = p.value in
      let f = q.value in
      rw (four a i h, four b i k)
      (four_greater (get_or a i 0) (get_or a (i + 1) 0) (get_or a (i + 2) 0) (get_or a (i + 3) 0) (get_or b i 0) (get_or b (i + 1) 0) (get_or b (i + 2) 0) (get_or b (i + 3) 0) (drop (i + 4) a) (drop (i + 4) b)
      p.second p.third p.fourth q.second q.third q.fourth (omega arith))

  -- two words that differ decide
  pub words_decide : (v ≡ w → ⊥) → ordering (drop i a) (drop i b) ≡ ordering_answer (nat_cmp v w)
  words_decide ne = go (ltb v w) refl
    where
      go : (t : Bool) → ltb v w ≡ t → ordering (drop i a) (drop i b) ≡ ordering_answer (nat_cmp v w)
      go true e = let l = ltb-true v w e in rw (lt-ltb v w l) (words_less l)
      go false e = let l = ltb-false v w e in rw (le-ltb v w l, ne_eqb v w ne) (words_greater (omega arith))

  pub words_same : v ≡ w → ordering (drop i a) (drop i b) ≡ ordering (drop (i + 4) a) (drop (i + 4) b)
  words_same g =
      let e = p.value in
      let f = q.value in
      rw (four a i h, four b i k)
      (four_same (get_or a i 0) (get_or a (i + 1) 0) (get_or a (i + 2) 0) (get_or a (i + 3) 0) (get_or b i 0) (get_or b (i + 1) 0) (get_or b (i + 2) 0) (get_or b (i + 3) 0) (drop (i + 4) a) (drop (i + 4) b)
      p.second p.third p.fourth q.second q.third q.fourth (omega arith))
