-- Pairs one after the other, at places of a sheet; and the bytes that they say. Assumes nothing.
use mathlib.Core.Path.{◌≡◌, refl, sym, ap, ap₂, subst, ◌∙◌}
use mathlib.Core.Bool.{Bool, true, false, ◌&&◌, ◌||◌, not, cond, and-true, and_assoc}
use mathlib.Core.List.{[], ◌∷◌, ◌++◌}
use Prim.Native.Nat.{ℕ, suc, ◌+◌, ◌*◌, ◌-◌, ◌/◌, ◌%◌, ◌≤◌, ◌<◌}
use native.Mathlib.Omega.{arith}
use lib.Dec.{leb}
use lib.ListN.{length, get_or, take, drop, length-take, length-drop, take-append-drop, drop_of_length-le}
use lib.Seq.{drop-drop, take-add, take_all}
use borrow.Author.Tests.{leb-true, le-leb, ne_eqb}
use Rattle.sheets.specs.Rule.{is, ◌and◌, passes, Meets}
use Rattle.sheets.specs.Bytes.{Bytes, all, lacks}
use Rattle.sheets.specs.Text.{hex_digit, hex}
use Rattle.sheets.proofs.Tests.{never, and_left, and_right, meets}
use Rattle.sheets.proofs.Utf8Laws.{is_ascii}
use Rattle.hexadecimal.specs.Hex.{is_digit, value_of}
use Rattle.hexadecimal.proofs.DigitLaws.{to_9, to_f, value_below, digit_of_value}
use Rattle.columns.specs.Columns.{part}
use Rattle.columns.specs.Pairs.{is_pair, pairs, pairs_length, pairs_from}
use Rattle.columns.proofs.OneByteLaws.{two_cons}

-- ── at the front

pairs_short : (b : Bytes) → pairs_length b ≤ length b
unfolding pairs_length
pairs_short [] = omega arith
pairs_short (x ∷ []) = omega arith
pairs_short (x ∷ y ∷ b) = pick (is_pair x y) (pairs_short b)
  where
    pick : (t : Bool) → pairs_length b ≤ length b → cond t (suc (suc (pairs_length b))) 0 ≤ suc (suc (length b))
    pick true h = omega arith
    pick false h = omega arith

front_pairs : (b : Bytes) → Meets (pairs (take (pairs_length b) b))
unfolding pairs_length
front_pairs [] = refl
front_pairs (x ∷ []) = refl
front_pairs (x ∷ y ∷ b) = pick (is_pair x y) refl (front_pairs b)
  where
    pick : (t : Bool) → is_pair x y ≡ t → Meets (pairs (take (pairs_length b) b)) → Meets (pairs (take (cond t (suc (suc (pairs_length b))) 0) (x ∷ y ∷ b)))
    pick true e h = (e, h)
    pick false e h = refl

-- after pairs, the pairs that go on
pub pairs_on : (c r : Bytes) → Meets (pairs c) → pairs_length (c ++ r) ≡ length c + pairs_length r
unfolding pairs_length
pairs_on [] r h = omega arith
pairs_on (x ∷ []) r h = never h
pairs_on (x ∷ y ∷ c) r h = rw h.0 (omega (arith, pairs_on c r h.1))

-- a look at an even number of bytes finds where they end, or passes them
pairs_stop : (c r : Bytes) → length c % 2 ≡ 0 → pairs_length c < length c → pairs_length (c ++ r) ≡ pairs_length c
unfolding pairs_length
pairs_stop [] r even h = absurd (omega arith)
pairs_stop (x ∷ []) r even h = absurd (omega arith)
pairs_stop (x ∷ y ∷ c) r even h = pick (is_pair x y) h (λ k. pairs_stop c r (omega arith) k)
  where
    pick : (t : Bool) → cond t (suc (suc (pairs_length c))) 0 < suc (suc (length c)) → (pairs_length c < length c → pairs_length (c ++ r) ≡ pairs_length c)
        → cond t (suc (suc (pairs_length (c ++ r)))) 0 ≡ cond t (suc (suc (pairs_length c))) 0
    pick true k next = ap (λ (n : ℕ). suc (suc n)) (next (omega arith))
    pick false k next = refl

pairs_all : (c : Bytes) → length c ≤ pairs_length c → Meets (pairs c)
unfolding pairs_length
pairs_all [] h = refl
pairs_all (x ∷ []) h = absurd (omega arith)
pairs_all (x ∷ y ∷ c) h = pick (is_pair x y) refl h (λ k. pairs_all c k)
  where
    pick : (t : Bool) → is_pair x y ≡ t → suc (suc (length c)) ≤ cond t (suc (suc (pairs_length c))) 0 → (length c ≤ pairs_length c → Meets (pairs c)) → Meets (is (is_pair x y) and pairs c)
    pick true e k next = (e, next (omega arith))
    pick false e k next = absurd (omega arith)

-- a pair has two bytes
pairs_even : (b : Bytes) → 0 < pairs_length b → 2 ≤ pairs_length b
unfolding pairs_length
pairs_even [] h = absurd (omega arith)
pairs_even (x ∷ []) h = absurd (omega arith)
pairs_even (x ∷ y ∷ b) h = pick (is_pair x y) h
  where
    pick : (t : Bool) → 0 < cond t (suc (suc (pairs_length b))) 0 → 2 ≤ cond t (suc (suc (pairs_length b))) 0
    pick true k = omega arith
    pick false k = absurd (omega arith)

-- ── at places

pub pairs_two : (s : Bytes) (a : ℕ) → a < pairs_from s a → a + 2 ≤ pairs_from s a
pairs_two s a h = omega (arith, pairs_even (drop a s) (omega arith))

pub part_append : (s : Bytes) (a b c : ℕ) → a ≤ b → b ≤ c → part s a c ≡ part s a b ++ part s b c
part_append s a b c h k =
    let n : c - a ≡ (b - a) + (c - b) = omega arith in
    let m : a + (b - a) ≡ b = omega arith in
    ap (λ (i : ℕ). take i (drop a s)) n ∙ take-add (b - a) (c - b) (drop a s)
    ∙ ap (λ (l : Bytes). part s a b ++ take (c - b) l) (drop-drop (b - a) a s ∙ ap (λ (i : ℕ). drop i s) m)

pub part_rest : (s : Bytes) (a b : ℕ) → a ≤ b → drop a s ≡ part s a b ++ drop b s
part_rest s a b h =
    let m : a + (b - a) ≡ b = omega arith in
    sym (take-append-drop (b - a) (drop a s)) ∙ ap (λ (l : Bytes). part s a b ++ l) (drop-drop (b - a) a s ∙ ap (λ (i : ℕ). drop i s) m)

pub part_size : (s : Bytes) (a b : ℕ) → b ≤ length s → length (part s a b) ≡ b - a
part_size s a b h = length-take (b - a) (drop a s) ∙ omega (arith, length-drop a s)

pub part_end : (s : Bytes) (a : ℕ) → part s a (length s) ≡ drop a s
part_end s a = take_all (length s - a) (drop a s) (omega (arith, length-drop a s))

-- pairs stand up to the place where they end
module _ (s : Bytes) (a e : ℕ) (is : e ≡ pairs_from s a) where
  pub pairs_are : Meets (pairs (part s a e))
  pairs_are =
      let n : pairs_length (drop a s) ≡ e - a = omega arith in
      subst (λ (i : ℕ). Meets (pairs (take i (drop a s)))) n (front_pairs (drop a s))

  pub pairs_within : a ≤ length s → e ≤ length s
  pairs_within h = omega (arith, is, pairs_short (drop a s), length-drop a s)

module _ (s : Bytes) (i e : ℕ) where
  pub pairs_few : e < i + 2 → e ≤ length s → pairs_length (part s i e) ≡ 0
  unfolding pairs_length
  pairs_few h l = few (part s i e) (omega (arith, part_size s i e l))
    where
      few : (b : Bytes) → length b < 2 → pairs_length b ≡ 0
      few [] k = refl
      few (x ∷ []) k = refl
      few (x ∷ y ∷ b) k = absurd (omega arith)

  module _ (h : i + 2 ≤ e) (l : e ≤ length s) where
    pair_here : part s i e ≡ get_or s i 0 ∷ get_or s (i + 1) 0 ∷ part s (i + 2) e
    pair_here =
        let n : e - i ≡ suc (suc (e - (i + 2))) = omega arith in
        ap₂ take n (two_cons s i (omega arith))

    pub pairs_other : is_pair (get_or s i 0) (get_or s (i + 1) 0) ≡ false → pairs_length (part s i e) ≡ 0
    unfolding pairs_length
    pairs_other k = rw (pair_here, k)

    pub pairs_more : is_pair (get_or s i 0) (get_or s (i + 1) 0) ≡ true → i + pairs_length (part s i e) ≡ i + 2 + pairs_length (part s (i + 2) e)
    unfolding pairs_length
    pairs_more k = rw (pair_here, k) (omega arith)

pub pairs_below : (s : Bytes) (a e : ℕ) → a ≤ e → e ≤ length s → a + pairs_length (part s a e) ≤ e
pairs_below s a e low high = omega (arith, pairs_short (part s a e), part_size s a e high)

-- a look at the bytes up to e, an even number of them
module _ (s : Bytes) (a e : ℕ) (low : a ≤ e) (high : e ≤ length s) (even : (e - a) % 2 ≡ 0) where
  pub pairs_near : a + pairs_length (part s a e) < e → a + pairs_length (part s a e) ≡ pairs_from s a
  pairs_near h =
      let n : pairs_length (part s a e ++ drop e s) ≡ pairs_length (part s a e) = pairs_stop (part s a e) (drop e s) (ap (λ (m : ℕ). m % 2) (part_size s a e high) ∙ even) (omega (arith, part_size s a e high)) in
      omega (arith, n, ap pairs_length (part_rest s a e low))

  pub pairs_passed : e ≤ a + pairs_length (part s a e) → pairs_from s a ≡ pairs_from s e
  pairs_passed h = pairs_block (pairs_all (part s a e) (omega (arith, part_size s a e high)))
    where
      pairs_block : Meets (pairs (part s a e)) → pairs_from s a ≡ pairs_from s e
      pairs_block k = omega (arith, ap pairs_length (part_rest s a e low), pairs_on (part s a e) (drop e s) k, part_size s a e high)

-- ── a block

pub block_size : (s : Bytes) (i : ℕ) → i + 32 ≤ length s → length (part s i (i + 32)) ≡ 32
block_size s i h = part_size s i (i + 32) h ∙ omega arith

-- after a block of pairs
pub block_passed : (s : Bytes) (i : ℕ) → i + 32 ≤ length s → passes (pairs (part s i (i + 32))) ≡ true → pairs_from s i ≡ pairs_from s (i + 32)
block_passed s i h k =
    omega (arith, ap pairs_length (part_rest s i (i + 32) (omega arith)), pairs_on (part s i (i + 32)) (drop (i + 32) s) (meets (pairs (part s i (i + 32))) k), block_size s i h)

module _ (b : Bytes) (size : length b ≡ 32) (k : ℕ) (ok : Bool) where
  -- one pair more of a block
  pub block_next : k < 16 → (ok && passes (pairs (drop (2 * k) b))) ≡ ((ok && is_pair (get_or b (2 * k) 0) (get_or b (2 * k + 1) 0)) && passes (pairs (drop (2 * (k + 1)) b)))
  block_next h =
      let n : 2 * k + 2 ≡ 2 * (k + 1) = omega arith in
      ap (λ (c : Bytes). ok && passes (pairs c)) (two_cons b (2 * k) (omega arith))
      ∙ sym (and_assoc ok (is_pair (get_or b (2 * k) 0) (get_or b (2 * k + 1) 0)) (passes (pairs (drop (2 * k + 2) b))))
      ∙ ap (λ (j : ℕ). (ok && is_pair (get_or b (2 * k) 0) (get_or b (2 * k + 1) 0)) && passes (pairs (drop j b))) n

  pub block_end : 16 ≤ k → (ok && passes (pairs (drop (2 * k) b))) ≡ ok
  block_end h = ap (λ (c : Bytes). ok && passes (pairs c)) (drop_of_length-le b {i = 2 * k} (omega arith)) ∙ and-true ok

-- ── the bytes that they say

or_digit : (b : ℕ) → ((leb 48 b && leb b 57) || (leb 97 b && leb b 102)) ≡ true → is_digit b ≡ true
or_digit b h = pick (leb 48 b && leb b 57) refl h
  where
    pick : (t : Bool) → (leb 48 b && leb b 57) ≡ t → (t || (leb 97 b && leb b 102)) ≡ true → is_digit b ≡ true
    pick true e k = (to_9 b (leb-true 48 b (and_left (leb 48 b) (leb b 57) e)) (leb-true b 57 (and_right (leb 48 b) (leb b 57) e))).0
    pick false e k = (to_f b (leb-true 97 b (and_left (leb 97 b) (leb b 102) k)) (leb-true b 102 (and_right (leb 97 b) (leb b 102) k))).0

-- the bytes of the text: ASCII, and none is 00
pub record Plain (l : Bytes) : Type 0 where
  pub bytes : Bytes
  pub is : l ≡ hex bytes
  pub ascii : Meets (all is_ascii bytes)
  pub some : Meets (lacks 0 bytes)

pub plain : (l : Bytes) → Meets (pairs l) → Plain l
plain [] h = record { bytes = []; is = refl; ascii = refl; some = refl }
plain (a ∷ []) h = never h
plain (a ∷ b ∷ l) h =
    let p = plain l h.1 in
    let range = and_left (leb 49 a && leb a 55) ((leb 48 b && leb b 57) || (leb 97 b && leb b 102)) h.0 in
    let low : 49 ≤ a = leb-true 49 a (and_left (leb 49 a) (leb a 55) range) in
    let high : a ≤ 55 = leb-true a 55 (and_right (leb 49 a) (leb a 55) range) in
    let db : is_digit b ≡ true = or_digit b (and_right (leb 49 a && leb a 55) ((leb 48 b && leb b 57) || (leb 97 b && leb b 102)) h.0) in
    let da = to_9 a (omega arith) (omega arith) in
    let va : value_of a ≡ a - 48 = da.1 in
    let vb : value_of b < 16 = value_below b db in
    let x = 16 * value_of a + value_of b in
    let first : x / 16 ≡ value_of a = omega arith in
    let second : x % 16 ≡ value_of b = omega arith in
    record {
      bytes = x ∷ p.bytes;
      is = ap₂ (λ (u v : ℕ). u ∷ v ∷ l) (sym (ap hex_digit first ∙ digit_of_value a da.0)) (sym (ap hex_digit second ∙ digit_of_value b db))
          ∙ ap (λ (r : Bytes). hex_digit (x / 16) ∷ hex_digit (x % 16) ∷ r) p.is;
      ascii = (le-leb x 127 (omega arith), p.ascii);
      some = (ap not (ne_eqb x 0 (λ e. omega arith)), p.some);
    }
