-- Pairs of keys and values: a pair's text, one pair and those after it. By cases of the answers. Assumes nothing.
use mathlib.Core.Path.{◌≡◌, refl, sym, ◌∙◌, ap, subst}
use mathlib.Core.Logic.{◌⊎◌, inl, inr}
use mathlib.Core.Bool.{Bool, true, false, ◌&&◌, cond, true≢false, and-false}
use mathlib.Core.List.{List, [], ◌∷◌, ◌++◌}
use Rattle.std.specs.Prelude.{None, Some}
use Prim.Native.Nat.{ℕ, ◌+◌, ◌≤◌, ◌<◌}
use native.Mathlib.Numerals.{add-one}
use native.Mathlib.Omega.{arith}
use lib.Dec.{ltb}
use lib.ListN.{length, take, drop}
use lib.Seq.{take_all}
use borrow.Author.Tests.{ltb-true, ltb-false}
use Rattle.sheets.specs.Rule.{is, ◌and◌, passes, Meets}
use Rattle.sheets.specs.Bytes.{Bytes, lacks, split}
use Rattle.sheets.specs.Answer.{Answer, refused, given, ◌>>=◌, read_each}
use Rattle.sheets.specs.Parts.{bytes_before}
use Rattle.sheets.specs.Text.{hex, unhex}
use Rattle.sheets.specs.Utf8.{is_utf8}
use Rattle.sheets.specs.Field.{Pair, before, first_after, pair_rule, pairs_rule, metadata_rule}
use Rattle.sheets.specs.FieldSheet.{pair_of, read_pair}
use Rattle.sheets.proofs.Tests.{and_left, and_right, not_some}
use Rattle.sheets.proofs.BytesLaws.{split_next, split_last, Cut, first_of}
use Rattle.sheets.proofs.PartLaws.{before_free, before_cut}
use Rattle.sheets.proofs.InverseLaws.{split_some, unhex_read}
use Rattle.sheets.proofs.TextLaws.{hex_lacks}
use Rattle.sheets.proofs.Utf8Laws.{utf8_bytes}
use Rattle.hexadecimal.specs.Hex.{is_hex, bytes_of}
use Rattle.hexadecimal.proofs.HexLaws.{unhex_is, unhex_not}
use Rattle.field_columns.specs.Lists.{keeps, is_mark, is_digits, is_pair, key_end, are_pairs, follow_pairs, is_pairs}
use Rattle.field_columns.proofs.ListLaws.{list_mark, list_parts, some_keeps}

-- ── hexadecimal of UTF-8

pub digits_not : (t : Bytes) → is_hex t ≡ false → is_digits t ≡ false
unfolding is_digits
digits_not t h = ap (keeps (λ (b : Bytes). is (is_utf8 b))) (unhex_not t h)

pub digits_are : (t : Bytes) → is_hex t ≡ true → is_digits t ≡ is_utf8 (bytes_of t)
unfolding is_digits
digits_are t h = ap (keeps (λ (b : Bytes). is (is_utf8 b))) (unhex_is t h)

-- what they say
digits_say : (t : Bytes) → is_digits t ≡ true → (b : Bytes) × (unhex t ≡ given b) × (is_utf8 b ≡ true)
unfolding is_digits
digits_say t h = pick (unhex t) refl h
  where
    pick : (a : Answer Bytes) → unhex t ≡ a → keeps (λ (b : Bytes). is (is_utf8 b)) a ≡ true → (b : Bytes) × (unhex t ≡ given b) × (is_utf8 b ≡ true)
    pick (refused r) e g = absurd (true≢false (sym g))
    pick (given b) e g = (b, e, g)

-- ── a pair's text

-- a text with `=` in it is no hexadecimal
equals_not : (a b : Bytes) → is_digits (a ++ (61 ∷ b)) ≡ false
equals_not a b = pick (is_digits (a ++ (61 ∷ b))) refl
  where
    lacks_not : (x : Bytes) → Meets (lacks 61 (x ++ (61 ∷ b))) → ⊥
    lacks_not [] h = true≢false (sym h.0)
    lacks_not (c ∷ x) h = lacks_not x h.1

    pick : (t : Bool) → is_digits (a ++ (61 ∷ b)) ≡ t → t ≡ false
    pick false e = refl
    pick true e =
        let w = digits_say (a ++ (61 ∷ b)) e in
        absurd (lacks_not a (subst (λ (y : Bytes). Meets (lacks 61 y)) (unhex_read (a ++ (61 ∷ b)) w.0 w.1) (hex_lacks 61 refl w.0 (utf8_bytes w.0 w.2))))

both : (m n : Answer Bytes) → keeps pair_rule (m >>= λ a. n >>= λ b. given (a, b)) ≡ (keeps (λ (b : Bytes). is (is_utf8 b)) m && keeps (λ (b : Bytes). is (is_utf8 b)) n)
both (refused r) n = refl
both (given a) (refused r) = sym (and-false (is_utf8 a))
both (given a) (given b) = refl

pub pair_text_lem : (k v : Bytes) → Meets (lacks 61 k) → is_pair (k ++ (61 ∷ v)) ≡ (is_digits k && is_digits v)
unfolding is_pair is_digits
pair_text_lem k v h = go (first_of 61 v)
  where
    go : Meets (lacks 61 v) ⊎ Cut 61 v → keeps pair_rule (pair_of (split 61 (k ++ (61 ∷ v)))) ≡ (is_digits k && is_digits v)
    go (inl f) = ap (λ (l : List Bytes). keeps pair_rule (pair_of l)) (split_next 61 k v h ∙ ap (λ (l : List Bytes). k ∷ l) (split_last 61 v f)) ∙ both (unhex k) (unhex v)
    go (inr w) =
        let s = split_some 61 w.back in
        ap (λ (l : List Bytes). keeps pair_rule (pair_of l)) (split_next 61 k v h ∙ ap (λ (l : List Bytes). k ∷ l) (ap (split 61) w.is ∙ split_next 61 w.front w.back w.free ∙ ap (λ (l : List Bytes). w.front ∷ l) s.2))
        ∙ sym (ap (λ (t : Bool). is_digits k && t) (ap is_digits w.is ∙ equals_not w.front w.back) ∙ and-false (is_digits k))

pair_read : (k v a b : Bytes) → Meets (lacks 61 k) → unhex k ≡ given a → unhex v ≡ given b → is_utf8 b ≡ true → read_pair (k ++ (61 ∷ v)) ≡ given (a, b)
pair_read k v a b h ea eb u =
    let free : Meets (lacks 61 v) = subst (λ (y : Bytes). Meets (lacks 61 y)) (unhex_read v b eb) (hex_lacks 61 refl b (utf8_bytes b u)) in
    ap pair_of (split_next 61 k v h ∙ ap (λ (l : List Bytes). k ∷ l) (split_last 61 v free)) ∙ rw (ea, eb)

-- the bytes up to the first `=`, and those after it
module _ (t : Bytes) (k : ℕ) (at : k ≡ bytes_before 61 t) where
  key_free : Meets (lacks 61 (take k t))
  key_free = rw at (before_free 61 t)

  no_pair : is_pair t ≡ false → key_end t ≡ None
  unfolding key_end
  no_pair e = rw e

  unequal : length t ≤ k → is_pair t ≡ false
  unfolding is_pair
  unequal h = ap (λ (l : List Bytes). keeps pair_rule (pair_of l)) (split_last 61 t (subst (λ (y : Bytes). Meets (lacks 61 y)) (take_all k t h) key_free))

  pub no_equals : length t ≤ k → key_end t ≡ None
  no_equals h = no_pair (unequal h)

  module _ (h : k < length t) where
    whole : t ≡ take k t ++ (61 ∷ drop (k + 1) t)
    whole = rw (at, add-one (bytes_before 61 t)) (before_cut 61 t (rw at at h))

    pub by_sides : is_pair t ≡ (is_digits (take k t) && is_digits (drop (k + 1) t))
    by_sides = ap is_pair whole ∙ pair_text_lem (take k t) (drop (k + 1) t) key_free

    pub key_not : is_digits (take k t) ≡ false → key_end t ≡ None
    key_not e = no_pair (by_sides ∙ ap (λ (x : Bool). x && is_digits (drop (k + 1) t)) e)

    pub value_not : is_digits (drop (k + 1) t) ≡ false → key_end t ≡ None
    value_not e = no_pair (by_sides ∙ ap (λ (x : Bool). is_digits (take k t) && x) e ∙ and-false (is_digits (take k t)))

    pub key_there : is_digits (take k t) ≡ true → is_digits (drop (k + 1) t) ≡ true → key_end t ≡ Some k
    unfolding key_end
    key_there ek ev = rw (by_sides, ek, ev) (ap Some (sym at))

-- a key, up to k, and a value
pub record KeyTo (t : Bytes) (k : ℕ) : Type 0 where
  pub pair : Pair
  pub reads : read_pair t ≡ given pair
  pub rule : Meets (pair_rule pair)
  pub is_key : take k t ≡ hex pair.0
  pub high : k ≤ length t

-- where a key ends, a pair stands
pub key_told : (t : Bytes) (k : ℕ) → key_end t ≡ Some k → KeyTo t k
unfolding key_end
key_told t k e = pick (is_pair t) refl e
  where
    n : ℕ
    n = bytes_before 61 t

    sides : is_pair t ≡ true → (h : n < length t) → KeyTo t n
    sides p h =
        let both : (is_digits (take n t) && is_digits (drop (n + 1) t)) ≡ true = sym (by_sides t n refl h) ∙ p in
        let a = digits_say (take n t) (and_left (is_digits (take n t)) (is_digits (drop (n + 1) t)) both) in
        let b = digits_say (drop (n + 1) t) (and_right (is_digits (take n t)) (is_digits (drop (n + 1) t)) both) in
        record {
          pair = (a.0, b.0);
          reads = ap read_pair (whole t n refl h) ∙ pair_read (take n t) (drop (n + 1) t) a.0 b.0 (before_free 61 t) a.1 b.1 b.2;
          rule = (a.2, b.2);
          is_key = sym (unhex_read (take n t) a.0 a.1);
          high = omega arith;
        }

    found : is_pair t ≡ true → (u : Bool) → ltb n (length t) ≡ u → KeyTo t n
    found p true u = sides p (ltb-true n (length t) u)
    found p false u = absurd (true≢false (sym p ∙ unequal t n refl (ltb-false n (length t) u)))

    pick : (u : Bool) → is_pair t ≡ u → cond u (Some n) None ≡ Some k → KeyTo t k
    pick true p q =
        let same : n ≡ k = cc in
        subst (KeyTo t) same (found p (ltb n (length t)) refl)
    pick false p q = not_some q

pub key_none : (t : Bytes) → key_end t ≡ None → is_pair t ≡ false
unfolding key_end
key_none t e = pick (is_pair t) e
  where
    pick : (u : Bool) → cond u (Some (bytes_before 61 t)) None ≡ None → u ≡ false
    pick true q = not_some (sym q)
    pick false q = refl

-- ── one pair and those after it

module _ (p : Bytes) (ps : List Bytes) where
  pub first_not : is_pair p ≡ false → are_pairs (p ∷ ps) ≡ false
  unfolding is_pair are_pairs
  first_not h = pick (read_pair p) h (read_each read_pair ps)
    where
      pick : (a : Answer Pair) → keeps pair_rule a ≡ false → (m : Answer (List Pair)) → keeps pairs_rule (a >>= λ y. m >>= λ l. given (y ∷ l)) ≡ false
      pick (refused r) e m = refl
      pick (given y) e (refused r) = refl
      pick (given y) e (given l) = go (is_utf8 y.0) (is_utf8 y.1) e
        where
          go : (t u : Bool) → (t && u) ≡ false → (t && (u && (first_after y.0 l && passes (pairs_rule l)))) ≡ false
          go true true e = absurd (true≢false e)
          go true false e = refl
          go false u e = refl

  pub next_not : (k : Bytes) → is_pair p ≡ false → follow_pairs k (p ∷ ps) ≡ false
  unfolding is_pair follow_pairs
  next_not k h = pick (read_pair p) h (read_each read_pair ps)
    where
      pick : (a : Answer Pair) → keeps pair_rule a ≡ false → (m : Answer (List Pair)) → keeps (λ (l : List Pair). is (first_after k l) and pairs_rule l) (a >>= λ y. m >>= λ l. given (y ∷ l)) ≡ false
      pick (refused r) e m = refl
      pick (given y) e (refused r) = refl
      pick (given y) e (given l) = go (before k y.0) (is_utf8 y.0) (is_utf8 y.1) e
        where
          go : (s t u : Bool) → (t && u) ≡ false → (s && (t && (u && (first_after y.0 l && passes (pairs_rule l))))) ≡ false
          go false t u e = refl
          go true true true e = absurd (true≢false e)
          go true true false e = refl
          go true false u e = refl

  module _ (y : Pair) (reads : read_pair p ≡ given y) (rule : Meets (pair_rule y)) where
    pub first_there : are_pairs (p ∷ ps) ≡ follow_pairs y.0 ps
    unfolding are_pairs follow_pairs
    first_there = ap (λ (a : Answer Pair). keeps pairs_rule (a >>= λ z. read_each read_pair ps >>= λ l. given (z ∷ l))) reads ∙ pick (read_each read_pair ps)
      where
        pick : (m : Answer (List Pair)) → keeps pairs_rule (m >>= λ l. given (y ∷ l)) ≡ keeps (λ (l : List Pair). is (first_after y.0 l) and pairs_rule l) m
        pick (refused r) = refl
        pick (given l) = rw (rule.0, rule.1)

    pub next_there : (k : Bytes) → follow_pairs k (p ∷ ps) ≡ (before k y.0 && follow_pairs y.0 ps)
    unfolding follow_pairs
    next_there k = ap (λ (a : Answer Pair). keeps (λ (l : List Pair). is (first_after k l) and pairs_rule l) (a >>= λ z. read_each read_pair ps >>= λ l. given (z ∷ l))) reads ∙ pick (read_each read_pair ps)
      where
        pick : (m : Answer (List Pair)) → keeps (λ (l : List Pair). is (first_after k l) and pairs_rule l) (m >>= λ l. given (y ∷ l)) ≡ (before k y.0 && keeps (λ (l : List Pair). is (first_after y.0 l) and pairs_rule l) m)
        pick (refused r) = sym (and-false (before k y.0))
        pick (given l) = rw (rule.0, rule.1)

pub follow_none : (k : Bytes) → follow_pairs k [] ≡ true
unfolding follow_pairs
follow_none k = refl

pub pairs_mark : (c : Bytes) → is_mark c ≡ true → is_pairs c ≡ true
unfolding is_pairs
pairs_mark c m = list_mark metadata_rule read_pair c refl refl m

pub pairs_parts : (c : Bytes) → is_mark c ≡ false → is_pairs c ≡ are_pairs (split 44 c)
unfolding is_pairs are_pairs
pairs_parts c m = ap (keeps metadata_rule) (list_parts metadata_rule read_pair c m) ∙ some_keeps metadata_rule (read_each read_pair (split 44 c))
