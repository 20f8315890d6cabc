-- The texts and the pairs of a metadata block at a place of it: one law for each way that reading them ends. By `cut_at n l` as `take n l` and
-- `drop n l`. Assumes nothing.
use mathlib.Core.Path.{◌≡◌, refl, sym, ap, ap₂, subst, ◌∙◌}
use mathlib.Core.Bool.{Bool, true, false}
use mathlib.Core.List.{List, [], ◌∷◌}
use Prim.Native.Nat.{ℕ, zero, suc, ◌+◌, ◌*◌, ◌^◌, ◌≤◌, ◌<◌}
use native.Mathlib.Nat.{not-suc-le-zero, le_of_suc-le-suc}
use native.Mathlib.Omega.{arith}
use lib.Dec.{ltb}
use lib.ListN.{length, take, drop, length-drop}
use lib.Seq.{drop-drop, length-take-le}
use borrow.Author.Tests.{lt-ltb, ltb-true, ltb-false}
use Rattle.sheets.specs.Refusal.{Refusal, not_utf8, bad_metadata}
use Rattle.sheets.specs.Bytes.{Bytes}
use Rattle.sheets.specs.Rule.{is}
use Rattle.sheets.specs.Answer.{Answer, refused, given, ◌>>=◌, when}
use Rattle.sheets.specs.Utf8.{is_utf8}
use Rattle.sheets.specs.Field.{Pair}
use Rattle.sheets.specs.Metadata.{value32, cut_at, take_text, take_pairs}
use Rattle.sheets.proofs.Tests.{not_given, first_gave}
use Rattle.hexadecimal.specs.Hex.{bytes_of}
use Rattle.hexadecimal.proofs.HexLaws.{twice_length}
use Rattle.hexadecimal.proofs.PartLaws.{bytes_part}
use Rattle.endian.specs.Word.{word_value, four_at}
use Rattle.metadata.specs.Entry.{length_at, pair_from}
use Rattle.metadata.specs.PairReading.{Block, text_size, pair_places, KeyIn}

-- ── the first n bytes

pub cut_given : (n : ℕ) (l : Bytes) → n ≤ length l → cut_at n l ≡ given (take n l, drop n l)
cut_given zero l h = refl
cut_given (suc n) [] h = absurd (not-suc-le-zero h)
cut_given (suc n) (x ∷ l) h = rw (cut_given n l (le_of_suc-le-suc h))

pub cut_short : (n : ℕ) (l : Bytes) → length l < n → cut_at n l ≡ refused bad_metadata
cut_short zero l h = absurd (not-suc-le-zero h)
cut_short (suc n) [] h = refl
cut_short (suc n) (x ∷ l) h = rw (cut_short n l (le_of_suc-le-suc h))

-- ── a text

abbrev pub after_text : Bytes × Bytes → Answer (Bytes × Bytes)
after_text p = when not_utf8 (is (is_utf8 p.0)) (p.0, p.1)

abbrev pub sized : ℕ → Bytes → Answer (Bytes × Bytes)
sized n bs = when bad_metadata (is (ltb n (2 ^ 31))) true >>= λ _. cut_at n bs >>= after_text

abbrev pub after_length : Bool → Bytes × Bytes → Answer (Bytes × Bytes)
after_length big p = sized (value32 big p.0) p.1

-- n bytes after their length, which stands at byte k
pub record TextFrom (big : Bool) (b : Bytes) (k n : ℕ) : Type 0 where
  pub within : k + 4 + n ≤ length b
  pub size : n ≡ length_at big b k
  pub read : take_text big (drop k b) ≡ given (take n (drop (k + 4) b), drop (k + 4 + n) b)

module _ (big : Bool) where
  module _ (b : Bytes) (k : ℕ) where
    text_none : length b < k + 4 → take_text big (drop k b) ≡ refused bad_metadata
    text_none h = ap (λ (a : Answer (Bytes × Bytes)). a >>= after_length big) (cut_short 4 (drop k b) (omega (arith, length-drop k b)))

    text_sized : k + 4 ≤ length b → take_text big (drop k b) ≡ sized (length_at big b k) (drop (k + 4) b)
    unfolding length_at
    text_sized h = ap (λ (a : Answer (Bytes × Bytes)). a >>= after_length big) (cut_given 4 (drop k b) (omega (arith, length-drop k b))) ∙ ap (sized (value32 big (take 4 (drop k b)))) (drop-drop 4 k b)

    text_short : k + 4 ≤ length b → length b < k + 4 + length_at big b k → take_text big (drop k b) ≡ refused bad_metadata
    text_short h l = text_sized h ∙ pick (ltb (length_at big b k) (2 ^ 31))
      where
        pick : (t : Bool) → (when bad_metadata (is t) true >>= λ _. cut_at (length_at big b k) (drop (k + 4) b) >>= after_text) ≡ refused bad_metadata
        pick true = ap (λ (a : Answer (Bytes × Bytes)). a >>= after_text) (cut_short (length_at big b k) (drop (k + 4) b) (omega (arith, length-drop (k + 4) b)))
        pick false = refl

    text_negative : k + 4 ≤ length b → ltb (length_at big b k) (2 ^ 31) ≡ false → take_text big (drop k b) ≡ refused bad_metadata
    text_negative h s = text_sized h ∙ ap (λ (t : Bool). when bad_metadata (is t) true >>= λ _. cut_at (length_at big b k) (drop (k + 4) b) >>= after_text) s

    module _ (h : k + 4 + length_at big b k ≤ length b) (l : length_at big b k < 2 ^ 31) where
      text_cut : take_text big (drop k b) ≡ after_text (take (length_at big b k) (drop (k + 4) b), drop (length_at big b k) (drop (k + 4) b))
      text_cut =
          text_sized (omega arith)
          ∙ ap (λ (t : Bool). when bad_metadata (is t) true >>= λ _. cut_at (length_at big b k) (drop (k + 4) b) >>= after_text) (lt-ltb (length_at big b k) (2 ^ 31) l)
          ∙ ap (λ (a : Answer (Bytes × Bytes)). a >>= after_text) (cut_given (length_at big b k) (drop (k + 4) b) (omega (arith, length-drop (k + 4) b)))

      text_decided : (u : Bool) → is_utf8 (take (length_at big b k) (drop (k + 4) b)) ≡ u
          → take_text big (drop k b) ≡ when not_utf8 (is u) (take (length_at big b k) (drop (k + 4) b), drop (k + 4 + length_at big b k) b)
      text_decided u e =
          text_cut ∙ ap₂ (λ (t : Bool) (r : Bytes). when not_utf8 (is t) (take (length_at big b k) (drop (k + 4) b), r)) e (drop-drop (length_at big b k) (k + 4) b)

      text_bad : is_utf8 (take (length_at big b k) (drop (k + 4) b)) ≡ false → take_text big (drop k b) ≡ refused not_utf8
      text_bad u = text_decided false u

      text_read : is_utf8 (take (length_at big b k) (drop (k + 4) b)) ≡ true → TextFrom big b k (length_at big b k)
      text_read u = record { within = h; size = refl; read = text_decided true u }

-- how many bytes a text has
abbrev count_bytes : Answer (Bytes × Bytes) → Answer ℕ
count_bytes a = a >>= λ p. given (length p.0)

module _ (big : Bool) where
  pub size_from : (b : Bytes) (k n : ℕ) → TextFrom big b k n → text_size big b k ≡ given n
  size_from b k n t = ap count_bytes t.read ∙ ap given (length-take-le n (drop (k + 4) b) (omega (arith, t.within, length-drop (k + 4) b)))

  -- and no text of that size but the one that stands there has it
  pub text_from : (b : Bytes) (k n : ℕ) → text_size big b k ≡ given n → TextFrom big b k n
  text_from b k n e =
      room (ltb (length b) (k + 4)) refl
    where
      same_size : TextFrom big b k (length_at big b k) → TextFrom big b k n
      same_size t = let h : length_at big b k ≡ n = cc (size_from b k (length_at big b k) t) in subst (TextFrom big b k) h t

      never : (q : Refusal) → take_text big (drop k b) ≡ refused q → TextFrom big b k n
      never q r = not_given (sym (ap count_bytes r) ∙ e)

      utf8 : (u : Bool) → is_utf8 (take (length_at big b k) (drop (k + 4) b)) ≡ u → k + 4 + length_at big b k ≤ length b → length_at big b k < 2 ^ 31 → TextFrom big b k n
      utf8 true u h l = same_size (text_read big b k h l u)
      utf8 false u h l = never not_utf8 (text_bad big b k h l u)

      sign : (t : Bool) → ltb (length_at big b k) (2 ^ 31) ≡ t → k + 4 + length_at big b k ≤ length b → TextFrom big b k n
      sign true s h = utf8 (is_utf8 (take (length_at big b k) (drop (k + 4) b))) refl h (ltb-true (length_at big b k) (2 ^ 31) s)
      sign false s h = never bad_metadata (text_negative big b k (omega arith) s)

      extent : (t : Bool) → ltb (length b) (k + 4 + length_at big b k) ≡ t → k + 4 ≤ length b → TextFrom big b k n
      extent true s h = never bad_metadata (text_short big b k h (ltb-true (length b) (k + 4 + length_at big b k) s))
      extent false s h = sign (ltb (length_at big b k) (2 ^ 31)) refl (ltb-false (length b) (k + 4 + length_at big b k) s)

      room : (t : Bool) → ltb (length b) (k + 4) ≡ t → TextFrom big b k n
      room true s = never bad_metadata (text_none big b k (ltb-true (length b) (k + 4) s))
      room false s = extent (ltb (length b) (k + 4 + length_at big b k)) refl (ltb-false (length b) (k + 4) s)

  -- ── the same of hexadecimal text

  pub word_length : (m : Bytes) (k : ℕ) → word_value big (four_at m k) ≡ length_at big (bytes_of m) k
  unfolding word_value length_at
  word_length m k = refl

  module _ (m : Bytes) (k : ℕ) (h : Block m) where
    pub read_none : length m < 2 * k + 8 → refused bad_metadata ≡ text_size big (bytes_of m) k
    read_none l = sym (ap count_bytes (text_none big (bytes_of m) k (omega (arith, twice_length m h.is_text))))

    module _ (n : ℕ) (e : n ≡ word_value big (four_at m k)) (f : 2 * k + 8 ≤ length m) where
      is_length_lem : n ≡ length_at big (bytes_of m) k
      is_length_lem = e ∙ word_length m k

      pub read_short : length m < 2 * k + 8 + 2 * n → refused bad_metadata ≡ text_size big (bytes_of m) k
      read_short l = sym (ap count_bytes (text_short big (bytes_of m) k (omega (arith, twice_length m h.is_text)) (omega (arith, is_length_lem, twice_length m h.is_text))))

      module _ (l : 2 * k + 8 + 2 * n ≤ length m) (x y : ℕ) (ex : x ≡ 2 * n) (ey : y ≡ 2 * k + 8) where
        two : y ≡ 2 * (k + 4)
        two = omega arith

        part : bytes_of (take x (drop y m)) ≡ take (length_at big (bytes_of m) k) (drop (k + 4) (bytes_of m))
        part = ap₂ (λ (i j : ℕ). bytes_of (take i (drop j m))) ex two ∙ bytes_part m h.is_text (k + 4) n ∙ ap (λ (i : ℕ). take i (drop (k + 4) (bytes_of m))) is_length_lem

        fits : k + 4 + length_at big (bytes_of m) k ≤ length (bytes_of m)
        fits = omega (arith, is_length_lem, twice_length m h.is_text)

        small : length_at big (bytes_of m) k < 2 ^ 31
        small = omega (arith, is_length_lem, h.short)

        pub read_bad : is_utf8 (bytes_of (take x (drop y m))) ≡ false → refused not_utf8 ≡ text_size big (bytes_of m) k
        read_bad u = sym (ap count_bytes (text_bad big (bytes_of m) k fits small (ap is_utf8 (sym part) ∙ u)))

        pub read_text_lem : is_utf8 (bytes_of (take x (drop y m))) ≡ true → given n ≡ text_size big (bytes_of m) k
        read_text_lem u = ap given is_length_lem ∙ sym (size_from (bytes_of m) k (length_at big (bytes_of m) k) (text_read big (bytes_of m) k fits small (ap is_utf8 (sym part) ∙ u)))

-- ── a pair

-- a key of n bytes that stands at byte k, and a value after it
pub record PairBetween (big : Bool) (b : Bytes) (k n next : ℕ) : Type 0 where
  pub key : TextFrom big b k n
  pub value : TextFrom big b (k + 4 + n) (length_at big b (k + 4 + n))
  pub end : next ≡ k + 4 + n + 4 + length_at big b (k + 4 + n)

-- the value's answer after a key of n bytes
abbrev pub after_key : Bool → Bytes → ℕ → ℕ → Answer (ℕ × ℕ)
after_key big b k n = text_size big b (k + 4 + n) >>= λ v. given (n, k + 4 + n + 4 + v)

module _ (big : Bool) where
  pub pair_between : (b : Bytes) (k n next : ℕ) → pair_places big b k ≡ given (n, next) → PairBetween big b k n next
  pair_between b k n next e =
      let (key, f, g) = first_gave (text_size big b k) (after_key big b k) (n, next) e in
      let (value, h, i) = first_gave (text_size big b (k + 4 + key)) (λ v. given (key, k + 4 + key + 4 + v)) (n, next) g in
      between key value f h i
    where
      between : (key value : ℕ) → text_size big b k ≡ given key → text_size big b (k + 4 + key) ≡ given value → ◌≡◌ {A = Answer (ℕ × ℕ)} (given (key, k + 4 + key + 4 + value)) (given (n, next)) → PairBetween big b k n next
      between key value f h i =
          let p : ◌≡◌ {A = ℕ × ℕ} (key, k + 4 + key + 4 + value) (n, next) = cc in
          let x : key ≡ n = ap (λ (q : ℕ × ℕ). q.0) p in
          let y : k + 4 + key + 4 + value ≡ next = ap (λ (q : ℕ × ℕ). q.1) p in
          let v : TextFrom big b (k + 4 + n) value = text_from big b (k + 4 + n) value (ap (λ (m : ℕ). text_size big b (k + 4 + m)) (sym x) ∙ h) in
          record {
            key = subst (TextFrom big b k) x (text_from big b k key f);
            value = subst (TextFrom big b (k + 4 + n)) v.size v;
            end = omega (arith, x, y, v.size);
          }

abbrev pub then : Bool → ℕ → Pair → Bytes → Answer (List Pair)
then big n p bs = take_pairs big n bs >>= λ ps. given (p ∷ ps)

module _ (big : Bool) where
  -- a refused pair is the refusal of the pairs from there on
  pub pair_refused : (b : Bytes) (k : ℕ) (q : Refusal) → pair_places big b k ≡ refused q → (c : ℕ) → take_pairs big (suc c) (drop k b) ≡ refused q
  pair_refused b k q e c = key (take_text big (drop k b)) refl
    where
      same_refusal : (r : Refusal) → ◌≡◌ {A = Answer (ℕ × ℕ)} (refused r) (refused q) → ◌≡◌ {A = Answer (List Pair)} (refused r) (refused q)
      same_refusal r f = let g : r ≡ q = cc in ap refused g

      value : (n : ℕ) (a : Answer (Bytes × Bytes)) → take_text big (drop (k + 4 + n) b) ≡ a → after_key big b k n ≡ refused q → (p : Bytes) → (a >>= λ (v, bs). then big c (p, v) bs) ≡ refused q
      value n (refused r) f g p = same_refusal r (sym (ap (λ (a : Answer (Bytes × Bytes)). count_bytes a >>= λ v. given (n, k + 4 + n + 4 + v)) f) ∙ g)
      value n (given t) f g p =
          not_given (sym g ∙ ap (λ (a : Answer (Bytes × Bytes)). count_bytes a >>= λ v. given (n, k + 4 + n + 4 + v)) f)

      key : (a : Answer (Bytes × Bytes)) → take_text big (drop k b) ≡ a → take_pairs big (suc c) (drop k b) ≡ refused q
      key (refused r) f =
          ap (λ (a : Answer (Bytes × Bytes)). a >>= λ (key, bs). take_text big bs >>= λ (v, bs). then big c (key, v) bs) f
          ∙ same_refusal r (sym (ap (λ (a : Answer (Bytes × Bytes)). count_bytes a >>= after_key big b k) f) ∙ e)
      key (given t) f =
          let s : text_size big b k ≡ given (length t.0) = ap count_bytes f in
          let from = text_from big b k (length t.0) s in
          ap (λ (a : Answer (Bytes × Bytes)). a >>= λ (key, bs). take_text big bs >>= λ (v, bs). then big c (key, v) bs) from.read
          ∙ value (length t.0) (take_text big (drop (k + 4 + length t.0) b)) refl (sym (ap (λ (a : Answer ℕ). a >>= after_key big b k) s) ∙ e) (take (length t.0) (drop (k + 4) b))

  -- a pair that is read, and those after it
  pub pair_read : (b : Bytes) (k n next : ℕ) → PairBetween big b k n next → (c : ℕ)
      → take_pairs big (suc c) (drop k b) ≡ (take_pairs big c (drop next b) >>= λ ps. given (pair_from big b (k + 4) n ∷ ps))
  unfolding pair_from
  pair_read b k n next p c =
      ap (λ (a : Answer (Bytes × Bytes)). a >>= λ (key, bs). take_text big bs >>= λ (v, bs). then big c (key, v) bs) p.key.read
      ∙ ap (λ (a : Answer (Bytes × Bytes)). a >>= λ (v, bs). then big c (take n (drop (k + 4) b), v) bs) p.value.read
      ∙ value_place
    where
      one : k + 4 + n + 4 + length_at big b (k + 4 + n) ≡ next
      one = sym p.end

      value_place : then big c (take n (drop (k + 4) b), take (length_at big b (k + 4 + n)) (drop (k + 4 + n + 4) b)) (drop (k + 4 + n + 4 + length_at big b (k + 4 + n)) b)
          ≡ then big c (pair_from big b (k + 4) n) (drop next b)
      value_place = ap (λ (i : ℕ). then big c (take n (drop (k + 4) b), take (length_at big b (k + 4 + n)) (drop (k + 4 + n + 4) b)) (drop i b)) one

  -- a key that stands in hexadecimal text
  pub key_within : (m : Bytes) (k n : ℕ) → KeyIn big m k n → 2 * (k + 4 + n) ≤ length m
  key_within m k n h = omega (arith, (text_from big (bytes_of m) k n h.1).within, twice_length m h.0.is_text)

  -- and so does the value after it
  pub value_within : (m : Bytes) (k n size : ℕ) → Block m → text_size big (bytes_of m) (k + 4 + n) ≡ given size → 2 * (k + 4 + n + 4 + size) ≤ length m
  value_within m k n size h e = omega (arith, (text_from big (bytes_of m) (k + 4 + n) size e).within, twice_length m h.is_text)
