-- The column `pairs`: read back from what was written, and its pairs one after the other. By the pairs that stand from a place on: their text
-- begins with the first one's key, its sign, its value. Assumes nothing.
use mathlib.Core.Path.{◌≡◌, refl, sym, ap, ap₂, subst, ◌∙◌}
use mathlib.Core.Bool.{Bool, true, false, not, cond, true≢false}
use mathlib.Core.List.{List, [], ◌∷◌, ◌++◌, map, append_assoc, append-nil}
use Rattle.std.specs.Prelude.{Option, None, Some}
use Prim.Native.Nat.{ℕ, zero, suc, ◌+◌, ◌-◌, ◌/◌, ◌%◌, ◌≤◌, ◌<◌, min}
use native.Mathlib.Numerals.{add-one}
use native.Mathlib.Omega.{arith}
use lib.Dec.{eqb, ltb}
use lib.ListN.{length, get_or, take, drop, length-append, length-take, length-drop, drop_of_length-le}
use lib.Seq.{drop-cons, drop-drop, get_or-drop, drop-append_seam, take-append_seam}
use borrow.Author.Tests.{lt-ltb, le-ltb, ltb-true, eq-eqb, ne_eqb, not-true}
use Rattle.sheets.specs.Rule.{is, each, Meets}
use Rattle.sheets.specs.Utf8.{is_utf8}
use Rattle.sheets.specs.Bytes.{Bytes, comma, equals, is_byte, all, lacks, join}
use Rattle.sheets.specs.Text.{hex_digit, hex}
use Rattle.sheets.specs.Field.{Pair, before, pairs_rule, metadata_rule}
use Rattle.sheets.specs.FieldSheet.{pair_text, write_list}
use Rattle.sheets.specs.Metadata.{or_none}
use Rattle.sheets.proofs.Tests.{every, at_each, meets}
use Rattle.sheets.proofs.TextLaws.{hex_lacks}
use Rattle.sheets.proofs.Utf8Laws.{utf8_bytes}
use Rattle.sheets.proofs.MetadataLaws.{text_pair, pairs_text_lem}
use Rattle.sheets.proofs.FieldSheetLaws.{pairs_listed, read_pairs}
use Rattle.hexadecimal.specs.Hex.{is_digit, is_hex, given_or}
use Rattle.hexadecimal.proofs.HexLaws.{first_digit, second_digit, hex_after, hex_one}
use Rattle.columns.specs.Columns.{part}
use Rattle.field_pairs.specs.Pairs.{reach, pairs_in, pairs_of, PairsColumn, first_place, after_commas, pairs_text, Pairs, PairsFrom, PairAt, later_text}
use Rattle.field_pairs.specs.Reserved.{is_past}

-- ── the first byte that is s

module _ (s : Bytes) (b : ℕ) where
  pub reach_stop : (i : ℕ) → i < length s → get_or s i 0 ≡ b → reach b (drop i s) ≡ 0
  unfolding reach
  reach_stop i h e = rw (drop-cons s i 0 h, eq-eqb (get_or s i 0) b e)

  pub reach_more : (i : ℕ) → i < length s → (get_or s i 0 ≡ b → ⊥) → i + reach b (drop i s) ≡ i + 1 + reach b (drop (i + 1) s)
  unfolding reach
  reach_more i h e = rw (drop-cons s i 0 h, ne_eqb (get_or s i 0) b e, add-one) (omega arith)

  pub reach_end : (i : ℕ) → length s ≤ i → reach b (drop i s) ≡ 0
  unfolding reach
  reach_end i h = rw (drop_of_length-le s h)

reach_over : (b : ℕ) (a r : Bytes) → Meets (lacks b a) → reach b (a ++ (b ∷ r)) ≡ length a
unfolding reach
reach_over b [] r h = rw (eq-eqb b b refl)
reach_over b (x ∷ a) r h = rw (not-true (eqb x b) h.0) (ap suc (reach_over b a r h.1))

reach_all : (b : ℕ) (a : Bytes) → Meets (lacks b a) → reach b a ≡ length a
unfolding reach
reach_all b [] h = refl
reach_all b (x ∷ a) h = rw (not-true (eqb x b) h.0) (ap suc (reach_all b a h.1))

-- a place that is reached stands within
pub reach_within : (b : ℕ) (s : Bytes) → reach b s ≤ length s
unfolding reach
reach_within b [] = omega arith
reach_within b (x ∷ s) = pick (eqb x b) (reach_within b s)
  where
    pick : (t : Bool) → reach b s ≤ length s → cond t 0 (suc (reach b s)) ≤ suc (length s)
    pick true h = omega arith
    pick false h = omega arith

-- a look at the first n bytes finds it, or passes them
near : (b n : ℕ) (l : Bytes) → reach b (take n l) < n → n ≤ length l → reach b l ≡ reach b (take n l)
unfolding reach
near b zero l h k = absurd (omega arith)
near b (suc n) [] h k = absurd (omega arith)
near b (suc n) (x ∷ l) h k = pick (eqb x b) h (λ i. near b n l i (omega arith))
  where
    pick : (t : Bool) → cond t 0 (suc (reach b (take n l))) < suc n → (reach b (take n l) < n → reach b l ≡ reach b (take n l)) → cond t 0 (suc (reach b l)) ≡ cond t 0 (suc (reach b (take n l)))
    pick true h i = refl
    pick false h i = ap suc (i (omega arith))

past : (b n : ℕ) (l : Bytes) → n ≤ reach b (take n l) → n ≤ length l → reach b l ≡ n + reach b (drop n l)
unfolding reach
past b zero l h k = omega arith
past b (suc n) [] h k = absurd (omega arith)
past b (suc n) (x ∷ l) h k = pick (eqb x b) h (λ i. past b n l i (omega arith))
  where
    pick : (t : Bool) → suc n ≤ cond t 0 (suc (reach b (take n l))) → (n ≤ reach b (take n l) → reach b l ≡ n + reach b (drop n l)) → cond t 0 (suc (reach b l)) ≡ suc n + reach b (drop n l)
    pick true h i = absurd (omega arith)
    pick false h i = omega (arith, i (omega arith))

pub sign_no_digit : is_digit 61 ≡ false
unfolding is_digit
sign_no_digit = refl

pub comma_no_digit : is_digit 44 ≡ false
unfolding is_digit
comma_no_digit = refl

digits_lack : (b : ℕ) (t : Bytes) → is_digit b ≡ false → is_hex t ≡ true → Meets (lacks b t)
digits_lack b [] n h = refl
digits_lack b (x ∷ []) n h = absurd (hex_one x h)
digits_lack b (x ∷ y ∷ t) n h = (other x (first_digit x y t h), (other y (second_digit x y t h), digits_lack b t n (hex_after x y t h)))
  where
    other : (c : ℕ) → is_digit c ≡ true → not (eqb c b) ≡ true
    other c d = ap not (ne_eqb c b (λ e. true≢false (sym d ∙ ap is_digit e ∙ n)))

module _ (s : Bytes) (a e : ℕ) (below : a ≤ e) (high : e ≤ length s) where
  part_size : length (part s a e) ≡ e - a
  part_size = length-take (e - a) (drop a s) ∙ omega (arith, length-drop a s)

  module _ (b : ℕ) where
    pub near_short : reach b (part s a e) ≤ e - a
    near_short = omega (arith, reach_within b (part s a e), part_size)

    pub near_found : reach b (part s a e) < e - a → reach b (drop a s) ≡ reach b (part s a e)
    near_found h = near b (e - a) (drop a s) h (omega (arith, length-drop a s))

    pub near_passed : e - a ≤ reach b (part s a e) → a + reach b (drop a s) ≡ e + reach b (drop e s)
    near_passed h =
        let n : a + (e - a) ≡ e = omega arith in
        omega (arith, past b (e - a) (drop a s) h (omega (arith, length-drop a s)), ap (reach b) (drop-drop (e - a) a s ∙ ap (λ (m : ℕ). drop m s) n))

    pub digits_passed : is_digit b ≡ false → is_hex (part s a e) ≡ true → a + reach b (drop a s) ≡ e + reach b (drop e s)
    digits_passed n h = near_passed (omega (arith, reach_all b (part s a e) (digits_lack b (part s a e) n h), part_size))

-- ── read back

-- a column says the pairs that it was written from
pub pairs_in_lem : (ps : Option (List Pair)) → Meets (metadata_rule ps) → pairs_in (write_list pair_text ps) ≡ ps
unfolding pairs_in
pairs_in_lem ps h = ap (given_or None) (read_pairs ps (pairs_listed ps h))

pub joined : (p : Pair) (ps : List Pair) → join comma (pair_text p ∷ map pair_text ps) ≡ pairs_text (p ∷ ps)
joined p [] = sym (append-nil (pair_text p))
joined p (q ∷ ps) = ap (λ (t : Bytes). pair_text p ++ (comma ∷ t)) (joined q ps)

pub pairs_of_lem : (ps : List Pair) → Meets (pairs_rule ps) → pairs_of (pairs_text ps) ≡ ps
unfolding pairs_of
pairs_of_lem [] h = refl
pairs_of_lem (p ∷ ps) h = ap (λ (t : Bytes). or_none (pairs_in t)) (sym (joined p ps)) ∙ ap or_none (pairs_in_lem (Some (p ∷ ps)) h)

-- ── from a place on

dropped : (s : Bytes) (i : ℕ) (a b : Bytes) → drop i s ≡ a ++ b → drop (i + length a) s ≡ b
dropped s i a b e = sym (drop-drop (length a) i s) ∙ ap (drop (length a)) e ∙ drop-append_seam a b

taken : (s : Bytes) (i : ℕ) (a b : Bytes) → drop i s ≡ a ++ b → take (length a) (drop i s) ≡ a
taken s i a b e = ap (take (length a)) e ∙ take-append_seam a b

ended : (s : Bytes) (i : ℕ) (a b : Bytes) → i ≤ length s → drop i s ≡ a ++ b → length s ≡ i + length a + length b
ended s i a b h e = omega (arith, sym (length-drop i s) ∙ ap length e ∙ length-append a b)

-- what stands after a value
value_reach : (v : Bytes) (ps : List Pair) → Meets (lacks 44 (hex v)) → reach 44 (hex v ++ after_commas ps) ≡ length (hex v)
value_reach v [] h = ap (reach 44) (append-nil (hex v)) ∙ reach_all 44 (hex v) h
value_reach v (q ∷ ps) h = reach_over 44 (hex v) (pair_text q ++ after_commas ps) h

-- a text whose first byte is greater stands after
pub first_later : (a key : Bytes) → get_or key 0 0 < get_or a 0 0 → before key a ≡ true
first_later [] key h = absurd (omega arith)
first_later (x ∷ a) [] h = refl
first_later (x ∷ a) (y ∷ key) h = rw (lt-ltb y x h)

-- whether a pair that begins with the byte b has a first digit greater than n; the sign is no digit: the key is empty
abbrev pub told : ℕ → ℕ → Bool
told n b = cond (eqb b 61) false (ltb n b)

-- whether a pair that begins with the bytes a and b has a key that begins with a byte greater than `A`, whose digits are 41
abbrev pub told_past : ℕ → ℕ → Bool
told_past a b = cond (eqb a 52) (ltb 49 b) (cond (eqb a 61) false (ltb 52 a))

digits_past : (x : ℕ) → x < 256 → ltb 65 x ≡ told_past (hex_digit (x / 16)) (hex_digit (x % 16))
digits_past x l = alike (ltb 65 x) (told_past (hex_digit (x / 16)) (hex_digit (x % 16))) (at_each 256 test (meets (every 256 test) refl) x l)
  where
    agree : Bool → Bool → Bool
    agree true u = u
    agree false u = not u

    test : ℕ → Bool
    test n = agree (ltb 65 n) (told_past (hex_digit (n / 16)) (hex_digit (n % 16)))

    alike : (t u : Bool) → agree t u ≡ true → t ≡ u
    alike true u e = sym e
    alike false u e = sym (not-true u e)

module _ (column : Bytes) (at : ℕ) (short : length column < 65536) (h : at ≤ length column) (p : Pair) (ps : List Pair) (e : drop at column ≡ pairs_text (p ∷ ps)) (k : Meets (pairs_rule (p ∷ ps))) where
  from_key : drop at column ≡ hex p.0 ++ (equals ∷ (hex p.1 ++ after_commas ps))
  from_key = e ∙ append_assoc (hex p.0) (equals ∷ hex p.1) (after_commas ps)

  key_bytes : Meets (all is_byte p.0)
  key_bytes = utf8_bytes p.0 k.0

  value_bytes : Meets (all is_byte p.1)
  value_bytes = utf8_bytes p.1 k.1.0

  pub sign_reach : reach 61 (drop at column) ≡ length (hex p.0)
  sign_reach = ap (reach 61) from_key ∙ reach_over 61 (hex p.0) (hex p.1 ++ after_commas ps) (hex_lacks 61 refl p.0 key_bytes)

  key_length : length column ≡ at + length (hex p.0) + suc (length (hex p.1 ++ after_commas ps))
  key_length = ended column at (hex p.0) (equals ∷ (hex p.1 ++ after_commas ps)) h from_key

  -- the byte at the place is the key's first digit, or the sign after an empty key
  first_told : (n : ℕ) → ltb n (get_or (hex p.0) 0 0) ≡ told n (get_or column at 0)
  first_told n =
      go p.0 (hex_lacks 61 refl p.0 key_bytes)
      ∙ ap (told n) (ap (λ (t : Bytes). get_or t 0 0) (sym from_key ∙ drop-cons column at 0 (omega (arith, key_length))))
    where
      first : Bytes → ℕ
      first key = get_or (hex key ++ (equals ∷ (hex p.1 ++ after_commas ps))) 0 0

      go : (key : Bytes) → Meets (lacks 61 (hex key)) → ltb n (get_or (hex key) 0 0) ≡ told n (first key)
      go [] l = le-ltb n 0 (omega arith)
      go (x ∷ key) l = rw (not-true (eqb (get_or (hex (x ∷ key)) 0 0) 61) l.0)

  -- the two bytes at the place are the digits of the key's first byte
  first_past : ltb 65 (get_or p.0 0 0) ≡ told_past (get_or column at 0) (get_or column (at + 1) 0)
  first_past = go p.0 key_bytes ∙ ap₂ told_past (byte_at 0 ∙ ap (λ (i : ℕ). get_or column i 0) (let z : at + 0 ≡ at = omega arith in z)) (byte_at 1)
    where
      begin : Bytes → Bytes
      begin key = hex key ++ (equals ∷ (hex p.1 ++ after_commas ps))

      byte_at : (i : ℕ) → get_or (begin p.0) i 0 ≡ get_or column (at + i) 0
      byte_at i = ap (λ (t : Bytes). get_or t i 0) (sym from_key) ∙ get_or-drop at column i 0

      go : (key : Bytes) → Meets (all is_byte key) → ltb 65 (get_or key 0 0) ≡ told_past (get_or (begin key) 0 0) (get_or (begin key) 1 0)
      go [] l = refl
      go (x ∷ key) l = digits_past x (ltb-true x 256 l.0)

  pub from_value : drop (at + length (hex p.0) + 1) column ≡ hex p.1 ++ after_commas ps
  from_value = dropped column (at + length (hex p.0)) (equals ∷ []) (hex p.1 ++ after_commas ps) (dropped column at (hex p.0) (equals ∷ (hex p.1 ++ after_commas ps)) from_key)

  pub comma_reach : reach 44 (drop (at + length (hex p.0) + 1) column) ≡ length (hex p.1)
  comma_reach = ap (reach 44) from_value ∙ value_reach p.1 ps (hex_lacks 44 refl p.1 value_bytes)

  value_length : length column ≡ at + length (hex p.0) + 1 + length (hex p.1) + length (after_commas ps)
  value_length = omega (arith, key_length, length-append (hex p.1) (after_commas ps))

  from_rest : drop (at + length (hex p.0) + 1 + length (hex p.1)) column ≡ after_commas ps
  from_rest = dropped column (at + length (hex p.0) + 1) (hex p.1) (after_commas ps) from_value

  -- the pairs after this one, by what stands after it
  rest_from : (qs : List Pair) → drop (at + length (hex p.0) + 1 + length (hex p.1)) column ≡ after_commas qs
      → length column ≡ at + length (hex p.0) + 1 + length (hex p.1) + length (after_commas qs)
      → (next : ℕ) → next ≡ min (at + length (hex p.0) + 1 + length (hex p.1) + 1) (length column)
      → (at + length (hex p.0) + 1 + length (hex p.1) ≤ next) × (next ≤ length column) × (drop next column ≡ pairs_text qs)
  rest_from [] f n next m =
      let s : next ≡ at + length (hex p.0) + 1 + length (hex p.1) = omega arith in
      (omega arith, omega arith, ap (λ (i : ℕ). drop i column) s ∙ f)
  rest_from (q ∷ qs) f n next m =
      let s : next ≡ at + length (hex p.0) + 1 + length (hex p.1) + 1 = omega arith in
      (omega arith, omega arith, ap (λ (i : ℕ). drop i column) s ∙ dropped column (at + length (hex p.0) + 1 + length (hex p.1)) (comma ∷ []) (pairs_text (q ∷ qs)) f)

  module _ (sign end next : ℕ) (x : sign ≡ at + reach 61 (drop at column)) (y : end ≡ sign + 1 + reach 44 (drop (sign + 1) column)) (z : next ≡ min (end + 1) (length column)) where
    is_sign : sign ≡ at + length (hex p.0)
    is_sign = x ∙ ap (λ (i : ℕ). at + i) sign_reach

    is_end : end ≡ at + length (hex p.0) + 1 + length (hex p.1)
    is_end = y ∙ ap (λ (i : ℕ). i + 1 + reach 44 (drop (i + 1) column)) is_sign ∙ ap (λ (i : ℕ). at + length (hex p.0) + 1 + i) comma_reach

    is_rest : (at + length (hex p.0) + 1 + length (hex p.1) ≤ next) × (next ≤ length column) × (drop next column ≡ pairs_text ps)
    is_rest = rest_from ps from_rest value_length next (z ∙ ap (λ (i : ℕ). min (i + 1) (length column)) is_end)

    pub sign_within : sign + 1 ≤ length column
    sign_within = omega (arith, is_sign, key_length)

    found_pair : PairAt column at (record { equals = sign; end = end; next = next })
    found_pair =
        let a : sign - at ≡ length (hex p.0) = omega (arith, is_sign) in
        let b : end - (sign + 1) ≡ length (hex p.1) = omega (arith, is_sign, is_end) in
        let d : sign + 1 ≡ at + length (hex p.0) + 1 = omega (arith, is_sign) in
        record {
          pair = p;
          low = omega (arith, is_sign);
          sign = omega (arith, is_sign, is_end);
          grows = omega (arith, is_end, is_rest.0);
          more = omega (arith, is_rest.0);
          key = ap (λ (i : ℕ). take i (drop at column)) a ∙ taken column at (hex p.0) (equals ∷ (hex p.1 ++ after_commas ps)) from_key;
          value = ap₂ (λ (i j : ℕ). take i (drop j column)) b d ∙ taken column (at + length (hex p.0) + 1) (hex p.1) (after_commas ps) from_value;
          rest = record { short = short; within = is_rest.1; text = record { pairs = ps; is = is_rest.2; rule = k.1.1.1 } };
          first = ap pairs_of e ∙ pairs_of_lem (p ∷ ps) k ∙ ap (λ (l : List Pair). p ∷ l) (sym (ap pairs_of is_rest.2 ∙ pairs_of_lem ps k.1.1.1));
        }

-- where pairs stand and the end is not reached, there is one
module _ (column : Bytes) (at : ℕ) (h : PairsFrom column at) where
  is_one : (l : List Pair) → drop at column ≡ pairs_text l → l ≡ [] → ⊥
  is_one l e f = omega (arith, h.1, sym (length-drop at column) ∙ ap length (e ∙ ap pairs_text f))

  pub later_told : (key : Bytes) → later_text key (pairs_of (drop at column)) ≡ told (get_or key 0 0) (get_or column at 0)
  unfolding later_text
  later_told key = go h.0.text.pairs h.0.text.is h.0.text.rule
    where
      go : (l : List Pair) → drop at column ≡ pairs_text l → Meets (pairs_rule l) → later_text key (pairs_of (drop at column)) ≡ told (get_or key 0 0) (get_or column at 0)
      go [] e k = absurd (is_one [] e refl)
      go (p ∷ ps) e k = ap (later_text key) (ap pairs_of e ∙ pairs_of_lem (p ∷ ps) k) ∙ first_told column at h.0.short h.0.within p ps e k (get_or key 0 0)

  pub past_told : is_past (pairs_of (drop at column)) ≡ told_past (get_or column at 0) (get_or column (at + 1) 0)
  unfolding is_past
  past_told = go h.0.text.pairs h.0.text.is h.0.text.rule
    where
      go : (l : List Pair) → drop at column ≡ pairs_text l → Meets (pairs_rule l) → is_past (pairs_of (drop at column)) ≡ told_past (get_or column at 0) (get_or column (at + 1) 0)
      go [] e k = absurd (is_one [] e refl)
      go (p ∷ ps) e k = ap is_past (ap pairs_of e ∙ pairs_of_lem (p ∷ ps) k) ∙ first_past column at h.0.short h.0.within p ps e k

  module _ (sign : ℕ) (x : sign ≡ at + reach 61 (drop at column)) where
    pub sign_inside : sign + 1 ≤ length column
    sign_inside = go h.0.text.pairs h.0.text.is h.0.text.rule
      where
        go : (l : List Pair) → drop at column ≡ pairs_text l → Meets (pairs_rule l) → sign + 1 ≤ length column
        go [] e k = absurd (is_one [] e refl)
        go (p ∷ ps) e k = sign_within column at h.0.short h.0.within p ps e k sign (sign + 1 + reach 44 (drop (sign + 1) column)) (min (sign + 1 + reach 44 (drop (sign + 1) column) + 1) (length column)) x refl refl

    pub pair_found : (end next : ℕ) → end ≡ sign + 1 + reach 44 (drop (sign + 1) column) → next ≡ min (end + 1) (length column)
        → PairAt column at (record { equals = sign; end = end; next = next })
    pair_found end next y z = go h.0.text.pairs h.0.text.is h.0.text.rule
      where
        go : (l : List Pair) → drop at column ≡ pairs_text l → Meets (pairs_rule l) → PairAt column at (record { equals = sign; end = end; next = next })
        go [] e k = absurd (is_one [] e refl)
        go (p ∷ ps) e k = found_pair column at h.0.short h.0.within p ps e k sign end next x y z

-- a byte stands after one that is not the sign
pub byte_after : (column : Bytes) (at : ℕ) → PairsFrom column at → (get_or column at 0 ≡ 61 → ⊥) → at + 1 < length column
byte_after column at h n = omega (arith, sign_inside column at h (at + reach 61 (drop at column)) refl, reach_more column 61 at h.1 n)

-- ── the first pair

pub column_some : (column : Bytes) → PairsColumn column → 0 < length column
column_some column h = go h.pairs h.text
  where
    go : (ps : Option (List Pair)) → column ≡ write_list pair_text ps → 0 < length column
    go None e = omega (arith, ap length e)
    go (Some []) e = omega (arith, ap length e)
    go (Some (p ∷ ps)) e =
        omega (arith, ap length e ∙ ap length (joined p ps) ∙ length-append (pair_text p) (after_commas ps), length-append (hex p.0) (equals ∷ hex p.1))

-- no pair begins with `~` or `-`
no_sign : (p : Pair) (ps : List Pair) (b : ℕ) → Meets (is (is_utf8 p.0)) → eqb 61 b ≡ false → ((k : Bytes) → Meets (all is_byte k) → Meets (lacks b (hex k))) → eqb (get_or (pairs_text (p ∷ ps)) 0 0) b ≡ false
no_sign p ps b h e f = go p.0 (f p.0 (utf8_bytes p.0 h))
  where
    go : (k : Bytes) → Meets (lacks b (hex k)) → eqb (get_or ((hex k ++ (equals ∷ hex p.1)) ++ after_commas ps) 0 0) b ≡ false
    go [] l = e
    go (x ∷ k) l = not-true (eqb (get_or (hex (x ∷ k)) 0 0) b) l.0

pub pairs_rule_lem : (column : Bytes) (at : ℕ) → Pairs column at → Meets (each text_pair (pairs_of (drop at column)))
pairs_rule_lem column at h = subst (λ (l : List Pair). Meets (each text_pair l)) (sym (ap pairs_of h.text.is ∙ pairs_of_lem h.text.pairs h.text.rule)) (pairs_text_lem h.text.pairs h.text.rule)

pub pairs_end : (column : Bytes) (at : ℕ) → length column ≤ at → pairs_of (drop at column) ≡ []
unfolding pairs_of pairs_in
pairs_end column at h = ap pairs_of (drop_of_length-le column h)

abbrev pub FirstPairs : Bytes → Type 0
FirstPairs t = Pairs t (first_place t) × (pairs_of (drop (first_place t) t) ≡ or_none (pairs_in t))

-- the pairs of the column are those from its first place on
pub first_pairs : (column : Bytes) → PairsColumn column → length column < 65536 → FirstPairs column
unfolding pairs_of pairs_in
first_pairs column h s = subst FirstPairs (sym h.text) (go h.pairs h.rule (omega (arith, s, sym (ap length h.text))))
  where
    go : (ps : Option (List Pair)) → Meets (metadata_rule ps) → length (write_list pair_text ps) < 65536 → FirstPairs (write_list pair_text ps)
    go None k l = (record { short = l; within = omega arith; text = record { pairs = []; is = refl; rule = refl } }, refl)
    go (Some []) k l = (record { short = l; within = omega arith; text = record { pairs = []; is = refl; rule = refl } }, refl)
    go (Some (p ∷ ps)) k l =
        let c : eqb (get_or (pairs_text (p ∷ ps)) 0 0) 126 ≡ false = no_sign p ps 126 k.0 refl (hex_lacks 126 refl) in
        let d : eqb (get_or (pairs_text (p ∷ ps)) 0 0) 45 ≡ false = no_sign p ps 45 k.0 refl (hex_lacks 45 refl) in
        subst FirstPairs (sym (joined p ps))
        (rw (c, d) (record { short = omega (arith, l, ap length (joined p ps)); within = omega arith; text = record { pairs = p ∷ ps; is = refl; rule = k } }, refl))
