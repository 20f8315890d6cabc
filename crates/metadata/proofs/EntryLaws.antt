-- An entry and the parts of the text that it tells: the key and the value of its pair, by the entry's two numbers. Assumes nothing.
use mathlib.Core.Path.{◌≡◌, refl, sym, ap, ap₂, subst, ◌∙◌}
use mathlib.Core.Bool.{Bool, true, false}
use mathlib.Core.List.{List, [], ◌∷◌, ◌++◌}
use Prim.Native.Nat.{ℕ, zero, suc, ◌+◌, ◌*◌, ◌/◌, ◌≤◌, ◌<◌}
use native.Mathlib.Omega.{arith}
use lib.Dec.{eqb}
use lib.ListN.{length, take, drop, get_or}
use borrow.Author.Tests.{ne_eqb}
use Rattle.sheets.specs.Rule.{Meets}
use Rattle.sheets.specs.Bytes.{Bytes, all, is_byte}
use Rattle.sheets.specs.Text.{hex}
use Rattle.sheets.specs.Field.{Pair}
use Rattle.hexadecimal.specs.Hex.{is_hex, bytes_of}
use Rattle.hexadecimal.proofs.HexLaws.{twice_length, bytes_below}
use Rattle.hexadecimal.proofs.PartLaws.{hex_bytes, is_hex_hex, bytes_hex, take_hex, drop_hex, all_take, all_drop}
use Rattle.endian.specs.Word.{word_value, four_at}
use Rattle.key_order.specs.Entry.{entry_of, start_of, size_of, key_at, Each}
use Rattle.key_order.proofs.KeyLaws.{entry_start, entry_size}
use Rattle.metadata.specs.Entry.{length_at, pair_from, pair_at, EntryStands}
use Rattle.metadata.proofs.TextLaws.{PairBetween, word_length}

-- ── the pair of an entry

module _ (big : Bool) where
  pub pair_of_entry : (b : Bytes) (k n : ℕ) → 2 * n < 65536 → pair_at big b (entry_of (2 * k) (2 * n)) ≡ pair_from big b k n
  unfolding pair_at
  pair_of_entry b k n h =
      let x : start_of (entry_of (2 * k) (2 * n)) / 2 ≡ k = omega (arith, entry_start (2 * k) (2 * n) h) in
      let y : size_of (entry_of (2 * k) (2 * n)) / 2 ≡ n = omega (arith, entry_size (2 * k) (2 * n) h) in
      ap₂ (pair_from big b) x y

  -- a pair that was read stands at its entry
  pub entry_stands : (b : Bytes) (k n next : ℕ) → 2 * n < 65536 → PairBetween big b k n next → EntryStands big b (entry_of (2 * (k + 4)) (2 * n))
  entry_stands b k n next h p = record { start = k + 4; size = n; entry = refl; short = h; after = omega arith; within = p.value.within }

  pub not_none : (b : Bytes) (e : ℕ) → EntryStands big b e → eqb e 0 ≡ false
  not_none b e s = ne_eqb e 0 (λ z. omega (arith, s.entry, s.after, z))

-- ── the parts of the text

part_text_lem : (m : Bytes) → is_hex m ≡ true → (k n : ℕ) → take (2 * n) (drop (2 * k) m) ≡ hex (take n (drop k (bytes_of m)))
part_text_lem m h k n = ap (λ (s : Bytes). take (2 * n) (drop (2 * k) s)) (sym (hex_bytes m h)) ∙ ap (take (2 * n)) (drop_hex k (bytes_of m)) ∙ take_hex n (drop k (bytes_of m))

module _ (big : Bool) where
  module _ (m : Bytes) (h : is_hex m ≡ true) (e : ℕ) (s : EntryStands big (bytes_of m) e) where
    is_start : start_of e ≡ 2 * s.start
    is_start = ap start_of s.entry ∙ entry_start (2 * s.start) (2 * s.size) s.short

    is_size : size_of e ≡ 2 * s.size
    is_size = ap size_of s.entry ∙ entry_size (2 * s.start) (2 * s.size) s.short

    is_pair_lem : pair_at big (bytes_of m) e ≡ pair_from big (bytes_of m) s.start s.size
    is_pair_lem = ap (pair_at big (bytes_of m)) s.entry ∙ pair_of_entry big (bytes_of m) s.start s.size s.short

    -- the key of the entry is the key of its pair, in hexadecimal
    pub key_text : key_at m e ≡ hex (pair_at big (bytes_of m) e).0
    unfolding key_at pair_from
    key_text = ap₂ (λ (i j : ℕ). take i (drop j m)) is_size is_start ∙ part_text_lem m h s.start s.size ∙ ap (λ (p : Pair). hex p.0) (sym is_pair_lem)

    pub key_below : Meets (all is_byte (pair_at big (bytes_of m) e).0)
    unfolding pair_from
    key_below = subst (λ (p : Pair). Meets (all is_byte p.0)) (sym is_pair_lem) (all_take is_byte s.size (drop s.start (bytes_of m)) (all_drop is_byte s.start (bytes_of m) (bytes_below m)))

    -- a text that is the entry's key
    module _ (t : Bytes) (f : t ≡ key_at m e) where
      pub key_hex : is_hex t ≡ true
      key_hex = ap is_hex (f ∙ key_text) ∙ is_hex_hex (pair_at big (bytes_of m) e).0 key_below

      pub key_bytes : bytes_of t ≡ (pair_at big (bytes_of m) e).0
      key_bytes = ap bytes_of (f ∙ key_text) ∙ bytes_hex (pair_at big (bytes_of m) e).0 key_below

    -- the value's length stands at half of the key's end
    module _ (k : ℕ) (p : k ≡ (start_of e + size_of e) / 2) where
      is_place : k ≡ s.start + s.size
      is_place = omega (arith, is_start, is_size, p)

      pub length_inside : 2 * k + 8 ≤ length m
      length_inside = omega (arith, is_place, s.within, twice_length m h)

      module _ (n : ℕ) (f : n ≡ word_value big (four_at m k)) where
        is_length_lem : n ≡ length_at big (bytes_of m) (s.start + s.size)
        is_length_lem = f ∙ word_length big m k ∙ ap (length_at big (bytes_of m)) is_place

        pub value_inside : 2 * k + 8 + 2 * n ≤ length m
        value_inside = omega (arith, is_place, is_length_lem, s.within, twice_length m h)

        pub value_part : (x y : ℕ) → x ≡ 2 * n → y ≡ 2 * k + 8 → take x (drop y m) ≡ hex (pair_at big (bytes_of m) e).1
        unfolding pair_from
        value_part x y ex ey =
            let j : y ≡ 2 * (s.start + s.size + 4) = omega (arith, is_place) in
            let i : x ≡ 2 * length_at big (bytes_of m) (s.start + s.size) = omega (arith, is_length_lem) in
            ap₂ (λ (i j : ℕ). take i (drop j m)) i j ∙ part_text_lem m h (s.start + s.size + 4) (length_at big (bytes_of m) (s.start + s.size)) ∙ ap (λ (p : Pair). hex p.1) (sym is_pair_lem)

  -- ── entries

  pub each_at : (b : Bytes) (l : List ℕ) (i : ℕ) → i < length l → Each (EntryStands big b) l → EntryStands big b (get_or l i 0)
  each_at b [] i h s = absurd (omega arith)
  each_at b (e ∷ l) zero h s = s.0
  each_at b (e ∷ l) (suc i) h s = each_at b l i (omega arith) s.1

  pub each_more : (b : Bytes) (l : List ℕ) (e : ℕ) → Each (EntryStands big b) l → EntryStands big b e → Each (EntryStands big b) (l ++ (e ∷ []))
  each_more b [] e s t = (t, tt)
  each_more b (x ∷ l) e s t = (s.0, each_more b l e s.1 t)
