-- The whole of `metadata_from_bytes`: the count, the pairs after it, and their entries in order of keys. Assumes nothing.
use mathlib.Core.Path.{◌≡◌, refl, sym, ap, subst, ◌∙◌}
use mathlib.Core.Bool.{Bool, true, false, cond}
use mathlib.Core.List.{List, [], ◌∷◌, map}
use Rattle.std.specs.Prelude.{Option, Some}
use Prim.Native.Nat.{ℕ, ◌^◌, ◌≤◌, ◌<◌}
use native.Mathlib.Omega.{arith}
use lib.Dec.{ltb}
use lib.ListN.{length, take, drop}
use borrow.Author.Tests.{lt-ltb, le-ltb}
use Rattle.sheets.specs.Refusal.{bad_metadata}
use Rattle.sheets.specs.Rule.{Meets}
use Rattle.sheets.specs.Bytes.{Bytes}
use Rattle.sheets.specs.Answer.{Answer, refused, given, ◌>>=◌}
use Rattle.sheets.specs.Field.{Pair}
use Rattle.sheets.specs.Strict.{no_reserved}
use Rattle.sheets.specs.Metadata.{value32, take_pairs, count_of, read_block, extension_of, Extension, some_pairs, meaning, metadata_from_bytes}
use Rattle.hexadecimal.specs.Hex.{is_hex, bytes_of}
use Rattle.hexadecimal.proofs.HexLaws.{twice_length}
use Rattle.endian.specs.Word.{word_value, four_at}
use Rattle.key_order.specs.Entry.{key_at, Each}
use Rattle.key_order.specs.Order.{ordered}
use Rattle.key_order.proofs.PairLaws.{HexKey, each_ordered, ordered_hex_pairs}
use Rattle.metadata.specs.declared.Metadata.{Metadata}
use Rattle.metadata.specs.Entry.{length_at, pair_at, pairs_at, value_at, EntryStands}
use Rattle.metadata.specs.Reading.{Kept, kept_of, kept_at, kept_pairs, meaning_of, meaning_at, EntriesStand}
use Rattle.metadata.proofs.TextLaws.{cut_given, cut_short, word_length}
use Rattle.metadata.proofs.EntryLaws.{key_text, key_below}
use Rattle.metadata.proofs.KeepLaws.{kept_means}

-- ── the count

module _ (big : Bool) where
  module _ (m : Bytes) (n : ℕ) (e : n ≡ word_value big (four_at m 0)) where
    count_is : (t : Bool) → ltb n (2 ^ 31) ≡ t → cond t n 0 ≡ count_of (length_at big (bytes_of m) 0)
    count_is t h = ap (λ (u : Bool). cond u n 0) (sym h) ∙ ap count_of (e ∙ word_length big m 0)

    pub some_pairs_lem : n < 2147483648 → n ≡ count_of (length_at big (bytes_of m) 0)
    some_pairs_lem h = count_is true (lt-ltb n (2 ^ 31) h)

    pub no_pairs : 2147483648 ≤ n → 0 ≡ count_of (length_at big (bytes_of m) 0)
    no_pairs h = count_is false (le-ltb n (2 ^ 31) h)

-- ── the block

abbrev pub after_count : Bool → Bytes × Bytes → Answer (List Pair)
after_count big p = take_pairs big (count_of (value32 big p.0)) p.1

module _ (big : Bool) where
  block_pairs : (b : Bytes) → 4 ≤ length b → read_block big b ≡ take_pairs big (count_of (length_at big b 0)) (drop 4 b)
  unfolding length_at
  block_pairs b h = ap (λ (a : Answer (Bytes × Bytes)). a >>= after_count big) (cut_given 4 b h)

  block_short : (b : Bytes) → length b < 4 → read_block big b ≡ refused bad_metadata
  block_short b h = ap (λ (a : Answer (Bytes × Bytes)). a >>= after_count big) (cut_short 4 b h)

abbrev pub told : Answer (List Pair) → Answer (Option (List Pair) × Option Extension)
told a = a >>= λ ps. given (meaning ps)

module _ (big : Bool) where
  module _ (m : Bytes) (h : is_hex m ≡ true) where
    pub cut_off : length m < 8 → refused bad_metadata ≡ metadata_from_bytes big (Some (bytes_of m))
    cut_off l = sym (ap told (block_short big (bytes_of m) (omega (arith, twice_length m h))))

    -- what is kept of the block's pairs means what the block does
    pub block_means : 8 ≤ length m → (n : ℕ) → n ≡ count_of (length_at big (bytes_of m) 0) → (a : Answer Kept) → a ≡ kept_pairs big n (drop 4 (bytes_of m))
        → (a >>= λ k. given (meaning_of k)) ≡ metadata_from_bytes big (Some (bytes_of m))
    block_means l n e a f =
        ap (λ (x : Answer Kept). x >>= λ k. given (meaning_of k)) f
        ∙ both (take_pairs big n (drop 4 (bytes_of m)))
        ∙ ap (λ (i : ℕ). told (take_pairs big i (drop 4 (bytes_of m)))) e
        ∙ sym (ap told (block_pairs big (bytes_of m) (omega (arith, twice_length m h))))
      where
        both : (x : Answer (List Pair)) → ((x >>= λ ps. given (kept_of ps)) >>= λ k. given (meaning_of k)) ≡ told x
        both (refused r) = refl
        both (given ps) = ap given (kept_means ps)

  -- ── the order

  -- the keys of entries are their pairs', in hexadecimal
  hex_keys : (m : Bytes) → is_hex m ≡ true → (es : List ℕ) → Each (EntryStands big (bytes_of m)) es → Each (HexKey (key_at m) (pair_at big (bytes_of m))) es
  hex_keys m h [] s = tt
  hex_keys m h (e ∷ es) s = ((key_text big m h e s.0, key_below big m h e s.0), hex_keys m h es s.1)

  -- n entries es' are the first of es in order of their keys
  module _ (m : Bytes) (h : is_hex m ≡ true) (es : List ℕ) (f : Metadata) (w : EntriesStand big (bytes_of m) es f)
      (n : ℕ) (es' : List ℕ) (e : take n es' ≡ ordered (key_at m) (take f.count es)) where
    pub order_means : Meets (no_reserved (pairs_at big (bytes_of m) es f.count))
        → meaning_at big (bytes_of m) es' (record { count = n; name = f.name; more = f.more }) ≡ meaning_of (kept_at big (bytes_of m) es f)
    unfolding pairs_at
    order_means free =
        ap (λ (l : List Pair). (some_pairs l, extension_of (value_at big (bytes_of m) f.name) (value_at big (bytes_of m) f.more)))
        (ap (map (pair_at big (bytes_of m))) e ∙ ordered_hex_pairs (key_at m) (pair_at big (bytes_of m)) (take f.count es) (hex_keys m h (take f.count es) w.entries.each) free)

    pub order_stands : n ≤ length es' → EntriesStand big (bytes_of m) es' (record { count = n; name = f.name; more = f.more })
    order_stands l =
        record {
          entries =
              record {
                count = l;
                each =
                    subst (Each (EntryStands big (bytes_of m))) (sym e)
                    (each_ordered (EntryStands big (bytes_of m)) (key_at m) (take f.count es) w.entries.each);
              };
          has_name = w.has_name;
          has_more = w.has_more;
        }
