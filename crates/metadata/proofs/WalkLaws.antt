-- The walk over a block's pairs: after i of them, the block's pairs are those that were read and then those from the walk's place on, and the entries
-- say what is kept of those that were read. Assumes nothing.
use mathlib.Core.Path.{◌≡◌, refl, sym, ap, subst, ◌∙◌}
use mathlib.Core.Bool.{Bool, true, false, cond}
use mathlib.Core.List.{List, [], ◌∷◌, ◌++◌, map, append_assoc, append-nil}
use Prim.Native.Nat.{ℕ, suc, ◌+◌, ◌-◌, ◌*◌, ◌/◌, ◌≤◌, ◌<◌}
use native.Mathlib.Omega.{arith}
use lib.ListN.{length, drop, take, length-append}
use lib.Seq.{length-take-le}
use Rattle.sheets.specs.Refusal.{Refusal}
use Rattle.sheets.specs.Bytes.{Bytes}
use Rattle.sheets.specs.Answer.{Answer, refused, given, ◌>>=◌}
use Rattle.sheets.specs.Field.{Pair}
use Rattle.sheets.specs.Metadata.{take_pairs, reserved}
use Rattle.hexadecimal.specs.Hex.{bytes_of}
use Rattle.hexadecimal.proofs.HexLaws.{twice_length}
use Rattle.key_order.specs.Entry.{entry_of, IsEntry}
use Rattle.metadata.specs.declared.Metadata.{Metadata}
use Rattle.metadata.specs.Entry.{pair_from, pair_at, pairs_at, EntryStands}
use Rattle.metadata.specs.PairReading.{Block, pair_places}
use Rattle.metadata.specs.Reading.{Kept, unreserved, kept_of, kept_at, kept_pairs, EntriesStand, Adds, RoomFor, Keeps}
use Rattle.metadata.proofs.TextLaws.{PairBetween, pair_refused, pair_read}
use Rattle.metadata.proofs.EntryLaws.{pair_of_entry, entry_stands}
use Rattle.metadata.proofs.KeepLaws.{nothing, kept_none, none_stand}

-- ── there are no more entries than pairs

unreserved_few : (ps : List Pair) → length (unreserved ps) ≤ length ps
unreserved_few [] = omega arith
unreserved_few (p ∷ ps) = pick (reserved p.0) (unreserved_few ps)
  where
    pick : (t : Bool) → length (unreserved ps) ≤ length ps → length (cond t (unreserved ps) (p ∷ unreserved ps)) ≤ suc (length ps)
    pick true h = omega arith
    pick false h = omega arith

module _ (big : Bool) where
  pairs_count : (b : Bytes) (es : List ℕ) (n : ℕ) → n ≤ length es → length (pairs_at big b es n) ≡ n
  unfolding pairs_at
  pairs_count b es n h = count (take n es) ∙ length-take-le n es h
    where
      count : (l : List ℕ) → length (map (pair_at big b) l) ≡ length l
      count [] = refl
      count (e ∷ l) = ap suc (count l)

  pub few_entries : (b : Bytes) (es : List ℕ) (f : Metadata) (ps : List Pair) → EntriesStand big b es f → kept_at big b es f ≡ kept_of ps → f.count ≤ length ps
  few_entries b es f ps w k = omega (arith, pairs_count b es f.count w.entries.count, ap (λ (k : Kept). length k.pairs) k, unreserved_few ps)

-- ── the walk

-- pairs, and then those of an answer
abbrev and_then : List Pair → Answer (List Pair) → Answer (List Pair)
and_then ps a = a >>= λ qs. given (ps ++ qs)

then_nothing : (a : Answer (List Pair)) → a ≡ and_then [] a
then_nothing (refused r) = refl
then_nothing (given qs) = refl

then_one : (ps : List Pair) (p : Pair) (a : Answer (List Pair)) → and_then ps (a >>= λ qs. given (p ∷ qs)) ≡ and_then (ps ++ (p ∷ [])) a
then_one ps p (refused r) = refl
then_one ps p (given qs) = ap given (sym (append_assoc ps (p ∷ []) qs))

pub record Walking (big : Bool) (m : Bytes) (n size : ℕ) (es : List ℕ) (f : Metadata) (k i : ℕ) : Type 0 where
  pub pairs : List Pair
  pub room : length es ≡ size
  pub turns : i ≤ n
  pub place : 2 * k ≤ length m
  pub counted : 8 * length pairs + 4 ≤ k
  pub standing : EntriesStand big (bytes_of m) es f
  pub keeps : kept_at big (bytes_of m) es f ≡ kept_of pairs
  pub read : take_pairs big n (drop 4 (bytes_of m)) ≡ and_then pairs (take_pairs big (n - i) (drop k (bytes_of m)))

module _ (big : Bool) where
  pub walk_start : (m : Bytes) (n : ℕ) (es : List ℕ) → 8 ≤ length m → Walking big m n (length es) es nothing 4 0
  walk_start m n es h =
      record {
        pairs = [];
        room = refl;
        turns = omega arith;
        place = h;
        counted = omega arith;
        standing = none_stand big (bytes_of m) es;
        keeps = kept_none big (bytes_of m) es;
        read = then_nothing (take_pairs big n (drop 4 (bytes_of m))) ∙ ap (λ (j : ℕ). and_then [] (take_pairs big j (drop 4 (bytes_of m)))) none_yet;
      }
    where
      none_yet : n ≡ n - 0
      none_yet = omega arith

  module _ (m : Bytes) (n size : ℕ) (es : List ℕ) (f : Metadata) (k i : ℕ) (w : Walking big m n size es f k i) where
    pub walk_end : n ≤ i → given (kept_at big (bytes_of m) es f) ≡ kept_pairs big n (drop 4 (bytes_of m))
    walk_end l =
        let z : n - i ≡ 0 = omega arith in
        let all : take_pairs big n (drop 4 (bytes_of m)) ≡ given w.pairs = w.read ∙ ap (λ (j : ℕ). and_then w.pairs (take_pairs big j (drop k (bytes_of m)))) z ∙ ap given (append-nil w.pairs) in
        ap given w.keeps ∙ sym (ap (λ (a : Answer (List Pair)). a >>= λ ps. given (kept_of ps)) all)

    module _ (l : i < n) where
      rest : take_pairs big n (drop 4 (bytes_of m)) ≡ and_then w.pairs (take_pairs big (suc (n - (i + 1))) (drop k (bytes_of m)))
      rest = let z : n - i ≡ suc (n - (i + 1)) = omega arith in w.read ∙ ap (λ (j : ℕ). and_then w.pairs (take_pairs big j (drop k (bytes_of m)))) z

      pub walk_refused : (q : Refusal) → pair_places big (bytes_of m) k ≡ refused q → refused q ≡ kept_pairs big n (drop 4 (bytes_of m))
      walk_refused q h =
          sym (ap (λ (a : Answer (List Pair)). a >>= λ ps. given (kept_of ps)) (rest ∙ ap (and_then w.pairs) (pair_refused big (bytes_of m) k q h (n - (i + 1)))))

      module _ (b : Block m) (key next : ℕ) (p : PairBetween big (bytes_of m) k key next) where
        inside : 2 * (k + 4 + key + 4) ≤ length m
        inside = omega (arith, p.value.within, twice_length m b.is_text)

        pub is_entry_lem : IsEntry (2 * (k + 4)) (2 * key)
        is_entry_lem = (omega (arith, inside, b.short), omega (arith, inside, b.short))

        stands : EntryStands big (bytes_of m) (entry_of (2 * (k + 4)) (2 * key))
        stands = entry_stands big (bytes_of m) k key next is_entry_lem.1 p

        -- the pair's entry, and room for it
        module _ (e : ℕ) (is_entry : e ≡ entry_of (2 * (k + 4)) (2 * key)) (room : length m / 16 ≤ size) where
          pub room_for : RoomFor big m es f e
          room_for =
              record {
                block = b;
                room = omega (arith, inside, w.counted, w.room, few_entries big (bytes_of m) es f w.pairs w.standing w.keeps);
                standing = w.standing;
                entry = subst (EntryStands big (bytes_of m)) (sym is_entry) stands;
              }

          added : (es' : List ℕ) (g : Metadata) → Keeps m es f e es' g → Adds big (bytes_of m) es f (entry_of (2 * (k + 4)) (2 * key)) es' g
          added es' g kept = subst (λ (x : ℕ). Adds big (bytes_of m) es f x es' g) is_entry (kept big room_for)

        is_pair_lem : pair_from big (bytes_of m) (k + 4) key ≡ pair_at big (bytes_of m) (entry_of (2 * (k + 4)) (2 * key))
        is_pair_lem = sym (pair_of_entry big (bytes_of m) (k + 4) key is_entry_lem.1)

        pub walk_next : (e : ℕ) → e ≡ entry_of (2 * (k + 4)) (2 * key) → length m / 16 ≤ size → (es' : List ℕ) (g : Metadata) → length es' ≡ length es → Keeps m es f e es' g → Walking big m n size es' g next (i + 1)
        walk_next y is_entry room es' g e kept =
            let a = added y is_entry room es' g kept in
            let q = pair_at big (bytes_of m) (entry_of (2 * (k + 4)) (2 * key)) in
            record {
              pairs = w.pairs ++ (q ∷ []);
              room = e ∙ w.room;
              turns = omega arith;
              place = omega (arith, p.end, p.value.within, twice_length m b.is_text);
              counted = omega (arith, p.end, w.counted, length-append w.pairs (q ∷ []));
              standing = a.0;
              keeps = a.1 w.pairs w.keeps;
              read =
                  rest
                  ∙ ap (and_then w.pairs) (pair_read big (bytes_of m) k key next p (n - (i + 1)))
                  ∙ ap (λ (r : Pair). and_then w.pairs (take_pairs big (n - (i + 1)) (drop next (bytes_of m)) >>= λ qs. given (r ∷ qs))) is_pair_lem
                  ∙ then_one w.pairs q (take_pairs big (n - (i + 1)) (drop next (bytes_of m)));
            }
