-- Sizes by the length of a block's text: a pair has 16 digits for its lengths there, and at most two separators in the column. So there are few
-- entries, and the columns from a block are no longer than its text. Assumes nothing.
use mathlib.Core.Path.{◌≡◌, sym, ap, subst, ◌∙◌}
use mathlib.Core.Bool.{Bool, true, false, cond}
use mathlib.Core.List.{List, [], ◌∷◌}
use Rattle.std.specs.Prelude.{Option, None, Some}
use Prim.Native.Nat.{ℕ, zero, suc, ◌+◌, ◌*◌, ◌/◌, ◌^◌, ◌≤◌}
use native.Mathlib.Omega.{arith}
use lib.Dec.{eqb, ltb}
use lib.ListN.{length, take, drop, length-append, length-take, length-drop}
use Rattle.sheets.specs.Refusal.{not_utf8, bad_metadata}
use Rattle.sheets.specs.Rule.{is, Meets}
use Rattle.sheets.specs.Bytes.{Bytes, equals, same}
use Rattle.sheets.specs.Answer.{given, ◌>>=◌, when}
use Rattle.sheets.specs.Utf8.{is_utf8}
use Rattle.sheets.specs.Text.{hex, write_text}
use Rattle.sheets.specs.Field.{Pair, before}
use Rattle.sheets.specs.FieldSheet.{write_list, pair_text}
use Rattle.sheets.specs.Strict.{no_reserved}
use Rattle.sheets.specs.Metadata.{value32, cut_at, take_text, take_pairs, count_of, read_block, reserved, insert_new, ordinary, Extension, some_pairs, meaning, metadata_from_bytes}
use Rattle.sheets.proofs.Tests.{not_given, same_given, first_gave, met_when}
use Rattle.hexadecimal.specs.Hex.{is_hex, bytes_of}
use Rattle.hexadecimal.proofs.HexLaws.{twice_length}
use Rattle.hexadecimal.proofs.PartLaws.{length_hex}
use Rattle.key_order.specs.Entry.{start_of, size_of}
use Rattle.metadata.specs.declared.Metadata.{Metadata}
use Rattle.metadata.specs.Entry.{length_at, pair_from, pair_at, pairs_at, value_at}
use Rattle.metadata.specs.Reading.{Kept, kept_of, kept_at, kept_pairs, meaning_at, EntriesStand, CanOrder}
use Rattle.metadata.specs.Pairs.{pairs_column, value_column}
use Rattle.metadata.proofs.TextLaws.{after_text, after_length, then}
use Rattle.metadata.proofs.MeaningLaws.{after_count}
use Rattle.metadata.proofs.PutLaws.{after_commas, joined}
use Rattle.metadata.proofs.KeepLaws.{kept_free}
use Rattle.metadata.proofs.WalkLaws.{few_entries}

-- the bytes that the pairs take in a block
abbrev weight : List Pair → ℕ
weight [] = 0
weight (p ∷ ps) = 8 + length p.0 + length p.1 + weight ps

-- ── what is read is as long as the pairs

cut_size : (n : ℕ) (l h r : Bytes) → cut_at n l ≡ given (h, r) → (length h ≡ n) × (length h + length r ≡ length l)
cut_size zero l h r e =
    let p = same_given {A = Bytes × Bytes} {a = ([], l)} {b = (h, r)} e in
    let u : 0 ≡ length h = ap (λ (q : Bytes × Bytes). length q.0) p in
    (sym u, omega (arith, u, ap (λ (q : Bytes × Bytes). length q.1) p))
cut_size (suc n) [] h r e = not_given e
cut_size (suc n) (x ∷ l) h r e =
    let (a, f, g) = first_gave (cut_at n l) (λ (p : Bytes × Bytes). given (x ∷ p.0, p.1)) (h, r) e in
    let s = cut_size n l a.0 a.1 f in
    let p = same_given {A = Bytes × Bytes} {a = (x ∷ a.0, a.1)} {b = (h, r)} g in
    let u = ap (λ (q : Bytes × Bytes). length q.0) p in
    let v = ap (λ (q : Bytes × Bytes). length q.1) p in
    (omega (arith, s.0, u), omega (arith, s.1, u, v))

module _ (big : Bool) where
  text_size_lem : (bs t r : Bytes) → take_text big bs ≡ given (t, r) → 4 + length t + length r ≡ length bs
  text_size_lem bs t r e =
      let (a, f, g) = first_gave (cut_at 4 bs) (after_length big) (t, r) e in
      let (b, x, k) = first_gave (when bad_metadata (is (ltb (value32 big a.0) (2 ^ 31))) true) (λ _. cut_at (value32 big a.0) a.1 >>= after_text) (t, r) g in
      let (c, y, z) = first_gave (cut_at (value32 big a.0) a.1) after_text (t, r) k in
      let p = (met_when not_utf8 (is (is_utf8 c.0)) (c.0, c.1) (t, r) z).1 in
      let s = cut_size 4 bs a.0 a.1 f in
      let w = cut_size (value32 big a.0) a.1 c.0 c.1 y in
      omega (arith, s.0, s.1, w.1, ap (λ (q : Bytes × Bytes). length q.0) p, ap (λ (q : Bytes × Bytes). length q.1) p)

  pairs_size_lem : (n : ℕ) (bs : Bytes) (ps : List Pair) → take_pairs big n bs ≡ given ps → weight ps ≤ length bs
  pairs_size_lem zero bs ps e = let p = same_given {A = List Pair} {a = []} {b = ps} e in omega (arith, ap weight p)
  pairs_size_lem (suc n) bs ps e =
      let (k, f, g) = first_gave (take_text big bs) (λ (k : Bytes × Bytes). take_text big k.1 >>= λ (v : Bytes × Bytes). then big n (k.0, v.0) v.1) ps e in
      let (v, x, y) = first_gave (take_text big k.1) (λ (v : Bytes × Bytes). then big n (k.0, v.0) v.1) ps g in
      let (qs, z, w) = first_gave (take_pairs big n v.1) (λ (qs : List Pair). given ((k.0, v.0) ∷ qs)) ps y in
      let p = same_given {A = List Pair} {a = ((k.0, v.0) ∷ qs)} {b = ps} w in
      omega (arith, text_size_lem bs k.0 k.1 f, text_size_lem k.1 v.0 v.1 x, pairs_size_lem n v.1 qs z, ap weight p)

  block_size : (b : Bytes) (ps : List Pair) → read_block big b ≡ given ps → 4 + weight ps ≤ length b
  block_size b ps e =
      let (a, f, g) = first_gave (cut_at 4 b) (after_count big) ps e in
      let s = cut_size 4 b a.0 a.1 f in
      omega (arith, s.0, s.1, pairs_size_lem (count_of (value32 big a.0)) a.1 ps g)

-- ── the entries that are kept

pairs_few : (ps : List Pair) → 8 * length ps ≤ weight ps
pairs_few [] = omega arith
pairs_few (p ∷ ps) = omega (arith, pairs_few ps)

module _ (big : Bool) where
  module _ (m : Bytes) (h : is_hex m ≡ true) (n : ℕ) (es : List ℕ) (f : Metadata) (e : given (kept_at big (bytes_of m) es f) ≡ kept_pairs big n (drop 4 (bytes_of m))) where
    -- they are so few that an entry for each 16 digits is enough
    kept_few : EntriesStand big (bytes_of m) es f → f.count ≤ length m / 16
    kept_few w =
        let (ps, x, y) = first_gave (take_pairs big n (drop 4 (bytes_of m))) (λ ps. given (kept_of ps)) (kept_at big (bytes_of m) es f) (sym e) in
        let k = same_given {A = Kept} {a = (kept_of ps)} {b = (kept_at big (bytes_of m) es f)} y in
        omega (arith, few_entries big (bytes_of m) es f ps w (sym k), pairs_few ps, pairs_size_lem big n (drop 4 (bytes_of m)) ps x, length-drop 4 (bytes_of m), twice_length m h)

    -- and none of their keys is reserved
    kept_unreserved : Meets (no_reserved (pairs_at big (bytes_of m) es f.count))
    kept_unreserved =
        let (ps, x, y) = first_gave (take_pairs big n (drop 4 (bytes_of m))) (λ ps. given (kept_of ps)) (kept_at big (bytes_of m) es f) (sym e) in
        let k = same_given {A = Kept} {a = (kept_of ps)} {b = (kept_at big (bytes_of m) es f)} y in
        subst (λ (q : Kept). Meets (no_reserved q.pairs)) k (kept_free ps)

    pub can_order : (fs : List ℕ) → length m / 16 ≤ length fs → EntriesStand big (bytes_of m) es f → CanOrder big m es fs f
    can_order fs room w = record { is_text = h; standing = w; free = kept_unreserved; spare = omega (arith, kept_few w, room) }

-- ── in order there are no more

insert_weight : (p : Pair) (l : List Pair) → weight (insert_new p l) ≤ 8 + length p.0 + length p.1 + weight l
insert_weight p [] = omega arith
insert_weight p (q ∷ l) = pick (before p.0 q.0) (same p.0 q.0) (insert_weight p l)
  where
    pick : (t u : Bool) → weight (insert_new p l) ≤ 8 + length p.0 + length p.1 + weight l
        → weight (cond t (p ∷ q ∷ l) (cond u (q ∷ l) (q ∷ insert_new p l))) ≤ 8 + length p.0 + length p.1 + weight (q ∷ l)
    pick true u h = omega arith
    pick false true h = omega arith
    pick false false h = omega arith

ordinary_weight : (ps : List Pair) → weight (ordinary ps) ≤ weight ps
ordinary_weight [] = omega arith
ordinary_weight (p ∷ ps) = pick (reserved p.0) (ordinary_weight ps)
  where
    pick : (t : Bool) → weight (ordinary ps) ≤ weight ps → weight (cond t (ordinary ps) (insert_new p (ordinary ps))) ≤ weight (p ∷ ps)
    pick true h = omega arith
    pick false h = omega (arith, insert_weight p (ordinary ps))

-- ── the column

pair_size : (p : Pair) → length (pair_text p) ≡ 2 * length p.0 + 1 + 2 * length p.1
pair_size p = length-append (hex p.0) (equals ∷ hex p.1) ∙ omega (arith, length_hex p.0, length_hex p.1)

commas_size : (ps : List Pair) → length (after_commas ps) ≤ 2 * weight ps
commas_size [] = omega arith
commas_size (p ∷ ps) = omega (arith, length-append (pair_text p) (after_commas ps), pair_size p, commas_size ps)

column_size : (ps : List Pair) → length (write_list pair_text (some_pairs ps)) ≤ 1 + 2 * weight ps
column_size [] = omega arith
column_size (p ∷ ps) = omega (arith, ap length (joined p ps), length-append (pair_text p) (after_commas ps), pair_size p, commas_size ps)

module _ (big : Bool) where
  -- the column `pairs` of a block's pairs is shorter than the block's text
  pub pairs_short : (b : Bytes) (x : Option (List Pair)) (e : Option Extension) → metadata_from_bytes big (Some b) ≡ given (x, e) → 7 + length (write_list pair_text x) ≤ 2 * length b
  pairs_short b x e h =
      let (ps, f, g) = first_gave (read_block big b) (λ (ps : List Pair). given (meaning ps)) (x, e) h in
      let p = same_given {A = Option (List Pair) × Option Extension} {a = (meaning ps)} {b = (x, e)} g in
      omega (
        arith,
        block_size big b ps f,
        ordinary_weight ps,
        column_size (ordinary ps),
        ap (λ (q : Option (List Pair) × Option Extension). length (write_list pair_text q.0)) p,
      )

  -- the same of the entries that `metadata_from_bytes` leaves
  pub column_short : (m : Bytes) → is_hex m ≡ true → (es : List ℕ) (f : Metadata) → given (meaning_at big (bytes_of m) es f) ≡ metadata_from_bytes big (Some (bytes_of m))
      → 7 + length (pairs_column big (bytes_of m) es f.count) ≤ length m
  unfolding pairs_column
  column_short m h es f r = omega (arith, twice_length m h, pairs_short (bytes_of m) _ _ (sym r))

-- ── a value

text_short : (v : Bytes) → length (write_text (Some v)) ≤ 1 + 2 * length v
text_short [] = omega arith
text_short (x ∷ v) = omega (arith, length_hex (x ∷ v))

take_short : (n : ℕ) (l : Bytes) → length (take n l) ≤ length l
take_short n l = omega (arith, length-take n l)

module _ (big : Bool) where
  from_short : (b : Bytes) (k n : ℕ) → length (pair_from big b k n).1 ≤ length b
  unfolding pair_from
  from_short b k n = omega (arith, take_short (length_at big b (k + n)) (drop (k + n + 4) b), length-drop (k + n + 4) b)

  pair_short : (b : Bytes) (e : ℕ) → length (pair_at big b e).1 ≤ length b
  unfolding pair_at
  pair_short b e = from_short b (start_of e / 2) (size_of e / 2)

  -- the column of an entry's value is no longer than the block's text and one byte
  pub value_short : (m : Bytes) → is_hex m ≡ true → (e : ℕ) → length (value_column big (bytes_of m) e) ≤ 1 + length m
  unfolding value_column value_at
  value_short m h e = pick (eqb e 0)
    where
      pick : (t : Bool) → length (write_text (cond t None (Some (pair_at big (bytes_of m) e).1))) ≤ 1 + length m
      pick true = omega arith
      pick false = omega (arith, text_short (pair_at big (bytes_of m) e).1, pair_short (bytes_of m) e, twice_length m h)
