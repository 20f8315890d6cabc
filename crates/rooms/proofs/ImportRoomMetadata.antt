-- What metadata says, as columns: the pairs' column and an extension's line have together no more bytes than the metadata's column. A block has 4 bytes
-- for its count and 8 for the two lengths of each pair, written in two digits each, where the pairs' column has `=` and `,`. The pairs of the reserved
-- keys are not among those of the column, and the 28 bytes of a key's lengths and of `ARROW:extension:name`, 56 digits, are more than an extension's line
-- has beside its texts. By induction over the pairs. Assumes nothing.
use mathlib.Core.Path.{◌≡◌, refl, ap, subst}
use mathlib.Core.Bool.{Bool, true, false, ◌||◌, cond}
use mathlib.Core.List.{List, [], ◌∷◌}
use mathlib.Core.List.{map as map_list}
use Rattle.std.specs.Prelude.{Option, None, Some}
use Prim.Native.Nat.{ℕ, zero, suc, ◌+◌, ◌*◌, ◌^◌, ◌≤◌}
use native.Mathlib.Omega.{arith}
use lib.Dec.{ltb}
use lib.ListN.{length}
use Rattle.sheets.specs.Refusal.{not_utf8, bad_metadata}
use Rattle.sheets.specs.Rule.{is}
use Rattle.sheets.specs.Bytes.{Bytes, same}
use Rattle.sheets.specs.Kind
use Rattle.sheets.specs.Text.{write_text}
use Rattle.sheets.specs.Utf8.{is_utf8}
use Rattle.sheets.specs.Field.{Pair, before, ArrowDataType}
use Rattle.sheets.specs.FieldSheet.{pair_text, write_list}
use Rattle.sheets.specs.Metadata.{value32, cut_at, take_text, take_pairs, count_of, read_block, name_key, metadata_key, Extension, insert_new, ordinary, or_else, value_of, extension_of, some_pairs, metadata_from_bytes}
use Rattle.sheets.specs.Import.{extended}
use Rattle.sheets.proofs.Tests.{never}
use Rattle.sheets.proofs.BytesLaws.{same_eq}
use Rattle.sheets.proofs.MetadataLaws.{or_none_lem}
use Rattle.rooms.proofs.RoomLaws.{Gives, gives_refused, gives_given, gives_more, gives_then, gives_when}
use Rattle.rooms.proofs.Sizes.{parts_size, two_digits, flag_size, text_size_lem, text_most, list_most, pair_size, pairs_size, bare_size, extension_size}

-- ── the block

abbrev Cut : ℕ → Bytes → Bytes × Bytes → Type 0
Cut n bs x = (length x.0 ≡ n) × (length bs ≡ n + length x.1)

cut_size : (n : ℕ) (bs : Bytes) → Gives (Cut n bs) (cut_at n bs)
cut_size zero bs = gives_given (omega arith)
cut_size (suc n) [] = gives_refused
cut_size (suc n) (b ∷ bs) = gives_then (cut_size n bs) (λ x h. gives_given (omega (arith, h)))

-- a length of 4 bytes and a text
abbrev Taken : Bytes → Bytes × Bytes → Type 0
Taken bs x = length bs ≡ 4 + length x.0 + length x.1

module _ (big : Bool) where
  text_taken : (bs : Bytes) → Gives (Taken bs) (take_text big bs)
  text_taken bs =
      gives_then (cut_size 4 bs)
      (λ x h. gives_then {Q = λ t. Unit {0}} (gives_when bad_metadata (is (ltb (value32 big x.0) (2 ^ 31))) true (λ _. tt))
      (λ _ _. gives_then (cut_size (value32 big x.0) x.1) (λ y k. gives_when not_utf8 (is (is_utf8 y.0)) (y.0, y.1) (λ _. omega (arith, h, k)))))

  pairs_taken : (n : ℕ) (bs : Bytes) → Gives (λ ps. pairs_size ps ≤ length bs) (take_pairs big n bs)
  pairs_taken zero bs = gives_given (omega arith)
  pairs_taken (suc n) bs =
      gives_then (text_taken bs) (λ k h. gives_then (text_taken k.1) (λ v l. gives_then (pairs_taken n v.1) (λ ps m. gives_given (omega arith))))

  block_read : (b : Bytes) → Gives (λ ps. 4 + pairs_size ps ≤ length b) (read_block big b)
  block_read b =
      gives_then (cut_size 4 b)
      (λ x h. gives_more (λ ps k. omega (arith, h)) (pairs_taken (count_of (value32 big x.0)) x.1))

-- ── what the pairs say

insert_size : (p : Pair) (qs : List Pair) → pairs_size (insert_new p qs) ≤ pairs_size (p ∷ qs)
insert_size p [] = omega arith
insert_size p (q ∷ qs) = pick (before p.0 q.0) (same p.0 q.0) (insert_size p qs)
  where
    pick : (b s : Bool) → pairs_size (insert_new p qs) ≤ pairs_size (p ∷ qs)
        → pairs_size (cond b (p ∷ q ∷ qs) (cond s (q ∷ qs) (q ∷ insert_new p qs))) ≤ pairs_size (p ∷ q ∷ qs)
    pick true s h = omega arith
    pick false true h = omega arith
    pick false false h = omega arith

-- the bytes that the value of a key took in the block
abbrev value_size : Bytes → Option Bytes → ℕ
value_size k None = 0
value_size k (Some v) = 8 + length k + length v

or_size : (k : Bytes) (o : Option Bytes) (v : Bytes) → value_size k (or_else o (Some v)) ≤ value_size k o + (8 + length k + length v)
or_size k None v = omega arith
or_size k (Some x) v = omega arith

-- the other pairs and the values of the two reserved keys come from different pairs
different_pairs : (ps : List Pair)
    → pairs_size (ordinary ps) + value_size name_key (value_of name_key ps) + value_size metadata_key (value_of metadata_key ps) ≤ pairs_size ps
different_pairs [] = omega arith
different_pairs (p ∷ ps) = pick (same p.0 name_key) (same p.0 metadata_key) refl refl (different_pairs ps)
  where
    value : Bool → Option Bytes
    value t = cond t (Some p.1) None

    pick : (a b : Bool) → same p.0 name_key ≡ a → same p.0 metadata_key ≡ b
        → pairs_size (ordinary ps) + value_size name_key (value_of name_key ps) + value_size metadata_key (value_of metadata_key ps) ≤ pairs_size ps
        → pairs_size (cond (a || b) (ordinary ps) (insert_new p (ordinary ps)))
        + value_size name_key (or_else (value_of name_key ps) (value a)) + value_size metadata_key (or_else (value_of metadata_key ps) (value b))
        ≤ pairs_size (p ∷ ps)
    pick true true e f h = never (subst (λ (k : Bytes). same k metadata_key ≡ true) (same_eq p.0 name_key e) f)
    pick true false e f h =
        rw (or_none_lem (value_of metadata_key ps))
        (omega (arith, or_size name_key (value_of name_key ps) p.1, ap (λ (k : Bytes). length k) (same_eq p.0 name_key e)))
    pick false true e f h =
        rw (or_none_lem (value_of name_key ps))
        (omega (arith, or_size metadata_key (value_of metadata_key ps) p.1, ap (λ (k : Bytes). length k) (same_eq p.0 metadata_key f)))
    pick false false e f h =
        rw (or_none_lem (value_of name_key ps), or_none_lem (value_of metadata_key ps)) (omega (arith, insert_size p (ordinary ps)))

-- ── the columns

texts_size : (qs : List Pair) → parts_size (map_list pair_text qs) ≤ 2 * pairs_size qs
texts_size [] = omega arith
texts_size (q ∷ qs) = omega (arith, pair_size q, texts_size qs)

column_size : (qs : List Pair) → length (write_list pair_text (some_pairs qs)) ≤ suc (2 * pairs_size qs)
column_size [] = omega arith
column_size (q ∷ qs) = omega (arith, list_most pair_text (q ∷ qs), texts_size (q ∷ qs))

option_size : (k : Bytes) (m : Option Bytes) → length (write_text m) ≤ suc (2 * value_size k m)
option_size k None = omega arith
option_size k (Some v) = omega (arith, text_most (Some v))

-- the pairs' column, and the extension's line before the type's, bounded by the metadata's column
abbrev pub MetadataBounded : Option Bytes → ArrowDataType → Option (List Pair) × Option Extension → Type 0
MetadataBounded o t p = length (write_list pair_text p.0) + bare_size (extended p.1 t) ≤ length (write_text o) + bare_size t

told_bounded : (b : Bytes) (t : ArrowDataType) (qs : List Pair) (n m : Option Bytes)
    → 4 + (pairs_size qs + value_size name_key n + value_size metadata_key m) ≤ length b → MetadataBounded (Some b) t (some_pairs qs, extension_of n m)
told_bounded b t qs None m h = omega (arith, column_size qs, text_size_lem (Some b))
told_bounded b t qs (Some n) m h =
    omega (
      arith,
      column_size qs,
      text_size_lem (Some b),
      text_most (Some n),
      option_size metadata_key m,
      extension_size n m t,
      two_digits Kind.Extension (omega arith),
      flag_size false,
    )

module _ (big : Bool) where
  pub metadata_bounded : (o : Option Bytes) (t : ArrowDataType) → Gives (MetadataBounded o t) (metadata_from_bytes big o)
  metadata_bounded None t = gives_given (omega arith)
  metadata_bounded (Some b) t =
      gives_then (block_read big b)
      (λ ps h. gives_given (told_bounded b t (ordinary ps) (value_of name_key ps) (value_of metadata_key ps) (omega (arith, different_pairs ps))))
