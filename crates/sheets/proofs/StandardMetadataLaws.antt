-- The metadata block of the Arrow C data interface (specs/Standard) against the one that is read and written here: what export writes is laid out so, and
-- a block laid out so, of any pairs in any order, with bytes past it or none, reads as its pairs. The two layouts are one, length by length, in each
-- order of bytes (the standard's is the machine's own; here the caller says which, document 02, #104). Assumes nothing.
use mathlib.Core.Path.{◌≡◌, refl, sym, ◌∙◌, ap, subst}
use mathlib.Core.Bool.{Bool, true, false}
use mathlib.Core.List.{List, [], ◌∷◌, ◌++◌, append_assoc, reverse}
use Rattle.std.specs.Prelude.{Option, None, Some}
use Prim.Native.Nat.{ℕ, ◌+◌, ◌/◌, ◌^◌, ◌<◌}
use native.Mathlib.Omega.{arith}
use lib.ListN.{length}
use Rattle.sheets.specs.Rule.{each, Meets}
use Rattle.sheets.specs.Bytes.{Bytes}
use Rattle.sheets.specs.Answer.{Answer, given, ◌>>=◌}
use Rattle.sheets.specs.Field.{Pair}
use Rattle.sheets.specs.Metadata.{little, word32, read_block, write_text32, write_pairs, metadata_to_bytes, name_key, metadata_key, Extension, insert_over, with_metadata, or_none, value_of, extension_of, meaning, metadata_from_bytes, block_of, schema_metadata}
use Rattle.sheets.specs.Standard.{little_endian, big_endian, order_of, int32, keys_and_values, laid_out, published_pairs, published_block, extension_name_key, extension_metadata_key}
use Rattle.sheets.proofs.Tests.{not_some, same_some}
use Rattle.sheets.proofs.MetadataLaws.{text_pair, read_past}

-- ── the layout

-- "For example, the metadata [('key1', 'value1')] is encoded .."
pub published_blocks : (laid_out little_endian published_pairs ≡ published_block little_endian) × (laid_out big_endian published_pairs ≡ published_block big_endian)
published_blocks = (refl, refl)

-- a word is the standard's, in either order
int32_little : (n : ℕ) → little 4 n ≡ int32 little_endian n
int32_little n =
    let two : n / 256 / 256 ≡ n / 65536 = omega arith in
    let three : n / 65536 / 256 ≡ n / 16777216 = omega arith in
    rw (two, three)

int32_word : (big : Bool) (n : ℕ) → word32 big n ≡ int32 (order_of big) n
int32_word true n = ap reverse (int32_little n)
int32_word false n = int32_little n

module _ (big : Bool) where
  text_laid : (t r : Bytes) → write_text32 big t ++ r ≡ int32 (order_of big) (length t) ++ (t ++ r)
  text_laid t r = append_assoc (word32 big (length t)) t r ∙ ap (λ (h : Bytes). h ++ (t ++ r)) (int32_word big (length t))

  pairs_laid : (ps : List Pair) → write_pairs big ps ≡ keys_and_values (order_of big) ps
  pairs_laid [] = refl
  pairs_laid (p ∷ ps) =
      text_laid p.0 (write_text32 big p.1 ++ write_pairs big ps)
      ∙ ap (λ (r : Bytes). int32 (order_of big) (length p.0) ++ (p.0 ++ r))
      (text_laid p.1 (write_pairs big ps) ∙ ap (λ (r : Bytes). int32 (order_of big) (length p.1) ++ (p.1 ++ r)) (pairs_laid ps))

  -- what `metadata_to_bytes` writes is laid out as the standard says, with the lengths in the order that is asked for
  pub written_laid_out : (ps : List Pair) → metadata_to_bytes big ps ≡ laid_out (order_of big) ps
  written_laid_out ps = ap (λ (h : Bytes). h ++ write_pairs big ps) (int32_word big (length ps)) ∙ ap (λ (r : Bytes). int32 (order_of big) (length ps) ++ r) (pairs_laid ps)

-- the pairs that export writes for a field's pairs and extension; a field without either has no block
abbrev pub exported_pairs : Option (List Pair) → Option Extension → List Pair
exported_pairs ps None = or_none ps
exported_pairs ps (Some e) = insert_over (name_key, e.0) (with_metadata e.1 (or_none ps))

module _ (big : Bool) where
  block_laid_out : (ps : List Pair) (b : Bytes) → block_of big ps ≡ Some b → b ≡ laid_out (order_of big) ps
  block_laid_out [] b e = not_some e
  block_laid_out (p ∷ ps) b e = sym (same_some e) ∙ written_laid_out big (p ∷ ps)

  pub export_laid_out : (ps : Option (List Pair)) (e : Option Extension) (b : Bytes) → schema_metadata big ps e ≡ Some b → b ≡ laid_out (order_of big) (exported_pairs ps e)
  export_laid_out ps None b h = block_laid_out (or_none ps) b h
  export_laid_out ps (Some e) b h = sym (same_some h) ∙ written_laid_out big (exported_pairs ps (Some e))

  -- a block laid out so, of any pairs in any order, with bytes past it or none, is read as its pairs,
  pub read_laid_out : (ps : List Pair) (past : Bytes) → Meets (each text_pair ps) → length (laid_out (order_of big) ps) < 2 ^ 31 → read_block big (laid_out (order_of big) ps ++ past) ≡ given ps
  read_laid_out ps past u h =
      subst (λ (b : Bytes). length b < 2 ^ 31 → read_block big (b ++ past) ≡ given ps) (written_laid_out big ps) (read_past big ps past u) h

  -- and as what they mean
  pub metadata_laid_out : (ps : List Pair) (past : Bytes) → Meets (each text_pair ps) → length (laid_out (order_of big) ps) < 2 ^ 31 → metadata_from_bytes big (Some (laid_out (order_of big) ps ++ past)) ≡ given (meaning ps)
  metadata_laid_out ps past u h = ap (λ (a : Answer (List Pair)). a >>= λ qs. given (meaning qs)) (read_laid_out ps past u h)

-- ── extensions

pub keys_named : (name_key ≡ extension_name_key) × (metadata_key ≡ extension_metadata_key)
keys_named = (refl, refl)

-- the extension that pairs tell, by the last of each key; its metadata without a name is dropped
pub extension_told : (ps : List Pair) → (meaning ps).1 ≡ extension_of (value_of extension_name_key ps) (value_of extension_metadata_key ps)
extension_told ps = refl
