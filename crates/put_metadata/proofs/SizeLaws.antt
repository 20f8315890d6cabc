-- How long the metadata column is: by the pairs of the column, to which insertion adds one each time. Assumes nothing.
use mathlib.Core.Path.{◌≡◌, refl, sym, ap, subst, ◌∙◌}
use mathlib.Core.Bool.{Bool, true, false, cond}
use mathlib.Core.List.{List, [], ◌∷◌}
use Rattle.std.specs.Prelude.{Option, None, Some}
use Prim.Native.Nat.{ℕ, ◌+◌, ◌*◌, ◌≤◌}
use native.Mathlib.Omega.{arith}
use lib.ListN.{length, length-append}
use Rattle.sheets.specs.Bytes.{Bytes, equals, same}
use Rattle.sheets.specs.Text.{hex, write_text}
use Rattle.sheets.specs.Field.{Pair, before}
use Rattle.sheets.specs.FieldSheet.{pair_text, write_list}
use Rattle.sheets.specs.Metadata.{write_pairs, metadata_to_bytes, name_key, metadata_key, insert_over, with_metadata, or_none, block_of, extension_of, schema_metadata}
use Rattle.sheets.proofs.MetadataLaws.{word_text, pairs_length_lem, block_length}
use Rattle.hexadecimal.proofs.PartLaws.{length_hex}
use Rattle.column_text.specs.ColumnText.{column_text, TextColumn}
use Rattle.column_text.proofs.ColumnTextLaws.{column_is}
use Rattle.field_pairs.specs.Pairs.{PairsColumn, pairs_in, pairs_text, after_commas}
use Rattle.put_metadata.specs.Block.{metadata_column}
use Rattle.field_pairs.proofs.PairsLaws.{pairs_in_lem, joined}

-- ── a pair

module _ (big : Bool) where
  pair_size : (p : Pair) (ps : List Pair) → length (write_pairs big (p ∷ ps)) ≡ 8 + length p.0 + length p.1 + length (write_pairs big ps)
  pair_size p ps = omega (arith, pairs_length_lem big p ps)

  insert_size : (p : Pair) (ps : List Pair) → length (write_pairs big (insert_over p ps)) ≤ 8 + length p.0 + length p.1 + length (write_pairs big ps)
  insert_size p [] = omega (arith, pair_size p [])
  insert_size p (q ∷ qs) = pick (before p.0 q.0) (same p.0 q.0) (insert_size p qs)
    where
      pick : (a b : Bool) → length (write_pairs big (insert_over p qs)) ≤ 8 + length p.0 + length p.1 + length (write_pairs big qs)
          → length (write_pairs big (cond a (p ∷ q ∷ qs) (cond b (p ∷ qs) (q ∷ insert_over p qs)))) ≤ 8 + length p.0 + length p.1 + length (write_pairs big (q ∷ qs))
      pick true b next = omega (arith, pair_size p (q ∷ qs))
      pick false true next = omega (arith, pair_size p qs, pair_size q qs)
      pick false false next = omega (arith, pair_size q (insert_over p qs), pair_size q qs)

-- ── the pairs of a column

text_size_lem : (p : Pair) → length (pair_text p) ≡ 1 + 2 * length p.0 + 2 * length p.1
text_size_lem p = omega (arith, length-append (hex p.0) (equals ∷ hex p.1), length_hex p.0, length_hex p.1)

module _ (big : Bool) where
  commas_size : (ps : List Pair) → 2 * length (write_pairs big ps) ≤ 16 * length (after_commas ps)
  commas_size [] = omega arith
  commas_size (p ∷ ps) = omega (arith, pair_size big p ps, length-append (pair_text p) (after_commas ps), text_size_lem p, commas_size ps)

  pairs_size_lem : (ps : List Pair) → 2 * length (write_pairs big ps) ≤ 16 * length (pairs_text ps)
  pairs_size_lem [] = omega arith
  pairs_size_lem (p ∷ ps) = omega (arith, pair_size big p ps, length-append (pair_text p) (after_commas ps), text_size_lem p, commas_size ps)

  column_size : (column : Bytes) → PairsColumn column → 2 * length (write_pairs big (or_none (pairs_in column))) ≤ 16 * length column
  column_size column h =
      subst (λ (t : Bytes). 2 * length (write_pairs big (or_none (pairs_in t))) ≤ 16 * length t) (sym h.text)
      (subst (λ (o : Option (List Pair)). 2 * length (write_pairs big (or_none o)) ≤ 16 * length (write_list pair_text h.pairs)) (sym (pairs_in_lem h.pairs h.rule)) (go h.pairs))
    where
      go : (ps : Option (List Pair)) → 2 * length (write_pairs big (or_none ps)) ≤ 16 * length (write_list pair_text ps)
      go None = omega arith
      go (Some []) = omega arith
      go (Some (p ∷ ps)) = omega (arith, pairs_size_lem (p ∷ ps), ap length (joined p ps))

-- ── the block

-- twice the bytes of a text that a column says
named_size : (c : Bytes) → TextColumn c → (b : Bytes) → column_text c ≡ Some b → 2 * length b ≤ length c
named_size c h b e = go h.text h.is (sym (column_is c h) ∙ e)
  where
    go : (o : Option Bytes) → c ≡ write_text o → o ≡ Some b → 2 * length b ≤ length c
    go None f g = absurd (let z : ◌≡◌ {A = ℕ} 0 1 = cc in omega arith)
    go (Some x) f g =
        let s : x ≡ b = cc in
        omega (arith, ap length f, write_size x, ap length s)
      where
        write_size : (y : Bytes) → 2 * length y ≤ length (write_text (Some y))
        write_size [] = omega arith
        write_size (z ∷ y) = omega (arith, length_hex (z ∷ y))

module _ (big : Bool) where
  bytes_size : (ps : List Pair) → length (write_text (Some (metadata_to_bytes big ps))) ≡ 8 + 2 * length (write_pairs big ps)
  bytes_size ps = omega (arith, ap length (word_text big (length ps) (write_pairs big ps)), length_hex (metadata_to_bytes big ps), block_length big ps)

  block_size : (ps : List Pair) → length (write_text (block_of big ps)) ≤ 8 + 2 * length (write_pairs big ps)
  block_size [] = omega arith
  block_size (p ∷ ps) = omega (arith, bytes_size (p ∷ ps))

-- the most that it can be: 16 digits are the lengths of a pair
abbrev pub metadata_most : Bytes → Bytes → Bytes → ℕ
metadata_most pairs name more = 128 + 16 * length pairs + length name + length more

module _ (big : Bool) where
  pub metadata_size : (pairs name more : Bytes) → PairsColumn pairs → TextColumn name → TextColumn more → length (metadata_column big pairs name more) ≤ metadata_most pairs name more
  unfolding metadata_column
  metadata_size pairs name more h n m = by_name (column_text name) refl (column_text more) refl
    where
      with_size : (o : Option Bytes) → column_text more ≡ o → 2 * length (write_pairs big (with_metadata o (or_none (pairs_in pairs)))) ≤ 64 + length more + 16 * length pairs
      with_size None e = omega (arith, column_size big pairs h)
      with_size (Some x) e = omega (arith, column_size big pairs h, insert_size big (metadata_key, x) (or_none (pairs_in pairs)), named_size more m x e)

      by_name : (a : Option Bytes) → column_text name ≡ a → (b : Option Bytes) → column_text more ≡ b → length (write_text (schema_metadata big (pairs_in pairs) (extension_of a b))) ≤ metadata_most pairs name more
      by_name None e b f = omega (arith, block_size big (or_none (pairs_in pairs)), column_size big pairs h)
      by_name (Some x) e b f =
          let l = with_metadata b (or_none (pairs_in pairs)) in
          omega (arith, bytes_size big (insert_over (name_key, x) l), insert_size big (name_key, x) l, with_size b f, named_size name n x e)
