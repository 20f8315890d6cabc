-- How long the columns name, flags and metadata of a schema line can be, by the columns name, nullable and pairs that they come from and by the lines of
-- the extensions directly around the type: `OwnBounds`. A pair takes 16 digits for its two lengths and as many for its texts as in the field's line.
-- Only the first key can be empty, since keys ascend, so every other pair has four bytes or more in the field's line. The reserved keys add at most
-- what two more pairs would. Assumes nothing.
use mathlib.Core.Path.{◌≡◌, ap}
use mathlib.Core.Bool.{Bool, true, false, cond}
use mathlib.Core.List.{List, [], ◌∷◌}
use mathlib.Core.List.{map as map_list}
use Rattle.std.specs.Prelude.{Option, None, Some}
use Prim.Native.Nat.{ℕ, suc, ◌+◌, ◌*◌, ◌≤◌}
use native.Mathlib.Omega.{arith}
use lib.ListN.{length}
use Rattle.sheets.specs.Rule.{Meets}
use Rattle.sheets.specs.Bytes.{Bytes, comma, same}
use Rattle.sheets.specs.Kind
use Rattle.sheets.specs.Text.{write_text}
use Rattle.sheets.specs.Field.{Pair, Info, before, first_after, pairs_rule, metadata_rule, info_rule}
use Rattle.sheets.specs.FieldSheet.{of_extension, pair_text, write_list}
use Rattle.sheets.specs.Format.{or_empty}
use Rattle.sheets.specs.Metadata.{write_pairs, metadata_to_bytes, Extension, name_key, metadata_key, insert_over, with_metadata, or_none, block_of, schema_metadata}
use Rattle.sheets.specs.Export.{values_info, outermost}
use Rattle.sheets.proofs.Tests.{never}
use Rattle.sheets.proofs.SizeLaws.{hex_length}
use Rattle.sheets.proofs.MetadataLaws.{word_text, block_length}
use Rattle.rooms.proofs.Sizes.{parts_size, join_size, exactly_two_digits, decimal_least, flag_size, text_least, text_size_lem, pair_size, pairs_size, pairs_size_lem, shape_size, own_size}

-- ── pairs in a block and in a line

-- a key that stands after another is not empty
later_key : (j k : Bytes) → before j k ≡ true → 1 ≤ length k
later_key [] [] h = never h
later_key (x ∷ j) [] h = never h
later_key [] (y ∷ k) h = omega arith
later_key (x ∷ j) (y ∷ k) h = omega arith

-- pairs after the first: `,00=`, four bytes, become 18 digits
later_pairs : (k : Bytes) (ps : List Pair) → first_after k ps ≡ true → Meets (pairs_rule ps)
    → 74 * pairs_size ps ≤ 178 * parts_size (map_list pair_text ps)
later_pairs k [] f h = omega arith
later_pairs k (p ∷ ps) f h = omega (arith, pair_size p, later_key k p.0 f, later_pairs p.0 ps h.1.1.0 h.1.1.1)

-- the digits of a block with these pairs and the byte after them, by the column's bytes and the byte after them; most for `=`, where it is 25 by 2
pairs_bounded : (ps : Option (List Pair)) → Meets (metadata_rule ps)
    → 37 * (9 + 2 * pairs_size (or_none ps)) ≤ 178 * suc (length (write_list pair_text ps)) + 569
pairs_bounded None h = omega arith
pairs_bounded (Some []) h = omega arith
pairs_bounded (Some (p ∷ ps)) h =
    omega (arith, pair_size p, join_size comma (pair_text p) (map_list pair_text ps), later_pairs p.0 ps h.1.1.0 h.1.1.1)

-- ── the metadata column

module _ (big : Bool) where
  -- the column of a block, in either order
  pub block_size : (ps : List Pair) → length (write_text (Some (metadata_to_bytes big ps))) ≡ 8 + 2 * pairs_size ps
  block_size ps = omega (arith, ap length (word_text big (length ps) (write_pairs big ps)), hex_length (metadata_to_bytes big ps), block_length big ps, pairs_size_lem big ps)

  none_size : (ps : List Pair) → length (write_text (block_of big ps)) ≤ 8 + 2 * pairs_size ps
  none_size [] = omega arith
  none_size (p ∷ ps) = omega (arith, block_size (p ∷ ps))

-- a pair that is put in adds no more than itself
insert_size : (p : Pair) (qs : List Pair) → pairs_size (insert_over p qs) ≤ pairs_size (p ∷ qs)
insert_size p [] = omega arith
insert_size p (q ∷ qs) = pick (before p.0 q.0) (same p.0 q.0) (insert_size p qs)
  where
    pick : (b s : Bool) → pairs_size (insert_over p qs) ≤ pairs_size (p ∷ qs)
        → pairs_size (cond b (p ∷ q ∷ qs) (cond s (p ∷ qs) (q ∷ insert_over p qs))) ≤ pairs_size (p ∷ q ∷ qs)
    pick true s h = omega arith
    pick false true h = omega arith
    pick false false h = omega arith

with_size : (m : Option Bytes) (ps : List Pair) → pairs_size (with_metadata m ps) ≤ 32 + length (or_empty m) + pairs_size ps
with_size None ps = omega arith
with_size (Some m) ps = insert_size (metadata_key, m) ps

module _ (big : Bool) where
  extended_size : (n : Bytes) (m : Option Bytes) (ps : List Pair)
      → length (write_text (Some (metadata_to_bytes big (insert_over (name_key, n) (with_metadata m ps)))))
      ≤ 128 + 2 * length n + 2 * length (or_empty m) + 2 * pairs_size ps
  extended_size n m ps = omega (arith, block_size big (insert_over (name_key, n) (with_metadata m ps)), insert_size (name_key, n) (with_metadata m ps), with_size m ps)

-- ── the columns name flags metadata

-- their bytes, with one byte after each; flags have one digit
abbrev pub written_own : Bool → Info → Option Extension → ℕ
written_own big i e = suc (length (write_text (Some i.name))) + 2 + suc (length (write_text (schema_metadata big i.pairs e)))

-- The bound on them by some bytes of the field's lines. The rest of the line leaves 1063: 1225 the format (`FormatBounded`), 282 = 2 * (178 - 37) the
-- number of children, less 444 = 37 * (2 + 10) for the column dictionary and for the type's id.
abbrev pub OwnBounded : Bool → Info → Option Extension → ℕ → Type 0
OwnBounded big i e bytes = 37 * written_own big i e ≤ 178 * bytes + 1063

-- an extension's first five columns: `37 0 0` and its texts
extension_columns : (n : Bytes) (m : Option Bytes) → 9 + length (write_text (Some n)) + length (write_text m) ≤ shape_size (of_extension n m)
extension_columns n m = omega (arith, exactly_two_digits Kind.Extension (omega arith) (omega arith), decimal_least 0)

-- The first line of a type: i is the field that its schema line is for and e the extension that this bears, o are the line's own columns, `earlier` are
-- the bytes of the extensions' lines before it. The bound holds there and, if the type is an extension, at the inner type's line.
pub record OwnBounds (big : Bool) (i : Info) (o : Option Info) (e : Option Extension) (earlier : ℕ) : Type 0 where
  pub here : OwnBounded big i e (earlier + own_size o)
  pub inside : (n : Bytes) (m : Option Bytes)
      → OwnBounded big i (Some (outermost e (n, m))) (earlier + (shape_size (of_extension n m) + own_size o + 2) + own_size None)

module _ (big : Bool) where
  -- a field's line
  pub field_bounds : (i : Info) → Meets (info_rule i) → OwnBounds big i (Some i) None 0
  field_bounds i h = record {
    here = omega (arith, none_size big (or_none i.pairs), pairs_bounded i.pairs h.1, flag_size i.nullable);
    inside = λ n m.
        omega (
          arith,
          extended_size big n m (or_none i.pairs),
          pairs_bounded i.pairs h.1,
          extension_columns n m,
          text_size_lem (Some n),
          text_size_lem m,
          text_least (Some n),
          text_least m,
          text_least (Some i.name),
          flag_size i.nullable,
        );
  }

  -- the line of a dictionary's values
  pub values_bounds : OwnBounds big values_info None None 0
  values_bounds = record {
    here = omega arith;
    inside = λ n m. omega (arith, extended_size big n m [], extension_columns n m, text_size_lem (Some n), text_size_lem m);
  }

  -- the line of an extension's inner type: "the outermost stays"
  pub inner_bounds : {i : Info} {o : Option Info} {e : Option Extension} {earlier : ℕ} → OwnBounds big i o e earlier → (n : Bytes) (m : Option Bytes)
      → OwnBounds big i None (Some (outermost e (n, m))) (earlier + (shape_size (of_extension n m) + own_size o + 2))
  inner_bounds s n m = record { here = s.inside n m; inside = λ n' m'. omega (arith, s.inside n m) }
