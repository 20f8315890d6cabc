-- Document 02, #106: what a strict export asks of a field before it exports it: "Add a strict export beside the present one that tests for both [a reserved
-- key, a 128-bit dictionary index] over the whole field, lines in order, after the sheet's form and before any other test." Assumes nothing.
use Rattle.std.specs.Prelude.{Bool, ◌||◌, not, true, List, [], ◌∷◌, ◌++◌, ℕ, eqb, Option, None, Some}
use Rattle.sheets.specs.Refusal.{reserved_key, wide_index}
use Rattle.sheets.specs.Rule.{Rule, is, each}
use Rattle.sheets.specs.Answer.{Answer, given, ◌>>=◌, when}
use Rattle.sheets.specs.IntegerType
use Rattle.sheets.specs.Field.{Pair, Info, ArrowDataType, scalar, nested, grouped, dictionary, extension, Fields, nil, add, Field}
use Rattle.sheets.specs.FieldSheet.{Shape, of_scalar, of_nesting, of_grouping, of_dictionary, of_extension}
use Rattle.sheets.specs.FieldTrees.{Head, entry_head}
use Rattle.sheets.specs.Metadata.{reserved, or_none}

-- ── the two conditions of demand 3, where they stand

-- no key of the pairs is reserved
abbrev pub no_reserved : List Pair → Rule
no_reserved ps = each (λ (p : Pair). is (not (reserved p.0))) ps

abbrev pub own_keys : Info → Rule
own_keys i = no_reserved (or_none i.pairs)

-- the index type is neither Int128 nor UInt128
abbrev pub narrow : ℕ → Bool
narrow ix = not (eqb ix IntegerType.Int128 || eqb ix IntegerType.UInt128)

abbrev pub narrow_index : ℕ → Rule
narrow_index ix = is (narrow ix)

-- ── a line

-- a bare line has no pairs
abbrev pub keys_rule : Option Info → Rule
keys_rule None = is true
keys_rule (Some i) = own_keys i

-- only a dictionary has an index: Int128 and UInt128 as types are no cause
abbrev pub index_rule : Shape → Rule
index_rule (of_scalar s) = is true
index_rule (of_nesting n) = is true
index_rule (of_grouping g) = is true
index_rule (of_dictionary ix ordered) = narrow_index ix
index_rule (of_extension n m) = is true

-- "A reserved key is refused with 17 and a 128-bit dictionary index with 18, the key first when a line has both."
abbrev pub line_returns : Head → Answer (Unit {0})
line_returns h = when {A = Unit {0}} reserved_key (keys_rule h.info) tt >>= λ _. when wide_index (index_rule h.shape) tt

-- ── all lines

-- the lines of a type in sheet order, also those that export never visits
abbrev mutual
  pub type_heads : ArrowDataType → Option Info → List Head
  type_heads (scalar s) i = entry_head (i, scalar s) ∷ []
  type_heads (nested n j t) i = entry_head (i, nested n j t) ∷ type_heads t (Some j)
  type_heads (grouped g fs) i = entry_head (i, grouped g fs) ∷ fields_heads fs
  type_heads (dictionary ix ordered t) i = entry_head (i, dictionary ix ordered t) ∷ type_heads t None
  type_heads (extension n m t) i = entry_head (i, extension n m t) ∷ type_heads t None

  pub fields_heads : Fields → List Head
  fields_heads nil = []
  fields_heads (add i t fs) = type_heads t (Some i) ++ fields_heads fs

-- "over the whole field, lines in order": the first line that has either decides
abbrev pub lines_return : List Head → Answer (Unit {0})
lines_return [] = given tt
lines_return (h ∷ hs) = line_returns h >>= λ _. lines_return hs

abbrev pub field_returns : Field → Answer (Unit {0})
field_returns f = lines_return (type_heads f.type (Some f.info))
