-- The column `kind` of a type's first line tells how the type holds others: by cases of what the line says. Assumes nothing.
use mathlib.Core.Path.{◌≡◌, refl, ap, ◌∙◌}
use mathlib.Core.Bool.{false}
use mathlib.Core.List.{List, [], ◌∷◌}
use Rattle.std.specs.Prelude.{Option}
use Prim.Native.Nat.{ℕ}
use lib.Dec.{eqb}
use lib.ListN.{drop}
use borrow.Author.Tests.{ne_eqb}
use Rattle.sheets.specs.Rule.{Meets}
use Rattle.sheets.specs.Bytes.{Bytes}
use Rattle.sheets.specs.Kind
use Rattle.sheets.specs.Field.{Info, bits128, bits32, bits64, bits256, leaf, timestamp, fixed_size_binary, decimal_type, list, large_list, fixed_size_list, map, struct, union, ArrowDataType, is_leaf}
use Rattle.sheets.specs.FieldSheet.{Entry, Shape, of_scalar, of_nesting, of_grouping, of_dictionary, of_extension, columns}
use Rattle.sheets.specs.LineTrees.{Standing}
use Rattle.sheets.specs.FieldTrees.{shape_rule, type_shape, fields}
use Rattle.sheets.proofs.FieldTrees.{leaf_other}
use Rattle.datatypes.proofs.AtLaws.{Rest}
use Rattle.read_field_line.specs.FieldLines.{FieldLineAt}
use Rattle.read_field_line.specs.declared.FieldLine.{FieldLine}
use Rattle.line_below.proofs.LineLaws.{line_rule_lem, line_kind}
use Rattle.nesting.specs.Nestings.{shape_nesting, type_nesting, kind_nesting}
use Rattle.nesting.specs.declared.Nesting.{Nesting}
use Rattle.nesting.specs.declared.Nesting.TheVariants.{Nothing}

pub kind_nesting_lem : (s : Shape) → Meets (shape_rule s) → kind_nesting (columns s).kind ≡ shape_nesting s
kind_nesting_lem (of_scalar (leaf k u)) h =
    let other : (n : ℕ) → is_leaf n ≡ false → eqb k n ≡ false = λ n e. leaf_other k n h.0 e in
    rw (other Kind.List refl, other Kind.FixedSizeList refl, other Kind.LargeList refl, other Kind.Struct refl, other Kind.Map refl, other Kind.Dictionary refl, other Kind.Extension refl, other Kind.Union refl)
kind_nesting_lem (of_scalar (timestamp u zone)) h = refl
kind_nesting_lem (of_scalar (fixed_size_binary n)) h = refl
kind_nesting_lem (of_scalar (decimal_type bits128 p q)) h = refl
kind_nesting_lem (of_scalar (decimal_type bits32 p q)) h = refl
kind_nesting_lem (of_scalar (decimal_type bits64 p q)) h = refl
kind_nesting_lem (of_scalar (decimal_type bits256 p q)) h = refl
kind_nesting_lem (of_nesting list) h = refl
kind_nesting_lem (of_nesting large_list) h = refl
kind_nesting_lem (of_nesting (fixed_size_list n)) h = refl
kind_nesting_lem (of_nesting (map b)) h = refl
kind_nesting_lem (of_grouping struct) h = refl
kind_nesting_lem (of_grouping (union b ids)) h = refl
kind_nesting_lem (of_dictionary ix ordered) h = refl
kind_nesting_lem (of_extension a m) h = refl

-- what the `_` of `nesting_of` knows: the kind is none of those listed, the last arm's first
abbrev arms : List (List ℕ)
arms = (Kind.Union ∷ []) ∷ (Kind.Extension ∷ []) ∷ (Kind.Dictionary ∷ []) ∷ (Kind.Map ∷ []) ∷ (Kind.Struct ∷ []) ∷ (Kind.LargeList ∷ []) ∷ (Kind.FixedSizeList ∷ []) ∷ (Kind.List ∷ []) ∷ []

pub other_kind : (k : ℕ) → Rest arms k → Nothing ≡ kind_nesting k
other_kind k r =
    rw (ne_eqb k Kind.List r.0.0.0.0.0.0.0.1, ne_eqb k Kind.FixedSizeList r.0.0.0.0.0.0.1, ne_eqb k Kind.LargeList r.0.0.0.0.0.1, ne_eqb k Kind.Struct r.0.0.0.0.1, ne_eqb k Kind.Map r.0.0.0.1, ne_eqb k Kind.Dictionary r.0.0.1, ne_eqb k Kind.Extension r.0.1, ne_eqb k Kind.Union r.1)

-- ── the line that was read is the type's

module _ {s : Bytes} {at : ℕ} {i : Option Info} {t : ArrowDataType} {es : List Entry} (st : Standing fields (drop at s) ((i, t) ∷ es)) {l : FieldLine} (k : FieldLineAt s at l) where
  -- what `nesting_of` tells of it
  pub line_nesting : {n : Nesting} → n ≡ kind_nesting l.kind → n ≡ type_nesting t
  line_nesting e = e ∙ ap kind_nesting (line_kind st k) ∙ kind_nesting_lem (type_shape t) (line_rule_lem st k)
