-- Document 01, 'Plain form': worked out from the field's own lines and from nothing exported. It is defined there for a field without reserved
-- keys; with one it is left free, and here the same rules are applied and the pairs kept (docs/DECISIONS.md, point 16). Assumes nothing.
use Rattle.std.specs.Prelude.{Bool, true, false, List, [], ◌∷◌, ℕ, zero, suc, ◌+◌, Option, None, Some}
use Rattle.sheets.specs.Bytes.{Bytes}
use Rattle.sheets.specs.Field.{Pair, Info, Scalar, leaf, timestamp, fixed_size_binary, decimal_type, Grouping, struct, union, ArrowDataType, Fields, scalar, nested, grouped, dictionary, extension, nil, add, Field, count_fields, up_from}
use Rattle.sheets.specs.Kind

-- "Timezone Some-empty becomes None"
abbrev pub plain_zone : Option Bytes → Option Bytes
plain_zone None = None
plain_zone (Some []) = None
plain_zone (Some (b ∷ bs)) = Some (b ∷ bs)

-- "pairs Some-empty become None"
abbrev pub plain_pairs : Option (List Pair) → Option (List Pair)
plain_pairs None = None
plain_pairs (Some []) = None
plain_pairs (Some (p ∷ ps)) = Some (p ∷ ps)

abbrev pub plain_info : Info → Info
plain_info i = record { name = i.name; nullable = i.nullable; pairs = plain_pairs i.pairs }

abbrev pub plain_scalar : Scalar → Scalar
plain_scalar (leaf k u) = leaf k u
plain_scalar (timestamp u zone) = timestamp u (plain_zone zone)
plain_scalar (fixed_size_binary n) = fixed_size_binary n
plain_scalar (decimal_type w p s) = decimal_type w p s

-- "Union ids None become 0, 1, .. one per field"
abbrev pub plain_grouping : Grouping → ℕ → Grouping
plain_grouping struct count = struct
plain_grouping (union mode None) count = union mode (Some (up_from 0 count))
plain_grouping (union mode (Some ids)) count = union mode (Some ids)

-- the type of an index: the integer types stand in `ArrowDataType` in the order of `IntegerType`, from Int8 on
abbrev pub index_type : ℕ → ArrowDataType
index_type ix = scalar (leaf (ix + Kind.Int8) 0)

-- "Extensions directly inside an extension vanish; the outermost stays. A dictionary then directly under an extension becomes its index type.
-- The rest is unchanged, and every line below is made plain likewise." The flag says that the type stands directly in an extension.
abbrev mutual
  pub plain_type : ArrowDataType → Bool → ArrowDataType
  plain_type (scalar s) inside = scalar (plain_scalar s)
  plain_type (nested n i t) inside = nested n (plain_info i) (plain_type t false)
  plain_type (grouped g fs) inside = grouped (plain_grouping g (count_fields fs)) (plain_fields fs)
  plain_type (dictionary ix ordered t) false = dictionary ix ordered (plain_type t false)
  plain_type (dictionary ix ordered t) true = index_type ix
  plain_type (extension n m t) false = extension n m (plain_type t true)
  plain_type (extension n m t) true = plain_type t true

  pub plain_fields : Fields → Fields
  plain_fields nil = nil
  plain_fields (add i t fs) = add (plain_info i) (plain_type t false) (plain_fields fs)

abbrev pub plain : Field → Field
plain f = record { info = plain_info f.info; type = plain_type f.type false }
