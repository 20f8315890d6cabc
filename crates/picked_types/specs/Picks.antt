-- The types that `to_storage`, `inner_dtype` and `get_child` answer, and what finding them in a sheet tells. Assumes nothing.
use Rattle.std.specs.Prelude.{◌≡◌, Bool, true, false, List, [], ◌∷◌, ℕ, ◌≤◌, ◌<◌, length, drop, Option}
use Rattle.sheets.specs.Bytes.{Bytes}
use Rattle.sheets.specs.Answer.{Answer, refused, given}
use Rattle.sheets.specs.Sheet.{level_limit}
use Rattle.sheets.specs.Field.{Info, ArrowDataType}
use Rattle.sheets.specs.FieldSheet.{Entry}
use Rattle.sheets.specs.LineTrees.{Standing}
use Rattle.sheets.specs.FieldTrees.{fields}
use Rattle.sheets.specs.Mappings.{to_storage, inner_dtype, get_child}
use Rattle.sheets.specs.MappingSteps.{child_of}
use Rattle.read_field_line.specs.FieldLines.{FieldLineAt}
use Rattle.read_field_line.specs.declared.FieldLine.{FieldLine}
use Rattle.nesting.specs.declared.Nesting.{Nesting}
use Rattle.nesting.specs.declared.Nesting.TheVariants as N
use Rattle.walks.specs.Places.{TypeAt, RowAt}
use Rattle.picked_types.specs.declared.pick.Choice.{Choice}
use Rattle.picked_types.specs.declared.pick.Choice.TheVariants.{Storage, Inner, Child}
use Rattle.picked_types.specs.declared.pick.PickedType.{PickedType}

-- ── the choice

abbrev pub chosen : Choice → ArrowDataType → Answer ArrowDataType
chosen Storage t = given (to_storage t)
chosen Inner t = inner_dtype t
chosen (Child index) t = get_child index t

-- what `inner_dtype` and `get_child` ask of a type
abbrev pub has_inner : Nesting → Bool
has_inner N.Nothing = false
has_inner N.List = true
has_inner N.Map = false
has_inner N.Fields = false
has_inner N.Dictionary = false
has_inner N.Extension = false

abbrev pub has_fields : Nesting → Bool
has_fields N.Nothing = false
has_fields N.List = true
has_fields N.Map = true
has_fields N.Fields = true
has_fields N.Dictionary = false
has_fields N.Extension = false

-- ── what is found

-- the type t stands there, behind whatever columns of its field, and ends there
pub record PickedAt (s : Bytes) (p : PickedType) (t : ArrowDataType) : Type 0 where
  pub info : Option Info
  pub es : List Entry
  pub stands : Standing fields (drop p.at s) ((info, t) ∷ es)
  pub line : FieldLineAt s p.at p.line
  pub after : Standing fields (drop p.end s) es
  pub high : p.end ≤ length s
  pub short : length s ≤ 65535

-- the type a was to be found
abbrev pub PickTold : Bytes → Answer ArrowDataType → Answer PickedType → Type 0
PickTold s a (given p) = (t : ArrowDataType) × (a ≡ given t) × PickedAt s p t
PickTold s a (refused q) = a ≡ refused q

-- ── what is required and told

-- the field's type stands here, and nothing after it
abbrev pub FieldAt : Bytes → ℕ → Option Info → ArrowDataType → Type 0
FieldAt s at i t = TypeAt s at level_limit false i t []

abbrev pub HasField : Bytes → ℕ → FieldLine → Type 0
HasField s at first = (i : Option Info) × (t : ArrowDataType) × FieldAt s at i t × FieldLineAt s at first

-- wherever its line was read
abbrev pub HasLine : Bytes → FieldLine → Type 0
HasLine s first = (at : ℕ) × HasField s at first

-- types stand from here on, more than index of them
abbrev pub HasNth : Bytes → ℕ → ℕ → Type 0
HasNth s at index = (count : ℕ) × (us : List Entry) × (es : List Entry) × RowAt s at count level_limit false us es × (index < count)

abbrev pub Picks : Choice → Bytes → ℕ → Answer PickedType → Type 0
Picks c s at r = (i : Option Info) (t : ArrowDataType) → FieldAt s at i t → PickTold s (chosen c t) r

abbrev pub InnerTold : Bytes → FieldLine → Answer PickedType → Type 0
InnerTold s first r = (at : ℕ) → FieldLineAt s at first → Picks Inner s at r

abbrev pub NthTold : Bytes → ℕ → ℕ → Answer PickedType → Type 0
NthTold s at index r = (count : ℕ) (us es : List Entry) → RowAt s at count level_limit false us es → index < count → PickTold s (child_of index us) r

abbrev pub WholeTold : Bytes → ℕ → Answer PickedType → Type 0
WholeTold s at r = (i : Option Info) (t : ArrowDataType) (es : List Entry) → TypeAt s at level_limit false i t es → PickTold s (given t) r
