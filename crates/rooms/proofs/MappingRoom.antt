-- A mapping answers no more bytes than were handed in, and a conversion at most 69. A line that stays is copied; a line that changes becomes that of a
-- leaf, whose kind has no more digits and whose other columns have one byte each; where an extension vanishes, the inner line shows what the extension's
-- line showed of the field. So a type is mapped to one whose bare lines are no longer, by induction over the type. Assumes nothing.
use mathlib.Core.Path.{◌≡◌, refl, ap, subst}
use mathlib.Core.Bool.{Bool, true, false, cond}
use mathlib.Core.List.{List, [], ◌∷◌}
use Rattle.std.specs.Prelude.{Option, None, Some}
use Prim.Native.Nat.{ℕ, zero, suc, ◌+◌, ◌-◌, ◌≤◌, ◌<◌}
use native.Mathlib.Omega.{arith}
use lib.Dec.{eqb, leb, ltb}
use lib.ListN.{length}
use borrow.Author.Tests.{eqb-true, leb-true, ltb-true}
use Rattle.sheets.specs.Refusal.{undefined_mapping}
use Rattle.sheets.specs.Rule.{Rule, is, each, Meets}
use Rattle.sheets.specs.Bytes.{Bytes}
use Rattle.sheets.specs.Answer.{Answer, given}
use Rattle.sheets.specs.Number.{decimal}
use Rattle.sheets.specs.Kind
use Rattle.sheets.specs.IntegerType
use Rattle.sheets.specs.PrimitiveType as Primitive
use Rattle.sheets.specs.IntervalUnit
use Rattle.sheets.specs.Field.{bits128, bits32, bits64, bits256, Info, Scalar, leaf, timestamp, fixed_size_binary, decimal_type, Nesting, Grouping, ArrowDataType, scalar, nested, grouped, dictionary, extension, Fields, nil, add, Field, count_fields}
use Rattle.sheets.specs.FieldSheet.{of_scalar, type_lines, field_heading, write_field_sheet, write_bare_sheet}
use Rattle.sheets.specs.Plain.{index_type}
use Rattle.sheets.specs.Mappings.{LeafRow, leaf_rows, row_at, interval_under, leaf_under, scalar_under, is_map, is_union, unless, underlying_physical_type, fields_underlying, to_storage, to_storage_recursive, fields_storage, inner_dtype, type_at, get_child, from_integer_type, from_primitive_type, with_dtype}
use Rattle.sheets.specs.Outcome.{mapped, picked, converted, underlying_physical_type_outcome, to_storage_outcome, to_storage_recursive_outcome, inner_dtype_outcome, get_child_outcome, from_integer_type_outcome, from_primitive_type_outcome}
use Rattle.sheets.proofs.Tests.{meets, not_some, same_some}
use Rattle.rooms.specs.Room.{mapping_room, converted_room, Fits, HasRoom}
use Rattle.rooms.proofs.RoomLaws.{Gives, gives_refused, gives_given, gives_more, gives_then, gives_found, gives_cond, AtMost, answer_fits, answer_has_room}
use Rattle.rooms.proofs.Sizes.{sheet_size, one_digit, two_digits, decimal_least, flag_size, decimal_order, shape_least, type_size, bare_size, fields_size, add_size, type_size_lem, bare_least, scalar_size, nested_size, grouped_size, dictionary_size_lem, extension_size, index_size, FieldRead, field_gives}

-- the bare lines of u are no longer than those of t
abbrev NoLonger : ArrowDataType → ArrowDataType → Type 0
NoLonger t u = bare_size u ≤ bare_size t

-- as many fields, whose lines are no longer
abbrev FieldsNoLonger : Fields → Fields → Type 0
FieldsNoLonger fs us = (count_fields us ≡ count_fields fs) × (fields_size us ≤ fields_size fs)

-- ── leaves

leaf_size : (k u : ℕ) → bare_size (scalar (leaf k u)) ≡ length (decimal k) + length (decimal u) + 16
leaf_size k u = omega (arith, scalar_size (leaf k u), flag_size false)

-- a leaf of a smaller place
leaf_order : (j k u : ℕ) → j ≤ k → NoLonger (scalar (leaf k u)) (scalar (leaf j 0))
leaf_order j k u h = omega (arith, leaf_size j 0, leaf_size k u, decimal_order j k h, flag_size false, decimal_least u)

-- a leaf of one digit is no longer than any type without children
digit_least : (j : ℕ) → j < 10 → (s : Scalar) → NoLonger (scalar s) (scalar (leaf j 0))
digit_least j h s = omega (arith, leaf_size j 0, scalar_size s, shape_least (of_scalar s), flag_size false, one_digit j h)

-- ── a type over others that are no longer

-- a field's lines are no longer if the bare lines of its type are not
field_order : (t u : ArrowDataType) (i : Option Info) → NoLonger t u → type_size u i ≤ type_size t i
field_order t u i h = omega (arith, type_size_lem t i, type_size_lem u i)

nested_order : (n : Nesting) (i : Info) (t u : ArrowDataType) → NoLonger t u → NoLonger (nested n i t) (nested n i u)
nested_order n i t u h = omega (arith, nested_size n i t, nested_size n i u, field_order t u (Some i) h)

grouped_order : (g : Grouping) (fs us : Fields) → FieldsNoLonger fs us → NoLonger (grouped g fs) (grouped g us)
grouped_order g fs us h = omega (arith, grouped_size g fs, grouped_size g us, ap (λ n. length (decimal n)) h.0, h.1)

add_order : (i : Info) (t u : ArrowDataType) (fs us : Fields) → NoLonger t u → FieldsNoLonger fs us → FieldsNoLonger (add i t fs) (add i u us)
add_order i t u fs us h k = (ap suc k.0, omega (arith, add_size i t fs, add_size i u us, field_order t u (Some i) h, k.1))

dictionary_order : (ix : ℕ) (ordered : Bool) (t u : ArrowDataType) → NoLonger t u → NoLonger (dictionary ix ordered t) (dictionary ix ordered u)
dictionary_order ix ordered t u h = omega (arith, dictionary_size_lem ix ordered t, dictionary_size_lem ix ordered u)

-- where an extension vanishes
extension_order : (n : Bytes) (m : Option Bytes) (t u : ArrowDataType) → NoLonger t u → NoLonger (extension n m t) u
extension_order n m t u h = omega (arith, extension_size n m t)

gives_unless : {A : Type 0} {P : A → Type 0} (t : Bool) {a : Answer A} → Gives P a → Gives P (unless t a)
gives_unless true h = gives_refused
gives_unless false h = h

-- ── `underlying_physical_type`

-- one test over the table: an underlying type stands no later than its type
abbrev no_later : LeafRow → Rule
no_later r = is (leb r.under r.kind)

table : Meets (each no_later leaf_rows)
unfolding leaf_rows
table = meets (each no_later leaf_rows) refl

row_under : (k : ℕ) (rs : List LeafRow) → Meets (each no_later rs) → (r : LeafRow) → row_at k rs ≡ Some r → r.under ≤ k
row_under k [] h r e = not_some e
row_under k (q ∷ rs) h r e = pick (eqb k q.kind) refl e (row_under k rs h.1 r)
  where
    pick : (t : Bool) → eqb k q.kind ≡ t → cond t (Some q) (row_at k rs) ≡ Some r → (row_at k rs ≡ Some r → r.under ≤ k) → r.under ≤ k
    pick true t g next =
        subst (λ (x : LeafRow). x.under ≤ k) (same_some g) (omega (arith, eqb-true k q.kind t, leb-true q.under q.kind h.0))
    pick false t g next = next g

interval_under_lem : (s : Scalar) (u : ℕ) → Gives (NoLonger (scalar s)) (interval_under u)
interval_under_lem s u =
    gives_cond (eqb u IntervalUnit.YearMonth) (λ e. gives_given (digit_least Kind.Int32 (omega arith) s))
    (λ e. gives_cond (eqb u IntervalUnit.DayTime) (λ f. gives_given (digit_least Kind.Int64 (omega arith) s)) (λ f. gives_refused))

leaf_under_lem : (k u : ℕ) → Gives (NoLonger (scalar (leaf k u))) (leaf_under k u)
leaf_under_lem k u =
    gives_cond (eqb k Kind.Interval) (λ e. interval_under_lem (leaf k u) u)
    (λ e. gives_cond (eqb k Kind.Unknown) (λ f. gives_given (leaf_order Kind.Unknown k u (omega (arith, eqb-true k Kind.Unknown f))))
    (λ f. gives_then (gives_found undefined_mapping (row_at k leaf_rows) (row_under k leaf_rows table)) (λ r h. gives_given (leaf_order r.under k u h))))

scalar_under_lem : (s : Scalar) → Gives (NoLonger (scalar s)) (scalar_under s)
scalar_under_lem (leaf k u) = leaf_under_lem k u
scalar_under_lem (timestamp u z) = gives_given (digit_least Kind.Int64 (omega arith) (timestamp u z))
scalar_under_lem (fixed_size_binary n) = gives_given (omega arith)
scalar_under_lem (decimal_type bits128 p s) = gives_given (digit_least Kind.Int128 (omega arith) (decimal_type bits128 p s))
scalar_under_lem (decimal_type bits32 p s) = gives_given (digit_least Kind.Int32 (omega arith) (decimal_type bits32 p s))
scalar_under_lem (decimal_type bits64 p s) = gives_given (digit_least Kind.Int64 (omega arith) (decimal_type bits64 p s))
scalar_under_lem (decimal_type bits256 p s) = gives_refused

-- a dictionary becomes its index type
index_shorter : (ix : ℕ) (ordered : Bool) (t : ArrowDataType) → NoLonger (dictionary ix ordered t) (index_type ix)
index_shorter ix ordered t = omega (arith, scalar_size (leaf (ix + 2) 0), dictionary_size_lem ix ordered t, index_size ix ordered)

mutual
  under_shorter : (t : ArrowDataType) → Gives (NoLonger t) (underlying_physical_type t)
  under_shorter (scalar s) = scalar_under_lem s
  under_shorter (nested n i t) = gives_unless (is_map n) (gives_then (under_shorter t) (λ u h. gives_given (nested_order n i t u h)))
  under_shorter (grouped g fs) = gives_unless (is_union g) (gives_then (fields_under fs) (λ us h. gives_given (grouped_order g fs us h)))
  under_shorter (dictionary ix ordered t) = gives_given (index_shorter ix ordered t)
  under_shorter (extension n m t) = gives_more (extension_order n m t) (under_shorter t)

  fields_under : (fs : Fields) → Gives (FieldsNoLonger fs) (fields_underlying fs)
  fields_under nil = gives_given (refl, omega arith)
  fields_under (add i t fs) = gives_then (under_shorter t) (λ u h. gives_then (fields_under fs) (λ us k. gives_given (add_order i t u fs us h k)))

-- ── `to_storage`, `to_storage_recursive`

storage_shorter : (t : ArrowDataType) → NoLonger t (to_storage t)
storage_shorter (scalar s) = omega arith
storage_shorter (nested n i t) = omega arith
storage_shorter (grouped g fs) = omega arith
storage_shorter (dictionary ix ordered t) = omega arith
storage_shorter (extension n m t) = extension_order n m t (to_storage t) (storage_shorter t)

mutual
  recursive_shorter : (t : ArrowDataType) → Gives (NoLonger t) (to_storage_recursive t)
  recursive_shorter (scalar s) = gives_given (omega arith)
  recursive_shorter (nested n i t) = gives_unless (is_map n) (gives_then (recursive_shorter t) (λ u h. gives_given (nested_order n i t u h)))
  recursive_shorter (grouped g fs) = gives_unless (is_union g) (gives_then (fields_recursive fs) (λ us h. gives_given (grouped_order g fs us h)))
  recursive_shorter (dictionary ix ordered t) = gives_then (recursive_shorter t) (λ u h. gives_given (dictionary_order ix ordered t u h))
  recursive_shorter (extension n m t) = gives_more (extension_order n m t) (recursive_shorter t)

  fields_recursive : (fs : Fields) → Gives (FieldsNoLonger fs) (fields_storage fs)
  fields_recursive nil = gives_given (refl, omega arith)
  fields_recursive (add i t fs) = gives_then (recursive_shorter t) (λ u h. gives_then (fields_recursive fs) (λ us k. gives_given (add_order i t u fs us h k)))

-- ── `inner_dtype`, `get_child`

below_nested : (n : Nesting) (i : Info) (t : ArrowDataType) → NoLonger (nested n i t) t
below_nested n i t = omega (arith, nested_size n i t, bare_least t (Some i))

inner_shorter : (t : ArrowDataType) → Gives (NoLonger t) (inner_dtype t)
inner_shorter (scalar s) = gives_refused
inner_shorter (nested n i t) = gives_unless (is_map n) (gives_given (below_nested n i t))
inner_shorter (grouped g fs) = gives_refused
inner_shorter (dictionary ix ordered t) = gives_refused
inner_shorter (extension n m t) = gives_refused

at_shorter : (fs : Fields) (k : ℕ) → Gives (λ u. bare_size u ≤ fields_size fs) (type_at fs k)
at_shorter nil k = gives_refused
at_shorter (add i t fs) zero = gives_given (omega (arith, add_size i t fs, bare_least t (Some i)))
at_shorter (add i t fs) (suc k) = gives_more (λ u h. omega (arith, add_size i t fs)) (at_shorter fs k)

child_shorter : (k : ℕ) (t : ArrowDataType) → Gives (NoLonger t) (get_child k t)
child_shorter k (scalar s) = gives_refused
child_shorter k (nested n i t) = gives_cond (eqb k 0) (λ e. gives_given (below_nested n i t)) (λ e. gives_refused)
child_shorter k (grouped g fs) = gives_more (λ u h. omega (arith, grouped_size g fs)) (at_shorter fs k)
child_shorter k (dictionary ix ordered t) = gives_refused
child_shorter k (extension n m t) = gives_more (extension_order n m t) (child_shorter k t)

-- ── the sheets

module _ (change : ArrowDataType → Answer ArrowDataType) (shorter : (t : ArrowDataType) → Gives (NoLonger t) (change t)) (b : Bytes) where
  -- the field with its type replaced
  mapped_at_most : AtMost (length b) (mapped change b)
  mapped_at_most = gives_then (field_gives b) (λ f r. gives_then (shorter f.type) (λ t h. gives_given (fits f t r h)))
    where
      fits : (f : Field) (t : ArrowDataType) → FieldRead b f → NoLonger f.type t → length (write_field_sheet (with_dtype f t)) ≤ length b
      fits f t r h = omega (arith, r.whole, sheet_size field_heading (type_lines t (Some f.info)), field_order f.type t (Some f.info) h)

  -- the type alone, on a bare line
  picked_at_most : AtMost (length b) (picked change b)
  picked_at_most = gives_then (field_gives b) (λ f r. gives_then (shorter f.type) (λ t h. gives_given (fits f t r h)))
    where
      fits : (f : Field) (t : ArrowDataType) → FieldRead b f → NoLonger f.type t → length (write_bare_sheet t) ≤ length b
      fits f t r h = omega (arith, r.whole, sheet_size field_heading (type_lines t None), bare_least f.type (Some f.info))

-- ── the conversions

-- a line of at most 21 bytes
abbrev LineFits : ArrowDataType → Type 0
LineFits t = bare_size t ≤ 21

converted_at_most : (a : Answer ArrowDataType) → Gives LineFits a → AtMost converted_room (converted a)
converted_at_most a h = gives_then h (λ t l. gives_given (omega (arith, sheet_size field_heading (type_lines t None))))

leaf_fits : (k u : ℕ) → k < 100 → u < 10 → LineFits (scalar (leaf k u))
leaf_fits k u h l = omega (arith, leaf_size k u, two_digits k h, one_digit u l)

wide_fits : LineFits (scalar (decimal_type bits256 32 32))
wide_fits = omega (arith, scalar_size (decimal_type bits256 32 32), two_digits Kind.Decimal256 (omega arith), two_digits 32 (omega arith))

integer_fits : (p : ℕ) → Gives LineFits (from_integer_type p)
integer_fits p =
    gives_cond (leb p IntegerType.UInt128) (λ e. gives_given (leaf_fits (p + Kind.Int8) 0 (omega (arith, leb-true p 9 e)) (omega arith))) (λ e. gives_refused)

primitive_fits : (p : ℕ) → Gives LineFits (from_primitive_type p)
primitive_fits p =
    gives_cond (ltb p Primitive.Int256) (λ e. gives_given (leaf_fits (p + Kind.Int8) 0 (omega (arith, ltb-true p 5 e)) (omega arith)))
    (λ _. gives_cond (eqb p Primitive.Int256) (λ e. gives_given wide_fits)
    (λ _. gives_cond (leb p Primitive.Float64)
    (λ e. gives_given (leaf_fits ((p - Primitive.UInt8) + Kind.UInt8) 0 (omega (arith, leb-true p 13 e)) (omega arith)))
    (λ _. gives_cond (leb p Primitive.MonthDayMillis)
    (λ e. gives_given (leaf_fits Kind.Interval ((p - Primitive.DaysMs) + IntervalUnit.DayTime) (omega arith) (omega (arith, leb-true p 16 e))))
    (λ _. gives_refused))))

-- ── the calls

under_at_most : (b : Bytes) → AtMost (length b) (mapped underlying_physical_type b)
under_at_most b = mapped_at_most underlying_physical_type under_shorter b

pub underlying_physical_type_fits : (b out : Bytes) → Fits (mapping_room (length b)) (underlying_physical_type_outcome b out)
underlying_physical_type_fits b out = answer_fits (length b) (mapped underlying_physical_type b) out (under_at_most b)

pub underlying_physical_type_has_room : (b out : Bytes) → HasRoom (mapping_room (length b)) out (underlying_physical_type_outcome b out)
underlying_physical_type_has_room b out = answer_has_room (length b) (mapped underlying_physical_type b) out (under_at_most b)

storage_at_most : (b : Bytes) → AtMost (length b) (mapped (λ t. given (to_storage t)) b)
storage_at_most b = mapped_at_most (λ t. given (to_storage t)) (λ t. gives_given (storage_shorter t)) b

pub to_storage_fits : (b out : Bytes) → Fits (mapping_room (length b)) (to_storage_outcome b out)
to_storage_fits b out = answer_fits (length b) (mapped (λ t. given (to_storage t)) b) out (storage_at_most b)

pub to_storage_has_room : (b out : Bytes) → HasRoom (mapping_room (length b)) out (to_storage_outcome b out)
to_storage_has_room b out = answer_has_room (length b) (mapped (λ t. given (to_storage t)) b) out (storage_at_most b)

recursive_at_most : (b : Bytes) → AtMost (length b) (mapped to_storage_recursive b)
recursive_at_most b = mapped_at_most to_storage_recursive recursive_shorter b

pub to_storage_recursive_fits : (b out : Bytes) → Fits (mapping_room (length b)) (to_storage_recursive_outcome b out)
to_storage_recursive_fits b out = answer_fits (length b) (mapped to_storage_recursive b) out (recursive_at_most b)

pub to_storage_recursive_has_room : (b out : Bytes) → HasRoom (mapping_room (length b)) out (to_storage_recursive_outcome b out)
to_storage_recursive_has_room b out = answer_has_room (length b) (mapped to_storage_recursive b) out (recursive_at_most b)

inner_at_most : (b : Bytes) → AtMost (length b) (picked inner_dtype b)
inner_at_most b = picked_at_most inner_dtype inner_shorter b

pub inner_dtype_fits : (b out : Bytes) → Fits (mapping_room (length b)) (inner_dtype_outcome b out)
inner_dtype_fits b out = answer_fits (length b) (picked inner_dtype b) out (inner_at_most b)

pub inner_dtype_has_room : (b out : Bytes) → HasRoom (mapping_room (length b)) out (inner_dtype_outcome b out)
inner_dtype_has_room b out = answer_has_room (length b) (picked inner_dtype b) out (inner_at_most b)

child_at_most : (b : Bytes) (index : ℕ) → AtMost (length b) (picked (get_child index) b)
child_at_most b index = picked_at_most (get_child index) (child_shorter index) b

pub get_child_fits : (b : Bytes) (index : ℕ) (out : Bytes) → Fits (mapping_room (length b)) (get_child_outcome b index out)
get_child_fits b index out = answer_fits (length b) (picked (get_child index) b) out (child_at_most b index)

pub get_child_has_room : (b : Bytes) (index : ℕ) (out : Bytes) → HasRoom (mapping_room (length b)) out (get_child_outcome b index out)
get_child_has_room b index out = answer_has_room (length b) (picked (get_child index) b) out (child_at_most b index)

integer_at_most : (place : ℕ) → AtMost converted_room (converted (from_integer_type place))
integer_at_most place = converted_at_most (from_integer_type place) (integer_fits place)

pub from_integer_type_fits : (place : ℕ) (out : Bytes) → Fits converted_room (from_integer_type_outcome place out)
from_integer_type_fits place out = answer_fits converted_room (converted (from_integer_type place)) out (integer_at_most place)

pub from_integer_type_has_room : (place : ℕ) (out : Bytes) → HasRoom converted_room out (from_integer_type_outcome place out)
from_integer_type_has_room place out = answer_has_room converted_room (converted (from_integer_type place)) out (integer_at_most place)

primitive_at_most : (place : ℕ) → AtMost converted_room (converted (from_primitive_type place))
primitive_at_most place = converted_at_most (from_primitive_type place) (primitive_fits place)

pub from_primitive_type_fits : (place : ℕ) (out : Bytes) → Fits converted_room (from_primitive_type_outcome place out)
from_primitive_type_fits place out = answer_fits converted_room (converted (from_primitive_type place)) out (primitive_at_most place)

pub from_primitive_type_has_room : (place : ℕ) (out : Bytes) → HasRoom converted_room out (from_primitive_type_outcome place out)
from_primitive_type_has_room place out = answer_has_room converted_room (converted (from_primitive_type place)) out (primitive_at_most place)
