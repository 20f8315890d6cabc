-- `to_physical_type` by the column `kind`: where it is not defined, and that it is what the definitions of the mappings say of a type whose first
-- line has that kind. Assumes nothing.
use mathlib.Core.Path.{◌≡◌, refl, sym, ap, subst, ◌∙◌}
use mathlib.Core.Bool.{Bool, true, false, not, ◌&&◌}
use mathlib.Core.List.{List, [], ◌∷◌}
use Rattle.std.specs.Prelude.{None, Some}
use Prim.Native.Nat.{ℕ, ◌≤◌, ◌<◌}
use native.Mathlib.Omega.{arith}
use lib.Dec.{T}
use borrow.Author.Tests.{ne_eqb, lt-leb, le-leb, ltb-true}
use Rattle.sheets.specs.Refusal.{undefined_mapping}
use Rattle.sheets.specs.Answer.{Answer, refused, given}
use Rattle.sheets.specs.Mappings.{LeafRow, row_at, leaf_rows, interval_physical, leaf_physical, scalar_physical, nesting_physical, grouping_physical, to_physical_type}
use Rattle.sheets.specs.Mappings.{PhysicalType as HostPhysical}
use Rattle.sheets.specs.Field.{bits128, bits32, bits64, bits256, Scalar, leaf, timestamp, fixed_size_binary, decimal_type, Nesting, list, large_list, fixed_size_list, map, Grouping, struct, union, ArrowDataType, dictionary, is_leaf, scalar_rule, type_rule}
use Rattle.sheets.specs.FieldSheet.{columns, of_scalar, of_nesting, of_grouping, of_dictionary}
use Rattle.sheets.specs.Rule.{Meets}
use Rattle.sheets.proofs.Tests.{meets, every}
use Rattle.sheets.specs.Kind
use Rattle.datatypes.specs.At.{first_at, interval_units, integer_types}
use Rattle.datatypes.specs.Places.{interval_place, integer_place}
use Rattle.datatypes.specs.PhysicalPlaces.{physical_of}
use Rattle.datatypes.specs.Physical.{primitive_physical, other_kinds, row_or, kind_physical, index_physical, primitive_kinds, is_primitive, primitive_only}
use Rattle.datatypes.specs.declared.units.IntervalUnit.{IntervalUnit}
use Rattle.datatypes.specs.declared.IntegerType.{IntegerType}
use Rattle.datatypes.specs.declared.PrimitiveType.TheVariants.{MonthDayMillis}
use Rattle.datatypes.specs.declared.physical_type.PhysicalType.TheVariants.{Dictionary}
use Rattle.datatypes.proofs.AtLaws.{Rest, listed, not_listed, nowhere, apart, found, has, past}

-- ── an Interval's unit

pub interval_unit : (n : ℕ) (u : IntervalUnit) → first_at interval_place n interval_units ≡ Some u → interval_physical (interval_place u) ≡ interval_physical n
interval_unit n u h =
    found interval_place (λ m v. interval_physical (interval_place v) ≡ interval_physical m) n interval_units (refl, (refl, (refl, (refl, tt)))) u h

pub interval_last : (n : ℕ) → first_at interval_place n interval_units ≡ None → primitive_physical MonthDayMillis ≡ interval_physical n
interval_last n h =
    let far : 4 ≤ n = past interval_place 4 interval_units (meets (every 4 (has interval_place interval_units)) refl) n h in
    rw (ne_eqb n 0 (λ e. omega arith), ne_eqb n 1 (λ e. omega arith), ne_eqb n 2 (λ e. omega arith))

-- ── the kinds that an arm lists, the last arm's first

row_first : (k : ℕ) (rows : List LeafRow) → row_at k rows ≡ first_at (λ (r : LeafRow). r.kind) k rows
row_first k [] = refl
row_first k (r ∷ rows) = rw (row_first k rows)

abbrev pub primitive_arms : List (List ℕ)
primitive_arms =
    (Kind.Interval ∷ [])
    ∷ (Kind.Float64 ∷ [])
    ∷ (Kind.Float32 ∷ [])
    ∷ (Kind.Float16 ∷ [])
    ∷ (Kind.UInt128 ∷ [])
    ∷ (Kind.UInt64 ∷ [])
    ∷ (Kind.UInt32 ∷ [])
    ∷ (Kind.UInt16 ∷ [])
    ∷ (Kind.UInt8 ∷ [])
    ∷ (Kind.Decimal256 ∷ [])
    ∷ (Kind.Int128 ∷ Kind.Decimal ∷ [])
    ∷ (Kind.Duration ∷ [])
    ∷ (Kind.Int64 ∷ Kind.Timestamp ∷ Kind.Date64 ∷ Kind.Time64 ∷ Kind.Decimal64 ∷ [])
    ∷ (Kind.Int32 ∷ Kind.Date32 ∷ Kind.Time32 ∷ Kind.Decimal32 ∷ [])
    ∷ (Kind.Int16 ∷ [])
    ∷ (Kind.Int8 ∷ [])
    ∷ []

abbrev pub bare_arms : List (List ℕ)
bare_arms =
    (Kind.Dictionary ∷ [])
    ∷ (Kind.Utf8View ∷ [])
    ∷ (Kind.BinaryView ∷ [])
    ∷ (Kind.Map ∷ [])
    ∷ (Kind.Union ∷ [])
    ∷ (Kind.Struct ∷ [])
    ∷ (Kind.LargeList ∷ [])
    ∷ (Kind.FixedSizeList ∷ [])
    ∷ (Kind.List ∷ [])
    ∷ (Kind.LargeUtf8 ∷ [])
    ∷ (Kind.Utf8 ∷ [])
    ∷ (Kind.LargeBinary ∷ [])
    ∷ (Kind.FixedSizeBinary ∷ [])
    ∷ (Kind.Binary ∷ [])
    ∷ (Kind.Boolean ∷ [])
    ∷ (Kind.Null ∷ [])
    ∷ []

-- no kind that `kind_primitive` leaves out is primitive
pub not_primitive : (k p : ℕ) → Rest primitive_arms k → primitive_only k p ≡ refused undefined_mapping
not_primitive k p r = rw (nowhere (λ (j : ℕ). j) k primitive_arms r primitive_kinds refl)

-- a kind that is neither primitive nor among the others
abbrev left_over : ℕ → Bool
left_over k = not (is_primitive k) && not (listed bare_arms k)

left_over_lem : (k p : ℕ) → left_over k ≡ true → kind_physical k p ≡ refused undefined_mapping
unfolding leaf_rows
left_over_lem k p h =
    let other : first_at (λ (w : ℕ × Answer HostPhysical). w.0) k (other_kinds p) ≡ None = apart (λ (w : ℕ × Answer HostPhysical). w.0) left_over k h (other_kinds p) refl in
    let no_row : row_at k leaf_rows ≡ None = row_first k leaf_rows ∙ apart (λ (w : LeafRow). w.kind) left_over k h leaf_rows refl in
    let no-interval : k ≡ Kind.Interval → ⊥ = λ e. subst T (sym h ∙ ap left_over e) tt in
    rw (other, ne_eqb k Kind.Interval no-interval, no_row)

-- where `to_physical_type` looks for a primitive type, there is no other
pub or_primitive : (k p : ℕ) → Rest bare_arms k → primitive_only k p ≡ kind_physical k p
or_primitive k p r = pick (is_primitive k) refl
  where
    pick : (t : Bool) → is_primitive k ≡ t → primitive_only k p ≡ kind_physical k p
    pick true e = rw e
    pick false e =
        let over : left_over k ≡ true = rw (e, not_listed k bare_arms r) in
        let none-there : primitive_only k p ≡ refused undefined_mapping = rw e in
        none-there ∙ sym (left_over_lem k p over)

-- ── a dictionary's index type

pub index_refused : (ix : ℕ) → first_at integer_place ix integer_types ≡ None → refused undefined_mapping ≡ index_physical ix
index_refused ix h = rw (lt-leb ix 9 (past integer_place 10 integer_types (meets (every 10 (has integer_place integer_types)) refl) ix h))

pub index_given : (ix : ℕ) (x : IntegerType) → first_at integer_place ix integer_types ≡ Some x → given (physical_of (Dictionary x)) ≡ index_physical ix
index_given ix x h =
    found integer_place (λ n y. given (physical_of (Dictionary y)) ≡ index_physical n) ix integer_types
    (refl, (refl, (refl, (refl, (refl, (refl, (refl, (refl, (refl, (refl, tt)))))))))) x h

-- ── `to_physical_type` of a type is that of the kind and `p` of its first line, where it is no extension

pub scalar_kind : (s : Scalar) → Meets (scalar_rule s) → kind_physical (columns (of_scalar s)).kind (columns (of_scalar s)).p ≡ scalar_physical s
scalar_kind (leaf k u) h = ap (row_or (leaf_physical k u)) (apart (λ (w : ℕ × Answer HostPhysical). w.0) is_leaf k h.0 (other_kinds u) refl)
scalar_kind (timestamp u zone) h = refl
scalar_kind (fixed_size_binary n) h = refl
scalar_kind (decimal_type bits128 p s) h = refl
scalar_kind (decimal_type bits32 p s) h = refl
scalar_kind (decimal_type bits64 p s) h = refl
scalar_kind (decimal_type bits256 p s) h = refl

pub nesting_kind : (n : Nesting) → kind_physical (columns (of_nesting n)).kind (columns (of_nesting n)).p ≡ given (nesting_physical n)
nesting_kind list = refl
nesting_kind large_list = refl
nesting_kind (fixed_size_list n) = refl
nesting_kind (map sorted) = refl

pub grouping_kind : (g : Grouping) → kind_physical (columns (of_grouping g)).kind (columns (of_grouping g)).p ≡ given (grouping_physical g)
grouping_kind struct = refl
grouping_kind (union mode ids) = refl

pub dictionary_kind : (ix : ℕ) (ordered : Bool) (t : ArrowDataType) → Meets (type_rule (dictionary ix ordered t)) → kind_physical (columns (of_dictionary ix ordered)).kind (columns (of_dictionary ix ordered)).p ≡ to_physical_type (dictionary ix ordered t)
dictionary_kind ix ordered t h =
    let small : ix < 10 = ltb-true ix 10 h.0 in
    rw (le-leb ix 9 (omega arith))
