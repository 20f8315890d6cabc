-- Document 01, 'Format string', and the Arrow C data interface, "Data type description -- format strings": how they are made (`to_format`) and
-- what they say (the format half of `to_dtype`, and `to_integer_type`). Assumes nothing.
use Rattle.std.specs.Prelude.{Bool, true, false, ◌&&◌, cond, List, [], ◌∷◌, ◌++◌, map as map_list, ℕ, zero, suc, ◌+◌, ◌^◌, eqb, leb, ltb, ℤ, pos, negsuc, Option, None, Some}
use Rattle.sheets.specs.Refusal.{unsupported_format, bad_number, bad_decimal, bad_index, no_format, no_union_ids}
use Rattle.sheets.specs.Bytes.{Bytes, comma, colon, plus_sign, minus_sign, ascii, same, split, join, all}
use Rattle.sheets.specs.Rule.{is}
use Rattle.sheets.specs.Answer.{Answer, refused, given, ◌>>=◌, when, found, read_each}
use Rattle.sheets.specs.Number.{decimal, value_from, is_digit, write_signed}
use Rattle.sheets.specs.Field.{TimeUnit, unit_place, second, millisecond, microsecond, nanosecond, Width, bits128, bits32, bits64, bits256, Scalar, leaf, timestamp, fixed_size_binary, decimal_type, Nesting, list, large_list, fixed_size_list, map, Grouping, struct, union, ArrowDataType, scalar, nested, grouped, dictionary, extension, count_fields, UnionMode, up_from}
use Rattle.sheets.specs.Kind
use Rattle.sheets.specs.IntegerType
use Rattle.sheets.specs.IntervalUnit

-- a fixed name, the place of its type and the unit's place
pub record FormatRow : Type 0 where
  pub name : Bytes
  pub kind : ℕ
  pub unit : ℕ

abbrev row : Bytes → ℕ → ℕ → FormatRow
row f k u = record { name = f; kind = k; unit = u }

-- "the fixed names are theirs" (`to_dtype` and `to_format`), but for those of types with children; `_pli128` and `_plu128` are not the standard's
unfoldable pub rows : List FormatRow
rows =
    row (ascii "n") Kind.Null 0
    ∷ row (ascii "b") Kind.Boolean 0
    ∷ row (ascii "c") Kind.Int8 0
    ∷ row (ascii "C") Kind.UInt8 0
    ∷ row (ascii "s") Kind.Int16 0
    ∷ row (ascii "S") Kind.UInt16 0
    ∷ row (ascii "i") Kind.Int32 0
    ∷ row (ascii "I") Kind.UInt32 0
    ∷ row (ascii "l") Kind.Int64 0
    ∷ row (ascii "L") Kind.UInt64 0
    ∷ row (ascii "_pli128") Kind.Int128 0
    ∷ row (ascii "_plu128") Kind.UInt128 0
    ∷ row (ascii "e") Kind.Float16 0
    ∷ row (ascii "f") Kind.Float32 0
    ∷ row (ascii "g") Kind.Float64 0
    ∷ row (ascii "z") Kind.Binary 0
    ∷ row (ascii "Z") Kind.LargeBinary 0
    ∷ row (ascii "u") Kind.Utf8 0
    ∷ row (ascii "U") Kind.LargeUtf8 0
    ∷ row (ascii "tdD") Kind.Date32 0
    ∷ row (ascii "tdm") Kind.Date64 0
    ∷ row (ascii "tts") Kind.Time32 (unit_place second)
    ∷ row (ascii "ttm") Kind.Time32 (unit_place millisecond)
    ∷ row (ascii "ttu") Kind.Time64 (unit_place microsecond)
    ∷ row (ascii "ttn") Kind.Time64 (unit_place nanosecond)
    ∷ row (ascii "tDs") Kind.Duration (unit_place second)
    ∷ row (ascii "tDm") Kind.Duration (unit_place millisecond)
    ∷ row (ascii "tDu") Kind.Duration (unit_place microsecond)
    ∷ row (ascii "tDn") Kind.Duration (unit_place nanosecond)
    ∷ row (ascii "tiM") Kind.Interval IntervalUnit.YearMonth
    ∷ row (ascii "tiD") Kind.Interval IntervalUnit.DayTime
    ∷ row (ascii "tin") Kind.Interval IntervalUnit.MonthDayNano
    ∷ row (ascii "vu") Kind.Utf8View 0
    ∷ row (ascii "vz") Kind.BinaryView 0
    ∷ []

-- the row of a name
abbrev pub row_named : Bytes → List FormatRow → Option FormatRow
row_named f [] = None
row_named f (r ∷ rs) = cond (same f r.name) (Some r) (row_named f rs)

-- the row of a type and a unit
abbrev pub row_of : ℕ → ℕ → List FormatRow → Option FormatRow
row_of k u [] = None
row_of k u (r ∷ rs) = cond (eqb k r.kind && eqb u r.unit) (Some r) (row_of k u rs)

-- ── made

abbrev pub unit_letter : TimeUnit → Bytes
unit_letter second = ascii "s"
unit_letter millisecond = ascii "m"
unit_letter microsecond = ascii "u"
unit_letter nanosecond = ascii "n"

abbrev pub or_empty : Option Bytes → Bytes
or_empty None = []
or_empty (Some b) = b

-- the third part of a decimal's format; a decimal of 128 bits has none
abbrev pub width_text : Width → List Bytes
width_text bits128 = []
width_text bits32 = ascii "32" ∷ []
width_text bits64 = ascii "64" ∷ []
width_text bits256 = ascii "256" ∷ []

-- `ts[smun]:zone`, `w:size`, `d:precision,scale[,width]`; 12 where there is no name
abbrev pub scalar_format : Scalar → Answer Bytes
scalar_format (leaf k u) = found no_format (row_of k u rows) >>= λ r. given r.name
scalar_format (timestamp u zone) = given (ascii "ts" ++ unit_letter u ++ ascii ":" ++ or_empty zone)
scalar_format (fixed_size_binary n) = given (ascii "w:" ++ decimal n)
scalar_format (decimal_type w p s) = given (ascii "d:" ++ join comma (decimal p ∷ decimal s ∷ width_text w))

abbrev pub nesting_format : Nesting → Bytes
nesting_format list = ascii "+l"
nesting_format large_list = ascii "+L"
nesting_format (fixed_size_list n) = ascii "+w:" ++ decimal n
nesting_format (map sorted) = ascii "+m"

abbrev pub union_name : UnionMode → Bytes
union_name true = ascii "+us:"
union_name false = ascii "+ud:"

-- 13 where no id would stand in the format
abbrev pub write_ids : Bytes → List ℤ → Answer Bytes
write_ids name [] = refused no_union_ids
write_ids name (z ∷ zs) = given (name ++ join comma (write_signed z ∷ map_list write_signed zs))

-- the count is of the fields: ids that are None are 0, 1, .. one per field
abbrev pub grouping_format : Grouping → ℕ → Answer Bytes
grouping_format struct count = given (ascii "+s")
grouping_format (union mode None) count = write_ids (union_name mode) (up_from 0 count)
grouping_format (union mode (Some ids)) count = write_ids (union_name mode) ids

-- the format of an index type
abbrev pub index_format : ℕ → Answer Bytes
index_format ix = scalar_format (leaf (ix + Kind.Int8) 0)

-- `to_format`: a dictionary is written as its index type, an extension as its inner type
abbrev pub to_format : ArrowDataType → Answer Bytes
to_format (scalar s) = scalar_format s
to_format (nested n i t) = given (nesting_format n)
to_format (grouped g fs) = grouping_format g (count_fields fs)
to_format (dictionary ix ordered t) = index_format ix
to_format (extension n m t) = to_format t

-- ── read

-- what a format string says; the fields come from the children
pub data Format : Type 0 where
  of_scalar : Scalar → Format
  of_nesting : Nesting → Format
  of_grouping : Grouping → Format

-- digits, at least one
abbrev pub unsigned : Bytes → Answer ℕ
unsigned [] = refused bad_number
unsigned (b ∷ bs) = when bad_number (all is_digit (b ∷ bs)) (value_from 0 (b ∷ bs))

abbrev pub drop_plus : Bytes → Bytes
drop_plus [] = []
drop_plus (b ∷ bs) = cond (eqb b plus_sign) bs (b ∷ bs)

-- "`usize`, 64 bits: digits with an optional plus, spare zeros allowed"
abbrev pub read_size : Bytes → Answer ℕ
read_size b = unsigned (drop_plus b) >>= λ n. when bad_number (is (ltb n (2 ^ 64))) n

-- minus n
abbrev pub minus : ℕ → ℤ
minus zero = pos 0
minus (suc n) = negsuc n

-- "Union ids are `i32`, plus or minus allowed"
abbrev pub read_id : Bytes → Answer ℤ
read_id [] = refused bad_number
read_id (b ∷ bs) =
    cond (eqb b minus_sign)
    (unsigned bs >>= λ n. when bad_number (is (leb n (2 ^ 31))) (minus n))
    (unsigned (drop_plus (b ∷ bs)) >>= λ n. when bad_number (is (ltb n (2 ^ 31))) (pos n))

-- "Widths 32, 64, 256 pick their kind, any other width Decimal"
abbrev pub width_of : ℕ → Width
width_of n = cond (eqb n 32) bits32 (cond (eqb n 64) bits64 (cond (eqb n 256) bits256 bits128))

-- "`d` its part count, width, precision, scale"
abbrev pub decimal_parts : List Bytes → Answer Scalar
decimal_parts [] = refused bad_decimal
decimal_parts (p ∷ []) = refused bad_decimal
decimal_parts (p ∷ s ∷ []) = read_size p >>= λ a. read_size s >>= λ b. given (decimal_type bits128 a b)
decimal_parts (p ∷ s ∷ w ∷ []) = read_size w >>= λ n. read_size p >>= λ a. read_size s >>= λ b. given (decimal_type (width_of n) a b)
decimal_parts (p ∷ s ∷ w ∷ x ∷ xs) = refused bad_decimal

-- "the first colon splits": the bytes before it and after it
abbrev pub cut : Bytes → Option (Bytes × Bytes)
cut [] = None
cut (b ∷ bs) = elim (eqb b colon) [ true ↦ Some ([], bs) | false ↦ elim (cut bs) [ None ↦ None | Some hr ↦ Some (b ∷ hr.0, hr.1) ] ]

-- an empty zone is none
abbrev pub zone : Bytes → Option Bytes
zone [] = None
zone (b ∷ bs) = Some (b ∷ bs)

-- a format with a colon: what stands before it, what stands after it
abbrev pub read_cut : Bytes → Bytes → Answer Format
read_cut h r =
    cond (same h (ascii "tss")) (given (of_scalar (timestamp second (zone r))))
    (cond (same h (ascii "tsm")) (given (of_scalar (timestamp millisecond (zone r))))
    (cond (same h (ascii "tsu")) (given (of_scalar (timestamp microsecond (zone r))))
    (cond (same h (ascii "tsn")) (given (of_scalar (timestamp nanosecond (zone r))))
    (cond (same h (ascii "w")) (read_size r >>= λ n. given (of_scalar (fixed_size_binary n)))
    (cond (same h (ascii "+w")) (read_size r >>= λ n. given (of_nesting (fixed_size_list n)))
    (cond (same h (ascii "d")) (decimal_parts (split comma r) >>= λ s. given (of_scalar s))
    (cond (same h (ascii "+us")) (read_each read_id (split comma r) >>= λ zs. given (of_grouping (union true (Some zs))))
    (cond (same h (ascii "+ud")) (read_each read_id (split comma r) >>= λ zs. given (of_grouping (union false (Some zs))))
    (refused unsupported_format)))))))))

abbrev pub read_other : Option (Bytes × Bytes) → Answer Format
read_other None = refused unsupported_format
read_other (Some hr) = read_cut hr.0 hr.1

abbrev pub read_named : Option FormatRow → Answer Format → Answer Format
read_named (Some r) other = given (of_scalar (leaf r.kind r.unit))
read_named None other = other

-- "the fixed names are theirs. Otherwise the first colon splits"; the first argument says that the keys of a map are sorted
abbrev pub read_format : Bool → Bytes → Answer Format
read_format sorted f =
    read_named (row_named f rows)
    (cond (same f (ascii "+l")) (given (of_nesting list))
    (cond (same f (ascii "+L")) (given (of_nesting large_list))
    (cond (same f (ascii "+m")) (given (of_nesting (map sorted)))
    (cond (same f (ascii "+s")) (given (of_grouping struct))
    (read_other (cut f))))))

-- `to_integer_type`: a dictionary's index type, by its place in `IntegerType`
abbrev pub to_integer_type : Bytes → Answer ℕ
to_integer_type f =
    cond (same f (ascii "c")) (given IntegerType.Int8)
    (cond (same f (ascii "C")) (given IntegerType.UInt8)
    (cond (same f (ascii "s")) (given IntegerType.Int16)
    (cond (same f (ascii "S")) (given IntegerType.UInt16)
    (cond (same f (ascii "i")) (given IntegerType.Int32)
    (cond (same f (ascii "I")) (given IntegerType.UInt32)
    (cond (same f (ascii "l")) (given IntegerType.Int64)
    (cond (same f (ascii "L")) (given IntegerType.UInt64) (refused bad_index))))))))
