-- What the Arrow C data interface itself publishes, in its own words and order: format strings, flags, the layout of metadata, the keys of
-- extensions; and beside each format string what it is taken for here. "Where source and standard differ, the source governs unless stated here, and the
-- departure is recorded": each refusal beside a format string is such a departure. `proofs/Standard*Laws.antt` compare with what is read and written.
--
-- The document itself was not at hand: the strings, names and numbers are those that its readers and writers share, but no wording in quotation
-- marks could be held against it, and where more than a wording may be otherwise it says "not certain". Assumes nothing.
use Rattle.std.specs.Prelude.{◌≡◌, ◌⊎◌, Bool, true, false, ◌||◌, List, [], ◌∷◌, ◌++◌, map as map_list, ℕ, ◌-◌, ◌/◌, ◌%◌, ◌^◌, ℤ, pos, negsuc, length, Some}
use Prim.Native.String.{String}
use Rattle.sheets.specs.Refusal.{unsupported_format, bad_number}
use Rattle.sheets.specs.Rule.{◌and◌, each}
use Rattle.sheets.specs.Bytes.{Bytes, comma, ascii, same, join}
use Rattle.sheets.specs.Answer.{Answer, refused, given, when}
use Rattle.sheets.specs.Number.{decimal, write_signed}
use Rattle.sheets.specs.Kind
use Rattle.sheets.specs.IntegerType
use Rattle.sheets.specs.IntervalUnit
use Rattle.sheets.specs.Flags.{odd}
use Rattle.sheets.specs.Field.{Pair, TimeUnit, unit_place, second, millisecond, microsecond, nanosecond, Width, bits128, bits32, bits64, bits256, leaf, timestamp, fixed_size_binary, decimal_type, list, large_list, fixed_size_list, map, UnionMode, struct, union, size_rule, id_rule}
use Rattle.sheets.specs.Format.{Format, of_scalar, of_nesting, of_grouping, zone}

-- ── "Data type description – format strings"

-- a row of a table: the format string, the data type that stands beside it, and what it is taken for here
pub record Published : Type 0 where
  pub format : Bytes
  pub says : String
  pub taken : Answer Format

abbrev row : String → String → Answer Format → Published
row f words t = record { format = ascii f; says = words; taken = t }

-- a type of ours that its kind, or its kind and unit, tell
abbrev kind : ℕ → Answer Format
kind k = given (of_scalar (leaf k 0))

abbrev kind_unit : ℕ → ℕ → Answer Format
kind_unit k u = given (of_scalar (leaf k u))

-- "The most common primitive formats have one-character format strings"
abbrev pub primitive_formats : List Published
primitive_formats =
    row "n" "null" (kind Kind.Null)
    ∷ row "b" "boolean" (kind Kind.Boolean)
    ∷ row "c" "int8" (kind Kind.Int8)
    ∷ row "C" "uint8" (kind Kind.UInt8)
    ∷ row "s" "int16" (kind Kind.Int16)
    ∷ row "S" "uint16" (kind Kind.UInt16)
    ∷ row "i" "int32" (kind Kind.Int32)
    ∷ row "I" "uint32" (kind Kind.UInt32)
    ∷ row "l" "int64" (kind Kind.Int64)
    ∷ row "L" "uint64" (kind Kind.UInt64)
    ∷ row "e" "float16" (kind Kind.Float16)
    ∷ row "f" "float32" (kind Kind.Float32)
    ∷ row "g" "float64" (kind Kind.Float64)
    ∷ row "z" "binary" (kind Kind.Binary)
    ∷ row "Z" "large binary" (kind Kind.LargeBinary)
    ∷ row "vz" "binary view" (kind Kind.BinaryView)
    ∷ row "u" "utf-8 string" (kind Kind.Utf8)
    ∷ row "U" "large utf-8 string" (kind Kind.LargeUtf8)
    ∷ row "vu" "utf-8 view" (kind Kind.Utf8View)
    ∷ []

-- A departure: 7 for a scale below 0, and for a number that 64 bits do not hold. Not certain that the table means a scale below 0 too, as the
-- columnar format does.
abbrev taken_decimal : Width → ℕ → ℤ → Answer Format
taken_decimal w p (pos s) = when bad_number (size_rule p and size_rule s) (of_scalar (decimal_type w p s))
taken_decimal w p (negsuc s) = refused bad_number

abbrev pub decimal128_format : ℕ → ℤ → Published
decimal128_format p s =
    record { format = ascii "d:" ++ join comma (decimal p ∷ write_signed s ∷ []); says = "decimal128 [precision 19, scale 10]"; taken = taken_decimal bits128 p s }

-- NNN: the widths of the columnar format; not certain which ones the table means
abbrev pub bit_width : Width → ℕ
bit_width bits128 = 128
bit_width bits32 = 32
bit_width bits64 = 64
bit_width bits256 = 256

abbrev pub decimal_format : ℕ → ℤ → Width → Published
decimal_format p s w =
    record { format = ascii "d:" ++ join comma (decimal p ∷ write_signed s ∷ decimal (bit_width w) ∷ []); says = "decimal bitwidth = NNN [precision 19, scale 10]"; taken = taken_decimal w p s }

abbrev pub fixed_width_binary_format : ℕ → Published
fixed_width_binary_format n = record { format = ascii "w:" ++ decimal n; says = "fixed-width binary [42 bytes]"; taken = when bad_number (size_rule n) (of_scalar (fixed_size_binary n)) }

-- "Temporal types have multi-character format strings starting with t"
abbrev pub date_formats : List Published
date_formats =
    row "tdD" "date32 [days]" (kind Kind.Date32)
    ∷ row "tdm" "date64 [milliseconds]" (kind Kind.Date64)
    ∷ row "tts" "time32 [seconds]" (kind_unit Kind.Time32 (unit_place second))
    ∷ row "ttm" "time32 [milliseconds]" (kind_unit Kind.Time32 (unit_place millisecond))
    ∷ row "ttu" "time64 [microseconds]" (kind_unit Kind.Time64 (unit_place microsecond))
    ∷ row "ttn" "time64 [nanoseconds]" (kind_unit Kind.Time64 (unit_place nanosecond))
    ∷ []

-- seconds, milliseconds, microseconds, nanoseconds
abbrev pub unit_name : TimeUnit → Bytes
unit_name second = ascii "s"
unit_name millisecond = ascii "m"
unit_name microsecond = ascii "u"
unit_name nanosecond = ascii "n"

-- `tss:...`, `tsm:...`, `tsu:...`, `tsn:...`: "The timezone string is appended as-is after the colon character :, without any quotes. If the timezone
-- is empty, the colon : must still be included." Here an empty timezone is none.
abbrev pub timestamp_format : TimeUnit → Bytes → Published
timestamp_format u z = record { format = ascii "ts" ++ unit_name u ++ ascii ":" ++ z; says = "timestamp [unit] with timezone \"...\""; taken = given (of_scalar (timestamp u (zone z))) }

abbrev pub duration_formats : List Published
duration_formats =
    row "tDs" "duration [seconds]" (kind_unit Kind.Duration (unit_place second))
    ∷ row "tDm" "duration [milliseconds]" (kind_unit Kind.Duration (unit_place millisecond))
    ∷ row "tDu" "duration [microseconds]" (kind_unit Kind.Duration (unit_place microsecond))
    ∷ row "tDn" "duration [nanoseconds]" (kind_unit Kind.Duration (unit_place nanosecond))
    ∷ row "tiM" "interval [months]" (kind_unit Kind.Interval IntervalUnit.YearMonth)
    ∷ row "tiD" "interval [days, time]" (kind_unit Kind.Interval IntervalUnit.DayTime)
    ∷ row "tin" "interval [month, day, nanoseconds]" (kind_unit Kind.Interval IntervalUnit.MonthDayNano)
    ∷ []

-- "Nested types have multiple-character format strings starting with +", those with a parameter apart below. Departures: 6 for list-views and run-end
-- encoding, which the source does not have. The argument says that the keys of a map are sorted, which is a flag's to say.
abbrev pub nested_formats : Bool → List Published
nested_formats sorted =
    row "+l" "list" (given (of_nesting list))
    ∷ row "+L" "large list" (given (of_nesting large_list))
    ∷ row "+vl" "list-view" (refused unsupported_format)
    ∷ row "+vL" "large list-view" (refused unsupported_format)
    ∷ row "+s" "struct" (given (of_grouping struct))
    ∷ row "+m" "map" (given (of_nesting (map sorted)))
    ∷ row "+r" "run-end encoded" (refused unsupported_format)
    ∷ []

abbrev pub fixed_sized_list_format : ℕ → Published
fixed_sized_list_format n = record { format = ascii "+w:" ++ decimal n; says = "fixed-sized list [123 items]"; taken = when bad_number (size_rule n) (of_nesting (fixed_size_list n)) }

-- sparse or dense
abbrev pub union_prefix : UnionMode → Bytes
union_prefix true = ascii "+us:"
union_prefix false = ascii "+ud:"

-- a departure: 7 for a union without ids (not certain that the standard has one), and for an id that 32 bits do not hold
abbrev taken_union : UnionMode → List ℤ → Answer Format
taken_union mode [] = refused bad_number
taken_union mode (z ∷ zs) = when bad_number (each id_rule (z ∷ zs)) (of_grouping (union mode (Some (z ∷ zs))))

abbrev pub union_format : UnionMode → List ℤ → Published
union_format mode ids = record { format = union_prefix mode ++ join comma (map_list write_signed ids); says = "dense, sparse union with type ids I,J..."; taken = taken_union mode ids }

-- "Dictionary-encoded types do not have a specific format string. Instead, the format string of the base array represents the dictionary index type,
-- and the value type can be read from the dependent dictionary array": the integer types, each with its place in `IntegerType`
abbrev pub index_formats : List (Bytes × ℕ)
index_formats =
    (ascii "c", IntegerType.Int8)
    ∷ (ascii "C", IntegerType.UInt8)
    ∷ (ascii "s", IntegerType.Int16)
    ∷ (ascii "S", IntegerType.UInt16)
    ∷ (ascii "i", IntegerType.Int32)
    ∷ (ascii "I", IntegerType.UInt32)
    ∷ (ascii "l", IntegerType.Int64)
    ∷ (ascii "L", IntegerType.UInt64)
    ∷ []

-- the rows whose format string is fixed
abbrev pub fixed_formats : Bool → List Published
fixed_formats sorted = primitive_formats ++ (date_formats ++ (duration_formats ++ nested_formats sorted))

-- it is one of the list
abbrev pub In : {A : Type 0} → A → List A → Type 0
In a [] = ⊥
In a (b ∷ l) = (a ≡ b) ⊎ In a l

-- a row of the tables
pub data PublishedRow (sorted : Bool) : Type 0 where
  fixed : (r : Published) → In r (fixed_formats sorted) → PublishedRow sorted
  decimal128 : ℕ → ℤ → PublishedRow sorted
  decimal_bits : ℕ → ℤ → Width → PublishedRow sorted
  fixed_width_binary : ℕ → PublishedRow sorted
  timestamps : TimeUnit → Bytes → PublishedRow sorted
  fixed_sized_list : ℕ → PublishedRow sorted
  unions : UnionMode → List ℤ → PublishedRow sorted

abbrev pub published : {sorted : Bool} → PublishedRow sorted → Published
published (fixed r h) = r
published (decimal128 p s) = decimal128_format p s
published (decimal_bits p s w) = decimal_format p s w
published (fixed_width_binary n) = fixed_width_binary_format n
published (timestamps u z) = timestamp_format u z
published (fixed_sized_list n) = fixed_sized_list_format n
published (unions mode ids) = union_format mode ids

-- a row of the tables has this format
abbrev pub IsPublished : Bool → Bytes → Type 0
IsPublished sorted f = (r : PublishedRow sorted) × ((published r).format ≡ f)

-- the two names that are the source's own
abbrev pub source_name : Bytes → Bool
source_name f = same f (ascii "_pli128") || same f (ascii "_plu128")

-- ── "int64_t ArrowSchema.flags": "A bitfield of flags enriching the type description. Its value is computed by OR'ing together the flag values."

-- "for dictionary-encoded types, whether the ordering of dictionary indices is semantically meaningful"
abbrev pub ARROW_FLAG_DICTIONARY_ORDERED : ℕ
ARROW_FLAG_DICTIONARY_ORDERED = 1

-- "whether this field is semantically nullable (regardless of whether it actually has null values)"
abbrev pub ARROW_FLAG_NULLABLE : ℕ
ARROW_FLAG_NULLABLE = 2

-- "for map types, whether the keys within each map value are sorted"
abbrev pub ARROW_FLAG_MAP_KEYS_SORTED : ℕ
ARROW_FLAG_MAP_KEYS_SORTED = 4

-- the 64 bits of an int64_t, as a number from 0 on: -(n + 1) is stored as 2^64 - 1 - n
abbrev pub stored : ℤ → ℕ
stored (pos n) = n
stored (negsuc n) = (2 ^ 64 - 1) - n

-- the flag is among those that were OR'ed together
abbrev pub has_flag : ℕ → ℤ → Bool
has_flag f z = odd (stored z / f)

-- ── "const char* ArrowSchema.metadata": "This string is not null-terminated but follows a specific format"

-- "Integers are stored in native endianness."
pub data ByteOrder : Type 0 where
  little_endian big_endian : ByteOrder

-- document 02, #104: "the order as a yes (big-endian) or no"
abbrev pub order_of : Bool → ByteOrder
order_of true = big_endian
order_of false = little_endian

-- "int32", here of numbers that are not negative
abbrev pub int32 : ByteOrder → ℕ → Bytes
int32 little_endian n = (n % 256) ∷ (n / 256 % 256) ∷ (n / 65536 % 256) ∷ (n / 16777216 % 256) ∷ []
int32 big_endian n = (n / 16777216 % 256) ∷ (n / 65536 % 256) ∷ (n / 256 % 256) ∷ (n % 256) ∷ []

-- "int32: byte length of key 0; key 0 (not null-terminated); int32: byte length of value 0; value 0 (not null-terminated); ..;
-- int32: byte length of key N - 1; ..; value N - 1 (not null-terminated)"
abbrev pub keys_and_values : ByteOrder → List Pair → Bytes
keys_and_values order [] = []
keys_and_values order (p ∷ ps) = int32 order (length p.0) ++ (p.0 ++ (int32 order (length p.1) ++ (p.1 ++ keys_and_values order ps)))

-- "int32: number of key/value pairs (noted N below)", then the pairs, in any order; not certain whether the standard says anything of equal keys
abbrev pub laid_out : ByteOrder → List Pair → Bytes
laid_out order ps = int32 order (length ps) ++ keys_and_values order ps

-- "For example, the metadata [('key1', 'value1')] is encoded on a little-endian machine as", and on a big-endian one
abbrev pub published_pairs : List Pair
published_pairs = (ascii "key1", ascii "value1") ∷ []

abbrev pub published_block : ByteOrder → Bytes
published_block little_endian = 1 ∷ 0 ∷ 0 ∷ 0 ∷ 4 ∷ 0 ∷ 0 ∷ 0 ∷ ascii "key1" ++ 6 ∷ 0 ∷ 0 ∷ 0 ∷ ascii "value1"
published_block big_endian = 0 ∷ 0 ∷ 0 ∷ 1 ∷ 0 ∷ 0 ∷ 0 ∷ 4 ∷ ascii "key1" ++ 0 ∷ 0 ∷ 0 ∷ 6 ∷ ascii "value1"

-- ── "Extension arrays": "For extension arrays, the ArrowSchema.format string encodes the storage type."

-- "the metadata key ARROW:extension:name encodes the extension type name"
abbrev pub extension_name_key : Bytes
extension_name_key = ascii "ARROW:extension:name"

-- "the metadata key ARROW:extension:metadata encodes the implementation-specific serialization of the extension type"
abbrev pub extension_metadata_key : Bytes
extension_metadata_key = ascii "ARROW:extension:metadata"
