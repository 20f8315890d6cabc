-- What the code reads of a format, by the cases of its answer. Assumes nothing.
use Rattle.std.specs.Prelude.{◌≡◌, true, List, ℕ, ◌≤◌, length, drop, None, Some, Ok, Err}
use Rattle.sheets.specs.Bytes.{Bytes}
use Rattle.sheets.specs.Answer.{Answer, refused, given, ◌>>=◌}
use Rattle.sheets.specs.Field.{leaf, timestamp, fixed_size_binary, decimal_type, list, large_list, fixed_size_list, map, struct, union}
use Rattle.sheets.specs.Format.{Format, of_scalar, of_nesting, of_grouping, read_size, width_of, decimal_parts, zone}
use Rattle.refusal.specs.Refusals.{refusal_of, Refusing}
use Rattle.hexadecimal.specs.Hex.{is_hex, bytes_of}
use Rattle.datatypes.specs.Places.{time_unit, is_sparse}
use Rattle.datatypes.specs.declared.units.TimeUnit.{TimeUnit}
use Rattle.datatypes.specs.declared.units.UnionMode.{UnionMode}
use Rattle.format_names.specs.Names.{head_unit, head_mode}
use Rattle.format.specs.Parts.{read_ids}
use Rattle.format.specs.declared.read.Textless.{Textless}
use Rattle.format.specs.declared.read.Format.{Format as Said}
use Rattle.format.specs.declared.read.Format.TheVariants as Read

abbrev pub textless_format : Textless → Format
textless_format (Textless.Leaf kind unit) = of_scalar (leaf kind unit)
textless_format (Textless.FixedSizeBinary n) = of_scalar (fixed_size_binary n)
textless_format (Textless.Decimal width p s) = of_scalar (decimal_type (width_of width) p s)
textless_format Textless.List = of_nesting list
textless_format Textless.LargeList = of_nesting large_list
textless_format (Textless.FixedSizeList n) = of_nesting (fixed_size_list n)
textless_format (Textless.Map sorted) = of_nesting (map sorted)
textless_format Textless.Struct = of_grouping struct

-- a timestamp, with what follows the colon
abbrev pub timestamp_format : TimeUnit → Bytes → Format
timestamp_format u b = of_scalar (timestamp (time_unit u) (zone b))

-- a union, with what follows the colon
abbrev pub union_format : UnionMode → Bytes → Answer Format
union_format m b = read_ids b >>= λ zs. given (of_grouping (union (is_sparse m) (Some zs)))

-- the answer for each case, where the format's text is f
abbrev pub format_answer : Bytes → Refusing Said → Answer Format
format_answer f (Ok (Read.Numbers t)) = given (textless_format t)
format_answer f (Ok (Read.Timestamp u k)) = given (timestamp_format u (bytes_of (drop k f)))
format_answer f (Ok (Read.Union m k)) = union_format m (bytes_of (drop k f))
format_answer f (Err r) = refused (refusal_of r)

-- pairs of digits from digit k on
abbrev pub HasRest : Bytes → ℕ → Type 0
HasRest f k = (is_hex (drop k f) ≡ true) × (k ≤ length f)

abbrev pub HasText : Bytes → Refusing Said → Type 0
HasText f (Ok (Read.Numbers t)) = Unit {0}
HasText f (Ok (Read.Timestamp u k)) = HasRest f k
HasText f (Ok (Read.Union m k)) = HasRest f k
HasText f (Err r) = Unit {0}

abbrev pub Reads : Bytes → Answer Format → Refusing Said → Type 0
Reads f a r = (format_answer f r ≡ a) × HasText f r

-- a decimal of a width, from the texts of its precision and its scale
abbrev pub decimal_of : ℕ → Bytes → Bytes → Answer Format
decimal_of width p s = read_size p >>= λ a. read_size s >>= λ b. given (of_scalar (decimal_type (width_of width) a b))

abbrev pub decimal_format : List Bytes → Answer Format
decimal_format ps = decimal_parts ps >>= λ s. given (of_scalar s)

-- the text of a head that names neither a unit nor a mode
pub record IsOtherHead (h : Bytes) : Type 0 where
  pub is_text : is_hex h ≡ true
  pub no_unit : head_unit (bytes_of h) ≡ None
  pub no_mode : head_mode (bytes_of h) ≡ None
