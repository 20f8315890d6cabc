-- The fixed names of formats as the code has them: the rows of the one table, each by its place; a format's digits as numbers; and the heads before a colon
-- that name a unit or a mode. Assumes nothing.
use Rattle.std.specs.Prelude.{◌≡◌, Bool, true, false, ◌&&◌, ◌||◌, cond, List, [], ℕ, ◌+◌, ◌/◌, ◌≤◌, eqb, length, take, drop, get_or, Option, None, Some}
use Rattle.sheets.specs.Rule.{each, Meets}
use Rattle.sheets.specs.Bytes.{Bytes, same, ascii}
use Rattle.sheets.specs.Text.{hex}
use Rattle.sheets.specs.Format.{FormatRow, row_named}
use Rattle.sheets.specs.FixedNames.{fixed_rows, is_nested, has_length}
use Rattle.sheets.specs.Metadata.{little_value}
use Rattle.hexadecimal.specs.Hex.{is_hex}
use Rattle.datatypes.specs.declared.units.TimeUnit.{TimeUnit}
use Rattle.datatypes.specs.declared.units.TimeUnit.TheVariants as TimeUnits
use Rattle.datatypes.specs.declared.units.UnionMode.{UnionMode}
use Rattle.datatypes.specs.declared.units.UnionMode.TheVariants as UnionModes
use Rattle.format_names.specs.declared.NameRow.{NameRow}
use Rattle.format_names.specs.declared.Digits.{Digits}
use Rattle.format_names.specs.declared.NameRead.{NameRead}
use Rattle.format_names.specs.declared.NameRead.TheVariants.{Leaf, Nested, Other}

-- ── the table

abbrev pub table_length : ℕ
table_length = 38

-- the first row of a date
abbrev pub late_row : ℕ
late_row = 19

unfoldable pub row_at : ℕ → FormatRow
unfolding fixed_rows
row_at i = get_or fixed_rows i (record { name = []; kind = 0; unit = 0 })

-- `count` rows from row `row` on
abbrev pub rows_from : ℕ → ℕ → List FormatRow
rows_from row count = take count (drop row fixed_rows)

-- what the code has for row i beside its name
pub record IsRow (i : ℕ) (r : NameRow) : Type 0 where
  pub kind : r.kind ≡ (row_at i).kind
  pub unit : r.unit ≡ (row_at i).unit

-- ── digits as numbers

-- the first eight digits of a text, and those after them
abbrev pub low_digits : Bytes → ℕ
low_digits t = little_value (take 8 t)

abbrev pub high_digits : Bytes → ℕ
high_digits t = little_value (drop 8 t)

-- the lengths of the names that have bytes after the first
abbrev pub is_longer : ℕ → Bool
is_longer n = eqb n 2 || (eqb n 3 || eqb n 7)

pub record HasDigits (f : Bytes) : Type 0 where
  pub is_text : is_hex f ≡ true
  pub longer : is_longer (length f / 2) ≡ true

pub record DigitsOf (f : Bytes) (d : Digits) : Type 0 where
  pub low : d.low ≡ low_digits f
  pub high : d.high ≡ high_digits f

-- whether a name has these digits
abbrev pub same_digits : Bytes → Digits → Bool
same_digits name d = eqb (low_digits (hex name)) d.low && eqb (high_digits (hex name)) d.high

-- rows of the table, all with names of the format's length
pub record HasRows (f : Bytes) (row count : ℕ) : Type 0 where
  pub digits : HasDigits f
  pub fit : row + count ≤ table_length
  pub long : Meets (each (has_length (length f / 2)) (rows_from row count))

-- ── a name

-- the kind and the unit: no type with children has a unit
abbrev pub name_option : NameRead → Option (ℕ × ℕ)
name_option (Leaf kind unit) = Some (kind, unit)
name_option (Nested kind) = Some (kind, 0)
name_option Other = None

-- which types have children
abbrev pub Told : NameRead → Type 0
Told (Leaf kind unit) = is_nested kind ≡ false
Told (Nested kind) = is_nested kind ≡ true
Told Other = Unit {0}

abbrev pub leaf_of : Option FormatRow → Option (ℕ × ℕ)
leaf_of None = None
leaf_of (Some r) = Some (r.kind, r.unit)

-- the kind and the unit of the row that a name finds
abbrev pub leaf_named : Bytes → Option (ℕ × ℕ)
leaf_named b = leaf_of (row_named b fixed_rows)

-- ── a head

-- `ts[smun]`
abbrev pub head_unit : Bytes → Option TimeUnit
head_unit h =
    cond (same h (ascii "tss")) (Some TimeUnits.Second)
    (cond (same h (ascii "tsm")) (Some TimeUnits.Millisecond)
    (cond (same h (ascii "tsu")) (Some TimeUnits.Microsecond) (cond (same h (ascii "tsn")) (Some TimeUnits.Nanosecond) None)))

-- `+u[ds]`
abbrev pub head_mode : Bytes → Option UnionMode
head_mode h = cond (same h (ascii "+ud")) (Some UnionModes.Dense) (cond (same h (ascii "+us")) (Some UnionModes.Sparse) None)
