-- The names of the kinds: "the kind's name as `ArrowDataType` spells it" (document 02, #101), the case of the enumeration without what it holds.
-- Each stands once, beside its kind. Assumes nothing.
use Rattle.std.specs.Prelude.{cond, List, [], ◌∷◌, ℕ, eqb}
use Rattle.sheets.specs.Bytes.{Bytes, ascii}
use Rattle.sheets.specs.Kind

-- a kind and its name
pub record KindRow : Type 0 where
  pub kind : ℕ
  pub name : Bytes

abbrev row : ℕ → Bytes → KindRow
row k n = record { kind = k; name = n }

-- in the order of `ArrowDataType`
unfoldable pub kind_rows : List KindRow
kind_rows =
    row Kind.Null (ascii "Null")
    ∷ row Kind.Boolean (ascii "Boolean")
    ∷ row Kind.Int8 (ascii "Int8")
    ∷ row Kind.Int16 (ascii "Int16")
    ∷ row Kind.Int32 (ascii "Int32")
    ∷ row Kind.Int64 (ascii "Int64")
    ∷ row Kind.Int128 (ascii "Int128")
    ∷ row Kind.UInt8 (ascii "UInt8")
    ∷ row Kind.UInt16 (ascii "UInt16")
    ∷ row Kind.UInt32 (ascii "UInt32")
    ∷ row Kind.UInt64 (ascii "UInt64")
    ∷ row Kind.UInt128 (ascii "UInt128")
    ∷ row Kind.Float16 (ascii "Float16")
    ∷ row Kind.Float32 (ascii "Float32")
    ∷ row Kind.Float64 (ascii "Float64")
    ∷ row Kind.Timestamp (ascii "Timestamp")
    ∷ row Kind.Date32 (ascii "Date32")
    ∷ row Kind.Date64 (ascii "Date64")
    ∷ row Kind.Time32 (ascii "Time32")
    ∷ row Kind.Time64 (ascii "Time64")
    ∷ row Kind.Duration (ascii "Duration")
    ∷ row Kind.Interval (ascii "Interval")
    ∷ row Kind.Binary (ascii "Binary")
    ∷ row Kind.FixedSizeBinary (ascii "FixedSizeBinary")
    ∷ row Kind.LargeBinary (ascii "LargeBinary")
    ∷ row Kind.Utf8 (ascii "Utf8")
    ∷ row Kind.LargeUtf8 (ascii "LargeUtf8")
    ∷ row Kind.List (ascii "List")
    ∷ row Kind.FixedSizeList (ascii "FixedSizeList")
    ∷ row Kind.LargeList (ascii "LargeList")
    ∷ row Kind.Struct (ascii "Struct")
    ∷ row Kind.Map (ascii "Map")
    ∷ row Kind.Dictionary (ascii "Dictionary")
    ∷ row Kind.Decimal (ascii "Decimal")
    ∷ row Kind.Decimal32 (ascii "Decimal32")
    ∷ row Kind.Decimal64 (ascii "Decimal64")
    ∷ row Kind.Decimal256 (ascii "Decimal256")
    ∷ row Kind.Extension (ascii "Extension")
    ∷ row Kind.BinaryView (ascii "BinaryView")
    ∷ row Kind.Utf8View (ascii "Utf8View")
    ∷ row Kind.Unknown (ascii "Unknown")
    ∷ row Kind.Union (ascii "Union")
    ∷ []

-- the name beside a kind; none for a number that is no kind
abbrev pub name_in : List KindRow → ℕ → Bytes
name_in [] k = []
name_in (r ∷ rs) k = cond (eqb k r.kind) r.name (name_in rs k)

abbrev pub kind_name : ℕ → Bytes
kind_name k = name_in kind_rows k
