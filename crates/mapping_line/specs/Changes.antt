-- `to_storage_recursive` and `underlying_physical_type` at one line, by its columns `kind` and `p` (sheets/specs/MappingSteps says it by the type):
-- "DayTime is physically DaysMs yet underlyingly Int64"; a map and a union have no answer. Assumes nothing.
use Rattle.std.specs.Prelude.{cond, List, [], ◌∷◌, ℕ, ◌+◌, eqb, Option, None, Some}
use Rattle.sheets.specs.Kind
use Rattle.sheets.specs.IntervalUnit
use Rattle.sheets.specs.MappingSteps.{storage_change, underlying_change}
use Rattle.sheets.specs.MappingSteps.{Change as TypeChange}
use Rattle.datatypes.specs.At.{first_at}
use Rattle.mapping_line.specs.declared.change.Change.{Change}
use Rattle.mapping_line.specs.declared.change.Change.TheVariants.{Storage, Underlying}
use Rattle.mapping_line.specs.declared.change.LineChange.{LineChange}
use Rattle.mapping_line.specs.declared.change.LineChange.TheVariants.{Stays, Becomes, Undefined}

-- what it makes of a type
abbrev pub change_of : Change → TypeChange
change_of Storage = storage_change
change_of Underlying = underlying_change

-- ── by the kind

abbrev pub storage_kind : ℕ → LineChange
storage_kind k = cond (eqb k Kind.Map) Undefined (cond (eqb k Kind.Union) Undefined Stays)

abbrev pub interval_change : ℕ → LineChange
interval_change u = cond (eqb u IntervalUnit.YearMonth) (Becomes Kind.Int32) (cond (eqb u IntervalUnit.DayTime) (Becomes Kind.Int64) Undefined)

-- the kinds that are not their own underlying type, but for Interval and dictionary, which `p` tells
abbrev pub changed_kinds : List (ℕ × LineChange)
changed_kinds =
    (Kind.Timestamp, Becomes Kind.Int64)
    ∷ (Kind.Date32, Becomes Kind.Int32)
    ∷ (Kind.Date64, Becomes Kind.Int64)
    ∷ (Kind.Time32, Becomes Kind.Int32)
    ∷ (Kind.Time64, Becomes Kind.Int64)
    ∷ (Kind.Duration, Becomes Kind.Int64)
    ∷ (Kind.Map, Undefined)
    ∷ (Kind.Decimal, Becomes Kind.Int128)
    ∷ (Kind.Decimal32, Becomes Kind.Int32)
    ∷ (Kind.Decimal64, Becomes Kind.Int64)
    ∷ (Kind.Decimal256, Undefined)
    ∷ (Kind.Union, Undefined)
    ∷ []

abbrev pub row_or : Option (ℕ × LineChange) → LineChange
row_or None = Stays
row_or (Some r) = r.1

abbrev pub underlying_kind : ℕ → ℕ → LineChange
underlying_kind k p =
    cond (eqb k Kind.Interval) (interval_change p)
    (cond (eqb k Kind.Dictionary) (Becomes (p + Kind.Int8)) (row_or (first_at (λ (r : ℕ × LineChange). r.0) k changed_kinds)))

abbrev pub line_change_of : Change → ℕ → ℕ → LineChange
line_change_of Storage k p = storage_kind k
line_change_of Underlying k p = underlying_kind k p
