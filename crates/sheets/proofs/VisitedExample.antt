-- VisitedLaws used at two schema sheets and at two field sheets that differ on a line that is not visited: the same answer in every buffer, and the same
-- counts. By computation: the trees of the sheets, and that their visited lines are the same. Assumes nothing.
use mathlib.Core.Path.{◌≡◌, refl}
use mathlib.Core.Bool.{Bool, false}
use mathlib.Core.List.{[], ◌∷◌, ◌++◌}
use Rattle.std.specs.Prelude.{None, Some}
use Prim.Native.Nat.{ℕ}
use lib.IntN.{pos, negsuc}
use Rattle.sheets.specs.Bytes.{Bytes, ascii}
use Rattle.sheets.specs.Number.{decimal}
use Rattle.sheets.specs.IntegerType
use Rattle.sheets.specs.Kind
use Rattle.sheets.specs.Schema.{Node, Schema, schema, end, ◌&◌, absent, present}
use Rattle.sheets.specs.Field.{Field, leaf, scalar, dictionary, extension}
use Rattle.sheets.specs.Outcome.{import_outcome_in, export_outcome_in, measure_import_outcome, measure_export_outcome}
use Rattle.sheets.specs.Bench.{schema_sheet, field_sheet}
use Rattle.sheets.proofs.VisitedLaws.{import_told, export_told}

-- an index type over a child, which is not visited, and its values: the sheet with this line for the child, and its schema
abbrev child_sheet : Bytes → Bytes
child_sheet l = schema_sheet (ascii "69 - 0 ~ 1 1\n" ++ l ++ ascii "6e - 0 ~ 0 0\n")

abbrev format_only : Bytes → Node
format_only f = record { format = Some f; name = Some []; flags = pos 0; metadata = None }

abbrev over_child : Node → Schema
over_child n = schema (format_only (ascii "i")) (schema n end absent & end) (present (schema (format_only (ascii "n")) end absent))

-- format `x`, which is none; and a null format, a name that is not UTF-8, metadata cut short
abbrev one_child : Bytes
one_child = child_sheet (ascii "78 - 0 ~ 0 0\n")

abbrev other_child : Bytes
other_child = child_sheet (ascii "~ ff -5 00 0 0\n")

pub ignored_child : (big : Bool) → ((out : Bytes) → import_outcome_in big one_child out ≡ import_outcome_in big other_child out) × (measure_import_outcome big one_child ≡ measure_import_outcome big other_child)
ignored_child big =
    import_told big one_child other_child (over_child (format_only (ascii "x"))) (over_child (record { format = None; name = Some (255 ∷ []); flags = negsuc 4; metadata = Some (0 ∷ []) })) refl refl refl

-- an extension over a dictionary, whose values are not visited: Null, and Unknown, which has no format
abbrev values_sheet : Bytes → Bytes
values_sheet l = field_sheet (ascii "37 0 0 78 ~ - 0 ~ 1\n32 2 0 ~ ~ ~ ~ ~ 1\n" ++ l)

abbrev over_values : ℕ → Field
over_values kind = record { info = record { name = []; nullable = false; pairs = None }; type = extension (ascii "x") None (dictionary IntegerType.Int32 false (scalar (leaf kind 0))) }

abbrev one_values : Bytes
one_values = values_sheet (ascii "0 0 0 ~ ~ ~ ~ ~ 0\n")

abbrev other_values : Bytes
other_values = values_sheet (ascii "40 0 0 ~ ~ ~ ~ ~ 0\n")

pub ignored_values : (big : Bool) → ((out : Bytes) → export_outcome_in big one_values out ≡ export_outcome_in big other_values out) × (measure_export_outcome big one_values ≡ measure_export_outcome big other_values)
unfolding decimal
ignored_values big = export_told big one_values other_values (over_values Kind.Null) (over_values Kind.Unknown) refl refl refl
