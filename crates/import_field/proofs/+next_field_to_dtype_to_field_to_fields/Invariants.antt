-- The proof of the cycle of calls {next_field, to_dtype, to_field, to_fields}. `to_field` calls `to_dtype` at one level less, which calls `to_fields`, that
-- `next_field`, and that `to_field` at the same number of levels: four times the levels for `to_field`, one more for `next_field`, two more for `to_fields`,
-- three more for `to_dtype`. The laws are in `FieldLaws`, `TypeLaws`, `FieldsLaws` and `LeafLaws`. Assumes nothing.
use mathlib.Core.Path.{◌≡◌}
use mathlib.Core.List.{List}
use Prim.Native.Nat.{◌+◌, ◌-◌, ◌*◌, ◌≤◌}
use lib.ListN.{length}
use Rattle.sheets.specs.Schema.{Schemas, Schema}
use Rattle.import_field.specs.Recursion.{FieldsAt}
use Rattle.import_field.proofs.FieldsLaws.{RowGoing, Going}
use Rattle.import_field.proofs.+next_field_to_dtype_to_field_to_fields.Given as goal

abbrev pub decreases-next_field : goal.decreases-next_field
decreases-next_field l = 4 * l.tree.levels + 1

abbrev pub decreases-to_dtype : goal.decreases-to_dtype
decreases-to_dtype l = 4 * l.row.levels + 3

abbrev pub decreases-to_field : goal.decreases-to_field
decreases-to_field l = 4 * l.tree.levels

abbrev pub invariant-to_fields-loop-i : goal.invariant-to_fields-loop-i
invariant-to_fields-loop-i l = (l.i ≤ l.row.count)
    × (length l.out ≡ length l.initial.out)
    × (length l.entries ≡ length l.initial.entries)
    × (length l.spare ≡ length l.initial.spare)
    × RowGoing l.s l.row.at l.row.count l.row.levels l.here l.sum l.lines l.i
    × ((us : Schemas) (ts : List Schema) → FieldsAt l.s l.row.at l.row.count l.row.levels us ts
    → Going l.s l.row.at l.row.count l.row.levels l.row.bare l.row.big l.initial.out l.out l.here l.sum l.lines l.i us ts)

abbrev pub decreases-to_fields : goal.decreases-to_fields
decreases-to_fields l = 4 * l.row.levels + 2
