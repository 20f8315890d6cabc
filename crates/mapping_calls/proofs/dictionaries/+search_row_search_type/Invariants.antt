-- The proof of the cycle of calls {search_row, search_type}: `line_measure` falls from a row to its types and `row_measure` from a line to its row. The laws are in
-- `SearchLaws`. Assumes nothing.
use mathlib.Core.List.{List}
use Rattle.sheets.specs.FieldSheet.{Entry}
use Prim.Native.Nat.{◌-◌}
use Rattle.sheets.specs.Walk.{line_measure, row_measure}
use Rattle.walks.specs.Places.{RowAt}
use Rattle.mapping_calls.proofs.SearchLaws.{Searching}
use Rattle.mapping_calls.proofs.dictionaries.+search_row_search_type.Given as goal

abbrev pub invariant-search_row-loop-i : goal.invariant-search_row-loop-i
invariant-search_row-loop-i l = (us es : List Entry) → RowAt l.s l.row.at l.row.count l.row.levels l.row.inside us es → Searching l.s l.row.levels l.row.inside l.here (l.row.count - l.i) us es

abbrev pub decreases-search_row : goal.decreases-search_row
decreases-search_row l = row_measure l.row.levels l.row.inside

abbrev pub decreases-search_type : goal.decreases-search_type
decreases-search_type l = line_measure l.tree.levels l.tree.inside
