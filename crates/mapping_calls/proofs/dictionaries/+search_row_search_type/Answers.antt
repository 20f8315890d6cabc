-- The proof of the cycle of calls {search_row, search_type}: `line_measure` falls from a row to its types and `row_measure` from a line to its row. The laws are in
-- `SearchLaws`. Assumes nothing.
use mathlib.Core.Path.{sym, ap, subst, ◌∙◌}
use Prim.Native.Nat.{ℕ}
use Rattle.sheets.proofs.WalkLaws.{line_falls}
use Rattle.field_leaf.proofs.LeafLaws.{leaf_told}
use Rattle.field_sheet.proofs.LevelLaws.{cost_low}
use Rattle.walks.proofs.BeginLaws.{some_level}
use Rattle.line_below.proofs.BelowLaws.{row_below_lem, row_less}
use Rattle.field_leaf.specs.FieldLeaves.{leaf_option}
use Rattle.mapping_calls.proofs.SearchLaws.{Searching, leaf_searched, found_here, below_searched, searching_none, searching_type, searching_more, searching_found, searching_all}
use native.Mathlib.Omega.{arith}
use Rattle.mapping_calls.proofs.dictionaries.+search_row_search_type.Goals as goal

pub search_row-loop-i-init : goal.search_row-loop-i-init
search_row-loop-i-init t c =
    let a = c.args in
    λ us es h. subst (λ (n : ℕ). Searching a.s.now a.row.levels a.row.inside a.row.at n us es) (omega arith) (searching_none h)

pub search_row-search_type-requires : goal.search_row-search_type-requires
search_row-search_type-requires t c =
    let row = c.args.row in
    (omega (arith, c.decreases, line_falls row.inside row.levels), searching_type (c.loop-i.invariant c.requires.0 c.requires.1 c.requires.2) (omega arith))

pub search_row-returns-in_err-here : goal.search_row-returns-in_err-here
search_row-returns-in_err-here t c = rw c.from_residual.ensures (λ us es h. searching_found (c.loop-i.invariant us es h) (omega arith) c.search_type.result c.search_type.ensures c.in_err-here.was)

pub search_row-loop-i-preserved : goal.search_row-loop-i-preserved
search_row-loop-i-preserved t c =
    let a = c.args in
    λ us es h. subst (λ (n : ℕ). Searching a.s.now a.row.levels a.row.inside c.in_ok-here.here n us es) (omega arith) (searching_more (c.loop-i.invariant us es h) (omega arith) c.search_type.result c.search_type.ensures _ c.in_ok-here.was)

pub search_row-returns : goal.search_row-returns
search_row-returns t c = λ us es h. searching_all (c.loop-i.invariant us es h) (omega arith)

pub search_type-overflow_add-result : goal.search_type-overflow_add-result
search_type-overflow_add-result t c =
    omega (
      arith,
      (let a = c.args in
          leaf_told a.s.now a.tree.at (sym c.leaf_at.ensures ∙ ap leaf_option c.in-Some.is)).high,
    )

pub search_type-returns-in-Some : goal.search_type-returns-in-Some
search_type-returns-in-Some t c =
    λ i u es f. leaf_searched f (let a = c.args in
    leaf_told a.s.now a.tree.at (sym c.leaf_at.ensures ∙ ap leaf_option c.in-Some.is))

pub search_type-field_line_at-l-requires : goal.search_type-field_line_at-l-requires
search_type-field_line_at-l-requires t c = ((c.requires.0, c.requires.1), c.requires.2, c.requires.3.stands)

pub search_type-returns-then-l-eq-DICTIONARY : goal.search_type-returns-then-l-eq-DICTIONARY
search_type-returns-then-l-eq-DICTIONARY t c = λ i u es f. found_here f c.field_line_at-l.ensures c.if-l-eq-DICTIONARY.true

pub search_type-overflow_sub-row : goal.search_type-overflow_sub-row
search_type-overflow_sub-row t c = omega (arith, c.line_cost-cost.ensures, cost_low c.args.tree.inside c.is_extension-inside.result, some_level c.requires.3)

pub search_type-search_row-requires : goal.search_type-search_row-requires
search_type-search_row-requires t c =
    let k = c.field_line_at-l.ensures in
    (omega (arith, c.decreases, row_less c.requires.3 k c.is_extension-inside.ensures c.line_cost-cost.ensures), (_, _, row_below_lem c.requires.3 k c.is_extension-inside.ensures c.line_cost-cost.ensures))

pub search_type-returns : goal.search_type-returns
search_type-returns t c = λ i u es f. below_searched f c.field_line_at-l.ensures c.is_extension-inside.ensures c.line_cost-cost.ensures c.if-l-eq-DICTIONARY.false c.search_row.result c.search_row.ensures
