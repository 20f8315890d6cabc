-- The proof of the cycle of calls {next_tree, read_tree, read_row}. The measure is the number of levels that are left, three times, and one more in `next_tree`,
-- two more in `read_row`. In the loop of `read_row`: the row is read as far as the trees that are due (`Reading`). Assumes nothing.
use mathlib.Core.Path.{refl, sym, ap, subst, ◌∙◌}
use native.Mathlib.Omega.{arith}
use Prim.Native.Nat.{◌^◌, ◌<◌}
use lib.ListN.{length}
use Rattle.schema_line.proofs.KnownLaws.{line_told}
use Rattle.leaf_line.specs.Leaf.{leaf_option}
use Rattle.leaf_line.proofs.LeafLaws.{leaf_told}
use Rattle.schema_sheet.proofs.ReadLaws.{Reading, tree_deep, tree_none, tree_many, tree_read, reading_none, reading_refused, reading_more, reading_all, leaf_read}
use Rattle.sheets.specs.Answer.{found}
use Rattle.refusal.proofs.ErrLaws.{passed}
use Rattle.sheets.specs.Refusal.{bad_lines}
use Rattle.schema_sheet.proofs.trees.+next_tree_read_row_read_tree.Goals as goal

pub next_tree-returns-then-levels-eq0 : goal.next_tree-returns-then-levels-eq0
next_tree-returns-then-levels-eq0 t c =
    let a = c.args in tree_deep a.s.now a.at a.levels c.if-levels-eq0.true

pub next_tree-overflow_add-result : goal.next_tree-overflow_add-result
next_tree-overflow_add-result t c =
    let a = c.args in
    let k = leaf_told a.s.now a.at (sym c.leaf_at.ensures ∙ ap leaf_option c.in-Some.is) in
    omega (arith, k.high)

pub next_tree-returns-in-Some : goal.next_tree-returns-in-Some
next_tree-returns-in-Some t c =
    let a = c.args in
    leaf_read (leaf_told a.s.now a.at (sym c.leaf_at.ensures ∙ ap leaf_option c.in-Some.is)) a.levels (omega arith)

pub next_tree-read_tree-requires : goal.next_tree-read_tree-requires
next_tree-read_tree-requires t c = omega (arith, c.decreases)

pub next_tree-returns : goal.next_tree-returns
next_tree-returns t c = c.read_tree.ensures

pub read_row-loop-i-init : goal.read_row-loop-i-init
read_row-loop-i-init t c =
    let a = c.args in subst (Reading a.s.now a.at a.count a.levels a.at) (omega arith) (reading_none a.s.now a.at a.count a.levels c.requires)

pub read_row-next_tree-requires : goal.read_row-next_tree-requires
read_row-next_tree-requires t c = omega (arith, c.decreases)

pub read_row-returns-in_err-here : goal.read_row-returns-in_err-here
read_row-returns-in_err-here t c = rw (passed c.from_residual.result _ c.from_residual.ensures.1) (reading_refused c.loop-i.invariant (omega arith) c.in_err-here.ensures)

pub read_row-loop-i-preserved : goal.read_row-loop-i-preserved
read_row-loop-i-preserved t c =
    let a = c.args in subst (Reading a.s.now a.at a.count a.levels c.in_ok-here.here) (omega arith) (reading_more c.loop-i.invariant (omega arith) c.in_ok-here.ensures)

pub read_row-returns : goal.read_row-returns
read_row-returns t c = reading_all c.loop-i.invariant (omega arith)

pub read_tree-returns-then-levels-eq0 : goal.read_tree-returns-then-levels-eq0
read_tree-returns-then-levels-eq0 t c =
    let a = c.args in tree_deep a.s.now a.at a.levels c.if-levels-eq0.true

pub read_tree-returns-in_default : goal.read_tree-returns-in_default
read_tree-returns-in_default t c =
    let a = c.args in
    let fits : length a.s.now < 2 ^ 64 = omega arith in
    tree_none a.s.now a.at a.levels fits (sym c.read_line.ensures ∙ ap (found bad_lines) c.in_default.is)

pub read_tree-overflow_sub-s : goal.read_tree-overflow_sub-s
read_tree-overflow_sub-s t c =
    let a = c.args in
    let k = line_told a.s.now a.at (sym c.read_line.ensures ∙ ap (found bad_lines) c.in-Some.is) in
    k.high

pub read_tree-returns-then-s-l : goal.read_tree-returns-then-s-l
read_tree-returns-then-s-l t c =
    let a = c.args in
    tree_many _ (line_told a.s.now a.at (sym c.read_line.ensures ∙ ap (found bad_lines) c.in-Some.is)) (omega arith) a.levels

pub read_tree-overflow_add-l : goal.read_tree-overflow_add-l
read_tree-overflow_add-l t c =
    let a = c.args in
    let k = line_told a.s.now a.at (sym c.read_line.ensures ∙ ap (found bad_lines) c.in-Some.is) in
    omega (arith, k.one, k.shows.dictionary, k.low, k.high)

pub read_tree-overflow_sub-levels : goal.read_tree-overflow_sub-levels
read_tree-overflow_sub-levels t c = omega arith

pub read_tree-read_row-requires : goal.read_tree-read_row-requires
read_tree-read_row-requires t c =
    let a = c.args in
    let k = line_told a.s.now a.at (sym c.read_line.ensures ∙ ap (found bad_lines) c.in-Some.is) in
    (omega (arith, c.decreases), k.high)

pub read_tree-returns : goal.read_tree-returns
read_tree-returns t c =
    let a = c.args in
    tree_read _ (line_told a.s.now a.at (sym c.read_line.ensures ∙ ap (found bad_lines) c.in-Some.is)) a.levels (omega arith) _ refl c.read_row.result c.read_row.ensures
