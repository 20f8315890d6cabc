-- The proof of the cycle of calls {read_tree, read_row}. The measure is four times the number of levels that are left, two more outside an extension,
-- and one more in `read_row`. In the loop of `read_row`: the row is read as far as the trees that are due (`Reading`). Assumes nothing.
use Rattle.std.specs.Prelude.{ℕ, false, Option}
use mathlib.Core.Path.{sym, ap, subst, ◌∙◌}
use native.Mathlib.Omega.{arith}
use Rattle.read_field_line.specs.FieldLines.{ReadsLine}
use Rattle.read_field_line.specs.declared.FieldLine.{FieldLine}
use Rattle.field_leaf.specs.FieldLeaves.{leaf_option}
use Rattle.field_leaf.proofs.LeafLaws.{leaf_told}
use Rattle.refusal.proofs.ErrLaws.{passed}
use Rattle.field_sheet.specs.Strict.{Tested}
use Rattle.field_sheet.proofs.LevelLaws.{cost_low, levels_fall, line_alone}
use Rattle.field_sheet.proofs.ReadLaws.{Reading, leaf_read, tree_deep, tree_none, line_other, line_held, tree_many, tree_read, reading_none, reading_stopped, reading_more, reading_all}
use Rattle.sheets.specs.Answer.{found}
use Rattle.sheets.specs.Refusal.{bad_lines}
use Rattle.refusal.specs.Refusals.{Refusing}
use Rattle.field_sheet.proofs.trees.+read_row_read_tree.Goals as goal

pub read_row-loop-i-init : goal.read_row-loop-i-init
read_row-loop-i-init t c =
    let a = c.args in
    subst (λ (n : ℕ). Reading a.s.now a.at a.count a.bare a.inside a.levels a.strict a.at n a.bare) (omega arith) (reading_none a.s.now a.at a.count a.bare a.inside a.levels a.strict c.requires.at_in_bounds c.requires.alone)

pub read_row-read_tree-requires : goal.read_row-read_tree-requires
read_row-read_tree-requires t c = (omega (arith, c.decreases), c.requires.s_len_bound)

pub read_row-returns-in_err-here : goal.read_row-returns-in_err-here
read_row-returns-in_err-here t c =
    rw (passed c.from_residual.result _ c.from_residual.ensures.1) (reading_stopped c.loop-i.invariant (omega arith) _ c.read_tree.ensures c.in_err-here.field-0.0 c.in_err-here.was)

pub read_row-loop-i-preserved : goal.read_row-loop-i-preserved
read_row-loop-i-preserved t c =
    let a = c.args in
    subst (λ (n : ℕ). Reading a.s.now a.at a.count a.bare a.inside a.levels a.strict c.in_ok-here.here n false) (omega arith) (reading_more c.loop-i.invariant (omega arith) _ c.read_tree.ensures _ c.in_ok-here.was)

pub read_row-returns : goal.read_row-returns
read_row-returns t c = reading_all c.loop-i.invariant (omega arith)

pub read_tree-returns-then-levels-eq0 : goal.read_tree-returns-then-levels-eq0
read_tree-returns-then-levels-eq0 t c =
    let a = c.args in tree_deep a.s.now a.at a.bare a.inside a.levels a.strict c.if-levels-eq0.true

pub read_tree-overflow_add-result : goal.read_tree-overflow_add-result
read_tree-overflow_add-result t c =
    omega (
      arith,
      (let a = c.args in
          leaf_told a.s.now a.at (sym c.leaf_at.ensures ∙ ap leaf_option c.in-Some.is)).high,
    )

pub read_tree-returns-in-Some : goal.read_tree-returns-in-Some
read_tree-returns-in-Some t c =
    let a = c.args in
    leaf_read (let a = c.args in
    leaf_told a.s.now a.at (sym c.leaf_at.ensures ∙ ap leaf_option c.in-Some.is)) a.bare (c.if-not-bare.true) a.inside a.levels a.strict (omega arith)

pub read_tree-returns-in_default-read_field_line : goal.read_tree-returns-in_default-read_field_line
read_tree-returns-in_default-read_field_line t c =
    let a = c.args in tree_none a.s.now a.at a.bare a.inside a.levels a.strict (subst (λ (q : Option FieldLine). ReadsLine a.s.now a.at (found bad_lines q)) c.in_default-read_field_line.is c.read_field_line.ensures)

pub read_tree-returns-then-l-bare : goal.read_tree-returns-then-l-bare
read_tree-returns-then-l-bare t c =
    let a = c.args in line_other _ (subst (λ (q : Option FieldLine). ReadsLine c.args.s.now c.args.at (found bad_lines q)) c.in-Some-read_field_line.is c.read_field_line.ensures) a.bare c.if-l-bare.true

pub read_tree-overflow_sub-s : goal.read_tree-overflow_sub-s
read_tree-overflow_sub-s t c = (subst (λ (q : Option FieldLine). ReadsLine c.args.s.now c.args.at (found bad_lines q)) c.in-Some-read_field_line.is c.read_field_line.ensures).there.high

pub read_tree-returns-then-s-l : goal.read_tree-returns-then-s-l
read_tree-returns-then-s-l t c =
    let a = c.args in tree_many _ (subst (λ (q : Option FieldLine). ReadsLine c.args.s.now c.args.at (found bad_lines q)) c.in-Some-read_field_line.is c.read_field_line.ensures) a.bare c.if-l-bare.false (omega arith)

pub read_tree-line_returns-requires : goal.read_tree-line_returns-requires
read_tree-line_returns-requires t c =
    let k = (subst (λ (q : Option FieldLine). ReadsLine c.args.s.now c.args.at (found bad_lines q)) c.in-Some-read_field_line.is c.read_field_line.ensures) in record { s_len_bound = c.requires; line_shown = (k.line, k.shows, k.there.own) }

pub read_tree-overflow_sub-left : goal.read_tree-overflow_sub-left
read_tree-overflow_sub-left t c =
    let a = c.args in omega (arith, c.line_cost.ensures, cost_low a.inside c.is_extension-extension.result)

pub read_tree-read_row-requires : goal.read_tree-read_row-requires
read_tree-read_row-requires t c =
    let a = c.args in
    let k = (subst (λ (q : Option FieldLine). ReadsLine c.args.s.now c.args.at (found bad_lines q)) c.in-Some-read_field_line.is c.read_field_line.ensures) in
    (omega (arith, c.decreases, c.line_cost.ensures, levels_fall a.inside c.is_extension-extension.result a.levels (omega arith)), (c.requires, (k.there.high, line_alone _ k c.is_bare_below-below.ensures)))

pub read_tree-returns-in-Err : goal.read_tree-returns-in-Err
read_tree-returns-in-Err t c =
    let a = c.args in
    let k = (subst (λ (q : Option FieldLine). ReadsLine c.args.s.now c.args.at (found bad_lines q)) c.in-Some-read_field_line.is c.read_field_line.ensures) in
    line_held _ k a.bare a.inside a.levels c.in-Err.r (subst (λ (x : Refusing (Unit {0})). Tested a.strict k.line x) c.in-Err.is (c.line_returns.ensures k.line k.shows k.there.own))

pub read_tree-returns-in-Ok : goal.read_tree-returns-in-Ok
read_tree-returns-in-Ok t c =
    let a = c.args in
    let k = (subst (λ (q : Option FieldLine). ReadsLine c.args.s.now c.args.at (found bad_lines q)) c.in-Some-read_field_line.is c.read_field_line.ensures) in
    let clear = subst (λ (x : Refusing (Unit {0})). Tested a.strict k.line x) c.in-Ok.is (c.line_returns.ensures k.line k.shows k.there.own) in
    tree_read _ k a.bare c.if-l-bare.false a.inside a.levels (omega arith) c.is_extension-extension.ensures c.line_cost.ensures c.is_bare_below-below.ensures a.strict clear c.read_row.result c.read_row.ensures
