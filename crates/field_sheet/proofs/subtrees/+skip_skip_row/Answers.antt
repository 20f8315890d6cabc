-- The proof of the cycle of calls {skip, skip_row}. The measure is four times the number of levels that are left, two more outside an extension, and one
-- more in `skip_row`. In the loop of `skip_row`: the trees that are left stand here, and none that was passed has too many levels. Assumes nothing.
use mathlib.Core.Path.{refl, sym, ap, subst, ◌∙◌}
use Prim.Native.Nat.{ℕ, ◌-◌, ◌<◌}
use mathlib.Core.Bool.{false}
use native.Mathlib.Omega.{arith}
use Rattle.sheets.proofs.FieldTrees.{fields_lawful}
use Rattle.sheets.proofs.TreeWalks.{going_none, going_tree, going_all}
use Rattle.field_sheet.proofs.LevelLaws.{cost_low, levels_fall, no_level}
use Rattle.field_leaf.specs.FieldLeaves.{leaf_option}
use Rattle.field_leaf.proofs.LeafLaws.{leaf_told}
use Rattle.field_sheet.proofs.ReadLaws.{leaf_to_lem}
use Rattle.field_sheet.proofs.SkipLaws.{Going, line_row, tree_skipped, going_next, going_more, going_deep}
use Rattle.field_sheet.proofs.subtrees.+skip_skip_row.Goals as goal

pub skip-returns-then-most-eq0 : goal.skip-returns-then-most-eq0
skip-returns-then-most-eq0 t c =
    let a = c.args in (refl, no_level a.s.now a.at a.inside a.most c.if-most-eq0.true)

pub skip-overflow_add-result : goal.skip-overflow_add-result
skip-overflow_add-result t c =
    omega (
      arith,
      (let a = c.args in
          leaf_told a.s.now a.at (sym c.leaf_at.ensures ∙ ap leaf_option c.in-Some.is)).high,
    )

pub skip-returns-in-Some : goal.skip-returns-in-Some
skip-returns-in-Some t c =
    let a = c.args in
    leaf_to_lem (let a = c.args in
    leaf_told a.s.now a.at (sym c.leaf_at.ensures ∙ ap leaf_option c.in-Some.is)) a.inside a.most (omega arith)

pub skip-field_line_at-l-requires : goal.skip-field_line_at-l-requires
skip-field_line_at-l-requires t c = c.requires

pub skip-overflow_sub-most : goal.skip-overflow_sub-most
skip-overflow_sub-most t c = omega (arith, c.line_cost-cost.ensures, cost_low c.args.inside c.is_extension-extension.result)

pub skip-skip_row-requires : goal.skip-skip_row-requires
skip-skip_row-requires t c =
    let a = c.args in
    (omega (arith, c.decreases, c.line_cost-cost.ensures, levels_fall a.inside c.is_extension-extension.result a.most (omega arith)), line_row _ c.field_line_at-l.ensures c.requires)

pub skip-returns : goal.skip-returns
skip-returns t c =
    let a = c.args in
    tree_skipped _ c.field_line_at-l.ensures a.inside a.most (omega arith) c.is_extension-extension.ensures c.line_cost-cost.ensures c.skip_row.result c.skip_row.ensures

pub skip_row-loop-i-init : goal.skip_row-loop-i-init
skip_row-loop-i-init t c =
    let a = c.args in
    (omega arith, c.requires.4, λ us ts w n. subst (λ (m : ℕ). Going a.s.now a.inside a.most a.at m us ts) (omega arith) (going_none fields_lawful _ _ _ _ _ us ts w n))

pub skip_row-skip-requires : goal.skip_row-skip-requires
skip_row-skip-requires t c = (omega (arith, c.decreases), going_tree fields_lawful (c.loop-i.invariant.2 c.requires.0 c.requires.1 c.requires.2 c.requires.3) (omega arith))

pub skip_row-returns-in_err-here : goal.skip_row-returns-in_err-here
skip_row-returns-in_err-here t c = rw c.from_residual.ensures (refl, λ us ts w n. going_deep (c.loop-i.invariant.2 us ts w n) (omega arith) _ c.skip.ensures c.in_err-here.was)

pub skip_row-loop-i-preserved : goal.skip_row-loop-i-preserved
skip_row-loop-i-preserved t c =
    let p = c.requires in
    let i = c.loop-i.invariant in
    let l : 0 < c.args.count - c.loop-i.i = omega arith in
    let n = going_next (i.2 p.0 p.1 p.2 p.3) l _ c.skip.ensures _ c.in_ok-here.was in
    (omega (arith, n.0, i.0), n.1, λ us ts w m. subst (λ (k : ℕ). Going c.args.s.now c.args.inside c.args.most c.in_ok-here.here k us ts) (omega arith) (going_more (i.2 us ts w m) l _ c.skip.ensures _ c.in_ok-here.was))

pub skip_row-returns : goal.skip_row-returns
skip_row-returns t c =
    λ us ts w n.
    let i = c.loop-i.invariant in
    let k = going_all fields_lawful (i.2 us ts w n) (omega arith) in
    (k.0, k.1, i.0, i.1)
