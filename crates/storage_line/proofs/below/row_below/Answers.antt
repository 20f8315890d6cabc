-- `row_below` meets its contract: by whether the types below are skipped. Assumes nothing.
use mathlib.Core.Path.{refl, sym, subst}
use mathlib.Core.Bool.{Bool}
use Prim.Native.Nat.{◌-◌}
use Rattle.storage_line.specs.Below.{row_from, RowLeft}
use Rattle.storage_line.proofs.below.row_below.Goals as goal

pub returns-then-skipped : goal.returns-then-skipped
returns-then-skipped c =
    let a = c.args in
    subst (λ (b : Bool). RowLeft a.s.now a.tree a.l b (row_from c.after_below-next.result 0 (a.tree.levels - 1))) (sym c.if-skipped.true) (c.after_below-next.result, refl, c.after_below-next.ensures)

pub returns : goal.returns
returns c =
    let a = c.args in
    subst (λ (b : Bool). RowLeft a.s.now a.tree a.l b (row_from a.l.end a.l.children (a.tree.levels - 1))) (sym c.if-skipped.false) refl
