-- `own::is_bare` meets its contract: one column after the other. Assumes nothing.
use mathlib.Core.Path.{sym, ap, ap₂, ◌∙◌}
use mathlib.Core.Bool.{Bool, ◌&&◌}
use Prim.Native.Nat.{◌+◌}
use native.Mathlib.Omega.{arith}
use lib.ListN.{drop}
use Rattle.columns.specs.Columns.{one_of}
use Rattle.columns.proofs.OneByteLaws.{one_told}
use Rattle.read_field_line.specs.Stages.{is_none}
use Rattle.read_field_line.proofs.own.is_bare.Goals as goal

pub returns-then-not-one_none : goal.returns-then-not-one_none
returns-then-not-one_none c =
    let a = c.args in
    sym (ap (λ (t : Bool). t && (one_of is_none 32 (drop (a.at + 2) a.s.now) && one_of is_none 32 (drop (a.at + 4) a.s.now))) (sym c.one_none.ensures ∙ c.if-not-one_none.true))

pub overflow_add-at : goal.overflow_add-at
overflow_add-at c =
    let a = c.args in
    omega (arith, c.ranges, (one_told is_none 32 a.s.now a.at (sym c.one_none.ensures ∙ c.if-not-one_none.false)).room)

pub returns-then-not-one_none-2 : goal.returns-then-not-one_none-2
returns-then-not-one_none-2 c =
    let a = c.args in
    sym (ap₂ (λ (t u : Bool). t && (u && one_of is_none 32 (drop (a.at + 4) a.s.now))) (sym c.one_none.ensures ∙ c.if-not-one_none.false) (sym c.one_none-2.ensures ∙ c.if-not-one_none-2.true))

pub overflow_add-at-2 : goal.overflow_add-at-2
overflow_add-at-2 c =
    let a = c.args in
    omega (arith, c.ranges, (one_told is_none 32 a.s.now (a.at + 2) (sym c.one_none-2.ensures ∙ c.if-not-one_none-2.false)).room)

pub returns : goal.returns
returns c =
    let a = c.args in
    c.one_none-3.ensures ∙ sym (ap₂ (λ (t u : Bool). t && (u && one_of is_none 32 (drop (a.at + 4) a.s.now))) (sym c.one_none.ensures ∙ c.if-not-one_none.false) (sym c.one_none-2.ensures ∙ c.if-not-one_none-2.false))
