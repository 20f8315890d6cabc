-- `begin_type` meets its contract: by the laws on what is told of the type's line, what stands below it, and what was read. Assumes nothing.
use mathlib.Core.Path.{subst}
use Prim.Native.Nat.{ℕ}
use Rattle.schema_sheet.specs.Trees.{ReadsRow}
use Rattle.schema_sheet.proofs.ReadLaws.{read_good}
use Rattle.refusal.proofs.ErrLaws.{passed}
use Rattle.import_field.proofs.BeginLaws.{node_of_lem, type_refused, first_child_lem, first_read, first_to, begins}
use Rattle.refusal.specs.Refusals.{Refusing, answer_of}
use Rattle.import_field.proofs.begin_type.Goals as goal

pub put_type_line-requires : goal.put_type_line-requires
put_type_line-requires c =
    let p = c.requires in (node_of_lem p, p.ready)

pub visit_of-visit-requires : goal.visit_of-visit-requires
visit_of-visit-requires c =
    let a = c.args in
    let put = c.put_type_line in
    first_child_lem a.s.now a.line a.shown a.entries.now c.requires a.out.now put.new.out put.result put.ensures _ _ c.in_ok-len.was

pub read_row-requires : goal.read_row-requires
read_row-requires c = c.requires.within

pub returns-in_err-len : goal.returns-in_err-len
returns-in_err-len c =
    let a = c.args in
    let put = c.put_type_line in
    rw (passed c.from_residual.result _ c.from_residual.ensures.1) (tt, λ x cs d ts j h shows. type_refused h a.shown a.entries.now a.out.now put.new.out put.result put.ensures _ c.in_err-len.was j)

pub returns-in_err-from : goal.returns-in_err-from
returns-in_err-from c =
    let a = c.args in
    let put = c.put_type_line in
    let k = c.read_row in
    rw (passed c.from_residual-in_err-from.result _ c.from_residual-in_err-from.ensures.1)
    (tt, λ x cs d ts j h shows. absurd (read_good (first_to h a.shown a.entries.now a.out.now put.new.out put.result put.ensures _ _ c.in_ok-len.was _ c.visit_of-visit.ensures k.result k.ensures) c.in_err-from.was))

pub returns : goal.returns
returns c =
    let a = c.args in
    let put = c.put_type_line in
    let v = c.visit_of-visit in
    let k = c.read_row in
    let e = c.in_ok-from.was in (
      first_read a.s.now a.line a.shown a.entries.now c.requires a.out.now put.new.out put.result put.ensures _ _ c.in_ok-len.was _ v.ensures _ _
          (subst (λ (y : Refusing ℕ). ReadsRow a.s.now a.line.end v.result.first a.levels (answer_of y)) e k.ensures),
      λ x cs d ts j h shows. begins h a.shown a.entries.now a.out.now put.new.out put.result put.ensures _ _ c.in_ok-len.was _ v.ensures k.result k.ensures _ e j shows,
    )
