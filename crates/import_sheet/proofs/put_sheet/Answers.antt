-- `put_sheet` meets its contract: the laws are in `SheetLaws`. Assumes nothing.
use mathlib.Core.Path.{refl}
use native.Mathlib.Omega.{arith}
use Rattle.refusal.proofs.ErrLaws.{passed}
use Rattle.import_sheet.proofs.SheetLaws.{sheet_refused, lines_long, lines_read, sheet_done}
use Rattle.import_sheet.proofs.put_sheet.Goals as goal

pub overflow_add-size : goal.overflow_add-size
overflow_add-size c =
    let r = c.to_first_field in
    omega (arith, lines_long _ _ r.result _ _ c.in_ok-next.was r.ensures.0 c.requires.s_len_bound.0, c.put_heading-head.ensures.0)

pub returns-in_err-next : goal.returns-in_err-next
returns-in_err-next c =
    let r = c.to_first_field in
    rw (passed c.from_residual.result _ c.from_residual.ensures.1) (tt, λ t ts f. sheet_refused _ _ _ t ts f _ r.new.out _ _ c.in_err-next.was r.ensures.1)

pub returns : goal.returns
returns c =
    let r = c.to_first_field in
    let w = c.within-w in
    let h = c.put_heading-head in
    let e = c.in_ok-next.was in (
      lines_read _ _ r.result _ _ e r.ensures.0,
      λ t ts f. sheet_done _ _ _ t ts f _ r.new.out _ _ _ e r.ensures.1 c.args.out.now h.new.out h.result w.result h.ensures w.ensures refl,
    )
