-- `to_physical_type` meets its contract: a sheet that is not read (`CallLaws`), and the line that tells the physical type (`PhysicalLaws`). Assumes nothing.
use mathlib.Core.Path.{sym, ap, ◌∙◌}
use Rattle.sheets.specs.Mappings.{to_physical_type}
use Rattle.sheets.specs.Outcome.{places}
use Rattle.datatypes.specs.Physical.{physical_answer}
use Rattle.refusal.proofs.ErrLaws.{passed}
use Rattle.mapping_calls.proofs.CallLaws.{sheet_unread, read_there, read_tree}
use Rattle.mapping_calls.proofs.PhysicalLaws.{physical_told}
use Rattle.mapping_calls.proofs.physical.to_physical_type.Goals as goal

pub field_line_at-first-requires : goal.field_line_at-first-requires
field_line_at-first-requires c = read_tree c.args.s.now c.read_sheet.result c.read_sheet.ensures _ c.in_ok-at.was

pub storage_line-inner-requires : goal.storage_line-inner-requires
storage_line-inner-requires c = (read_there c.args.s.now c.read_sheet.result c.read_sheet.ensures _ c.in_ok-at.was, c.field_line_at-first.ensures)

pub returns-in_err-at : goal.returns-in_err-at
returns-in_err-at c =
    rw (passed c.from_residual.result _ c.from_residual.ensures.1) (ap places (sheet_unread c.args.s.now c.read_sheet.result c.read_sheet.ensures _ c.in_err-at.was (λ f. to_physical_type f.type)))

pub returns-in-Some : goal.returns-in-Some
returns-in-Some c =
    let r = c.read_sheet in
    physical_told c.args.s.now r.result r.ensures _ c.in_ok-at.was c.storage_line-inner.result c.storage_line-inner.ensures _ (ap physical_answer (sym c.in-Some.is) ∙ c.to_physical_type.ensures)

pub returns-in-None : goal.returns-in-None
returns-in-None c =
    let r = c.read_sheet in
    physical_told c.args.s.now r.result r.ensures _ c.in_ok-at.was c.storage_line-inner.result c.storage_line-inner.ensures _ (ap physical_answer (sym c.in-None.is) ∙ c.to_physical_type.ensures)
