-- `child_type` meets its contract: the type has no fields, or not so many, or the child is one of them. Assumes nothing.
use Rattle.picked_types.proofs.PickLaws.{child_undefined, fields_there, child_missing, child_picked}
use native.Mathlib.Omega.{arith}
use Rattle.sheets.specs.Answer.{found}
use Rattle.sheets.specs.Refusal.{undefined_mapping}
use Rattle.picked_types.proofs.child.child_type.Goals as goal

pub returns-then-not-has_fields : goal.returns-then-not-has_fields
returns-then-not-has_fields c = λ i t f. child_undefined c.storage_line-inner.result c.storage_line-inner.ensures c.nesting_of.ensures c.has_fields.ensures f c.args.index (c.if-not-has_fields.true)

pub returns-then-line-index : goal.returns-then-line-index
returns-then-line-index c = λ i t f. child_missing c.storage_line-inner.result c.storage_line-inner.ensures c.nesting_of.ensures c.has_fields.ensures f c.args.index (c.if-not-has_fields.false) c.if-line-index.true

pub nth_type-requires : goal.nth_type-requires
nth_type-requires c =
    let p = c.requires in
    let row = fields_there c.storage_line-inner.result c.storage_line-inner.ensures c.nesting_of.ensures c.has_fields.ensures p.2 c.args.index in
    (_, _, _, row, omega arith)

pub returns : goal.returns
returns c = λ i t f. child_picked c.storage_line-inner.result c.storage_line-inner.ensures c.nesting_of.ensures c.has_fields.ensures f c.args.index (c.if-not-has_fields.false) (omega arith) (found undefined_mapping c.nth_type.result) c.nth_type.ensures
