-- `types::read_type` meets its contract: each column that is not there has its law, and so have the columns that are. Assumes nothing.
use mathlib.Core.Path.{refl, subst}
use Prim.Native.Nat.{◌+◌}
use native.Mathlib.Omega.{arith}
use Rattle.field_columns.specs.FieldColumns.{is_content}
use Rattle.read_field_line.specs.Stages.{ReadsNumbers}
use Rattle.read_field_line.proofs.StageLaws.{column_told, text_bad, more_bad, type_there}
use Rattle.read_field_line.proofs.types.read_type.Goals as goal

pub returns-in_err-n : goal.returns-in_err-n
returns-in_err-n c = rw c.from_residual.ensures (c.in_err-n.ensures)

pub overflow_add-start : goal.overflow_add-start
overflow_add-start c = omega (arith, c.in_ok-n.ensures.q_at.high)

pub returns-in_err-text : goal.returns-in_err-text
returns-in_err-text c = rw c.from_residual-in_err-text.ensures ((refl, λ x rest w. text_bad w c.in_ok-n.ensures _ c.text_content.ensures (column_told (is_content c.text_content.result) c.args.s.now (c.in_ok-n.n.end + 1) c.in_err-text.was c.content_column.ensures)))

pub overflow_add-text : goal.overflow_add-text
overflow_add-text c = omega (arith, (column_told (is_content c.text_content.result) c.args.s.now (c.in_ok-n.n.end + 1) c.in_ok-text.was c.content_column.ensures).0.high)

pub returns-in_err-more : goal.returns-in_err-more
returns-in_err-more c = rw c.from_residual-in_err-more.ensures ((refl, λ x rest w. more_bad w c.in_ok-n.ensures (column_told (is_content c.text_content.result) c.args.s.now (c.in_ok-n.n.end + 1) c.in_ok-text.was c.content_column.ensures).0 _ c.more_content.ensures (column_told (is_content c.more_content.result) c.args.s.now (c.in_ok-text.text + 1) c.in_err-more.was c.content_column-2.ensures)))

pub overflow_add-text-2 : goal.overflow_add-text-2
overflow_add-text-2 c = omega (arith, (column_told (is_content c.text_content.result) c.args.s.now (c.in_ok-n.n.end + 1) c.in_ok-text.was c.content_column.ensures).0.high)

pub returns : goal.returns
returns c =
    rw (c.between.ensures, c.between-2.ensures)
    (type_there c.in_ok-n.ensures _ _ c.text_content.ensures c.more_content.ensures (column_told (is_content c.text_content.result) c.args.s.now (c.in_ok-n.n.end + 1) c.in_ok-text.was c.content_column.ensures).0 (column_told (is_content c.text_content.result) c.args.s.now (c.in_ok-n.n.end + 1) c.in_ok-text.was c.content_column.ensures).1 (column_told (is_content c.more_content.result) c.args.s.now (c.in_ok-text.text + 1) c.in_ok-more.was c.content_column-2.ensures).0 (column_told (is_content c.more_content.result) c.args.s.now (c.in_ok-text.text + 1) c.in_ok-more.was c.content_column-2.ensures).1)
