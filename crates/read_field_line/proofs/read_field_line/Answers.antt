-- `read_field_line` meets its contract: each part that is not there has its law, and so has the line whose parts are all there.
-- Assumes nothing.
use mathlib.Core.Path.{refl, sym, subst, ◌∙◌}
use Prim.Native.Nat.{◌+◌}
use native.Mathlib.Omega.{arith}
use Rattle.read_field_line.specs.Stages.{ReadsType, ReadsOwn}
use Rattle.read_field_line.proofs.StageLaws.{number_told}
use Rattle.read_field_line.proofs.LineLaws.{row_first, type_missing, own_missing, children_missing, children_unfit, line_there}
use Rattle.read_field_line.proofs.read_field_line.Goals as goal

pub returns-in_err-t : goal.returns-in_err-t
returns-in_err-t c = rw c.from_residual.ensures ((refl, λ bare q row. type_missing c.args.s.now c.args.at (row_first c.args.s.now c.args.at row) c.in_err-t.ensures))

pub overflow_add-t : goal.overflow_add-t
overflow_add-t c = omega (arith, c.in_ok-t.ensures.more_at.high)

pub returns-in_err-o : goal.returns-in_err-o
returns-in_err-o c = rw c.from_residual-in_err-o.ensures ((refl, λ bare q row. own_missing c.args.s.now c.args.at (row_first c.args.s.now c.args.at row) c.in_ok-t.ensures c.in_err-o.ensures))

pub overflow_add-o : goal.overflow_add-o
overflow_add-o c = omega (arith, c.in_ok-o.ensures.pairs_at.high)

pub returns-in_err-children : goal.returns-in_err-children
returns-in_err-children c = rw c.from_residual-in_err-children.ensures ((refl, λ bare q row. children_missing c.args.s.now c.args.at (row_first c.args.s.now c.args.at row) c.in_ok-t.ensures c.in_ok-o.ensures (omega arith) (number_told c.args.s.now (c.in_ok-o.o.end + 1) 10 refl c.in_err-children.was c.number_column.ensures)))

pub returns-then-not-children_fit : goal.returns-then-not-children_fit
returns-then-not-children_fit c = (refl, λ bare q row. children_unfit c.args.s.now c.args.at (row_first c.args.s.now c.args.at row) c.in_ok-t.ensures c.in_ok-o.ensures (number_told c.args.s.now (c.in_ok-o.o.end + 1) 10 refl c.in_ok-children.was c.number_column.ensures).0 (number_told c.args.s.now (c.in_ok-o.o.end + 1) 10 refl c.in_ok-children.was c.number_column.ensures).1 (sym c.children_fit.ensures ∙ c.if-not-children_fit.true))

pub overflow_add-result : goal.overflow_add-result
overflow_add-result c = omega (arith, (number_told c.args.s.now (c.in_ok-o.o.end + 1) 10 refl c.in_ok-children.was c.number_column.ensures).0.high)

pub returns : goal.returns
returns c = line_there c.in_ok-t.ensures c.in_ok-o.ensures (number_told c.args.s.now (c.in_ok-o.o.end + 1) 10 refl c.in_ok-children.was c.number_column.ensures).0 (number_told c.args.s.now (c.in_ok-o.o.end + 1) 10 refl c.in_ok-children.was c.number_column.ensures).1 (sym c.children_fit.ensures ∙ c.if-not-children_fit.false)
