-- `columns::column` meets its contract: a law for each return. Assumes nothing.
use mathlib.Core.Path.{sym, ap, ◌∙◌}
use Rattle.std.specs.Prelude.{Some}
use Prim.Native.Nat.{ℕ}
use native.Mathlib.Omega.{arith}
use lib.ListN.{get_or}
use Rattle.columns.proofs.ColumnLaws.{end_none, end_other, end_there}
use Rattle.columns.proofs.column.Goals as goal

pub returns-then-s-e : goal.returns-then-s-e
returns-then-s-e c = sym (end_none c.args.stop c.args.s.now c.args.at (omega (arith, c.requires, c.if-s-e.true)))

pub returns-then-s-e-2 : goal.returns-then-s-e-2
returns-then-s-e-2 c = sym (end_other c.args.stop c.args.s.now c.args.at (omega (arith, c.requires)) (λ k. c.if-s-e-2.true (ap (λ (i : ℕ). get_or c.args.s.now i 0) c.requires ∙ k)))

pub returns : goal.returns
returns c = ap Some c.requires ∙ sym (end_there c.args.stop c.args.s.now c.args.at (omega (arith, c.requires)) (ap (λ (i : ℕ). get_or c.args.s.now i 0) (sym c.requires) ∙ c.if-s-e-2.false))
