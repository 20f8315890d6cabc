-- `fits` meets its contract: the tests of the definition, in its order. Assumes nothing.
use mathlib.Core.Path.{sym}
use borrow.Author.Tests.{eq-eqb, ne_eqb, le-leb, lt-leb}
use Rattle.recorded_list.proofs.fits.Goals as goal

pub returns-then-line-eq0 : goal.returns-then-line-eq0
returns-then-line-eq0 c = sym (rw (eq-eqb c.args.line.records 0 c.if-line-eq0.true))

pub returns-then-input-line : goal.returns-then-input-line
returns-then-input-line c =
    let a = c.args in
    sym (simp (ne_eqb a.line.records 0 c.if-line-eq0.false, lt-leb a.line.input a.input c.if-input-line.true))

pub returns : goal.returns
returns c =
    let a = c.args in
    sym (simp (ne_eqb a.line.records 0 c.if-line-eq0.false, le-leb a.line.input a.input c.if-input-line.false))
