-- `text::is_plain` meets its contract: the tests of the definition, in its order. Assumes nothing.
use mathlib.Core.Path.{sym}
use borrow.Author.Tests.{eq-eqb, ne_eqb, le-leb, lt-leb}
use Rattle.recorded_list.proofs.text.is_plain.Goals as goal

pub returns-then-b-eq10 : goal.returns-then-b-eq10
returns-then-b-eq10 c = sym (rw (eq-eqb c.args.b 10 c.if-b-eq10.true))

pub returns-then-b-lt32 : goal.returns-then-b-lt32
returns-then-b-lt32 c =
    let b = c.args.b in
    sym (simp (ne_eqb b 10 c.if-b-eq10.false, lt-leb 32 b c.if-b-lt32.true))

pub returns-then-b-gt126 : goal.returns-then-b-gt126
returns-then-b-gt126 c =
    let b = c.args.b in
    sym (simp (ne_eqb b 10 c.if-b-eq10.false, le-leb 32 b c.if-b-lt32.false, lt-leb b 126 c.if-b-gt126.true))

pub returns : goal.returns
returns c =
    let b = c.args.b in
    sym (simp (ne_eqb b 10 c.if-b-eq10.false, le-leb 32 b c.if-b-lt32.false, le-leb b 126 c.if-b-gt126.false))
