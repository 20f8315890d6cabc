-- `judge_numbers` meets its contract: the tests of the definition, in its order. Assumes nothing.
use Rattle.judge.proofs.JudgingLaws.{wrong_number, wrong_first, wrong_second, right_numbers}
use Rattle.judge.proofs.judge_numbers.Goals as goal

pub returns-then-came-h : goal.returns-then-came-h
returns-then-came-h c =
    let a = c.args in wrong_number a.came a.h c.if-came-h.true

pub returns-then-came-h-2 : goal.returns-then-came-h-2
returns-then-came-h-2 c =
    let a = c.args in wrong_first a.came a.h c.if-came-h.false c.if-came-h-2.true

pub returns-then-came-h-3 : goal.returns-then-came-h-3
returns-then-came-h-3 c =
    let a = c.args in wrong_second a.came a.h c.if-came-h.false c.if-came-h-2.false c.if-came-h-3.true

pub returns : goal.returns
returns c =
    let a = c.args in right_numbers a.came a.h c.if-came-h.false c.if-came-h-2.false c.if-came-h-3.false
