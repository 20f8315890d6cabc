-- `judge` meets its contract: the tests of the definition, in its order, and for the buffer what is recorded of it (`JudgingLaws`). Assumes nothing.
use Rattle.std.proofs.Common.{◌-◌, true, false, ◌++◌, length, replicate, sym, ◌∙◌}
use Rattle.judge.proofs.JudgingLaws.{other_number, other_size, by_buffer, after_refusal, after_success}
use Rattle.judge.specs.Judging.{filled}
use Rattle.judge.proofs.judge.Goals as goal

pub returns-then-number-h : goal.returns-then-number-h
returns-then-number-h c =
    let a = c.args in
    c.differs.ensures ∙ sym (other_number a.h a.output.now a.lent.now a.number a.size c.if-number-h.true)

pub returns-then-size-h : goal.returns-then-size-h
returns-then-size-h c =
    let a = c.args in
    c.differs-then-size-h.ensures ∙ sym (other_size a.h a.output.now a.lent.now a.number a.size c.if-number-h.false c.if-size-h.true)

pub returns-then-all_are : goal.returns-then-all_are
returns-then-all_are c =
    let a = c.args in
    let room = length a.lent.now in
    let after = after_refusal a.h.number a.output.now room (λ z. c.if-number-ne0.true (c.if-number-h.false ∙ z)) in
    sym (by_buffer a.h a.output.now a.lent.now a.number a.size c.if-number-h.false c.if-size-h.false (replicate room 0) after true (sym c.all_are.ensures ∙ c.if-all_are.true))

pub returns-then-number-ne0 : goal.returns-then-number-ne0
returns-then-number-ne0 c =
    let a = c.args in
    let room = length a.lent.now in
    let after = after_refusal a.h.number a.output.now room (λ z. c.if-number-ne0.true (c.if-number-h.false ∙ z)) in
    c.differs-then-number-ne0.ensures ∙ sym (by_buffer a.h a.output.now a.lent.now a.number a.size c.if-number-h.false c.if-size-h.false (replicate room 0) after false (sym c.all_are.ensures ∙ c.if-all_are.false))

pub returns-then-is_then : goal.returns-then-is_then
returns-then-is_then c =
    let a = c.args in
    let room = length a.lent.now in
    let after = after_success a.h.number a.output.now room (sym c.if-number-h.false ∙ c.if-number-ne0.false) in
    sym (by_buffer a.h a.output.now a.lent.now a.number a.size c.if-number-h.false c.if-size-h.false (a.output.now ++ filled (room - length a.output.now)) after true (sym c.is_then.ensures ∙ c.if-is_then.true))

pub returns : goal.returns
returns c =
    let a = c.args in
    let room = length a.lent.now in
    let after = after_success a.h.number a.output.now room (sym c.if-number-h.false ∙ c.if-number-ne0.false) in
    c.differs-2.ensures ∙ sym (by_buffer a.h a.output.now a.lent.now a.number a.size c.if-number-h.false c.if-size-h.false (a.output.now ++ filled (room - length a.output.now)) after false (sym c.is_then.ensures ∙ c.if-is_then.false))
