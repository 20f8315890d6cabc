-- `line_numbers` meets its contract: by the two tests. An index type alone is one of ten, so that its kind does not wrap. Assumes nothing.
use mathlib.Core.Path.{sym, ap, ◌∙◌}
use mathlib.Core.Bool.{Bool, cond}
use native.Mathlib.Omega.{arith}
use borrow.Author.Tests.{eq-eqb, ne_eqb}
use Rattle.sheets.specs.Kind
use Rattle.put_schema_line.specs.declared.LineNumbers.{LineNumbers}
use Rattle.export_line.specs.Begins.{numbers_with, numbers_of}
use Rattle.export_line.proofs.line_numbers.Goals as goal

pub overflow_add-l : goal.overflow_add-l
overflow_add-l c = omega (arith, c.requires c.if-alone.true)

pub returns-then-alone : goal.returns-then-alone
returns-then-alone c =
    let a = c.args in
    let l = a.l in
    let f : Bool → LineNumbers = λ b. numbers_of a.nullable b l.kind l.p l.q l.children a.big in
    c.numbers_with.ensures ∙ ap f (sym c.if-alone.true)

pub returns-then-l-eq-DICTIONARY : goal.returns-then-l-eq-DICTIONARY
returns-then-l-eq-DICTIONARY c =
    let a = c.args in
    let l = a.l in
    let f : Bool → LineNumbers = λ b. numbers_of a.nullable b l.kind l.p l.q l.children a.big in
    let g : Bool → LineNumbers = λ b. cond b (numbers_with a.nullable l.kind l.p l.q 0 1 a.big) (numbers_with a.nullable l.kind l.p l.q l.children 0 a.big) in
    c.numbers_with-then-l-eq-DICTIONARY.ensures ∙ ap g (sym (eq-eqb l.kind Kind.Dictionary c.if-l-eq-DICTIONARY.true)) ∙ ap f (sym c.if-alone.false)

pub returns : goal.returns
returns c =
    let a = c.args in
    let l = a.l in
    let f : Bool → LineNumbers = λ b. numbers_of a.nullable b l.kind l.p l.q l.children a.big in
    let g : Bool → LineNumbers = λ b. cond b (numbers_with a.nullable l.kind l.p l.q 0 1 a.big) (numbers_with a.nullable l.kind l.p l.q l.children 0 a.big) in
    c.numbers_with-2.ensures ∙ ap g (sym (ne_eqb l.kind Kind.Dictionary c.if-l-eq-DICTIONARY.false)) ∙ ap f (sym c.if-alone.false)
