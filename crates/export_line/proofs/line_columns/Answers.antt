-- `line_columns` meets its contract: by the test of the first kind. Assumes nothing.
use mathlib.Core.Path.{sym, ap}
use mathlib.Core.Bool.{Bool, cond}
use borrow.Author.Tests.{eq-eqb, ne_eqb}
use Rattle.sheets.specs.Kind
use Rattle.put_schema_line.specs.declared.LineColumns.{LineColumns}
use Rattle.export_line.proofs.line_columns.Goals as goal

pub returns-then-first-eq-EXTENSION : goal.returns-then-first-eq-EXTENSION
returns-then-first-eq-EXTENSION c =
    let a = c.args in
    let f : Bool → LineColumns = λ b. record { text = a.l.text; name = a.first.name; pairs = a.first.pairs; extension = cond b a.first.text a.first.more; more = a.first.more } in
    ap f (sym (eq-eqb a.first.kind Kind.Extension c.if-first-eq-EXTENSION.true))

pub returns : goal.returns
returns c =
    let a = c.args in
    let f : Bool → LineColumns = λ b. record { text = a.l.text; name = a.first.name; pairs = a.first.pairs; extension = cond b a.first.text a.first.more; more = a.first.more } in
    ap f (sym (ne_eqb a.first.kind Kind.Extension c.if-first-eq-EXTENSION.false))
