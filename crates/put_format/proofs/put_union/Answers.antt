-- `put_union` meets its contract: by the mode. Assumes nothing.
use Rattle.put_format.specs.LineFormat.{ids_in, union_format}
use Rattle.sheets.specs.Format.{union_name}
use lib.Dec.{eqb}
use borrow.Author.Tests.{eq-eqb, ne_eqb}
use mathlib.Core.Path.{sym, ap, ◌∙◌}
use mathlib.Core.Bool.{Bool}
use Rattle.put_format.proofs.LeafLaws.{formats_as}
use Rattle.sheets.specs.Bytes.{ascii}
use Rattle.put_format.proofs.put_union.Goals as goal

pub returns-then-p-place : goal.returns-then-p-place
returns-then-p-place c =
    let a = c.args in
    let m = c.place in
    let q = c.put_ids in
    formats_as (union_format (ascii "+us:") (ids_in a.ids.now) a.fields) (union_format (union_name (eqb a.p 1)) (ids_in a.ids.now) a.fields) a.at q.result a.out.now q.new.out (ap (λ (m : Bool). union_format (union_name m) (ids_in a.ids.now) a.fields) (sym (eq-eqb a.p 1 (c.if-p-place.true ∙ m.ensures)))) q.ensures

pub returns : goal.returns
returns c =
    let a = c.args in
    let m = c.place in
    let q = c.put_ids-2 in
    formats_as (union_format (ascii "+ud:") (ids_in a.ids.now) a.fields) (union_format (union_name (eqb a.p 1)) (ids_in a.ids.now) a.fields) a.at q.result a.out.now q.new.out (ap (λ (m : Bool). union_format (union_name m) (ids_in a.ids.now) a.fields) (sym (ne_eqb a.p 1 (λ e. c.if-p-place.false (e ∙ sym m.ensures))))) q.ensures
