-- `put_leaf` meets its contract: by what the call writes for a leaf (`LeafLaws`). Assumes nothing.
use mathlib.Core.Path.{sym, ◌∙◌}
use Rattle.field_walk.proofs.LeafLaws.{schema_written_lem, same_written_lem, page_written}
use Rattle.field_walk.proofs.put_leaf.Goals as goal

pub returns-in-Schema : goal.returns-in-Schema
returns-in-Schema c =
    let a = c.args in
    let r = c.put_schema_leaf in
    schema_written_lem a.s.now a.tree a.out.now r.new.out r.result a.call (sym c.leaf_line.ensures ∙ c.in-Schema.is) r.ensures

pub returns-in-Same : goal.returns-in-Same
returns-in-Same c =
    let a = c.args in
    let r = c.copy_leaf in
    same_written_lem a.s.now a.tree a.out.now r.new.out r.result a.call _ (sym c.leaf_line.ensures ∙ c.in-Same.is) r.ensures

pub returns-in-Page : goal.returns-in-Page
returns-in-Page c =
    let a = c.args in
    let r = c.put_page_leaf in
    page_written a.s.now a.tree a.out.now r.new.out r.result a.call (sym c.leaf_line.ensures ∙ c.in-Page.is) r.ensures
