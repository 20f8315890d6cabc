-- `put_more` meets its contract: `~` adds nothing; any other column is the value of the reserved key. Assumes nothing.
use Rattle.put_metadata.proofs.ColumnLaws.{more_none, can_put_more, more_some}
use mathlib.Core.Path.{sym, ◌∙◌}
use Rattle.put_metadata.proofs.put_more.Goals as goal

pub returns-then-same : goal.returns-then-same
returns-then-same c =
    let a = c.args in
    more_none a.big a.pairs.now a.more.now a.w c.requires (sym c.same.ensures ∙ c.if-same.true) a.out.now

pub put_reserved-requires : goal.put_reserved-requires
put_reserved-requires c =
    let a = c.args in
    can_put_more a.big a.pairs.now a.more.now a.w c.requires c.text_of-value.result.now c.text_of-value.ensures

pub returns : goal.returns
returns c =
    let a = c.args in
    more_some a.big a.pairs.now a.more.now a.w c.requires (sym c.same.ensures ∙ c.if-same.false) c.text_of-value.result.now c.text_of-value.ensures c.put_reserved.result a.out.now c.put_reserved.new.out c.put_reserved.ensures
