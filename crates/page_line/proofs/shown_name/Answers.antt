-- `shown_name` meets its contract: the length is the same whether or not the start is past the end. Assumes nothing.
use mathlib.Core.Path.{◌∙◌}
use native.Mathlib.Omega.{arith}
use Rattle.page_line.proofs.PageLaws.{shows_none, shows_itself}
use Rattle.page_line.proofs.shown_name.Goals as goal

pub returns-then-end-start-lt2 : goal.returns-then-end-start-lt2
returns-then-end-start-lt2 c = c.between.ensures ∙ shows_none c.args.name (omega (arith, c.if-end-start-lt2.true, c.within-start.ensures))

pub returns : goal.returns
returns c = shows_itself c.args.name (omega (arith, c.if-end-start-lt2.false, c.within-start.ensures))
