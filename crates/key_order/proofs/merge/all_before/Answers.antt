-- `all_before` meets its contract: both lists ascend, so the last of a and the first of b tell. Assumes nothing.
use mathlib.Core.Path.{sym, ◌∙◌}
use Rattle.key_order.specs.Entry.{rest_at}
use Rattle.key_order.proofs.MergeLaws.{apart}
use borrow.Author.Rules.{rules}
use Rattle.key_order.proofs.merge.all_before.Goals as goal

pub returns : goal.returns
returns c =
    let found = rw (c.rest_of.ensures, c.rest_of-2.ensures) at c.is_before.ensures in
    λ e. apart (rest_at c.args.text.now c.args.shared) c.args.a.now c.args.b.now c.requires.0 c.requires.1 (search rules) (search rules) (sym found ∙ e)
