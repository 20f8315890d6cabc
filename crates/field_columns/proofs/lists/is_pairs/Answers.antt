-- `lists::is_pairs` meets its contract. Assumes nothing.
use mathlib.Core.Path.{sym, ◌∙◌}
use Rattle.field_columns.proofs.PairLaws.{pairs_mark, pairs_parts}
use Rattle.field_columns.proofs.lists.is_pairs.Goals as goal

pub returns-then-is_mark : goal.returns-then-is_mark
returns-then-is_mark c = sym (pairs_mark c.args.c.now (sym c.is_mark.ensures ∙ c.if-is_mark.true))

pub returns : goal.returns
returns c = c.are_pairs.ensures ∙ sym (pairs_parts c.args.c.now (sym c.is_mark.ensures ∙ c.if-is_mark.false))
