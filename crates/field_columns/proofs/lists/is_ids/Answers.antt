-- `lists::is_ids` meets its contract. Assumes nothing.
use mathlib.Core.Path.{sym, ◌∙◌}
use Rattle.field_columns.proofs.IdLaws.{ids_mark, ids_parts}
use Rattle.field_columns.proofs.lists.is_ids.Goals as goal

pub returns-then-is_mark : goal.returns-then-is_mark
returns-then-is_mark c = sym (ids_mark c.args.c.now (sym c.is_mark.ensures ∙ c.if-is_mark.true))

pub returns : goal.returns
returns c = c.are_ids.ensures ∙ sym (ids_parts c.args.c.now (sym c.is_mark.ensures ∙ c.if-is_mark.false))
