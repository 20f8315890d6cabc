-- `is_optional_text` meets its contract. Assumes nothing.
use mathlib.Core.Path.{sym, ◌∙◌}
use Rattle.field_columns.proofs.ContentLaws.{optional_none, optional_some}
use Rattle.field_columns.proofs.is_optional_text.Goals as goal

pub returns-then-is_nothing : goal.returns-then-is_nothing
returns-then-is_nothing c = sym (optional_none c.args.c.now (sym c.is_nothing.ensures ∙ c.if-is_nothing.true))

pub returns : goal.returns
returns c = c.is_text.ensures ∙ sym (optional_some c.args.c.now (sym c.is_nothing.ensures ∙ c.if-is_nothing.false))
