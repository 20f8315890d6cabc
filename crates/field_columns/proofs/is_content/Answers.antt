-- `is_content` meets its contract: each case by its own test. Assumes nothing.
use mathlib.Core.Path.{sym, ap, ◌∙◌}
use Rattle.field_columns.specs.FieldColumns.{is_content}
use Rattle.field_columns.specs.declared.Content.{Content}
use Rattle.field_columns.proofs.is_content.Goals as goal

pub returns-in-Nothing : goal.returns-in-Nothing
returns-in-Nothing c = c.is_nothing.ensures ∙ ap (λ (k : Content). is_content k c.args.c.now) (sym c.in-Nothing.is)

pub returns-in-OptionalText : goal.returns-in-OptionalText
returns-in-OptionalText c = c.is_optional_text.ensures ∙ ap (λ (k : Content). is_content k c.args.c.now) (sym c.in-OptionalText.is)

pub returns-in-Text : goal.returns-in-Text
returns-in-Text c = c.is_text.ensures ∙ ap (λ (k : Content). is_content k c.args.c.now) (sym c.in-Text.is)

pub returns-in-Ids : goal.returns-in-Ids
returns-in-Ids c = c.is_ids.ensures ∙ ap (λ (k : Content). is_content k c.args.c.now) (sym c.in-Ids.is)

pub returns-in-Flag : goal.returns-in-Flag
returns-in-Flag c = c.is_flag.ensures ∙ ap (λ (k : Content). is_content k c.args.c.now) (sym c.in-Flag.is)

pub returns-in-Pairs : goal.returns-in-Pairs
returns-in-Pairs c = c.is_pairs.ensures ∙ ap (λ (k : Content). is_content k c.args.c.now) (sym c.in-Pairs.is)
