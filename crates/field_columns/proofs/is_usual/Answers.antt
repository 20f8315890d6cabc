-- `is_usual` meets its contract, case by case. Assumes nothing.
use mathlib.Core.Path.{sym, ap}
use Rattle.field_columns.specs.FieldColumns.{is_usual}
use Rattle.field_columns.specs.declared.Content.{Content}
use Rattle.field_columns.proofs.is_usual.Goals as goal

pub returns-in-Nothing : goal.returns-in-Nothing
returns-in-Nothing c = sym (ap (λ (k : Content). is_usual k c.args.b) c.in-Nothing.is)

pub returns-in-OptionalText : goal.returns-in-OptionalText
returns-in-OptionalText c = sym (ap (λ (k : Content). is_usual k c.args.b) c.in-OptionalText.is)

pub returns-in-Ids : goal.returns-in-Ids
returns-in-Ids c = sym (ap (λ (k : Content). is_usual k c.args.b) c.in-Ids.is)

pub returns-in-Flag : goal.returns-in-Flag
returns-in-Flag c = sym (ap (λ (k : Content). is_usual k c.args.b) c.in-Flag.is)

pub returns-in-Pairs : goal.returns-in-Pairs
returns-in-Pairs c = sym (ap (λ (k : Content). is_usual k c.args.b) c.in-Pairs.is)
