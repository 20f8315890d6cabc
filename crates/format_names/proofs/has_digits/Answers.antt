-- `has_digits` meets its contract: the first digits, and those after them. Assumes nothing.
use mathlib.Core.Path.{sym, ◌∙◌}
use Rattle.format_names.specs.Names.{row_at}
use Rattle.format_names.proofs.NameLaws.{other_low, same_low}
use Rattle.format_names.proofs.has_digits.Goals as goal

pub returns-then-low_digits-d : goal.returns-then-low_digits-d
returns-then-low_digits-d c = other_low (row_at c.args.i).name c.args.d (λ e. c.if-low_digits-d.true (c.low_digits.ensures ∙ e))

pub returns : goal.returns
returns c = same_low (row_at c.args.i).name c.args.d c.high_digits.result (sym c.low_digits.ensures ∙ c.if-low_digits-d.false) c.high_digits.ensures
