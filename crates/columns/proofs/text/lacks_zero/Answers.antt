-- `text::lacks_zero` meets its contract: where no two zeros adjoin no pair is 00, and elsewhere each pair is tested. Assumes nothing.
use mathlib.Core.Path.{sym, ◌∙◌}
use Rattle.columns.proofs.TextLaws.{apart_lacks}
use Rattle.columns.proofs.text.lacks_zero.Goals as goal

pub returns-then-zeros_apart : goal.returns-then-zeros_apart
returns-then-zeros_apart c = apart_lacks c.args.s.now c.requires (sym c.zeros_apart.ensures ∙ c.if-zeros_apart.true)
