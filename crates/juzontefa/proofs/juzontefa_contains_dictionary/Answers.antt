-- `juzontefa_contains_dictionary` meets its contract: the number and the answer are those of the call. Assumes nothing.
use mathlib.Core.Path.{ap, ◌∙◌}
use Rattle.juzontefa.specs.Answers.{yes_no_told}
use Rattle.juzontefa.proofs.juzontefa_contains_dictionary.Goals as goal

pub returns : goal.returns
returns c = ap yes_no_told c.yes_no_of.ensures ∙ c.contains_dictionary.ensures
