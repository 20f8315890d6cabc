-- `juzontefa_is_nested` meets its contract: the number and the answer are those of the call. Assumes nothing.
use mathlib.Core.Path.{ap, ◌∙◌}
use Rattle.juzontefa.specs.Answers.{yes_no_told}
use Rattle.juzontefa.proofs.juzontefa_is_nested.Goals as goal

pub returns : goal.returns
returns c = ap yes_no_told c.yes_no_of.ensures ∙ c.is_nested.ensures
