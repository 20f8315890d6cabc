-- `juzontefa_to_physical_type` meets its contract: the numbers are those of the call. Assumes nothing.
use mathlib.Core.Path.{ap, ◌∙◌}
use Rattle.juzontefa.specs.Answers.{places_told}
use Rattle.juzontefa.proofs.juzontefa_to_physical_type.Goals as goal

pub returns : goal.returns
returns c = ap places_told c.places_of.ensures ∙ c.of.ensures ∙ c.to_physical_type.ensures
