-- `juzontefa_measure_export` meets its contract: the numbers are those of the call. Assumes nothing.
use mathlib.Core.Path.{ap, ◌∙◌}
use Rattle.juzontefa.specs.Answers.{measure_told}
use Rattle.juzontefa.proofs.juzontefa_measure_export.Goals as goal

pub returns : goal.returns
returns c = ap measure_told c.measure_of.ensures ∙ c.measure_export.ensures
