-- `refuse` meets its contract: the buffer is cleared. Assumes nothing.
use mathlib.Core.Path.{ap}
use Rattle.std.specs.Prelude.{Err}
use Rattle.outcome.specs.Answers.{outcome_of}
use Rattle.outcome.specs.declared.Refused.TheVariants.{Sheet}
use Rattle.outcome.proofs.refuse.Goals as goal

pub returns : goal.returns
returns c = ap (outcome_of (Err (Sheet c.args.reason))) c.clear.ensures
