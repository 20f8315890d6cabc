-- `refused_later` meets its contract. Assumes nothing.
use Rattle.std.specs.Prelude.{Err}
use mathlib.Core.Path.{ap}
use Rattle.node.specs.declared.lines.Shown.{Shown}
use Rattle.node.proofs.refused_later.Goals as goal

pub returns : goal.returns
returns c = ap (λ (y : Shown). record { len = 0; shown = y; pending = Err c.args.r }) c.nothing_shown.ensures
