-- `interval_change` meets its contract: in an arm the definition computes. Assumes nothing.
use mathlib.Core.Path.{sym, ap}
use Rattle.mapping_line.specs.Changes.{interval_change}
use Rattle.mapping_line.proofs.ChangeLaws.{interval_undefined}
use Rattle.mapping_line.proofs.change.interval_change.Goals as goal

pub returns-in-0 : goal.returns-in-0
returns-in-0 c = ap interval_change (sym c.in-0.is)

pub returns-in-1 : goal.returns-in-1
returns-in-1 c = ap interval_change (sym c.in-1.is)

pub returns-in_default : goal.returns-in_default
returns-in_default c = interval_undefined c.args.unit c.in_default.in_default-own.rest.0.1 c.in_default.in_default-own.rest.1
