-- `lacks_child` meets its contract: by cases of what the type visits. Assumes nothing.
use Rattle.import_type.specs.declared.Below.{Below}
use Rattle.node.specs.Types.{lacks_child}
use mathlib.Core.Path.{sym, ap}
use Rattle.node.proofs.dtype.lacks_child.Goals as goal

pub returns-in-First : goal.returns-in-First
returns-in-First c = ap (λ (b : Below). lacks_child b c.args.children) (sym c.in-First.is)
