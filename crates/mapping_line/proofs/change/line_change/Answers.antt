-- `line_change` meets its contract: by the call. Assumes nothing.
use mathlib.Core.Path.{sym, ap, ◌∙◌}
use Rattle.mapping_line.specs.Changes.{line_change_of}
use Rattle.mapping_line.specs.declared.change.Change.{Change}
use Rattle.mapping_line.proofs.change.line_change.Goals as goal

pub returns-in-Storage : goal.returns-in-Storage
returns-in-Storage c = c.storage_change.ensures ∙ ap (λ (y : Change). line_change_of y c.args.kind c.args.p) (sym c.in-Storage.is)

pub returns-in-Underlying : goal.returns-in-Underlying
returns-in-Underlying c = c.underlying_change.ensures ∙ ap (λ (y : Change). line_change_of y c.args.kind c.args.p) (sym c.in-Underlying.is)
