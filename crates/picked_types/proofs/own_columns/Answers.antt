-- `own_columns` meets its contract, by the choice. Assumes nothing.
use mathlib.Core.Path.{sym, ap, ◌∙◌}
use Rattle.picked_types.specs.declared.pick.Choice.{Choice}
use Rattle.picked_types.specs.Sheets.{columns_for}
use Rattle.picked_types.proofs.own_columns.Goals as goal

pub returns-in-Storage : goal.returns-in-Storage
returns-in-Storage c = c.field_columns.ensures ∙ sym (ap (λ (x : Choice). columns_for x c.args.first) c.in-Storage.is)

pub returns-in-Inner : goal.returns-in-Inner
returns-in-Inner c = sym (ap (λ (x : Choice). columns_for x c.args.first) c.in-Inner.is)

pub returns-in-Child : goal.returns-in-Child
returns-in-Child c = sym (ap (λ (x : Choice). columns_for x c.args.first) c.in-Child.is)
