-- `row_at` meets its contract: the table's columns are computed from `fixed_rows`. Assumes nothing.
use mathlib.Core.Path.{◌∙◌}
use Rattle.sheets.specs.FixedNames.{fixed_rows}
use Rattle.format_names.proofs.NameLaws.{kind_at, unit_at_lem}
use Rattle.format_names.proofs.row_at.Goals as goal

pub returns : goal.returns
unfolding fixed_rows
returns c =
    let i = c.args.i in
    record { kind = c.wide.ensures.0 ∙ kind_at i c.requires; unit = c.wide-2.ensures.0 ∙ unit_at_lem i c.requires }
