-- `storage_change` meets its contract: in each arm the definition computes. Assumes nothing.
use mathlib.Core.Path.{refl, sym}
use mathlib.Core.List.{[], ◌∷◌}
use Rattle.sheets.specs.Kind
use Rattle.datatypes.proofs.AtLaws.{at_arm}
use Rattle.mapping_line.specs.Changes.{storage_kind}
use Rattle.mapping_line.proofs.ChangeLaws.{storage_stays}
use Rattle.mapping_line.proofs.change.storage_change.Goals as goal

pub returns-in-31 : goal.returns-in-31
returns-in-31 c = sym (at_arm storage_kind _ (Kind.Map ∷ Kind.Union ∷ []) (refl, (refl, tt)) c.args.kind c.in-31.is)

pub returns-in_default : goal.returns-in_default
returns-in_default c = storage_stays c.args.kind c.in_default.in_default-own.rest
