-- `pick_type` meets its contract, by the choice. Assumes nothing.
use mathlib.Core.Path.{sym, subst}
use Rattle.picked_types.specs.declared.pick.Choice.{Choice}
use Rattle.picked_types.specs.Picks.{Picks}
use Rattle.sheets.specs.Answer.{found}
use Rattle.sheets.specs.Refusal.{undefined_mapping}
use Rattle.picked_types.proofs.pick.pick_type.Goals as goal

pub returns-in-Storage : goal.returns-in-Storage
returns-in-Storage c =
    let a = c.args in subst (λ (x : Choice). Picks x a.s.now a.at (found undefined_mapping c.storage_type.result)) (sym c.in-Storage.is) c.storage_type.ensures

pub returns-in-Inner : goal.returns-in-Inner
returns-in-Inner c =
    let a = c.args in subst (λ (x : Choice). Picks x a.s.now a.at (found undefined_mapping c.inner_type.result)) (sym c.in-Inner.is) (c.inner_type.ensures a.at c.requires.3)

pub returns-in-Child : goal.returns-in-Child
returns-in-Child c =
    let a = c.args in subst (λ (x : Choice). Picks x a.s.now a.at (found undefined_mapping c.child_type.result)) (sym c.in-Child.is) c.child_type.ensures
