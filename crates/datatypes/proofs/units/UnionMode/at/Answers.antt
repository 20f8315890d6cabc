-- `at` meets its contract: in each arm the place is the pattern, and the definition computes there; in `_` no case has it. Assumes nothing.
use mathlib.Core.Path.{refl, sym}
use Rattle.datatypes.specs.Places.{union_place}
use Rattle.datatypes.specs.At.{union_modes}
use Rattle.datatypes.proofs.AtLaws.{below, case_at, nowhere}
use Rattle.datatypes.proofs.units.UnionMode.at.Goals as goal

pub returns-in-0 : goal.returns-in-0
returns-in-0 c = case_at union_place _ _ c.in-0.is union_modes

pub returns-in-1 : goal.returns-in-1
returns-in-1 c = case_at union_place _ _ c.in-1.is union_modes

pub returns-in_default : goal.returns-in_default
returns-in_default c = sym (nowhere union_place c.args.place (below 2) c.in_default.in_default-own.rest union_modes refl)
