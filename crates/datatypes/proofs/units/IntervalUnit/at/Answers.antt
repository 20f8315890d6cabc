-- `at` meets its contract: in each arm the place is the pattern, and the definition computes there; in `_` no case has it. Assumes nothing.
use mathlib.Core.Path.{refl, sym}
use Rattle.datatypes.specs.Places.{interval_place}
use Rattle.datatypes.specs.At.{interval_units}
use Rattle.datatypes.proofs.AtLaws.{below, case_at, nowhere}
use Rattle.datatypes.proofs.units.IntervalUnit.at.Goals as goal

pub returns-in-0 : goal.returns-in-0
returns-in-0 c = case_at interval_place _ _ c.in-0.is interval_units

pub returns-in-1 : goal.returns-in-1
returns-in-1 c = case_at interval_place _ _ c.in-1.is interval_units

pub returns-in-2 : goal.returns-in-2
returns-in-2 c = case_at interval_place _ _ c.in-2.is interval_units

pub returns-in-3 : goal.returns-in-3
returns-in-3 c = case_at interval_place _ _ c.in-3.is interval_units

pub returns-in_default : goal.returns-in_default
returns-in_default c = sym (nowhere interval_place c.args.place (below 4) c.in_default.in_default-own.rest interval_units refl)
