-- `at` meets its contract: in each arm the place is the pattern, and the definition computes there; in `_` no case has it. Assumes nothing.
use mathlib.Core.Path.{refl, sym}
use Rattle.datatypes.specs.Places.{integer_place}
use Rattle.datatypes.specs.At.{integer_types}
use Rattle.datatypes.proofs.AtLaws.{below, case_at, nowhere}
use Rattle.datatypes.proofs.IntegerType.at.Goals as goal

pub returns-in-0 : goal.returns-in-0
returns-in-0 c = case_at integer_place _ _ c.in-0.is integer_types

pub returns-in-1 : goal.returns-in-1
returns-in-1 c = case_at integer_place _ _ c.in-1.is integer_types

pub returns-in-2 : goal.returns-in-2
returns-in-2 c = case_at integer_place _ _ c.in-2.is integer_types

pub returns-in-3 : goal.returns-in-3
returns-in-3 c = case_at integer_place _ _ c.in-3.is integer_types

pub returns-in-4 : goal.returns-in-4
returns-in-4 c = case_at integer_place _ _ c.in-4.is integer_types

pub returns-in-5 : goal.returns-in-5
returns-in-5 c = case_at integer_place _ _ c.in-5.is integer_types

pub returns-in-6 : goal.returns-in-6
returns-in-6 c = case_at integer_place _ _ c.in-6.is integer_types

pub returns-in-7 : goal.returns-in-7
returns-in-7 c = case_at integer_place _ _ c.in-7.is integer_types

pub returns-in-8 : goal.returns-in-8
returns-in-8 c = case_at integer_place _ _ c.in-8.is integer_types

pub returns-in-9 : goal.returns-in-9
returns-in-9 c = case_at integer_place _ _ c.in-9.is integer_types

pub returns-in_default : goal.returns-in_default
returns-in_default c = sym (nowhere integer_place c.args.place (below 10) c.in_default.in_default-own.rest integer_types refl)
