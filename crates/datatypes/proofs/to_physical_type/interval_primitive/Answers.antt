-- `interval_primitive` meets its contract: in each arm the unit is known, and the definition computes there; past the units it has the last. Assumes nothing.
use mathlib.Core.Path.{sym, ap, ◌∙◌}
use Rattle.sheets.specs.Mappings.{interval_physical}
use Rattle.datatypes.specs.Places.{interval_place}
use Rattle.datatypes.specs.declared.units.IntervalUnit.{IntervalUnit}
use Rattle.datatypes.proofs.PhysicalLaws.{interval_unit, interval_last}
use Rattle.datatypes.proofs.to_physical_type.interval_primitive.Goals as goal

pub returns-in_default : goal.returns-in_default
returns-in_default c = interval_last c.args.place (sym c.at.ensures ∙ c.in_default.is)

pub returns-in-YearMonth : goal.returns-in-YearMonth
returns-in-YearMonth c =
    ap (λ (u : IntervalUnit). interval_physical (interval_place u)) (sym c.in-YearMonth.is)
    ∙ interval_unit c.args.place _ (sym c.at.ensures ∙ c.in-Some.is)

pub returns-in-DayTime : goal.returns-in-DayTime
returns-in-DayTime c =
    ap (λ (u : IntervalUnit). interval_physical (interval_place u)) (sym c.in-DayTime.is)
    ∙ interval_unit c.args.place _ (sym c.at.ensures ∙ c.in-Some.is)

pub returns-in-MonthDayNano : goal.returns-in-MonthDayNano
returns-in-MonthDayNano c =
    ap (λ (u : IntervalUnit). interval_physical (interval_place u)) (sym c.in-MonthDayNano.is)
    ∙ interval_unit c.args.place _ (sym c.at.ensures ∙ c.in-Some.is)

pub returns-in-MonthDayMillis : goal.returns-in-MonthDayMillis
returns-in-MonthDayMillis c =
    ap (λ (u : IntervalUnit). interval_physical (interval_place u)) (sym c.in-MonthDayMillis.is)
    ∙ interval_unit c.args.place _ (sym c.at.ensures ∙ c.in-Some.is)
