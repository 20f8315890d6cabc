-- What a host gets of an answer: of a sheet the number and the length; of a measure these and the number of lines; of a physical type the number and two
-- places; of a yes or no the number and 1 or 0. Assumes nothing.
use Rattle.std.specs.Prelude.{Bool, ℕ, Result}
use Rattle.sheets.specs.Outcome.{Measure as MeasureOutcome, Places as PlacesOutcome, YesNo as YesNoOutcome}
use Rattle.refusal.specs.Refusals.{Refusing}
use Rattle.outcome.specs.declared.Refused.{Refused}
use Rattle.outcome.specs.declared.Size.{Size}
use Rattle.outcome.specs.Answers.{number_told, length_told, measure_of}
use Rattle.mapping_calls.specs.Answers.{yes_no_of}
use Rattle.mapping_calls.specs.declared.physical.PhysicalPlaces.{PhysicalPlaces}
use Rattle.juzontefa.specs.declared.Answer.{Answer}
use Rattle.juzontefa.specs.declared.Measure.{Measure}
use Rattle.juzontefa.specs.declared.Places.{Places}
use Rattle.juzontefa.specs.declared.YesNo.{YesNo}

abbrev pub answer_for : Result ℕ Refused → Answer
answer_for a = record { number = number_told a; length = length_told a }

abbrev pub measure_for : Refusing Size → Measure
measure_for m = record { number = (measure_of m).number; length = (measure_of m).size; lines = (measure_of m).lines }

abbrev pub places_for : PhysicalPlaces → Places
places_for p = record { number = p.number; place = p.place; inner = p.inner }

abbrev pub yes_no_for : Refusing Bool → YesNo
yes_no_for a = record { number = (yes_no_of a).number; answer = (yes_no_of a).answer }

-- the answers of the definitions that they are
abbrev pub measure_told : Measure → MeasureOutcome
measure_told r = record { number = r.number; size = r.length; lines = r.lines }

abbrev pub places_told : Places → PlacesOutcome
places_told r = record { number = r.number; place = r.place; inner = r.inner }

abbrev pub yes_no_told : YesNo → YesNoOutcome
yes_no_told r = record { number = r.number; answer = r.answer }
