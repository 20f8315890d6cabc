-- What the calls that answer numbers tell, as the answer that the definitions give (sheets/specs/Outcome). Assumes nothing.
use Rattle.std.specs.Prelude.{Bool, true, false, Ok, Err}
use Rattle.sheets.specs.Answer.{refused, given}
use Rattle.sheets.specs.Outcome.{YesNo, yes_no, Places, places}
use Rattle.refusal.specs.Refusals.{refusal_of, Refusing, answer_of}
use Rattle.datatypes.specs.PhysicalPlaces.{physical_of}
use Rattle.nesting.specs.declared.Nesting.{Nesting}
use Rattle.nesting.specs.declared.Nesting.TheVariants as N
use Rattle.mapping_calls.specs.declared.physical.PhysicalPlaces.{PhysicalPlaces}
use Rattle.datatypes.specs.declared.physical_type.PhysicalType.{PhysicalType}

-- 0 and 1 for yes, 0 for no; or the number of the refusal, and 0
abbrev pub yes_no_of : Refusing Bool → YesNo
yes_no_of r = yes_no (answer_of r)

-- `is_nested` by how a type holds others
abbrev pub nesting_nested : Nesting → Bool
nesting_nested N.Nothing = false
nesting_nested N.List = true
nesting_nested N.Map = true
nesting_nested N.Fields = true
nesting_nested N.Dictionary = true
nesting_nested N.Extension = true

-- what the host gets of a physical type
abbrev pub places_of : PhysicalPlaces → Places
places_of r = record { number = r.number; place = r.place; inner = r.inner }

-- the numbers of document 01 for each case of the answer
abbrev pub physical_places : Refusing PhysicalType → Places
physical_places (Ok t) = places (given (physical_of t))
physical_places (Err r) = places (refused (refusal_of r))
