-- `PhysicalPlaces::of` meets its contract: the numbers are those of the physical type, or the reason's. Assumes nothing.
use mathlib.Core.Path.{sym, ap, ◌∙◌}
use Prim.Native.Nat.{ℕ}
use Rattle.sheets.specs.Answer.{given}
use Rattle.sheets.specs.Mappings.{PhysicalType as HostPhysical}
use Rattle.sheets.specs.Outcome.{Places, places}
use Rattle.mapping_calls.specs.Answers.{physical_places}
use Rattle.mapping_calls.proofs.physical.PhysicalPlaces.of.Goals as goal

abbrev numbered : ℕ → Places
numbered n = record { number = n; place = 0; inner = 0 }

pub returns-in-Ok : goal.returns-in-Ok
returns-in-Ok c = ap (λ (p : HostPhysical). places (given p)) c.places-p.ensures ∙ sym (ap physical_places c.in-Ok.is)

pub returns-in-Err : goal.returns-in-Err
returns-in-Err c = ap numbered c.number.ensures ∙ sym (ap physical_places c.in-Err.is)
