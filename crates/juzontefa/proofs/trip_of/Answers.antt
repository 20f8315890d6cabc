-- `trip_of` meets its contract: by the cases of the answer. Assumes nothing.
use mathlib.Core.Path.{sym, ap}
use Rattle.juzontefa.specs.Trips.{trip_for}
use Rattle.juzontefa.proofs.trip_of.Goals as goal

pub returns-in-AllSame : goal.returns-in-AllSame
returns-in-AllSame c = ap trip_for (sym c.in-AllSame.is)

pub returns-in-ImportDiffers : goal.returns-in-ImportDiffers
returns-in-ImportDiffers c = ap trip_for (sym c.in-ImportDiffers.is)

pub returns-in-AgainDiffers : goal.returns-in-AgainDiffers
returns-in-AgainDiffers c = ap trip_for (sym c.in-AgainDiffers.is)
