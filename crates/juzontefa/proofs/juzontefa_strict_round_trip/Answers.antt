-- `juzontefa_strict_round_trip` meets its contract: the answer's place and number, and the buffers as `round_trip` leaves them. Assumes nothing.
use mathlib.Core.Path.{ap, ◌∙◌}
use Rattle.round_trips.specs.Trips.{four}
use Rattle.juzontefa.specs.declared.Trip.{Trip}
use Rattle.juzontefa.specs.Trips.{host_told, host_trip}
use Rattle.juzontefa.proofs.juzontefa_strict_round_trip.Goals as goal

pub returns : goal.returns
returns c =
    let r = c.round_trip in
    let b = four r.new.first r.new.second r.new.third r.new.fourth in
    ap (λ (t : Trip). host_told t.answer t.number b) c.trip_of.ensures ∙ ap host_trip r.ensures
