-- What a host gets of a round trip: the answer by its place, the number of the refusal, and the four buffers. Assumes nothing.
use Rattle.std.specs.Prelude.{ℕ}
use Rattle.round_trips.specs.declared.RoundTrip.{RoundTrip as Told}
use Rattle.round_trips.specs.Trips.{trip_told}
use Rattle.juzontefa.specs.declared.Trip.{Trip}
use Rattle.sheets.specs.RoundTrip.{Buffers, RoundTrip, all_same, export_refused, import_refused, plain_refused, again_refused, import_differs, again_differs, round_trip_number, RoundTripOutcome}

-- the places of the answers, as `include/juzontefa.h` names them
abbrev pub trip_place : RoundTrip → ℕ
trip_place all_same = 0
trip_place (export_refused n) = 1
trip_place (import_refused n) = 2
trip_place (plain_refused n) = 3
trip_place (again_refused n) = 4
trip_place import_differs = 5
trip_place again_differs = 6

-- the same of the code's enumeration
abbrev pub trip_for : Told → Trip
trip_for t = record { answer = trip_place (trip_told t); number = round_trip_number (trip_told t) }

pub record HostTrip : Type 0 where
  pub answer : ℕ
  pub number : ℕ
  pub buffers : Buffers

abbrev pub host_told : ℕ → ℕ → Buffers → HostTrip
host_told answer number buffers = record { answer = answer; number = number; buffers = buffers }

abbrev pub host_trip : RoundTripOutcome → HostTrip
host_trip o = host_told (trip_place o.answer) (round_trip_number o.answer) o.buffers
