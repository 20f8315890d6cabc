-- The answers of `round_trip` and `same_exports`, and the four buffers after them, as the outcomes that the definitions give. Assumes nothing.
use Rattle.std.specs.Prelude.{◌≡◌, ◌≢◌, length, replicate, Ok}
use Rattle.sheets.specs.Bytes.{Bytes}
use Rattle.sheets.specs.Outcome.{Outcome}
use Rattle.sheets.specs.RoundTrip.{Buffers, RoundTripOutcome, SameExportsOutcome}
use Rattle.sheets.specs.RoundTrip as S
use Rattle.outcome.specs.Answers.{refused_number, outcome_of}
use Rattle.round_trips.specs.declared.TwoSteps.{TwoSteps}
use Rattle.round_trips.specs.declared.RoundTrip.{RoundTrip}
use Rattle.round_trips.specs.declared.SameExports.{SameExports}

-- each case of the enum
abbrev pub trip_told : RoundTrip → S.RoundTrip
trip_told RoundTrip.AllSame = S.all_same
trip_told (RoundTrip.ExportRefused r) = S.export_refused (refused_number r)
trip_told (RoundTrip.ImportRefused r) = S.import_refused (refused_number r)
trip_told (RoundTrip.PlainRefused r) = S.plain_refused (refused_number r)
trip_told (RoundTrip.AgainRefused r) = S.again_refused (refused_number r)
trip_told RoundTrip.ImportDiffers = S.import_differs
trip_told RoundTrip.AgainDiffers = S.again_differs

abbrev pub pair_told : SameExports → S.SameExports
pair_told (SameExports.Compared x y) = S.compared x y
pair_told (SameExports.OneExportRefused r) = S.one_export_refused (refused_number r)
pair_told (SameExports.OtherExportRefused r) = S.other_export_refused (refused_number r)
pair_told (SameExports.OnePlainRefused r) = S.one_plain_refused (refused_number r)
pair_told (SameExports.OtherPlainRefused r) = S.other_plain_refused (refused_number r)

abbrev pub four : Bytes → Bytes → Bytes → Bytes → Buffers
four a b c d = record { first = a; second = b; third = c; fourth = d }

-- the answer and every byte of the buffers
abbrev pub trip_of : RoundTrip → Buffers → RoundTripOutcome
trip_of r out = record { answer = trip_told r; buffers = out }

abbrev pub pair_of : SameExports → Buffers → SameExportsOutcome
pair_of r out = record { answer = pair_told r; buffers = out }

-- ── two steps with the outcomes x and y, over the buffers a and b, which are a' and b' after them

-- all zeros
abbrev pub Zeros : Bytes → Bytes → Type 0
Zeros out out' = out' ≡ replicate (length out) 0

abbrev pub Told : Outcome → Outcome → Bytes → Bytes → Bytes → Bytes → TwoSteps → Type 0
Told x y a b a' b' (TwoSteps.Written n m) = (outcome_of (Ok n) a' ≡ x) × (outcome_of (Ok m) b' ≡ y)
Told x y a b a' b' (TwoSteps.FirstRefused r) = (x.number ≡ refused_number r) × (refused_number r ≢ 0) × Zeros a a' × Zeros b b'
Told x y a b a' b' (TwoSteps.SecondRefused r) = (x.number ≡ 0) × (y.number ≡ refused_number r) × (refused_number r ≢ 0) × Zeros a a' × Zeros b b'
