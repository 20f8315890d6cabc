-- Demand 3 as two calls over lent buffers: `round_trip` takes a field sheet out and back and compares, `same_exports` compares two field sheets.
-- Each has four steps, in order; the first that is refused is the answer, and then every lent byte is zero. Else the answer compares what was
-- written, and each buffer is left as its step's outcome says. Both take the order of the metadata (document 02, #104), and the exports and the import are
-- all in it. `proofs/RoundTripLaws.antt` and `proofs/SameExportsLaws.antt` have what holds of them.
-- Assumes nothing.
use Rattle.std.specs.Prelude.{◌≡◌, Bool, true, false, cond, ℕ, eqb, length, replicate}
use Rattle.sheets.specs.Bytes.{Bytes, same}
use Rattle.sheets.specs.Outcome.{Outcome, success, import_outcome_in, export_outcome_in, export_outcome_as, plain_outcome}
use Rattle.sheets.specs.Demand3.{IsShort, HasRoom, written, Exportable, export_of, plain_form_of}

-- four outcomes, in the order of the steps
pub record Steps : Type 0 where
  pub first : Outcome
  pub second : Outcome
  pub third : Outcome
  pub fourth : Outcome

-- what four lent buffers hold
pub record Buffers : Type 0 where
  pub first : Bytes
  pub second : Bytes
  pub third : Bytes
  pub fourth : Bytes

-- as their steps left them
abbrev pub step_buffers : Steps → Buffers
step_buffers s = record { first = s.first.buffer; second = s.second.buffer; third = s.third.buffer; fourth = s.fourth.buffer }

-- all zeros
abbrev pub cleared : Buffers → Buffers
cleared out =
    record { first = replicate (length out.first) 0; second = replicate (length out.second) 0; third = replicate (length out.third) 0; fourth = replicate (length out.fourth) 0 }

-- "Refusal is the number with length 0, yes/no answers 0, output all zeros": the refusal of a step is the call's, and all four buffers are its output
abbrev pub buffers_after : ℕ → Steps → Buffers → Buffers
buffers_after number s out = cond (eqb number 0) (step_buffers s) (cleared out)

-- the refusal of a step; else what follows
abbrev pub or_refused : {A : Type 0} → Outcome → (ℕ → A) → A → A
or_refused o refused next = cond (eqb o.number 0) next (refused o.number)

-- "equal if their lengths are and every byte within the length is"
abbrev pub same_written : Outcome → Outcome → Bool
same_written x y = same (written x) (written y)

-- ── `round_trip`

pub data RoundTrip : Type 0 where
  -- "importing its export answers 0 and gives its plain form, byte for byte; exporting the plain form gives the same bytes as exporting the field"
  all_same : RoundTrip
  -- a step was refused, the first that was, with its number
  export_refused : ℕ → RoundTrip
  import_refused : ℕ → RoundTrip
  plain_refused : ℕ → RoundTrip
  again_refused : ℕ → RoundTrip
  -- what import gave is not the plain form
  import_differs : RoundTrip
  -- the export of the plain form is not the export of the field
  again_differs : RoundTrip

-- the number of this paper in each case: the refused step's, else 0
abbrev pub round_trip_number : RoundTrip → ℕ
round_trip_number all_same = 0
round_trip_number (export_refused n) = n
round_trip_number (import_refused n) = n
round_trip_number (plain_refused n) = n
round_trip_number (again_refused n) = n
round_trip_number import_differs = 0
round_trip_number again_differs = 0

-- the export of the sheet, the import of what that wrote, the plain form of the sheet, the export of what that wrote; both exports are strict (document 02,
-- #106), or neither
abbrev pub trip_steps : Bool → Bool → Bytes → Buffers → Steps
trip_steps strict big sheet out =
    record {
      first = export_outcome_as strict big sheet out.first;
      second = import_outcome_in big (written (export_outcome_as strict big sheet out.first)) out.second;
      third = plain_outcome sheet out.third;
      fourth = export_outcome_as strict big (written (plain_outcome sheet out.third)) out.fourth;
    }

-- the first refusal; else whether the second is the third, and the fourth the first
abbrev pub trip_answer : Steps → RoundTrip
trip_answer s =
    or_refused s.first export_refused
    (or_refused s.second import_refused
    (or_refused s.third plain_refused
    (or_refused s.fourth again_refused
    (cond (same_written s.second s.third) (cond (same_written s.fourth s.first) all_same again_differs) import_differs))))

pub record RoundTripOutcome : Type 0 where
  pub answer : RoundTrip
  pub buffers : Buffers

-- what four steps answer, and what they leave in the buffers
abbrev pub trip_outcome : Steps → Buffers → RoundTripOutcome
trip_outcome s out = record { answer = trip_answer s; buffers = buffers_after (round_trip_number (trip_answer s)) s out }

-- whether both exports are strict, the order, a field sheet, then what the four lent buffers held
abbrev pub round_trip_outcome_as : Bool → Bool → Bytes → Buffers → RoundTripOutcome
round_trip_outcome_as strict big sheet out = trip_outcome (trip_steps strict big sheet out) out

-- by the present export
abbrev pub round_trip_outcome_in : Bool → Bytes → Buffers → RoundTripOutcome
round_trip_outcome_in big sheet out = round_trip_outcome_as false big sheet out

-- by the strict one
abbrev pub strict_round_trip_outcome : Bool → Bytes → Buffers → RoundTripOutcome
strict_round_trip_outcome big sheet out = round_trip_outcome_as true big sheet out

-- little-endian
abbrev pub round_trip_outcome : Bytes → Buffers → RoundTripOutcome
round_trip_outcome sheet out = round_trip_outcome_in false sheet out

-- ── `same_exports`

pub data SameExports : Type 0 where
  -- whether the exports are equal, and whether the plain forms are
  compared : Bool → Bool → SameExports
  -- a step was refused, the first that was, with its number
  one_export_refused : ℕ → SameExports
  other_export_refused : ℕ → SameExports
  one_plain_refused : ℕ → SameExports
  other_plain_refused : ℕ → SameExports

-- the number of this paper in each case: the refused step's, else 0
abbrev pub same_exports_number : SameExports → ℕ
same_exports_number (compared exports plains) = 0
same_exports_number (one_export_refused n) = n
same_exports_number (other_export_refused n) = n
same_exports_number (one_plain_refused n) = n
same_exports_number (other_plain_refused n) = n

-- the exports of the two sheets, then their plain forms
abbrev pub pair_steps : Bool → Bytes → Bytes → Buffers → Steps
pair_steps big one other out =
    record {
      first = export_outcome_in big one out.first;
      second = export_outcome_in big other out.second;
      third = plain_outcome one out.third;
      fourth = plain_outcome other out.fourth;
    }

-- the first refusal; else "two such fields export to the same bytes", and "their plain forms are equal"
abbrev pub pair_answer : Steps → SameExports
pair_answer s =
    or_refused s.first one_export_refused
    (or_refused s.second other_export_refused
    (or_refused s.third one_plain_refused
    (or_refused s.fourth other_plain_refused (compared (same_written s.first s.second) (same_written s.third s.fourth)))))

pub record SameExportsOutcome : Type 0 where
  pub answer : SameExports
  pub buffers : Buffers

-- the order, two field sheets, then what the four lent buffers held
abbrev pub same_exports_outcome : Bool → Bytes → Bytes → Buffers → SameExportsOutcome
same_exports_outcome big one other out =
    record { answer = pair_answer (pair_steps big one other out); buffers = buffers_after (same_exports_number (pair_answer (pair_steps big one other out))) (pair_steps big one other out) out }

-- ── demand 3 through these calls; `proofs/SameExportsLaws.antt` proves it (`demand3_called : (big : Bool) → Demand3Called big`)

-- "room in the buffers"
pub record TripRoom {big : Bool} (e : Exportable big) (out : Buffers) : Type 0 where
  pub first : HasRoom out.first (export_of e)
  pub second : HasRoom out.second (plain_form_of e)
  pub third : HasRoom out.third (plain_form_of e)
  pub fourth : HasRoom out.fourth (export_of e)

pub record PairRoom {big : Bool} (d e : Exportable big) (out : Buffers) : Type 0 where
  pub first : HasRoom out.first (export_of d)
  pub second : HasRoom out.second (export_of e)
  pub third : HasRoom out.third (plain_form_of d)
  pub fourth : HasRoom out.fourth (plain_form_of e)

-- four sheets, each in its buffer: "Success is 0 with the length; bytes past it keep what they held"
abbrev pub four_sheets : Bytes → Bytes → Bytes → Bytes → Buffers → Steps
four_sheets x y p z out = record { first = success x out.first; second = success y out.second; third = success p out.third; fourth = success z out.fourth }

pub record Demand3Called (big : Bool) : Type 0 where
  -- "importing its export answers 0 and gives its plain form, byte for byte; exporting the plain form gives the same bytes as exporting the
  -- field": all is the same, and the buffers have the export, the plain form twice, and the export
  pub round_trips : (e : Exportable big) (out : Buffers) → TripRoom e out → IsShort (plain_form_of e)
      → round_trip_outcome_in big e.sheet out ≡ record { answer = all_same; buffers = step_buffers (four_sheets (export_of e) (plain_form_of e) (plain_form_of e) (export_of e) out) }
  -- "two such fields export to the same bytes exactly when their plain forms are equal": one truth value, twice
  pub compares_alike : (d e : Exportable big) (out : Buffers) → PairRoom d e out
      → same_exports_outcome big d.sheet e.sheet out
      ≡ record { answer = compared (same (export_of d) (export_of e)) (same (export_of d) (export_of e)); buffers = step_buffers (four_sheets (export_of d) (export_of e) (plain_form_of d) (plain_form_of e) out) }
