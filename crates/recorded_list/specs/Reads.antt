-- What a reader of the list tells: of the things of a kind, each of which has its text, the one whose text stands from a place on and the place after
-- it; or that none of them stands there. No thing's text begins another's, so one answer alone is right (`ReadsLaws`). Assumes nothing.
use Rattle.std.specs.Prelude.{◌≡◌, Bool, true, List, ◌++◌, ℕ, ◌^◌, ◌≤◌, ltb, length, drop, Option, None, Some}
use Rattle.sheets.specs.Rule.{Meets}
use Rattle.sheets.specs.Bytes.{Bytes, all, is_byte}
use Rattle.recorded_list.specs.ListText.{Record, first_numbers, header_numbers}
use Rattle.recorded_list.specs.declared.records.FirstLine.{FirstLine}
use Rattle.recorded_list.specs.declared.records.Header.{Header}

-- the text t stands from place at to next
pub record TextBetween (s : Bytes) (at next : ℕ) (t : Bytes) : Type 0 where
  pub is : drop at s ≡ t ++ drop next s
  pub within : next ≤ length s

-- the text t does not stand from place at on
abbrev pub Missing : Bytes → ℕ → Bytes → Type 0
Missing s at t = (rest : Bytes) → drop at s ≡ t ++ rest → ⊥

-- the thing of the kind whose text stands from place at on, and the place after it
abbrev pub Reads : {A : Type 0} → (A → Type 0) → (A → Bytes) → Bytes → ℕ → Option (A × ℕ) → Type 0
Reads {A} Kind text s at None = (x : A) → Kind x → Missing s at (text x)
Reads {A} Kind text s at (Some p) = Kind p.0 × TextBetween s at p.1 (text p.0)

-- ── what is read

abbrev pub IsByte : ℕ → Type 0
IsByte b = is_byte b ≡ true

-- a number of 64 bits
abbrev pub is_word : ℕ → Bool
is_word n = ltb n (2 ^ 64)

-- so many "numbers .. unsigned 64-bit"
pub record IsNumbers (count : ℕ) (ns : List ℕ) : Type 0 where
  pub long : length ns ≡ count
  pub words : Meets (all is_word ns)

abbrev pub IsFirstLine : FirstLine → Type 0
IsFirstLine l = Meets (all is_word (first_numbers l))

abbrev pub IsHeader : Header → Type 0
IsHeader h = Meets (all is_word (header_numbers h))

-- so many bytes, which a buffer of so many holds
pub record IsPart (count room : ℕ) (x : Bytes) : Type 0 where
  pub long : length x ≡ count
  pub fits : count ≤ room
  pub bytes : Meets (all is_byte x)

-- a header that counts the bytes of both parts, which the buffers hold
pub record IsRecord (input_room output_room : ℕ) (r : Record) : Type 0 where
  pub header : IsHeader r.header
  pub input : IsPart r.header.input input_room r.input
  pub output : IsPart r.header.output output_room r.output
