-- The answer of a call, and the lent buffer after it, as the outcome that the definitions give. Assumes nothing.
use Rattle.std.specs.Prelude.{◌≡◌, ℕ, Result, Ok, Err}
use Rattle.sheets.specs.Bytes.{Bytes}
use Rattle.sheets.specs.Answer.{Answer, refused, given}
use Rattle.sheets.specs.Refusal.{Refusal, number_of, no_room}
use Rattle.sheets.specs.Outcome.{Outcome, outcome, Measure, measure}
use Rattle.buffer.specs.Over.{PutFirst}
use Rattle.refusal.specs.Refusals.{refusal_of, Refusing}
use Rattle.outcome.specs.declared.Refused.{Refused}
use Rattle.outcome.specs.declared.Refused.TheVariants.{Sheet, NoRoom}
use Rattle.outcome.specs.declared.Size.{Size}

-- the number of each reason
abbrev pub refused_number : Refused → ℕ
refused_number (Sheet r) = number_of (refusal_of r)
refused_number NoRoom = no_room

-- 0 and the length, or the number of the refusal and 0
abbrev pub number_told : Result ℕ Refused → ℕ
number_told (Ok n) = 0
number_told (Err r) = refused_number r

abbrev pub length_told : Result ℕ Refused → ℕ
length_told (Ok n) = n
length_told (Err r) = 0

-- number, length, and every byte of the buffer
abbrev pub numbers_outcome : ℕ → ℕ → Bytes → Outcome
numbers_outcome number size out = record { number = number; size = size; buffer = out }

abbrev pub outcome_of : Result ℕ Refused → Bytes → Outcome
outcome_of r out = numbers_outcome (number_told r) (length_told r) out

-- the buffer held a sheet of len bytes over what it held before, as far as it fits: the outcome is that of the sheet
abbrev pub Tells : Bytes → ℕ → Result ℕ Refused → Bytes → Type 0
Tells mid len r out' = (x out : Bytes) → PutFirst x len out mid → outcome_of r out' ≡ outcome (given x) out

-- The sheet a was to be answered, for which n lines are visited: it is written over the buffer as far as it fits, and its size told, or it is refused. The
-- first number tells its writer where the reading goes on.
abbrev pub SheetTold : Answer Bytes → ℕ → Bytes → Bytes → Answer (ℕ × Size) → Type 0
SheetTold a n out out' (refused q) = a ≡ refused q
SheetTold a n out out' (given (next, size)) = (x : Bytes) × (a ≡ given x) × PutFirst x size.len out out' × (size.lines ≡ n)

-- ── measures

abbrev pub refused_measure : Refusal → Measure
refused_measure r = measure (refused r) 0

-- number, length and lines
abbrev pub measure_of : Refusing Size → Measure
measure_of (Ok s) = record { number = 0; size = s.len; lines = s.lines }
measure_of (Err r) = refused_measure (refusal_of r)
