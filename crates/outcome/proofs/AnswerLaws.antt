-- The two ways out of `written`, and a refusal after something was written: the buffer's length is all that zeros are told by. From what the writer of a
-- sheet tells to the outcome of its call, and to its measure. Assumes nothing.
use mathlib.Core.Path.{◌≡◌, sym, ap, subst, ◌∙◌}
use mathlib.Core.List.{◌++◌}
use Rattle.std.specs.Prelude.{Result, Ok}
use mathlib.Core.Logic.{◌≢◌}
use Rattle.refusal.specs.Refusals.{refusal_of}
use Prim.Native.Nat.{ℕ, ◌≤◌, ◌<◌}
use native.Mathlib.Omega.{arith}
use lib.ListN.{length, drop, replicate}
use Rattle.sheets.specs.Bytes.{Bytes}
use Rattle.sheets.specs.Refusal.{Refusal, number_of, no_room}
use Rattle.sheets.specs.Answer.{Answer, refused, given}
use Rattle.sheets.specs.Outcome.{Outcome, success, refusal, outcome, Measure, measure}
use Rattle.sheets.proofs.OutcomeLaws.{number_range, turned, fits, fits_not}
use Rattle.buffer.proofs.OverLaws.{over_fits, length_over}
use Rattle.outcome.specs.Answers.{refused_number, outcome_of, Tells, SheetTold, refused_measure}
use Rattle.outcome.specs.declared.Refused.{Refused}
use Rattle.outcome.specs.declared.Refused.TheVariants.{Sheet, NoRoom}
use Rattle.outcome.specs.declared.Size.{Size}

-- no refusal has the number of success
pub refused_some : (r : Refused) → refused_number r ≢ 0
refused_some (Sheet q) = λ z. omega (arith, (number_range (refusal_of q)).0, z)
refused_some NoRoom = λ z. omega (arith, z)

-- what was written before a refusal is not seen
pub refusal_over : (n : ℕ) (mid out : Bytes) → length mid ≡ length out → refusal n mid ≡ refusal n out
refusal_over n mid out l = λ i. record { number = n; size = 0; buffer = replicate (l i) 0 }

module _ (mid : Bytes) (len : ℕ) where
  -- longer than the buffer
  pub too_long : length mid < len → (r : Result ℕ Refused) (out' : Bytes) → outcome_of r out' ≡ refusal no_room mid → Tells mid len r out'
  too_long l r out' e x out (long, laid) =
      let same : length mid ≡ length out = ap length laid ∙ length_over x out in
      e ∙ refusal_over no_room mid out same ∙ sym (fits_not x out (omega (arith, same, long)))

  pub written_whole : len ≤ length mid → Tells mid len (Ok len) mid
  written_whole l x out (long, laid) =
      let same : length mid ≡ length out = ap length laid ∙ length_over x out in
      let fit : length x ≤ length out = omega (arith, same, long) in
      let p : mid ≡ x ++ drop (length x) out = laid ∙ over_fits x out fit in
      let q : outcome_of (Ok len) mid ≡ success x out = λ i. record { number = 0; size = long i; buffer = p i } in
      q ∙ sym (fits x out fit)

-- ── the outcome of a call that answers the sheet a

module _ (a : Answer Bytes) (out mid : Bytes) where
  pub told_refused : (q : Refusal) (o : Outcome) → a ≡ refused q → o ≡ refusal (number_of q) mid → length mid ≡ length out → o ≡ outcome a out
  told_refused q o i c l = c ∙ refusal_over (number_of q) mid out l ∙ sym (turned q out) ∙ ap (λ (y : Answer Bytes). outcome y out) (sym i)

  pub told_done : (n : ℕ) (z : Answer (ℕ × Size)) (next : ℕ) (size : Size) → z ≡ given (next, size) → SheetTold a n out mid z → (r : Result ℕ Refused) (out' : Bytes) → Tells mid size.len r out'
      → outcome_of r out' ≡ outcome a out
  told_done n z next size e h r out' c =
      let (x, is, put, counted) = subst (λ (y : Answer (ℕ × Size)). SheetTold a n out mid y) e h in
      c x out put ∙ ap (λ (y : Answer Bytes). outcome y out) (sym is)

-- ── the measure of a call that would answer the sheet a, for which n lines are visited

module _ (a : Answer Bytes) (n : ℕ) where
  pub measure_refused : (q : Refusal) (m : Measure) → a ≡ refused q → m ≡ refused_measure q → m ≡ measure a n
  measure_refused q m i c = c ∙ ap (λ (y : Answer Bytes). measure y n) (sym i)

  pub measure_done : (out mid : Bytes) (z : Answer (ℕ × Size)) (next : ℕ) (size : Size) → z ≡ given (next, size) → SheetTold a n out mid z
      → (m : Measure) → m ≡ record { number = 0; size = size.len; lines = size.lines } → m ≡ measure a n
  measure_done out mid z next size e h m c =
      let (x, is, put, counted) = subst (λ (y : Answer (ℕ × Size)). SheetTold a n out mid y) e h in
      let same : ◌≡◌ {A = Measure} (record { number = 0; size = size.len; lines = size.lines }) (measure (given x) n) = λ i. record { number = 0; size = put.0 i; lines = counted i } in
      c ∙ same ∙ ap (λ (y : Answer Bytes). measure y n) (sym is)
