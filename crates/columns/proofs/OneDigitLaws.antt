-- A column of one digit reads as that digit. Assumes nothing.
use mathlib.Core.Path.{◌≡◌, refl, ap, ◌∙◌}
use mathlib.Core.Bool.{true, false}
use mathlib.Core.List.{[], ◌∷◌}
use Prim.Native.Nat.{ℕ, ◌+◌, ◌-◌, ◌≤◌, ◌<◌}
use lib.Dec.{leb}
use lib.IntN.{pos}
use lib.ListN.{get_or}
use native.Mathlib.Omega.{arith}
use borrow.Author.Tests.{le-leb, lt-leb, lt-ltb, leb-true, ne_eqb}
use Rattle.sheets.specs.Refusal.{bad_lines}
use Rattle.sheets.specs.Rule.{is, ◌and◌}
use Rattle.sheets.specs.Bytes.{Bytes, all}
use Rattle.sheets.specs.Answer.{Answer, given, ◌>>=◌}
use Rattle.sheets.specs.Number.{is_digit, value_from, lean, read_number, read_signed}
use Rattle.sheets.proofs.Tests.{and_left, and_right, when_met}
use Rattle.columns.specs.Columns.{part, is_stop, past_space, ColumnAt}
use Rattle.columns.specs.NumberColumns.{number_in, signed_in}
use Rattle.columns.proofs.OneByteLaws.{One, one_past, one_part, one_column}
use Rattle.columns.proofs.NumberFindLaws.{column_number, column_signed}

-- ── a digit

pub digit_low : (b : ℕ) → is_digit b ≡ true → 48 ≤ b
digit_low b h = leb-true 48 b (and_left (leb 48 b) (leb b 57) h)

pub digit_high : (b : ℕ) → is_digit b ≡ true → b ≤ 57
digit_high b h = leb-true b 57 (and_right (leb 48 b) (leb b 57) h)

pub digit_past : (b : ℕ) → is_digit b ≡ true → past_space b ≡ true
digit_past b h = lt-ltb 32 b (omega (arith, digit_low b h))

pub digit_not : (b : ℕ) → b < 48 → is_digit b ≡ false
digit_not b h = rw (lt-leb 48 b h)

pub digit_to_9 : (b : ℕ) → 48 ≤ b → is_digit b ≡ leb b 57
digit_to_9 b h = rw (le-leb 48 b h)

reads_digit : (b : ℕ) → is_digit b ≡ true → read_number (b ∷ []) ≡ given (b - 48)
reads_digit b h =
    let value : value_from 0 (b ∷ []) ≡ b - 48 = omega arith in
    when_met bad_lines (is (lean (b ∷ [])) and all is_digit (b ∷ [])) (value_from 0 (b ∷ [])) (refl, (h, refl)) ∙ ap given value

reads_signed : (b : ℕ) → is_digit b ≡ true → read_signed (b ∷ []) ≡ given (pos (b - 48))
reads_signed b h = rw (ne_eqb b 45 (λ e. omega (arith, digit_low b h))) (ap (λ (a : Answer ℕ). a >>= λ n. given (pos n)) (reads_digit b h))

-- ── its column

module _ {s : Bytes} {a stop : ℕ} (d : One is_digit s a stop) where
  past : One past_space s a stop
  past = one_past is_digit digit_past stop s a d

  pub digit_column : ColumnAt s a (a + 1) stop
  digit_column = one_column past

  pub digit_reads : read_number (part s a (a + 1)) ≡ given (get_or s a 0 - 48)
  digit_reads = ap read_number (one_part past) ∙ reads_digit (get_or s a 0) d.holds

  pub signed_reads : read_signed (part s a (a + 1)) ≡ given (pos (get_or s a 0 - 48))
  signed_reads = ap read_signed (one_part past) ∙ reads_signed (get_or s a 0) d.holds

  pub digit_number : is_stop stop ≡ true → number_in stop s a ≡ given (get_or s a 0 - 48, a + 1)
  digit_number stops = column_number stops digit_column (get_or s a 0 - 48) digit_reads (omega (arith, digit_high (get_or s a 0) d.holds))

  pub digit_signed : is_stop stop ≡ true → signed_in stop s a ≡ given (pos (get_or s a 0 - 48), a + 1)
  digit_signed stops = column_signed stops digit_column (pos (get_or s a 0 - 48)) signed_reads (omega (arith, digit_high (get_or s a 0) d.holds))
