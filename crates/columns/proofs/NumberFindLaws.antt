-- From the column that was found to what the readers of numbers tell of it. `FindsNumber` and `FindsSigned` say it of every column that could stand
-- there, for callers that compare with one: what is not read at the column's end is read nowhere, since a column has one end. Assumes nothing.
use mathlib.Core.Path.{◌≡◌, sym, subst, ◌∙◌}
use mathlib.Core.Bool.{true}
use Rattle.std.specs.Prelude.{None, Some}
use Prim.Native.Nat.{ℕ, ◌^◌, ◌<◌}
use lib.IntN.{ℤ}
use lib.Signed.{mag}
use Rattle.sheets.specs.Refusal.{bad_lines}
use Rattle.sheets.specs.Bytes.{Bytes}
use Rattle.sheets.specs.Answer.{Answer, refused, given, ◌>>=◌, found}
use Rattle.sheets.specs.Number.{read_number, read_signed}
use Rattle.sheets.proofs.Tests.{not_given, same_given, first_gave}
use Rattle.sheets.proofs.FormatLaws.{found_some}
use Rattle.decimal.specs.Column.{column_below, signed_column}
use Rattle.decimal.proofs.ColumnLaws.{column_within, column_given, signed_within, signed_given}
use Rattle.columns.specs.Columns.{part, is_stop, column_end, ColumnAt}
use Rattle.columns.specs.NumberColumns.{number_in, signed_in}
use Rattle.columns.proofs.ColumnLaws.{column_there, column_same}

module _ (stop : ℕ) (s : Bytes) (a : ℕ) where
  pub number_none : column_end stop s a ≡ None → number_in stop s a ≡ refused bad_lines
  unfolding number_in
  number_none h = rw h

  pub signed_none : column_end stop s a ≡ None → signed_in stop s a ≡ refused bad_lines
  unfolding signed_in
  signed_none h = rw h

  module _ (e : ℕ) (h : column_end stop s a ≡ Some e) where
    pub number_bad : column_below (2 ^ 64) (part s a e) ≡ refused bad_lines → number_in stop s a ≡ refused bad_lines
    unfolding number_in
    number_bad k = rw h (rw k)

    pub number_there : (n : ℕ) → column_below (2 ^ 64) (part s a e) ≡ given n → number_in stop s a ≡ given (n, e)
    unfolding number_in
    number_there n k = rw h (rw k)

    pub signed_bad : signed_column (2 ^ 63) (part s a e) ≡ refused bad_lines → signed_in stop s a ≡ refused bad_lines
    unfolding signed_in
    signed_bad k = rw h (rw k)

    pub signed_there : (z : ℤ) → signed_column (2 ^ 63) (part s a e) ≡ given z → signed_in stop s a ≡ given (z, e)
    unfolding signed_in
    signed_there z k = rw h (rw k)

-- the column that stands there
module _ {s : Bytes} {a e stop : ℕ} (is : is_stop stop ≡ true) (c : ColumnAt s a e stop) where
  pub column_number : (n : ℕ) → read_number (part s a e) ≡ given n → n < 2 ^ 64 → number_in stop s a ≡ given (n, e)
  column_number n h l = number_there stop s a e (column_same is c) n (column_within (2 ^ 64) (part s a e) n h l)

  pub column_signed : (z : ℤ) → read_signed (part s a e) ≡ given z → mag z < 2 ^ 63 → signed_in stop s a ≡ given (z, e)
  column_signed z h l = signed_there stop s a e (column_same is c) z (signed_within (2 ^ 63) (part s a e) z h l)

-- ── every column that could stand there

-- a number of 64 bits, and its end; else there is none
abbrev pub FindsNumber : Bytes → ℕ → ℕ → Answer (ℕ × ℕ) → Type 0
FindsNumber s a stop (given p) = ColumnAt s a p.1 stop × (read_number (part s a p.1) ≡ given p.0) × (p.0 < 2 ^ 64)
FindsNumber s a stop (refused r) = (e n : ℕ) → ColumnAt s a e stop → read_number (part s a e) ≡ given n → n < 2 ^ 64 → ⊥

-- a signed number of 64 bits, and its end; else there is none
abbrev pub FindsSigned : Bytes → ℕ → ℕ → Answer (ℤ × ℕ) → Type 0
FindsSigned s a stop (given p) = ColumnAt s a p.1 stop × (read_signed (part s a p.1) ≡ given p.0) × (mag p.0 < 2 ^ 63)
FindsSigned s a stop (refused r) = (e : ℕ) (z : ℤ) → ColumnAt s a e stop → read_signed (part s a e) ≡ given z → mag z < 2 ^ 63 → ⊥

-- a column's value and end, for any reader of columns
module _ {A : Type 0} (read : Bytes → Answer A) (stop : ℕ) (s : Bytes) (a : ℕ) where
  value_found : (p : A × ℕ) → (found bad_lines (column_end stop s a) >>= λ e. read (part s a e) >>= λ v. given (v, e)) ≡ given p
      → ColumnAt s a p.1 stop × (read (part s a p.1) ≡ given p.0)
  value_found p h =
      let c = first_gave (found bad_lines (column_end stop s a)) (λ e. read (part s a e) >>= λ v. given (v, e)) p h in
      let v = first_gave (read (part s a c.0)) (λ x. given (x, c.0)) p c.2 in
      both c.0 v.0 (column_there stop s a c.0 (found_some bad_lines (column_end stop s a) c.0 c.1)) v.1 (same_given v.2)
    where
      both : (e : ℕ) (x : A) → ColumnAt s a e stop → read (part s a e) ≡ given x → (x, e) ≡ p → ColumnAt s a p.1 stop × (read (part s a p.1) ≡ given p.0)
      both e x k r q = subst (λ (y : A × ℕ). ColumnAt s a y.1 stop × (read (part s a y.1) ≡ given y.0)) q (k, r)

module _ (s : Bytes) (a stop : ℕ) (is : is_stop stop ≡ true) where
  pub finds_number : (r : Answer (ℕ × ℕ)) → r ≡ number_in stop s a → FindsNumber s a stop r
  unfolding number_in
  finds_number (given p) h =
      let v = value_found (column_below (2 ^ 64)) stop s a p (sym h) in
      let n = column_given (2 ^ 64) (part s a p.1) p.0 v.1 in
      (v.0, n.0, n.1)
  finds_number (refused r) h = λ e n c reads small. not_given (h ∙ column_number is c n reads small)

  pub finds_signed : (r : Answer (ℤ × ℕ)) → r ≡ signed_in stop s a → FindsSigned s a stop r
  unfolding signed_in
  finds_signed (given p) h =
      let v = value_found (signed_column (2 ^ 63)) stop s a p (sym h) in
      let n = signed_given (2 ^ 63) (part s a p.1) p.0 v.1 in
      (v.0, n.0, n.1)
  finds_signed (refused r) h = λ e z c reads small. not_given (h ∙ column_signed is c z reads small)
