-- A text that is known to stand: it is one byte or pairs of digits, so that its end is the next byte or stands at an even distance, and the first space
-- from its start on is its end. Assumes nothing.
use mathlib.Core.Path.{◌≡◌, refl, sym, ap, ◌∙◌}
use mathlib.Core.Bool.{Bool, true, false}
use Prim.Native.Nat.{ℕ, ◌+◌, ◌-◌, ◌*◌, ◌≤◌, ◌<◌}
use native.Mathlib.Omega.{arith}
use lib.Dec.{ltb}
use lib.ListN.{length, get_or}
use borrow.Author.Tests.{ltb-true, ltb-false}
use Rattle.sheets.specs.Bytes.{Bytes}
use Rattle.hexadecimal.specs.Hex.{bytes_of}
use Rattle.hexadecimal.proofs.HexLaws.{twice_length}
use Rattle.columns.specs.Columns.{part, stop_from}
use Rattle.columns.specs.TextColumns.{HasText}
use Rattle.columns.proofs.ColumnLaws.{space_stops, length_stop, stop_on, column_size, column_end_lem, column_stop}
use Rattle.columns.proofs.TextLaws.{text_some, text_long}

-- so many pairs are left from i on
pub record PairsLeft (s : Bytes) (at i : ℕ) : Type 0 where
  pub low : at ≤ i
  pub left : ℕ
  pub is : i + 2 * left ≡ stop_from s at

pub left_on : {s : Bytes} {at i : ℕ} → PairsLeft s at i → stop_from s i ≡ stop_from s at
left_on {s} {at} {i} p = stop_on s at i p.low (omega (arith, p.is))

-- a space before which no column ends is the end
pub space_ends : (s : Bytes) (at i : ℕ) → at ≤ i → i ≤ stop_from s at → stop_from s at < length s → get_or s i 0 ≡ 32 → i ≡ stop_from s at
space_ends s at i low high within e = omega (arith, length_stop s i (omega (arith, within)) (space_stops (get_or s i 0) e), stop_on s at i low high)

module _ {s : Bytes} {at : ℕ} (h : HasText s at) where
  end_is : h.0 ≡ stop_from s at
  end_is = column_end_lem h.1 refl

  pub end_within : stop_from s at < length s
  end_within = omega (arith, end_is, h.1.high)

  size : length (part s at h.0) ≡ stop_from s at - at
  size = omega (arith, column_size h.1, end_is)

  pub text_within : at < stop_from s at
  text_within = omega (arith, size, text_some (part s at h.0) h.2)

  module _ (i : ℕ) (low : at ≤ i) (high : i ≤ stop_from s at) where
    pub space_is : get_or s i 0 ≡ 32 → i ≡ stop_from s at
    space_is e = space_ends s at i low high end_within e

    pub other_before : (get_or s i 0 ≡ 32 → ⊥) → i < stop_from s at
    other_before other = pick (ltb i (stop_from s at)) refl
      where
        pick : (t : Bool) → ltb i (stop_from s at) ≡ t → i < stop_from s at
        pick true e = ltb-true i (stop_from s at) e
        pick false e =
            let same : i ≡ h.0 = omega (arith, ltb-false i (stop_from s at) e, end_is) in
            absurd (other (ap (λ (k : ℕ). get_or s k 0) same ∙ column_stop h.1))

  -- a text that is more than one byte
  pub left_first : (get_or s (at + 1) 0 ≡ 32 → ⊥) → PairsLeft s at (at + 2)
  left_first other =
      let far : at + 1 < stop_from s at = other_before (at + 1) (omega arith) (omega (arith, text_within)) other in
      let long : 2 ≤ length (part s at h.0) = omega (arith, size) in
      let pairs : 2 * length (bytes_of (part s at h.0)) ≡ length (part s at h.0) =
      twice_length (part s at h.0) (sym (text_long (part s at h.0) long) ∙ h.2) in
      record { low = omega arith; left = length (bytes_of (part s at h.0)) - 1; is = omega (arith, size) }

  module _ {i : ℕ} (p : PairsLeft s at i) where
    pub left_within : i < length s
    left_within = omega (arith, p.is, end_within)

    pub left_none : get_or s i 0 ≡ 32 → i ≡ stop_from s at
    left_none e = space_is i p.low (omega (arith, p.is)) e

    module _ (other : get_or s i 0 ≡ 32 → ⊥) where
      pub left_less : i + 2 ≤ stop_from s at
      left_less = omega (arith, p.is, other_before i p.low (omega (arith, p.is)) other)

      pub left_more : PairsLeft s at (i + 2)
      left_more = record { low = omega (arith, p.low); left = p.left - 1; is = omega (arith, p.is, left_less) }
