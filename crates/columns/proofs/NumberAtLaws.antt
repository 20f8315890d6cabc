-- The digits of a number at a place, one after the other. Assumes nothing.
use mathlib.Core.Path.{◌≡◌, refl, sym, ap, subst, ◌∙◌}
use mathlib.Core.Bool.{Bool, true, false, ◌||◌, true≢false}
use mathlib.Core.List.{[], ◌∷◌}
use Prim.Native.Nat.{ℕ, suc, ◌+◌, ◌*◌, ◌-◌, ◌^◌, ◌≤◌, ◌<◌}
use native.Mathlib.Numerals.{add-one}
use native.Mathlib.Omega.{arith}
use lib.Dec.{eqb, leb, ltb}
use lib.ListN.{length, get_or}
use lib.Seq.{drop-cons}
use borrow.Author.Tests.{eqb-true, leb-true, ltb-true, ltb-false}
use Rattle.sheets.specs.Refusal.{bad_lines}
use Rattle.sheets.specs.Rule.{is, ◌and◌, Meets}
use Rattle.sheets.specs.Bytes.{Bytes, all}
use Rattle.sheets.specs.Answer.{given}
use Rattle.sheets.specs.Number.{is_digit, value_from, lean, read_number}
use Rattle.sheets.proofs.Tests.{and_left, when_met, met_when}
use Rattle.columns.specs.Columns.{part, stop_from}
use Rattle.columns.specs.NumberColumns.{HasNumber}
use Rattle.columns.proofs.ColumnLaws.{column_end_lem, column_stop}

part_cons : (s : Bytes) (i e : ℕ) → i < e → e ≤ length s → part s i e ≡ get_or s i 0 ∷ part s (i + 1) e
part_cons s i e h k =
    let n : e - i ≡ suc (e - (i + 1)) = omega arith in
    rw (n, drop-cons s i 0 (omega arith), add-one)

part_none : (s : Bytes) (i e : ℕ) → e ≤ i → part s i e ≡ []
part_none s i e h = let n : e - i ≡ 0 = omega arith in rw n

-- a number that digits are added to does not fall
value_more : (b : Bytes) (v : ℕ) → v ≤ value_from v b
value_more [] v = omega arith
value_more (c ∷ b) v = omega (arith, value_more b (v * 10 + (c - 48)))

-- v is read, and the digits from i on are still to be read
pub record Reading (s : Bytes) (at e i v : ℕ) : Type 0 where
  pub low : i ≤ e
  pub digits : Meets (all is_digit (part s i e))
  pub value : value_from v (part s i e) ≡ value_from 0 (part s at e)

module _ (s : Bytes) (at : ℕ) (h : HasNumber s at) where
  -- where the number ends
  abbrev pub end : ℕ
  end = h.0

  read : Meets (is (lean (part s at end)) and all is_digit (part s at end)) × (value_from 0 (part s at end) ≡ h.4)
  read = met_when bad_lines (is (lean (part s at end)) and all is_digit (part s at end)) (value_from 0 (part s at end)) h.4 h.5

  pub reading_none : Reading s at end at 0
  reading_none = record { digits = read.0.1; value = refl; low = h.2.low }

  module _ (i v : ℕ) (r : Reading s at end i v) where
    module _ (l : i < end) where
      cons : part s i end ≡ get_or s i 0 ∷ part s (i + 1) end
      cons = part_cons s i end l (omega (arith, h.2.high))

      all_here : Meets (all is_digit (get_or s i 0 ∷ part s (i + 1) end))
      all_here = subst (λ (b : Bytes). Meets (all is_digit b)) cons r.digits

      digit_here : 48 ≤ get_or s i 0
      digit_here = leb-true 48 (get_or s i 0) (and_left (leb 48 (get_or s i 0)) (leb (get_or s i 0) 57) all_here.0)

      more : Reading s at end (i + 1) (v * 10 + (get_or s i 0 - 48))
      more = record { digits = all_here.1; value = sym (ap (value_from v) cons) ∙ r.value; low = omega arith }

      small : v * 10 + (get_or s i 0 - 48) < 2 ^ 64
      small = omega (arith, value_more (part s (i + 1) end) (v * 10 + (get_or s i 0 - 48)), more.value, read.1, h.6)

    -- the byte that ends the column is below the digits
    stop_low : h.1 < 48
    stop_low = pick (eqb h.1 32) (eqb h.1 10) refl refl h.3
      where
        pick : (t u : Bool) → eqb h.1 32 ≡ t → eqb h.1 10 ≡ u → (t || u) ≡ true → h.1 < 48
        pick true u e f k = omega (arith, eqb-true h.1 32 e)
        pick false true e f k = omega (arith, eqb-true h.1 10 f)
        pick false false e f k = absurd (true≢false (sym k))

    pub reading_within : i < length s
    reading_within = omega (arith, r.low, h.2.high)

    module _ (l : 48 ≤ get_or s i 0) where
      before : i < end
      before = pick (ltb i end) refl
        where
          pick : (t : Bool) → ltb i end ≡ t → i < end
          pick true e = ltb-true i end e
          pick false e =
              let same : i ≡ end = omega (arith, ltb-false i end e, r.low) in
              absurd (omega (arith, ap (λ (k : ℕ). get_or s k 0) same, column_stop h.2, stop_low))

      pub reading_more : Reading s at end (i + 1) (v * 10 + (get_or s i 0 - 48))
      reading_more = more before

      pub reading_small : v * 10 + (get_or s i 0 - 48) < 2 ^ 64
      reading_small = small before

      pub reading_less : i < stop_from s at
      reading_less = omega (arith, before, column_end_lem h.2 h.3)

    pub reading_all : get_or s i 0 < 48 → (i ≡ stop_from s at) × (read_number (part s at i) ≡ given v)
    reading_all l =
        let same : i ≡ end = pick (ltb i end) refl in
        let all_read : v ≡ value_from 0 (part s at end) = sym (ap (value_from v) (part_none s i end (omega arith))) ∙ r.value in
        (same ∙ column_end_lem h.2 h.3, ap (λ (k : ℕ). read_number (part s at k)) same ∙ when_met bad_lines (is (lean (part s at end)) and all is_digit (part s at end)) (value_from 0 (part s at end)) read.0 ∙ ap given (sym all_read))
      where
        pick : (t : Bool) → ltb i end ≡ t → i ≡ end
        pick true e = absurd (omega (arith, digit_here (ltb-true i end e)))
        pick false e = omega (arith, ltb-false i end e, r.low)
