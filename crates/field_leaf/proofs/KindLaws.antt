-- The kind of a field line of a leaf: one digit or two, and where they end. Assumes nothing.
use mathlib.Core.Path.{◌≡◌, refl, sym, ap, ◌∙◌}
use mathlib.Core.Bool.{Bool, true, false, ◌&&◌, ◌||◌, not, cond, and-true, true≢false}
use mathlib.Core.List.{[], ◌∷◌}
use Rattle.std.specs.Prelude.{Option, None, Some}
use Prim.Native.Nat.{ℕ, suc, ◌+◌, ◌*◌, ◌-◌, ◌≤◌, ◌<◌}
use native.Mathlib.Omega.{arith}
use lib.Dec.{eqb, leb}
use lib.ListN.{length, get_or, take, drop}
use lib.Seq.{drop-cons}
use borrow.Author.Tests.{eqb-true, eqb-false, le-leb, lt-leb, ne_eqb, eq-eqb}
use Rattle.sheets.specs.Refusal.{bad_lines}
use Rattle.sheets.specs.Rule.{is, ◌and◌, passes, Meets}
use Rattle.sheets.specs.Bytes.{Bytes, all}
use Rattle.sheets.specs.Number.{is_digit, value_from, lean}
use Rattle.sheets.proofs.Tests.{when_met, every, at_each, meets}
use Rattle.columns.specs.Columns.{part}
use Rattle.columns.proofs.OneByteLaws.{two_cons}
use Rattle.field_leaf.specs.FieldLeaves.{is_short, short_kind, kind_of, kind_end}

-- ── kinds that have no unit

module _ (kind : ℕ) where
  pub short_low : kind ≤ 14 → true ≡ is_short kind
  short_low h = rw (le-leb kind 14 h, lt-leb 18 kind (omega arith))

  abbrev date_or_binary : ℕ → Bool
  date_or_binary k = (leb 16 k && leb k 17) || eqb k 22

  pub short_middle : 14 < kind → kind < 24 → date_or_binary kind ≡ is_short kind
  short_middle h k = pick (leb kind 14) (lt-leb kind 14 h) (at_each 24 agree (meets (every 24 agree) refl) kind k)
    where
      alike : Bool → Bool → Bool
      alike true b = b
      alike false b = not b

      agree : ℕ → Bool
      agree n = leb n 14 || alike (date_or_binary n) (is_short n)

      alike_same : (a b : Bool) → alike a b ≡ true → a ≡ b
      alike_same true true e = refl
      alike_same true false e = sym e
      alike_same false true e = e
      alike_same false false e = refl

      pick : (t : Bool) → t ≡ false → (t || alike (date_or_binary kind) (is_short kind)) ≡ true → date_or_binary kind ≡ is_short kind
      pick true f e = absurd (true≢false f)
      pick false f e = alike_same (date_or_binary kind) (is_short kind) e

  pub short_text_lem : 24 ≤ kind → kind ≤ 26 → true ≡ is_short kind
  short_text_lem h k = rw (lt-leb kind 14 (omega arith), le-leb 16 kind (omega arith), lt-leb kind 22 (omega arith), le-leb 24 kind h, le-leb kind 26 k, le-leb 18 kind (omega arith), lt-leb kind 21 (omega arith))

  pub short_last : 26 < kind → (leb 38 kind && leb kind 40) ≡ is_short kind
  short_last h =
      rw (lt-leb kind 14 (omega arith), le-leb 16 kind (omega arith), lt-leb kind 22 (omega arith), le-leb 24 kind (omega arith), lt-leb kind 26 h, le-leb 18 kind (omega arith), lt-leb kind 21 (omega arith))
      (sym (and-true (leb 38 kind && leb kind 40)))

-- ── the digits

-- a column that is no number
no_number : (t : Bytes) → passes (is (lean t) and all is_digit t) ≡ false → None ≡ kind_of t
no_number t h = rw h

-- one that is
number : (t : Bytes) (kind : ℕ) → Meets (is (lean t) and all is_digit t) → value_from 0 t ≡ kind → kind_of t ≡ cond (is_short kind) (Some kind) None
number t kind h e = ap short_kind (when_met bad_lines (is (lean t) and all is_digit t) (value_from 0 t) h) ∙ ap (λ (n : ℕ). cond (is_short n) (Some n) None) e

digit : (b : ℕ) → 48 ≤ b → b ≤ 57 → is_digit b ≡ true
digit b h k = rw (le-leb 48 b h, le-leb b 57 k)

pub no_digit : (a : ℕ) → (a < 48) → None ≡ kind_of (a ∷ [])
no_digit a h = no_number (a ∷ []) (rw (lt-leb 48 a h))

pub past_digit : (a : ℕ) → 48 ≤ a → 57 < a → None ≡ kind_of (a ∷ [])
past_digit a h k = no_number (a ∷ []) (rw (le-leb 48 a h, lt-leb a 57 k))

-- each of one digit is short
pub one_kind : (a kind : ℕ) → 48 ≤ a → a ≤ 57 → kind ≡ a - 48 → Some kind ≡ kind_of (a ∷ [])
one_kind a kind h k e =
    let value : value_from 0 (a ∷ []) ≡ kind = omega arith in
    sym (number (a ∷ []) kind (refl, (digit a h k, refl)) value ∙ ap (λ (t : Bool). cond t (Some kind) None) short)
  where
    short : is_short kind ≡ true
    short = rw (le-leb kind 14 (omega arith), lt-leb 18 kind (omega arith))

module _ (a b : ℕ) where
  -- "without spare zeros"
  pub first_low : a ≤ 48 → None ≡ kind_of (a ∷ b ∷ [])
  first_low h = pick (eqb a 48) refl
    where
      pick : (t : Bool) → eqb a 48 ≡ t → None ≡ kind_of (a ∷ b ∷ [])
      pick true e = no_number (a ∷ b ∷ []) (rw e)
      pick false e = let d = eqb-false a 48 e in no_number (a ∷ b ∷ []) (rw (e, lt-leb 48 a (omega arith)))

  module _ (h : 48 < a) where
    pub first_high : 57 < a → None ≡ kind_of (a ∷ b ∷ [])
    first_high k = no_number (a ∷ b ∷ []) (rw (ne_eqb a 48 (λ e. omega arith), le-leb 48 a (omega arith), lt-leb a 57 k))

    module _ (k : a ≤ 57) where
      pub second_low : b < 48 → None ≡ kind_of (a ∷ b ∷ [])
      second_low l = no_number (a ∷ b ∷ []) (rw (ne_eqb a 48 (λ e. omega arith), le-leb 48 a (omega arith), le-leb a 57 k, lt-leb 48 b l))

      module _ (l : 48 ≤ b) where
        pub second_high : 57 < b → None ≡ kind_of (a ∷ b ∷ [])
        second_high m = no_number (a ∷ b ∷ []) (rw (ne_eqb a 48 (λ e. omega arith), le-leb 48 a (omega arith), le-leb a 57 k, le-leb 48 b l, lt-leb b 57 m))

        module _ (m : b ≤ 57) (kind : ℕ) (is-kind : kind ≡ (a - 48) * 10 + (b - 48)) where
          two : kind_of (a ∷ b ∷ []) ≡ cond (is_short kind) (Some kind) None
          two =
              let value : value_from 0 (a ∷ b ∷ []) ≡ kind = omega arith in
              number (a ∷ b ∷ []) kind (rw (ne_eqb a 48 (λ e. omega arith)), (digit a (omega arith) k, (digit b l m, refl))) value

          pub other_kind : (t : Bool) → t ≡ is_short kind → t ≡ false → None ≡ kind_of (a ∷ b ∷ [])
          other_kind t e f = sym (two ∙ ap (λ (u : Bool). cond u (Some kind) None) (sym e ∙ f))

          pub two_kind : (t : Bool) → t ≡ is_short kind → t ≡ true → Some kind ≡ kind_of (a ∷ b ∷ [])
          two_kind t e f = sym (two ∙ ap (λ (u : Bool). cond u (Some kind) None) (sym e ∙ f))

-- ── where they stand

module _ (s : Bytes) (at : ℕ) where
  pub one_end : get_or s (at + 1) 0 ≡ 32 → at + 1 ≡ kind_end s at
  one_end h = rw (eq-eqb (get_or s (at + 1) 0) 32 h)

  pub two_end : (get_or s (at + 1) 0 ≡ 32 → ⊥) → at + 2 ≡ kind_end s at
  two_end h = rw (ne_eqb (get_or s (at + 1) 0) 32 h)

  module _ (room : at + 2 ≤ length s) where
    one_part : part s at (at + 1) ≡ get_or s at 0 ∷ []
    one_part = let n : at + 1 - at ≡ 1 = omega arith in ap (λ (i : ℕ). take i (drop at s)) n ∙ ap (take 1) (drop-cons s at 0 (omega arith))

    two_part : part s at (at + 2) ≡ get_or s at 0 ∷ get_or s (at + 1) 0 ∷ []
    two_part = let n : at + 2 - at ≡ 2 = omega arith in ap (λ (i : ℕ). take i (drop at s)) n ∙ ap (take 2) (two_cons s at (omega arith))

    pub one_here : get_or s (at + 1) 0 ≡ 32 → kind_of (get_or s at 0 ∷ []) ≡ kind_of (part s at (kind_end s at))
    one_here h = sym (ap (λ (i : ℕ). kind_of (part s at i)) (sym (one_end h)) ∙ ap kind_of one_part)

    pub two_here : (get_or s (at + 1) 0 ≡ 32 → ⊥) → kind_of (get_or s at 0 ∷ get_or s (at + 1) 0 ∷ []) ≡ kind_of (part s at (kind_end s at))
    two_here h = sym (ap (λ (i : ℕ). kind_of (part s at i)) (sym (two_end h)) ∙ ap kind_of two_part)

  pub end_near : (at + 1 ≤ kind_end s at) × (kind_end s at ≤ at + 2)
  end_near = pick (eqb (get_or s (at + 1) 0) 32)
    where
      pick : (t : Bool) → (at + 1 ≤ cond t (at + 1) (at + 2)) × (cond t (at + 1) (at + 2) ≤ at + 2)
      pick true = (omega arith, omega arith)
      pick false = (omega arith, omega arith)
