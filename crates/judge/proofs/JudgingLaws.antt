-- A buffer compared with bytes and a filler behind them, and an answer with the recorded one, a sheet or numbers: a difference is told exactly if they
-- are not the same. Assumes nothing.
use Rattle.std.proofs.Common.{◌≡◌, ℕ, zero, suc, ◌-◌, Bool, true, false, cond, ◌&&◌, eqb, [], ◌∷◌, ◌++◌, length, take, drop, replicate, sym, refl, ap, ◌∙◌, length-drop, eq-eqb, ne_eqb, eqb-true}
use mathlib.Core.Bool.{and_assoc}
use Rattle.std.specs.List.{list_all}
use lib.Pointwise.{pointwise}
use Rattle.std.specs.Prelude.{Option, None, Some}
use Rattle.sheets.specs.Bytes.{Bytes, same}
use Rattle.sheets.specs.Outcome.{Outcome}
use Rattle.sheets.proofs.Tests.{not_some, and_left, and_right, same_number}
use Rattle.sheets.proofs.BytesLaws.{same_refl, same_eq}
use Rattle.recorded_list.specs.declared.records.Header.{Header}
use Rattle.outcome.specs.Answers.{numbers_outcome}
use Rattle.judge.specs.declared.Numbers.{Numbers}
use Rattle.judge.specs.Judging.{filled, buffer_after, recorded, same_outcome, difference, recorded_numbers, same_numbers, numbers_difference}

-- what is told of an answer that is a sheet
abbrev pub came_as : ℕ → ℕ → Numbers
came_as number size = record { number = number; first = size; second = 0 }

-- ── bytes, then a filler

-- every byte is b exactly if the whole is so many bytes b
pub all_same : (s : Bytes) (b : ℕ) → list_all (λ x. eqb x b) s ≡ same s (replicate (length s) b)
all_same [] b = refl
all_same (x ∷ s) b = ap (λ (t : Bool). eqb x b && t) (all_same s b)

-- the first bytes, and then the others
same_parts : (s x y : Bytes) → same s (x ++ y) ≡ (pointwise eqb (take (length x) s) x && same (drop (length x) s) y)
same_parts [] [] y = refl
same_parts [] (z ∷ x) y = refl
same_parts (w ∷ s) [] y = refl
same_parts (w ∷ s) (z ∷ x) y = ap (λ (t : Bool). eqb w z && t) (same_parts s x y) ∙ sym (and_assoc (eqb w z) (pointwise eqb (take (length x) s) x) (same (drop (length x) s) y))

module _ (s x : Bytes) (b : ℕ) where
  pub other_bytes : pointwise eqb (take (length x) s) x ≡ false → same s (x ++ replicate (length s - length x) b) ≡ false
  other_bytes e = rw (same_parts, e)

  -- the rest is what is left behind the first bytes
  pub then_filler : (rest : Bytes) → rest ≡ drop (length x) s → pointwise eqb (take (length x) s) x ≡ true → same rest (replicate (length rest) b) ≡ same s (x ++ replicate (length s - length x) b)
  then_filler rest r e = rw (r, same_parts, e, length-drop)

-- ── outcomes

-- no difference is told exactly if number, length and every byte of the buffer are the same
pub agrees_same : (came told : Outcome) → difference came told ≡ None → came ≡ told
agrees_same came told e = pick (same_outcome came told) refl e
  where
    pick : (t : Bool) → same_outcome came told ≡ t → cond {A = Option Numbers} t None (Some (came_as came.number came.size)) ≡ None → came ≡ told
    pick false h e = not_some (sym e)
    pick true h e =
        let n = eqb-true came.number told.number (and_left _ _ h) in
        let rest = and_right (eqb came.number told.number) _ h in
        let l = eqb-true came.size told.size (and_left _ _ rest) in
        let b = same_eq came.buffer told.buffer (and_right (eqb came.size told.size) _ rest) in
        λ i. record { number = n i; size = l i; buffer = b i }

pub same_agrees : (o : Outcome) → difference o o ≡ None
same_agrees o = rw (same_number o.number, same_number o.size, same_refl o.buffer)

module _ (h : Header) (x lent : Bytes) (number size : ℕ) where
  pub other_number : (number ≡ h.number → ⊥) → difference (numbers_outcome number size lent) (recorded h x (length lent)) ≡ Some (came_as number size)
  other_number n = rw (ne_eqb number h.number n)

  pub other_size : number ≡ h.number → (size ≡ h.first → ⊥) → difference (numbers_outcome number size lent) (recorded h x (length lent)) ≡ Some (came_as number size)
  other_size n l = rw (eq-eqb number h.number n, ne_eqb size h.first l)

  module _ (n : number ≡ h.number) (l : size ≡ h.first) (y : Bytes) (told : buffer_after h.number x (length lent) ≡ y) where
    -- by the buffer alone
    pub by_buffer : (t : Bool) → same lent y ≡ t → difference (numbers_outcome number size lent) (recorded h x (length lent)) ≡ cond t None (Some (came_as number size))
    by_buffer t e = rw (eq-eqb number h.number n, eq-eqb size h.first l, told, e)

pub after_refusal : (n : ℕ) (x : Bytes) (room : ℕ) → (n ≡ 0 → ⊥) → buffer_after n x room ≡ replicate room 0
after_refusal zero x room h = absurd (h refl)
after_refusal (suc n) x room h = refl

pub after_success : (n : ℕ) (x : Bytes) (room : ℕ) → n ≡ 0 → buffer_after n x room ≡ x ++ filled (room - length x)
after_success n x room e = ap (λ (k : ℕ). buffer_after k x room) e

-- ── numbers

-- no difference is told exactly if all three are the same
pub numbers_agree_same : (came told : Numbers) → numbers_difference came told ≡ None → came ≡ told
numbers_agree_same came told e = pick (same_numbers came told) refl e
  where
    pick : (t : Bool) → same_numbers came told ≡ t → cond {A = Option Numbers} t None (Some came) ≡ None → came ≡ told
    pick false h e = not_some (sym e)
    pick true h e =
        let n = eqb-true came.number told.number (and_left _ _ h) in
        let rest = and_right (eqb came.number told.number) _ h in
        let f = eqb-true came.first told.first (and_left _ _ rest) in
        let s = eqb-true came.second told.second (and_right (eqb came.first told.first) _ rest) in
        λ i. record { number = n i; first = f i; second = s i }

pub same_numbers_agree : (o : Numbers) → numbers_difference o o ≡ None
same_numbers_agree o = rw (same_number o.number, same_number o.first, same_number o.second)

module _ (came : Numbers) (h : Header) where
  pub wrong_number : (came.number ≡ h.number → ⊥) → Some came ≡ numbers_difference came (recorded_numbers h)
  wrong_number n = rw (ne_eqb came.number h.number n)

  module _ (n : came.number ≡ h.number) where
    pub wrong_first : (came.first ≡ h.first → ⊥) → Some came ≡ numbers_difference came (recorded_numbers h)
    wrong_first f = rw (eq-eqb came.number h.number n, ne_eqb came.first h.first f)

    module _ (f : came.first ≡ h.first) where
      pub wrong_second : (came.second ≡ h.second → ⊥) → Some came ≡ numbers_difference came (recorded_numbers h)
      wrong_second s = rw (eq-eqb came.number h.number n, eq-eqb came.first h.first f, ne_eqb came.second h.second s)

      pub right_numbers : came.second ≡ h.second → None ≡ numbers_difference came (recorded_numbers h)
      right_numbers s = rw (eq-eqb came.number h.number n, eq-eqb came.first h.first f, eq-eqb came.second h.second s)
