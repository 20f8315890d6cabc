-- The list in a column: none, the empty list, or the elements between the commas. Once for every element. Assumes nothing.
use mathlib.Core.Path.{◌≡◌, refl, sym, ◌∙◌, ap₂}
use mathlib.Core.Logic.{◌≢◌}
use mathlib.Core.Bool.{Bool, true, false, ◌||◌, cond, true≢false, and-false, and-true}
use mathlib.Core.List.{List, [], ◌∷◌}
use Rattle.std.specs.Prelude.{Option, None, Some}
use Prim.Native.Nat.{ℕ}
use native.Mathlib.Omega.{arith}
use lib.Dec.{eqb}
use lib.ListN.{length, get_or}
use borrow.Author.Tests.{ne_eqb, eq-eqb}
use Rattle.sheets.specs.Rule.{Rule, passes}
use Rattle.sheets.specs.Bytes.{Bytes, ascii, same, split}
use Rattle.sheets.specs.Answer.{Answer, refused, given, ◌>>=◌, read_each}
use Rattle.sheets.specs.FieldSheet.{no_text, read_list}
use Rattle.field_columns.specs.Lists.{keeps, is_mark}

-- ── marks

same_none : (c : Bytes) (x : ℕ) → length c ≢ 1 → same c (x ∷ []) ≡ false
same_none [] x h = refl
same_none (a ∷ []) x h = absurd (h refl)
same_none (a ∷ b ∷ c) x h = and-false (eqb a x)

same_one : (c : Bytes) (x : ℕ) → length c ≡ 1 → same c (x ∷ []) ≡ eqb (get_or c 0 0) x
same_one [] x h = absurd (omega arith)
same_one (a ∷ []) x h = and-true (eqb a x)
same_one (a ∷ b ∷ c) x h = absurd (omega arith)

pub mark_long : (c : Bytes) → length c ≢ 1 → is_mark c ≡ false
unfolding is_mark
mark_long c h = ap₂ ◌||◌ (same_none c 126 h) (same_none c 45 h)

pub mark_one : (c : Bytes) → length c ≡ 1 → is_mark c ≡ (eqb (get_or c 0 0) 126 || eqb (get_or c 0 0) 45)
unfolding is_mark
mark_one c h = ap₂ ◌||◌ (same_one c 126 h) (same_one c 45 h)

pub mark_null : (c : Bytes) → length c ≡ 1 → get_or c 0 0 ≡ 126 → true ≡ is_mark c
mark_null c h e = sym (mark_one c h ∙ rw (eq-eqb (get_or c 0 0) 126 e))

pub mark_other : (c : Bytes) → length c ≡ 1 → get_or c 0 0 ≢ 126 → eqb (get_or c 0 0) 45 ≡ is_mark c
mark_other c h e = sym (mark_one c h ∙ rw (ne_eqb (get_or c 0 0) 126 e))

-- a list of no elements, or the elements between the commas
module _ {A : Type 0} (rule : Option (List A) → Rule) (read : Bytes → Answer A) (c : Bytes) where
  pub list_mark : passes (rule None) ≡ true → passes (rule (Some [])) ≡ true → is_mark c ≡ true → keeps rule (read_list read c) ≡ true
  unfolding is_mark
  list_mark h k m = pick (same c no_text) (same c (ascii "-")) m
    where
      pick : (t u : Bool) → (t || u) ≡ true → keeps rule (cond t (given None) (cond u (given (Some [])) (read_each read (split 44 c) >>= λ l. given (Some l)))) ≡ true
      pick true u e = h
      pick false true e = k
      pick false false e = absurd (true≢false (sym e))

  pub list_parts : is_mark c ≡ false → read_list read c ≡ (read_each read (split 44 c) >>= λ l. given (Some l))
  unfolding is_mark
  list_parts m = pick (same c no_text) (same c (ascii "-")) m
    where
      pick : (t u : Bool) → (t || u) ≡ false → cond t (given None) (cond u (given (Some [])) (read_each read (split 44 c) >>= λ l. given (Some l))) ≡ (read_each read (split 44 c) >>= λ l. given (Some l))
      pick true u e = absurd (true≢false e)
      pick false true e = absurd (true≢false e)
      pick false false e = refl

pub some_keeps : {A : Type 0} (rule : Option (List A) → Rule) (a : Answer (List A)) → keeps rule (a >>= λ l. given (Some l)) ≡ keeps (λ l. rule (Some l)) a
some_keeps rule (refused r) = refl
some_keeps rule (given l) = refl
