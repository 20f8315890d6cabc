-- `early_digits` meets its contract: in each arm the definition computes at the row. Assumes nothing.
use mathlib.Core.Path.{refl, sym, ap, ◌∙◌}
use mathlib.Core.Bool.{◌||◌}
use mathlib.Core.List.{List, [], ◌∷◌}
use Prim.Native.Nat.{ℕ}
use native.Mathlib.Omega.{arith}
use lib.Dec.{eqb, ltb}
use Rattle.sheets.specs.Text.{hex}
use Rattle.sheets.proofs.Tests.{meets, every}
use Rattle.datatypes.proofs.AtLaws.{listed}
use Rattle.format_names.specs.Names.{row_at, low_digits}
use Rattle.format_names.proofs.NameLaws.{last_arm}
use Rattle.format_names.proofs.names.early_digits.Goals as goal

-- the rows of the arms, the last first
abbrev arms : List (List ℕ)
arms = (17 ∷ []) ∷ (16 ∷ []) ∷ (15 ∷ []) ∷ (14 ∷ []) ∷ (13 ∷ []) ∷ (12 ∷ []) ∷ (11 ∷ []) ∷ (10 ∷ []) ∷ (9 ∷ []) ∷ (8 ∷ []) ∷ (7 ∷ []) ∷ (6 ∷ []) ∷ (5 ∷ []) ∷ (4 ∷ []) ∷ (3 ∷ []) ∷ (2 ∷ []) ∷ (1 ∷ []) ∷ (0 ∷ []) ∷ []

pub returns-in-0 : goal.returns-in-0
unfolding row_at
returns-in-0 c = c.one.ensures ∙ ap (λ (i : ℕ). low_digits (hex (row_at i).name)) (sym c.in-0.is)

pub returns-in-1 : goal.returns-in-1
unfolding row_at
returns-in-1 c = c.one-in-1.ensures ∙ ap (λ (i : ℕ). low_digits (hex (row_at i).name)) (sym c.in-1.is)

pub returns-in-2 : goal.returns-in-2
unfolding row_at
returns-in-2 c = c.one-in-2.ensures ∙ ap (λ (i : ℕ). low_digits (hex (row_at i).name)) (sym c.in-2.is)

pub returns-in-3 : goal.returns-in-3
unfolding row_at
returns-in-3 c = c.one-in-3.ensures ∙ ap (λ (i : ℕ). low_digits (hex (row_at i).name)) (sym c.in-3.is)

pub returns-in-4 : goal.returns-in-4
unfolding row_at
returns-in-4 c = c.one-in-4.ensures ∙ ap (λ (i : ℕ). low_digits (hex (row_at i).name)) (sym c.in-4.is)

pub returns-in-5 : goal.returns-in-5
unfolding row_at
returns-in-5 c = c.one-in-5.ensures ∙ ap (λ (i : ℕ). low_digits (hex (row_at i).name)) (sym c.in-5.is)

pub returns-in-6 : goal.returns-in-6
unfolding row_at
returns-in-6 c = c.one-in-6.ensures ∙ ap (λ (i : ℕ). low_digits (hex (row_at i).name)) (sym c.in-6.is)

pub returns-in-7 : goal.returns-in-7
unfolding row_at
returns-in-7 c = c.one-in-7.ensures ∙ ap (λ (i : ℕ). low_digits (hex (row_at i).name)) (sym c.in-7.is)

pub returns-in-8 : goal.returns-in-8
unfolding row_at
returns-in-8 c = c.one-in-8.ensures ∙ ap (λ (i : ℕ). low_digits (hex (row_at i).name)) (sym c.in-8.is)

pub returns-in-9 : goal.returns-in-9
unfolding row_at
returns-in-9 c = c.one-in-9.ensures ∙ ap (λ (i : ℕ). low_digits (hex (row_at i).name)) (sym c.in-9.is)

pub returns-in-10 : goal.returns-in-10
unfolding row_at
returns-in-10 c = c.first_four.ensures ∙ ap (λ (i : ℕ). low_digits (hex (row_at i).name)) (sym c.in-10.is)

pub returns-in-11 : goal.returns-in-11
unfolding row_at
returns-in-11 c = c.first_four-in-11.ensures ∙ ap (λ (i : ℕ). low_digits (hex (row_at i).name)) (sym c.in-11.is)

pub returns-in-12 : goal.returns-in-12
unfolding row_at
returns-in-12 c = c.one-in-12.ensures ∙ ap (λ (i : ℕ). low_digits (hex (row_at i).name)) (sym c.in-12.is)

pub returns-in-13 : goal.returns-in-13
unfolding row_at
returns-in-13 c = c.one-in-13.ensures ∙ ap (λ (i : ℕ). low_digits (hex (row_at i).name)) (sym c.in-13.is)

pub returns-in-14 : goal.returns-in-14
unfolding row_at
returns-in-14 c = c.one-in-14.ensures ∙ ap (λ (i : ℕ). low_digits (hex (row_at i).name)) (sym c.in-14.is)

pub returns-in-15 : goal.returns-in-15
unfolding row_at
returns-in-15 c = c.one-in-15.ensures ∙ ap (λ (i : ℕ). low_digits (hex (row_at i).name)) (sym c.in-15.is)

pub returns-in-16 : goal.returns-in-16
unfolding row_at
returns-in-16 c = c.one-in-16.ensures ∙ ap (λ (i : ℕ). low_digits (hex (row_at i).name)) (sym c.in-16.is)

pub returns-in-17 : goal.returns-in-17
unfolding row_at
returns-in-17 c = c.one-in-17.ensures ∙ ap (λ (i : ℕ). low_digits (hex (row_at i).name)) (sym c.in-17.is)

pub returns-in_default : goal.returns-in_default
unfolding row_at
returns-in_default c = c.one-in_default.ensures ∙ ap (λ (i : ℕ). low_digits (hex (row_at i).name)) (sym (last_arm arms 0 19 18 (meets (every 19 (λ j. ltb j 0 || (listed arms j || eqb j 18))) refl) c.args.i (omega arith) c.requires c.in_default.in_default-own.rest))
