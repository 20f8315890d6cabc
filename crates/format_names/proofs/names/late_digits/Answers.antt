-- `late_digits` meets its contract: in each arm the definition computes at the row. Assumes nothing.
use mathlib.Core.Path.{refl, sym, ap, ◌∙◌}
use mathlib.Core.Bool.{◌||◌}
use mathlib.Core.List.{List, [], ◌∷◌}
use Prim.Native.Nat.{ℕ}
use lib.Dec.{eqb, ltb}
use Rattle.sheets.specs.Text.{hex}
use Rattle.sheets.proofs.Tests.{meets, every}
use Rattle.datatypes.proofs.AtLaws.{listed}
use Rattle.format_names.specs.Names.{row_at, low_digits}
use Rattle.format_names.proofs.NameLaws.{last_arm}
use Rattle.format_names.proofs.names.late_digits.Goals as goal

-- the rows of the arms, the last first
abbrev arms : List (List ℕ)
arms = (36 ∷ []) ∷ (35 ∷ []) ∷ (34 ∷ []) ∷ (33 ∷ []) ∷ (32 ∷ []) ∷ (31 ∷ []) ∷ (30 ∷ []) ∷ (29 ∷ []) ∷ (28 ∷ []) ∷ (27 ∷ []) ∷ (26 ∷ []) ∷ (25 ∷ []) ∷ (24 ∷ []) ∷ (23 ∷ []) ∷ (22 ∷ []) ∷ (21 ∷ []) ∷ (20 ∷ []) ∷ (19 ∷ []) ∷ []

pub returns-in-19 : goal.returns-in-19
unfolding row_at
returns-in-19 c = c.three.ensures ∙ ap (λ (i : ℕ). low_digits (hex (row_at i).name)) (sym c.in-19.is)

pub returns-in-20 : goal.returns-in-20
unfolding row_at
returns-in-20 c = c.three-in-20.ensures ∙ ap (λ (i : ℕ). low_digits (hex (row_at i).name)) (sym c.in-20.is)

pub returns-in-21 : goal.returns-in-21
unfolding row_at
returns-in-21 c = c.three-in-21.ensures ∙ ap (λ (i : ℕ). low_digits (hex (row_at i).name)) (sym c.in-21.is)

pub returns-in-22 : goal.returns-in-22
unfolding row_at
returns-in-22 c = c.three-in-22.ensures ∙ ap (λ (i : ℕ). low_digits (hex (row_at i).name)) (sym c.in-22.is)

pub returns-in-23 : goal.returns-in-23
unfolding row_at
returns-in-23 c = c.three-in-23.ensures ∙ ap (λ (i : ℕ). low_digits (hex (row_at i).name)) (sym c.in-23.is)

pub returns-in-24 : goal.returns-in-24
unfolding row_at
returns-in-24 c = c.three-in-24.ensures ∙ ap (λ (i : ℕ). low_digits (hex (row_at i).name)) (sym c.in-24.is)

pub returns-in-25 : goal.returns-in-25
unfolding row_at
returns-in-25 c = c.three-in-25.ensures ∙ ap (λ (i : ℕ). low_digits (hex (row_at i).name)) (sym c.in-25.is)

pub returns-in-26 : goal.returns-in-26
unfolding row_at
returns-in-26 c = c.three-in-26.ensures ∙ ap (λ (i : ℕ). low_digits (hex (row_at i).name)) (sym c.in-26.is)

pub returns-in-27 : goal.returns-in-27
unfolding row_at
returns-in-27 c = c.three-in-27.ensures ∙ ap (λ (i : ℕ). low_digits (hex (row_at i).name)) (sym c.in-27.is)

pub returns-in-28 : goal.returns-in-28
unfolding row_at
returns-in-28 c = c.three-in-28.ensures ∙ ap (λ (i : ℕ). low_digits (hex (row_at i).name)) (sym c.in-28.is)

pub returns-in-29 : goal.returns-in-29
unfolding row_at
returns-in-29 c = c.three-in-29.ensures ∙ ap (λ (i : ℕ). low_digits (hex (row_at i).name)) (sym c.in-29.is)

pub returns-in-30 : goal.returns-in-30
unfolding row_at
returns-in-30 c = c.three-in-30.ensures ∙ ap (λ (i : ℕ). low_digits (hex (row_at i).name)) (sym c.in-30.is)

pub returns-in-31 : goal.returns-in-31
unfolding row_at
returns-in-31 c = c.three-in-31.ensures ∙ ap (λ (i : ℕ). low_digits (hex (row_at i).name)) (sym c.in-31.is)

pub returns-in-32 : goal.returns-in-32
unfolding row_at
returns-in-32 c = c.two.ensures ∙ ap (λ (i : ℕ). low_digits (hex (row_at i).name)) (sym c.in-32.is)

pub returns-in-33 : goal.returns-in-33
unfolding row_at
returns-in-33 c = c.two-in-33.ensures ∙ ap (λ (i : ℕ). low_digits (hex (row_at i).name)) (sym c.in-33.is)

pub returns-in-34 : goal.returns-in-34
unfolding row_at
returns-in-34 c = c.two-in-34.ensures ∙ ap (λ (i : ℕ). low_digits (hex (row_at i).name)) (sym c.in-34.is)

pub returns-in-35 : goal.returns-in-35
unfolding row_at
returns-in-35 c = c.two-in-35.ensures ∙ ap (λ (i : ℕ). low_digits (hex (row_at i).name)) (sym c.in-35.is)

pub returns-in-36 : goal.returns-in-36
unfolding row_at
returns-in-36 c = c.two-in-36.ensures ∙ ap (λ (i : ℕ). low_digits (hex (row_at i).name)) (sym c.in-36.is)

pub returns-in_default : goal.returns-in_default
unfolding row_at
returns-in_default c = c.two-in_default.ensures ∙ ap (λ (i : ℕ). low_digits (hex (row_at i).name)) (sym (last_arm arms 19 38 37 (meets (every 38 (λ j. ltb j 19 || (listed arms j || eqb j 37))) refl) c.args.i c.requires.0 c.requires.1 c.in_default.in_default-own.rest))
