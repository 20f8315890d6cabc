-- `high_digits` meets its contract: the other names have no more than eight digits, by one computed test. Assumes nothing.
use mathlib.Core.Path.{◌≡◌, refl, sym, ap, ◌∙◌}
use mathlib.Core.Bool.{Bool, ◌||◌}
use Prim.Native.Nat.{ℕ, ◌<◌}
use lib.Dec.{eqb}
use borrow.Author.Tests.{eqb-true, ne_eqb}
use Rattle.sheets.specs.Text.{hex}
use Rattle.sheets.proofs.Tests.{meets, every, at_each}
use Rattle.format_names.specs.Names.{row_at, table_length, high_digits}
use Rattle.format_names.proofs.NameLaws.{or_right}
use Rattle.format_names.proofs.names.high_digits.Goals as goal

abbrev digits_of : ℕ → ℕ
digits_of i = high_digits (hex (row_at i).name)

-- the other names have no more than eight digits
abbrev short : ℕ → Bool
short i = eqb i 10 || (eqb i 11 || eqb 0 (digits_of i))

other_short : (i : ℕ) → i < table_length → (i ≡ 10 → ⊥) → (i ≡ 11 → ⊥) → 0 ≡ digits_of i
unfolding row_at
other_short i h p q =
    eqb-true 0 (digits_of i)
    (or_right (eqb i 11) (eqb 0 (digits_of i)) (ne_eqb i 11 q) (or_right (eqb i 10) (eqb i 11 || eqb 0 (digits_of i)) (ne_eqb i 10 p) (at_each 38 short (meets (every 38 short) refl) i h)))

pub returns-in-10 : goal.returns-in-10
unfolding row_at
returns-in-10 c = c.last_three.ensures ∙ ap digits_of (sym c.in-10.is)

pub returns-in-11 : goal.returns-in-11
unfolding row_at
returns-in-11 c = c.last_three-in-11.ensures ∙ ap digits_of (sym c.in-11.is)

pub returns-in_default : goal.returns-in_default
returns-in_default c = other_short c.args.i c.requires c.in_default.in_default-own.rest.0.1 c.in_default.in_default-own.rest.1
