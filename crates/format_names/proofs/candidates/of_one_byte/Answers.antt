-- `of_one_byte` meets its contract: in each arm the definition computes at the digits, and no other first byte has a name (`no_candidates`). Assumes nothing.
use mathlib.Core.Path.{refl}
use mathlib.Core.List.{List, [], ◌∷◌}
use Prim.Native.Nat.{ℕ}
use Rattle.sheets.specs.FixedNames.{fixed_rows}
use Rattle.sheets.proofs.Tests.{meets, every}
use Rattle.hexadecimal.specs.Hex.{bytes_of}
use Rattle.words.specs.Words.{low_bytes}
use Rattle.format_names.proofs.CandidateLaws.{at_digits, armed, no_candidates}
use Rattle.format_names.proofs.candidates.of_one_byte.Goals as goal

-- the digits of the arms, the last first
abbrev arms : List (List ℕ)
arms =
    (0x3535 ∷ [])
    ∷ (0x3537 ∷ [])
    ∷ (0x6135 ∷ [])
    ∷ (0x6137 ∷ [])
    ∷ (0x3736 ∷ [])
    ∷ (0x3636 ∷ [])
    ∷ (0x3536 ∷ [])
    ∷ (0x6334 ∷ [])
    ∷ (0x6336 ∷ [])
    ∷ (0x3934 ∷ [])
    ∷ (0x3936 ∷ [])
    ∷ (0x3335 ∷ [])
    ∷ (0x3337 ∷ [])
    ∷ (0x3334 ∷ [])
    ∷ (0x3336 ∷ [])
    ∷ (0x3236 ∷ [])
    ∷ (0x6536 ∷ [])
    ∷ []

pub returns-in-25910 : goal.returns-in-25910
unfolding fixed_rows low_bytes bytes_of
returns-in-25910 c = at_digits c.in-25910.is (record { chosen = refl; placed = refl })

pub returns-in-12854 : goal.returns-in-12854
unfolding fixed_rows low_bytes bytes_of
returns-in-12854 c = at_digits c.in-12854.is (record { chosen = refl; placed = refl })

pub returns-in-13110 : goal.returns-in-13110
unfolding fixed_rows low_bytes bytes_of
returns-in-13110 c = at_digits c.in-13110.is (record { chosen = refl; placed = refl })

pub returns-in-13108 : goal.returns-in-13108
unfolding fixed_rows low_bytes bytes_of
returns-in-13108 c = at_digits c.in-13108.is (record { chosen = refl; placed = refl })

pub returns-in-13111 : goal.returns-in-13111
unfolding fixed_rows low_bytes bytes_of
returns-in-13111 c = at_digits c.in-13111.is (record { chosen = refl; placed = refl })

pub returns-in-13109 : goal.returns-in-13109
unfolding fixed_rows low_bytes bytes_of
returns-in-13109 c = at_digits c.in-13109.is (record { chosen = refl; placed = refl })

pub returns-in-14646 : goal.returns-in-14646
unfolding fixed_rows low_bytes bytes_of
returns-in-14646 c = at_digits c.in-14646.is (record { chosen = refl; placed = refl })

pub returns-in-14644 : goal.returns-in-14644
unfolding fixed_rows low_bytes bytes_of
returns-in-14644 c = at_digits c.in-14644.is (record { chosen = refl; placed = refl })

pub returns-in-25398 : goal.returns-in-25398
unfolding fixed_rows low_bytes bytes_of
returns-in-25398 c = at_digits c.in-25398.is (record { chosen = refl; placed = refl })

pub returns-in-25396 : goal.returns-in-25396
unfolding fixed_rows low_bytes bytes_of
returns-in-25396 c = at_digits c.in-25396.is (record { chosen = refl; placed = refl })

pub returns-in-13622 : goal.returns-in-13622
unfolding fixed_rows low_bytes bytes_of
returns-in-13622 c = at_digits c.in-13622.is (record { chosen = refl; placed = refl })

pub returns-in-13878 : goal.returns-in-13878
unfolding fixed_rows low_bytes bytes_of
returns-in-13878 c = at_digits c.in-13878.is (record { chosen = refl; placed = refl })

pub returns-in-14134 : goal.returns-in-14134
unfolding fixed_rows low_bytes bytes_of
returns-in-14134 c = at_digits c.in-14134.is (record { chosen = refl; placed = refl })

pub returns-in-24887 : goal.returns-in-24887
unfolding fixed_rows low_bytes bytes_of
returns-in-24887 c = at_digits c.in-24887.is (record { chosen = refl; placed = refl })

pub returns-in-24885 : goal.returns-in-24885
unfolding fixed_rows low_bytes bytes_of
returns-in-24885 c = at_digits c.in-24885.is (record { chosen = refl; placed = refl })

pub returns-in-13623 : goal.returns-in-13623
unfolding fixed_rows low_bytes bytes_of
returns-in-13623 c = at_digits c.in-13623.is (record { chosen = refl; placed = refl })

pub returns-in-13621 : goal.returns-in-13621
unfolding fixed_rows low_bytes bytes_of
returns-in-13621 c = at_digits c.in-13621.is (record { chosen = refl; placed = refl })

pub returns-in_default : goal.returns-in_default
unfolding fixed_rows
returns-in_default c = no_candidates 1 arms (meets (every 256 (armed 1 arms)) refl) _ c.requires c.in_default.in_default-own.rest
