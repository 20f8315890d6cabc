-- `of_two_bytes` meets its contract: in each arm the definition computes at the digits, and no other first byte has a name (`no_candidates`). Assumes nothing.
use mathlib.Core.Path.{refl}
use mathlib.Core.List.{List, [], ◌∷◌}
use Prim.Native.Nat.{ℕ}
use native.Mathlib.Omega.{arith}
use Rattle.sheets.specs.FixedNames.{fixed_rows}
use Rattle.sheets.proofs.Tests.{meets, every}
use Rattle.hexadecimal.specs.Hex.{bytes_of}
use Rattle.words.specs.Words.{low_bytes}
use Rattle.format_names.proofs.CandidateLaws.{at_digits, armed, no_candidates}
use Rattle.format_names.proofs.candidates.of_two_bytes.Goals as goal

-- the digits of the arms, the last first
abbrev arms : List (List ℕ)
arms = (0x6232 ∷ []) ∷ (0x3637 ∷ []) ∷ []

pub returns-in-13879 : goal.returns-in-13879
unfolding fixed_rows low_bytes bytes_of
returns-in-13879 c = at_digits c.in-13879.is (record { chosen = refl; placed = (refl, omega arith) })

pub returns-in-25138 : goal.returns-in-25138
unfolding fixed_rows low_bytes bytes_of
returns-in-25138 c = at_digits c.in-25138.is (record { chosen = refl; placed = (refl, omega arith) })

pub returns-in_default : goal.returns-in_default
unfolding fixed_rows
returns-in_default c = no_candidates 2 arms (meets (every 256 (armed 2 arms)) refl) _ c.requires c.in_default.in_default-own.rest
