-- Hexadecimal pairs that say ASCII bytes from 10 hexadecimal on. Assumes nothing.
use Rattle.std.specs.Prelude.{◌≡◌, Bool, true, false, ◌&&◌, ◌||◌, cond, [], ◌∷◌, ℕ, suc, ◌+◌, ◌≤◌, leb, ltb, length, drop}
use Rattle.sheets.specs.Rule.{Rule, is, ◌and◌, passes}
use Rattle.sheets.specs.Bytes.{Bytes}
use Rattle.columns.specs.Columns.{part, block_size}

-- the first digit is `1` to `7`, the second any
abbrev pub is_pair : ℕ → ℕ → Bool
is_pair a b = (leb 49 a && leb a 55) && ((leb 48 b && leb b 57) || (leb 97 b && leb b 102))

-- such pairs one after the other
abbrev pub pairs : Bytes → Rule
pairs [] = is true
pairs (a ∷ []) = is false
pairs (a ∷ b ∷ bs) = is (is_pair a b) and pairs bs

-- such pairs, at least one
unfoldable pub are_pairs : Bytes → Bool
are_pairs c = ltb 0 (length c) && passes (pairs c)

-- how many bytes such pairs have that stand at the front
unfoldable pub pairs_length : Bytes → ℕ
pairs_length [] = 0
pairs_length (a ∷ []) = 0
pairs_length (a ∷ b ∷ bs) = cond (is_pair a b) (suc (suc (pairs_length bs))) 0

-- the first place from a on where no such pair stands
abbrev pub pairs_from : Bytes → ℕ → ℕ
pairs_from s a = a + pairs_length (drop a s)

-- such pairs stand from a up to e, and no block of them from e on
pub record PairsPass (s : Bytes) (a e : ℕ) : Type 0 where
  pub within : e ≤ length s
  pub same : pairs_from s a ≡ pairs_from s e
  pub last : e + block_size ≤ length s → passes (pairs (part s e (e + block_size))) ≡ false
