-- Hexadecimal digits are bytes, by one computed test over the 16 digits. Assumes nothing.
use mathlib.Core.Path.{◌≡◌, refl}
use mathlib.Core.Bool.{true}
use mathlib.Core.List.{[], ◌∷◌}
use Prim.Native.Nat.{ℕ, ◌/◌, ◌%◌, ◌<◌}
use native.Mathlib.Omega.{arith}
use lib.Dec.{ltb}
use borrow.Author.Tests.{ltb-true}
use Rattle.sheets.specs.Rule.{Meets}
use Rattle.sheets.specs.Bytes.{Bytes, all, is_byte}
use Rattle.sheets.specs.Text.{hex_digit, hex}
use Rattle.sheets.proofs.Tests.{every, at_each, meets}
use Rattle.words.specs.Words.{Small}

digit_small : (d : ℕ) → d < 16 → ltb (hex_digit d) 256 ≡ true
digit_small d h = at_each 16 (λ k. ltb (hex_digit k) 256) (meets (every 16 (λ k. ltb (hex_digit k) 256)) refl) d h

pub hex_small : (b : ℕ) (l : Bytes) → b < 256 → Small (hex l) → Small (hex (b ∷ l))
hex_small b l h k = (digit_small (b / 16) (omega arith), (digit_small (b % 16) (omega arith), k))

-- the digits of any bytes
pub hex_bytes_small : (l : Bytes) → Meets (all is_byte l) → Small (hex l)
hex_bytes_small [] h = refl
hex_bytes_small (b ∷ l) h = hex_small b l (ltb-true b 256 h.0) (hex_bytes_small l h.1)
