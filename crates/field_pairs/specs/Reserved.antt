-- Document 02, #106: whether a field's own pairs have a reserved key, asked of the column `pairs` of its line. Assumes nothing.
use Rattle.std.specs.Prelude.{Bool, false, ◌&&◌, ◌||◌, not, List, [], ◌∷◌, ℕ, zero, suc, ◌-◌, eqb, ltb, length, get_or, drop}
use Rattle.sheets.specs.Rule.{passes}
use Rattle.sheets.specs.Bytes.{Bytes, same}
use Rattle.sheets.specs.Text.{hex}
use Rattle.sheets.specs.Field.{Pair}
use Rattle.sheets.specs.Metadata.{name_key, metadata_key}
use Rattle.sheets.specs.Strict.{no_reserved}
use Rattle.field_pairs.specs.Pairs.{pairs_of}

-- whether a key's digits are those of a reserved key
unfoldable pub is_reserved : Bytes → Bool
is_reserved key = same key (hex name_key) || same key (hex metadata_key)

-- whether the first pair's key begins with a byte greater than `A`, with which both reserved keys begin; 0, where there is no byte, is less
unfoldable pub is_past : List Pair → Bool
is_past [] = false
is_past (p ∷ ps) = ltb 65 (get_or p.0 0 0)

-- whether one of the pairs has a reserved key
abbrev pub any_reserved : List Pair → Bool
any_reserved ps = not (passes (no_reserved ps))

-- whether one that the column says has; `~` and `-` say none
unfoldable pub has_reserved : Bytes → Bool
has_reserved column = any_reserved (pairs_of column)

-- ── a test of the bytes that no reserved key fails

-- whether the text has the digits of `W:` where a reserved key has them
abbrev pub has_digits : Bytes → Bool
has_digits t = (eqb (get_or t 8 0) 53 && eqb (get_or t 9 0) 55) && (eqb (get_or t 10 0) 51 && eqb (get_or t 11 0) 97)

-- whether a number less than n meets f
unfoldable pub any_below : ℕ → (ℕ → Bool) → Bool
any_below zero f = false
any_below (suc n) f = any_below n f || f n

-- whether a text from one of the places on has them where a reserved key may begin: at least 41 bytes are left
unfoldable pub mentions_in : Bytes → Bool
mentions_in column = any_below (length column - 40) (λ (i : ℕ). has_digits (drop i column))
