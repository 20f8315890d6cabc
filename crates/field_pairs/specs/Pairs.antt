-- The column `pairs` of a field line: "`pairs` is `key=value` in hexadecimal, joined by commas", and the pairs from a place of it on. Assumes
-- nothing.
use Rattle.std.specs.Prelude.{◌≡◌, Bool, false, ◌||◌, cond, List, [], ◌∷◌, ◌++◌, ℕ, suc, ◌+◌, ◌≤◌, ◌<◌, eqb, ltb, length, get_or, drop, Option, None}
use Rattle.sheets.specs.Rule.{Meets}
use Rattle.sheets.specs.Bytes.{Bytes, comma}
use Rattle.sheets.specs.Text.{hex}
use Rattle.sheets.specs.Field.{Pair, pairs_rule, metadata_rule}
use Rattle.sheets.specs.FieldSheet.{pair_text, write_list, read_list, read_pair}
use Rattle.sheets.specs.Metadata.{or_none}
use Rattle.hexadecimal.specs.Hex.{is_digit, given_or}
use Rattle.columns.specs.Columns.{part}
use Rattle.field_pairs.specs.declared.PairPlace.{PairPlace}

-- how many bytes stand before the first s
unfoldable pub reach : ℕ → Bytes → ℕ
reach s [] = 0
reach s (b ∷ bs) = cond (eqb b s) 0 (suc (reach s bs))

-- only digits stand from a on before e: a byte that is none is looked for from e on
pub record PassesDigits (s : Bytes) (a e : ℕ) : Type 0 where
  pub within : e ≤ length s
  pub same : (b : ℕ) → is_digit b ≡ false → a + reach b (drop a s) ≡ e + reach b (drop e s)

-- what the column says: `~` is None
unfoldable pub pairs_in : Bytes → Option (List Pair)
pairs_in column = given_or None (read_list read_pair column)

-- the pairs of a text: none where it is empty
unfoldable pub pairs_of : Bytes → List Pair
unfolding pairs_in
pairs_of text = or_none (pairs_in text)

-- the column of pairs that a field may have
pub record PairsColumn (column : Bytes) : Type 0 where
  pub pairs : Option (List Pair)
  pub text : column ≡ write_list pair_text pairs
  pub rule : Meets (metadata_rule pairs)

-- the place of the first pair: the end in `~` and in `-`
abbrev pub first_place : Bytes → ℕ
first_place column = cond (eqb (get_or column 0 0) 126 || eqb (get_or column 0 0) 45) (length column) 0

-- ── from a place on

-- a comma before each of the pairs
abbrev pub after_commas : List Pair → Bytes
after_commas [] = []
after_commas (p ∷ ps) = comma ∷ (pair_text p ++ after_commas ps)

-- the pairs with commas between them
abbrev pub pairs_text : List Pair → Bytes
pairs_text [] = []
pairs_text (p ∷ ps) = pair_text p ++ after_commas ps

-- a text of pairs
pub record PairsText (text : Bytes) : Type 0 where
  pub pairs : List Pair
  pub is : text ≡ pairs_text pairs
  pub rule : Meets (pairs_rule pairs)

-- pairs stand from a place on, up to the end; there may be none. No column is longer than a sheet
pub record Pairs (column : Bytes) (at : ℕ) : Type 0 where
  pub short : length column < 65536
  pub within : at ≤ length column
  pub text : PairsText (drop at column)

-- one at least
abbrev pub PairsFrom : Bytes → ℕ → Type 0
PairsFrom column at = Pairs column at × (at < length column)

-- the pair at a place, and the pairs after it
pub record PairAt (column : Bytes) (at : ℕ) (r : PairPlace) : Type 0 where
  pub pair : Pair
  pub low : at ≤ r.equals
  pub sign : r.equals < r.end
  pub grows : r.end ≤ r.next
  pub more : at < r.next
  pub key : part column at r.equals ≡ hex pair.0
  pub value : part column (r.equals + 1) r.end ≡ hex pair.1
  pub rest : Pairs column r.next
  pub first : pairs_of (drop at column) ≡ pair ∷ pairs_of (drop r.next column)

-- whether the first digits tell that the first pair's key stands after the key; 0, where there is no digit, stands before every digit
unfoldable pub later_text : Bytes → List Pair → Bool
later_text key [] = false
later_text key (p ∷ ps) = ltb (get_or key 0 0) (get_or (hex p.0) 0 0)
