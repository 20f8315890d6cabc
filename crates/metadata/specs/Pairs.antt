-- Columns of a field line from entries: `pairs`, and the values that are an extension's name and metadata. Assumes nothing.
use Rattle.std.specs.Prelude.{◌≡◌, Bool, true, List, ℕ, ◌+◌, ◌≤◌, ◌<◌, length}
use Rattle.sheets.specs.Bytes.{Bytes}
use Rattle.sheets.specs.Text.{write_text}
use Rattle.sheets.specs.FieldSheet.{write_list, pair_text}
use Rattle.sheets.specs.Metadata.{some_pairs}
use Rattle.buffer.specs.Over.{IsUsize}
use Rattle.hexadecimal.specs.Hex.{is_hex, bytes_of}
use Rattle.metadata.specs.Entry.{pair_at, pairs_at, value_at, EntryStands, Entries, OrNone}

-- the column of the first n entries: `~` for none
unfoldable pub pairs_column : Bool → Bytes → List ℕ → ℕ → Bytes
unfolding pairs_at
pairs_column big b es n = write_list pair_text (some_pairs (pairs_at big b es n))

-- the entry stands in the hexadecimal text
abbrev pub EntryIn : Bool → Bytes → ℕ → Type 0
EntryIn big m e = (is_hex m ≡ true) × EntryStands big (bytes_of m) e

-- there is a place for the text of its pair
abbrev pub CanPutPair : Bool → Bytes → ℕ → ℕ → Type 0
CanPutPair big m e at = EntryIn big m e × IsUsize (at + length (pair_text (pair_at big (bytes_of m) e)))

-- there is a place for the column of the first n entries
pub record CanPut (big : Bool) (m : Bytes) (es : List ℕ) (n at : ℕ) : Type 0 where
  pub is_text : is_hex m ≡ true
  pub entries : Entries big (bytes_of m) es n
  pub fits : IsUsize (at + length (pairs_column big (bytes_of m) es n))

-- the value of an entry as a column: `~` for 0
unfoldable pub value_column : Bool → Bytes → ℕ → Bytes
unfolding value_at
value_column big b e = write_text (value_at big b e)

-- the entry is 0 or stands in the text, and there is a place for its value's column
pub record CanPutValue (big : Bool) (m : Bytes) (e at : ℕ) : Type 0 where
  pub is_text : is_hex m ≡ true
  pub or_none : OrNone big (bytes_of m) e
  pub fits : IsUsize (at + length (value_column big (bytes_of m) e))

-- the pairs are entries of the metadata
pub record HasPairs (big : Bool) (m : Bytes) (es : List ℕ) (n : ℕ) : Type 0 where
  pub is_text : is_hex m ≡ true
  pub short : length m < 65536
  pub entries : Entries big (bytes_of m) es n
  pub column : length (pairs_column big (bytes_of m) es n) ≤ length m + 1
