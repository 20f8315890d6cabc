-- The walk over the pairs of a column: what each writer requires, and how far it came. Assumes nothing.
use Rattle.std.specs.Prelude.{◌≡◌, Bool, List, ◌++◌, ℕ, ◌+◌, ◌*◌, ◌-◌, ◌^◌, ◌≤◌, ◌<◌, length, drop}
use Rattle.sheets.specs.Bytes.{Bytes}
use Rattle.sheets.specs.Text.{hex}
use Rattle.sheets.specs.Field.{Pair}
use Rattle.buffer.specs.Over.{over_at, IsUsize}
use Rattle.endian.specs.Word.{word_bytes}
use Rattle.columns.specs.Columns.{part}
use Rattle.column_text.specs.ColumnText.{column_text, TextColumn}
use Rattle.field_pairs.specs.Pairs.{PairsColumn, Pairs, pairs_of}
use Rattle.field_pairs.specs.declared.PairPlace.{PairPlace}
use Rattle.put_metadata.specs.Block.{pair_pieces, block_text, before_text, from_text, after_text, more_done, more_rest}
use Rattle.put_metadata.specs.declared.Walk.{Walk}

-- how far a walk may come yet: 16 digits are the lengths of a pair, which has at least one byte in the column
abbrev pub reach_of : Bytes → Walk → ℕ
reach_of column w = w.end + 16 * (length column - w.place)

-- how many pairs there may be
abbrev pub most_of : Bytes → Walk → ℕ
most_of column w = w.count + (length column - w.place)

-- From w to r a text of `count` pairs was written; `rest` is left. `extra` bounds what did not come from the column.
pub record Moves (column : Bytes) (w r : Walk) (text : Bytes) (count extra : ℕ) (rest : List Pair) (old out : Bytes) : Type 0 where
  pub stands : Pairs column r.place
  pub left : pairs_of (drop r.place column) ≡ rest
  pub counted : r.count ≡ w.count + count
  pub place : r.end ≡ w.end + length text
  pub holds : out ≡ over_at w.end text old
  pub room : reach_of column r ≤ reach_of column w + extra
  pub few : most_of column r ≤ most_of column w + extra

-- the pairs that the column has from where the walk is
abbrev pub left_of : Bytes → Walk → List Pair
left_of column w = pairs_of (drop w.place column)

-- the pair p of the column was written
abbrev pub PutsFound : Bool → Bytes → Walk → PairPlace → Walk → Bytes → Bytes → Type 0
PutsFound big column w p r old out =
    Moves column w r (pair_pieces big (part column w.place p.equals) (part column (p.equals + 1) p.end)) 1 0 (pairs_of (drop p.next column)) old out
    × (r.place ≡ p.next)

-- the pairs whose keys stand before the key were written
abbrev pub PutsUntil : Bool → Bytes → Bytes → Walk → Walk → Bytes → Bytes → Type 0
PutsUntil big column key w r old out =
    let done = before_text key (left_of column w) in
    Moves column w r (block_text big done) (length done) 0 (from_text key (left_of column w)) old out

-- these pairs and the key with its value; "overwriting equal ones": a pair with this key is left out
abbrev pub PutsReserved : Bool → Bytes → Bytes → Bytes → Walk → Walk → Bytes → Bytes → Type 0
PutsReserved big column key value w r old out =
    let done = before_text key (left_of column w) in
    Moves column w r (block_text big done ++ pair_pieces big key value) (length done + 1) (16 + length key + length value) (after_text key (from_text key (left_of column w))) old out

-- the pairs before the extension's metadata, and that
abbrev pub PutsMore : Bool → Bytes → Bytes → Walk → Walk → Bytes → Bytes → Type 0
PutsMore big column more w r old out =
    let done = more_done (column_text more) (left_of column w) in
    Moves column w r (block_text big done) (length done) (64 + length more) (more_rest (column_text more) (left_of column w)) old out

-- the place after a pair that has the key
abbrev pub IsAfter : Bytes → Bytes → ℕ → ℕ → Type 0
IsAfter column key place r = (place ≤ r) × Pairs column r × (pairs_of (drop r column) ≡ after_text key (pairs_of (drop place column)))

-- all pairs that are left, and at place `at` the count of all
abbrev pub PutsLeft : Bool → Bytes → ℕ → Walk → ℕ → Bytes → Bytes → Type 0
PutsLeft big column at w r old out =
    let left = left_of column w in
    (r ≡ w.end + length (block_text big left)) × (out ≡ over_at at (hex (word_bytes big (w.count + length left))) (over_at w.end (block_text big left) old))

-- ── what the writers require

pub record CanPutText (text : Bytes) (at : ℕ) : Type 0 where
  pub short : length text < 65536
  pub room : IsUsize (at + (8 + length text))

pub record CanPutPair (key value : Bytes) (at : ℕ) : Type 0 where
  pub short_key : length key < 65536
  pub short_value : length value < 65536
  pub room : IsUsize (at + (16 + length key + length value))

pub record CanWalk (column : Bytes) (w : Walk) (extra : ℕ) : Type 0 where
  pub stands : Pairs column w.place
  pub room : IsUsize (reach_of column w + extra)
  pub few : most_of column w + extra < 2 ^ 32

pub record CanPutReserved (column : Bytes) (w : Walk) (key value : Bytes) : Type 0 where
  pub walk : CanWalk column w (16 + length key + length value)
  pub some_key : 0 < length key
  pub short_key : length key < 65536
  pub short_value : length value < 65536

pub record CanPutMore (column : Bytes) (w : Walk) (more : Bytes) : Type 0 where
  pub walk : CanWalk column w (64 + length more)
  pub text : TextColumn more

pub record CanPutLeft (column : Bytes) (at : ℕ) (w : Walk) : Type 0 where
  pub walk : CanWalk column w 0
  pub room : IsUsize (at + 8)

pub record CanPutMetadata (pairs name more : Bytes) (at : ℕ) : Type 0 where
  pub column : PairsColumn pairs
  pub short : length pairs < 65536
  pub named : TextColumn name
  pub metadata : TextColumn more
  pub low : at < 2 ^ 63
