-- Entries of a metadata block: an entry says where the hexadecimal text of a pair's key stands, and so where the pair does, since the value's length
-- stands right after the key. No pair starts at 0, so 0 is no entry. Lengths are in the order `big`. Assumes nothing.
use Rattle.std.specs.Prelude.{◌≡◌, Bool, false, cond, List, map, ℕ, ◌+◌, ◌*◌, ◌/◌, ◌≤◌, ◌<◌, eqb, length, take, drop, Option, None, Some}
use Rattle.sheets.specs.Bytes.{Bytes}
use Rattle.sheets.specs.Field.{Pair}
use Rattle.sheets.specs.Metadata.{value32}
use Rattle.key_order.specs.Entry.{entry_of, start_of, size_of, Each}

-- the length that stands at byte k
unfoldable pub length_at : Bool → Bytes → ℕ → ℕ
length_at big b k = value32 big (take 4 (drop k b))

-- the pair whose key has n bytes from byte k on
unfoldable pub pair_from : Bool → Bytes → ℕ → ℕ → Pair
unfolding length_at
pair_from big b k n = (take n (drop k b), take (length_at big b (k + n)) (drop (k + n + 4) b))

-- the pair of an entry; a byte has two digits
unfoldable pub pair_at : Bool → Bytes → ℕ → Pair
unfolding pair_from
pair_at big b e = pair_from big b (start_of e / 2) (size_of e / 2)

-- e is the entry of a pair that stands in the block
pub record EntryStands (big : Bool) (b : Bytes) (e : ℕ) : Type 0 where
  pub start : ℕ
  pub size : ℕ
  pub entry : e ≡ entry_of (2 * start) (2 * size)
  pub short : 2 * size < 65536
  pub after : 0 < start
  pub within : start + size + 4 + length_at big b (start + size) ≤ length b

-- the first n entries are there, and each stands in the block
pub record Entries (big : Bool) (b : Bytes) (es : List ℕ) (n : ℕ) : Type 0 where
  pub count : n ≤ length es
  pub each : Each (EntryStands big b) (take n es)

-- the pairs of the first n entries
unfoldable pub pairs_at : Bool → Bytes → List ℕ → ℕ → List Pair
pairs_at big b es n = map (pair_at big b) (take n es)

-- the value of an entry's pair; 0 has none
unfoldable pub value_at : Bool → Bytes → ℕ → Option Bytes
unfolding pair_at
value_at big b e = cond (eqb e 0) None (Some (pair_at big b e).1)

-- 0, or an entry that stands in the block
abbrev pub OrNone : Bool → Bytes → ℕ → Type 0
OrNone big b e = (eqb e 0 ≡ false) → EntryStands big b e
