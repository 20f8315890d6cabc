-- `metadata_from_bytes` in place: what its entries say of a block's pairs, or why the block is refused. Assumes nothing.
use Rattle.std.specs.Prelude.{◌≡◌, Bool, true, cond, List, [], ◌∷◌, ◌++◌, ℕ, ◌/◌, ◌≤◌, ◌<◌, length, Option, Ok, Err}
use Rattle.sheets.specs.Rule.{Meets}
use Rattle.sheets.specs.Bytes.{Bytes}
use Rattle.sheets.specs.Answer.{Answer, refused, given, ◌>>=◌}
use Rattle.sheets.specs.Field.{Pair}
use Rattle.sheets.specs.Strict.{no_reserved}
use Rattle.sheets.specs.Metadata.{take_pairs, name_key, metadata_key, reserved, ordinary, value_of, Extension, extension_of, some_pairs}
use Rattle.refusal.specs.Refusals.{refusal_of, Refusing}
use Rattle.hexadecimal.specs.Hex.{is_hex, bytes_of}
use Rattle.metadata.specs.declared.Metadata.{Metadata}
use Rattle.metadata.specs.Entry.{pair_at, pairs_at, value_at, EntryStands, Entries, OrNone}
use Rattle.metadata.specs.PairReading.{Block}

-- ── what is kept of the pairs, in the block's order

pub record Kept : Type 0 where
  -- those whose keys are not reserved
  pub pairs : List Pair
  -- the last value of each reserved key
  pub name : Option Bytes
  pub more : Option Bytes

abbrev pub unreserved : List Pair → List Pair
unreserved [] = []
unreserved (p ∷ ps) = cond (reserved p.0) (unreserved ps) (p ∷ unreserved ps)

-- of pairs
abbrev pub kept_of : List Pair → Kept
kept_of ps = record { pairs = unreserved ps; name = value_of name_key ps; more = value_of metadata_key ps }

-- of the next n pairs of the bytes
abbrev pub kept_pairs : Bool → ℕ → Bytes → Answer Kept
kept_pairs big n bs = take_pairs big n bs >>= λ ps. given (kept_of ps)

-- of entries
abbrev pub kept_at : Bool → Bytes → List ℕ → Metadata → Kept
kept_at big b es f = record { pairs = pairs_at big b es f.count; name = value_at big b f.name; more = value_at big b f.more }

-- what they mean: the pairs of the field, and its extension
abbrev pub meaning_of : Kept → Option (List Pair) × Option Extension
meaning_of k = (some_pairs (ordinary k.pairs), extension_of k.name k.more)

-- the same of entries in the order of their keys
abbrev pub meaning_at : Bool → Bytes → List ℕ → Metadata → Option (List Pair) × Option Extension
meaning_at big b es f = (some_pairs (pairs_at big b es f.count), extension_of (value_at big b f.name) (value_at big b f.more))

-- ── the answers, by cases

-- what is kept of the pairs that were read
abbrev pub kept_answer : Bool → Bytes → List ℕ → Refusing Metadata → Answer Kept
kept_answer big b es (Ok f) = given (kept_at big b es f)
kept_answer big b es (Err q) = refused (refusal_of q)

-- the pairs and the extension of the block
abbrev pub metadata_answer : Bool → Bytes → List ℕ → Refusing Metadata → Answer (Option (List Pair) × Option Extension)
metadata_answer big b es (Ok f) = given (meaning_at big b es f)
metadata_answer big b es (Err q) = refused (refusal_of q)

-- the entries stand in the block
pub record EntriesStand (big : Bool) (b : Bytes) (es : List ℕ) (f : Metadata) : Type 0 where
  pub entries : Entries big b es f.count
  pub has_name : OrNone big b f.name
  pub has_more : OrNone big b f.more

abbrev pub MetadataStands : Bool → Bytes → List ℕ → Refusing Metadata → Type 0
MetadataStands big b es (Ok f) = EntriesStand big b es f
MetadataStands big b es (Err q) = Unit {0}

-- the entry e is added: the entries then say what the pairs say that they said before, and e's pair after them
abbrev pub Adds : Bool → Bytes → List ℕ → Metadata → ℕ → List ℕ → Metadata → Type 0
Adds big b es f e es' g = EntriesStand big b es' g × ((ps : List Pair) → kept_at big b es f ≡ kept_of ps → kept_at big b es' g ≡ kept_of (ps ++ (pair_at big b e ∷ [])))

-- the entries are put into the order of their keys: they then say what is kept of the pairs means
abbrev pub Orders : Bool → Bytes → List ℕ → Metadata → List ℕ → Metadata → Type 0
Orders big b es f es' g = (meaning_at big b es' g ≡ meaning_of (kept_at big b es f)) × EntriesStand big b es' g

-- ── what is required

-- room for one more entry
pub record RoomFor (big : Bool) (m : Bytes) (es : List ℕ) (f : Metadata) (e : ℕ) : Type 0 where
  pub block : Block m
  pub room : f.count < length es
  pub standing : EntriesStand big (bytes_of m) es f
  pub entry : EntryStands big (bytes_of m) e

-- an entry is added in the same way under either order: its key tells what becomes of it
abbrev pub CanKeep : Bytes → List ℕ → Metadata → ℕ → Type 0
CanKeep m es f e = (big : Bool) × RoomFor big m es f e

abbrev pub Keeps : Bytes → List ℕ → Metadata → ℕ → List ℕ → Metadata → Type 0
Keeps m es f e es' g = (big : Bool) → RoomFor big m es f e → Adds big (bytes_of m) es f e es' g

-- entries for as many pairs as the text can hold: a pair takes 16 digits for its lengths
pub record Room (m : Bytes) (es fs : List ℕ) : Type 0 where
  pub block : Block m
  pub entries : length m / 16 ≤ length es
  pub spare : length m / 16 ≤ length fs

abbrev pub HasCount : Bytes → List ℕ → Type 0
HasCount m es = Block m × (8 ≤ length m) × (length m / 16 ≤ length es)

-- entries of pairs whose keys are not reserved, and as much room beside them
pub record CanOrder (big : Bool) (m : Bytes) (es fs : List ℕ) (f : Metadata) : Type 0 where
  pub is_text : is_hex m ≡ true
  pub standing : EntriesStand big (bytes_of m) es f
  pub free : Meets (no_reserved (pairs_at big (bytes_of m) es f.count))
  pub spare : f.count ≤ length fs

-- and so are they put into the order of their keys
abbrev pub CanOrderKeys : Bytes → List ℕ → List ℕ → Metadata → Type 0
CanOrderKeys m es fs f = (big : Bool) × CanOrder big m es fs f

abbrev pub OrdersKeys : Bytes → List ℕ → List ℕ → Metadata → List ℕ → Metadata → Type 0
OrdersKeys m es fs f es' g = (big : Bool) → CanOrder big m es fs f → Orders big (bytes_of m) es f es' g
