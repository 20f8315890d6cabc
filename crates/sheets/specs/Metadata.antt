-- Document 01, 'Metadata block': "a signed 32-bit count, then length, key, length, value. Our lengths are little-endian"; and document 02, #104: "The reader
-- and the writer of a block's count and lengths take the order as a yes (big-endian) or no from the caller". That argument is `big`; the orders differ in
-- `in_order` and nowhere else. Assumes nothing.
use Rattle.std.specs.Prelude.{Bool, true, false, ◌||◌, cond, List, [], ◌∷◌, ◌++◌, reverse, ℕ, zero, suc, ◌+◌, ◌*◌, ◌/◌, ◌%◌, ◌^◌, ltb, length, Option, None, Some}
use Rattle.sheets.specs.Refusal.{not_utf8, bad_metadata}
use Rattle.sheets.specs.Bytes.{Bytes, ascii, same}
use Rattle.sheets.specs.Rule.{is}
use Rattle.sheets.specs.Answer.{Answer, refused, given, ◌>>=◌, when}
use Rattle.sheets.specs.Utf8.{is_utf8}
use Rattle.sheets.specs.Field.{Pair, before}

-- n as k bytes, the least significant first
abbrev pub little : ℕ → ℕ → Bytes
little zero n = []
little (suc k) n = (n % 256) ∷ little k (n / 256)

-- the number of those bytes
abbrev pub little_value : Bytes → ℕ
little_value [] = 0
little_value (b ∷ bs) = b + 256 * little_value bs

-- "most significant byte first": the same bytes in the other direction
abbrev pub in_order : Bool → Bytes → Bytes
in_order true bs = reverse bs
in_order false bs = bs

-- a count or a length of 32 bits, and the number of such bytes
abbrev pub word32 : Bool → ℕ → Bytes
word32 big n = in_order big (little 4 n)

abbrev pub value32 : Bool → Bytes → ℕ
value32 big bs = little_value (in_order big bs)

-- the first n bytes and the others; 11 "metadata cut short"
abbrev pub cut_at : ℕ → Bytes → Answer (Bytes × Bytes)
cut_at zero bs = given ([], bs)
cut_at (suc n) [] = refused bad_metadata
cut_at (suc n) (b ∷ bs) = cut_at n bs >>= λ (h, r). given (b ∷ h, r)

-- "A length is tested for sign, then extent, then text." As an unsigned number a negative length is 2^31 or more
abbrev pub take_text : Bool → Bytes → Answer (Bytes × Bytes)
take_text big bs = do
  (four, bs) ← cut_at 4 bs
  let n : ℕ = value32 big four
  _ ← when bad_metadata (is (ltb n (2 ^ 31))) true
  (t, bs) ← cut_at n bs
  when not_utf8 (is (is_utf8 t)) (t, bs)

-- a key, a value, and the other pairs
abbrev pub take_pairs : Bool → ℕ → Bytes → Answer (List Pair)
take_pairs big zero bs = given []
take_pairs big (suc n) bs = take_text big bs >>= λ (k, bs). take_text big bs >>= λ (v, bs). take_pairs big n bs >>= λ ps. given ((k, v) ∷ ps)

-- "A count of 0 or less gives no pairs"
abbrev pub count_of : ℕ → ℕ
count_of n = cond (ltb n (2 ^ 31)) n 0

-- the pairs of a block; "Bytes past the last pair are ignored"
abbrev pub read_block : Bool → Bytes → Answer (List Pair)
read_block big bs = cut_at 4 bs >>= λ (four, bs). take_pairs big (count_of (value32 big four)) bs

-- the length and the text
abbrev pub write_text32 : Bool → Bytes → Bytes
write_text32 big t = word32 big (length t) ++ t

abbrev pub write_pairs : Bool → List Pair → Bytes
write_pairs big [] = []
write_pairs big (p ∷ ps) = write_text32 big p.0 ++ (write_text32 big p.1 ++ write_pairs big ps)

-- `metadata_to_bytes`
abbrev pub metadata_to_bytes : Bool → List Pair → Bytes
metadata_to_bytes big ps = word32 big (length ps) ++ write_pairs big ps

-- ── what the pairs say

-- "`ARROW:extension:name` and `ARROW:extension:metadata` are reserved"
abbrev pub name_key : Bytes
name_key = ascii "ARROW:extension:name"

abbrev pub metadata_key : Bytes
metadata_key = ascii "ARROW:extension:metadata"

abbrev pub reserved : Bytes → Bool
reserved k = same k name_key || same k metadata_key

-- an extension's name and metadata
abbrev pub Extension : Type 0
Extension = Bytes × Option Bytes

-- the pair at its place, unless its key is there
abbrev pub insert_new : Pair → List Pair → List Pair
insert_new p [] = p ∷ []
insert_new p (q ∷ qs) =
    cond (before p.0 q.0) (p ∷ q ∷ qs)
    (cond (same p.0 q.0) (q ∷ qs) (q ∷ insert_new p qs))

-- the pair at its place, in place of one with its key
abbrev pub insert_over : Pair → List Pair → List Pair
insert_over p [] = p ∷ []
insert_over p (q ∷ qs) =
    cond (before p.0 q.0) (p ∷ q ∷ qs)
    (cond (same p.0 q.0) (p ∷ qs) (q ∷ insert_over p qs))

-- the other pairs in order of keys; "The last of equal keys wins"
abbrev pub ordinary : List Pair → List Pair
ordinary [] = []
ordinary (p ∷ ps) = cond (reserved p.0) (ordinary ps) (insert_new p (ordinary ps))

abbrev pub or_else : Option Bytes → Option Bytes → Option Bytes
or_else None y = y
or_else (Some x) y = Some x

-- the last value of the key
abbrev pub value_of : Bytes → List Pair → Option Bytes
value_of k [] = None
value_of k (p ∷ ps) = or_else (value_of k ps) (cond (same p.0 k) (Some p.1) None)

-- "the first makes an extension, the second is its metadata or, without the first, is dropped"
abbrev pub extension_of : Option Bytes → Option Bytes → Option Extension
extension_of None m = None
extension_of (Some n) m = Some (n, m)

-- no pair is None: `with_metadata` leaves an empty map out
abbrev pub some_pairs : List Pair → Option (List Pair)
some_pairs [] = None
some_pairs (p ∷ ps) = Some (p ∷ ps)

-- the pairs of the field, and its extension
abbrev pub meaning : List Pair → Option (List Pair) × Option Extension
meaning ps = (some_pairs (ordinary ps), extension_of (value_of name_key ps) (value_of metadata_key ps))

-- `metadata_from_bytes`; a null pointer has no pairs
abbrev pub metadata_from_bytes : Bool → Option Bytes → Answer (Option (List Pair) × Option Extension)
metadata_from_bytes big None = given (None, None)
metadata_from_bytes big (Some b) = read_block big b >>= λ ps. given (meaning ps)

abbrev pub or_none : Option (List Pair) → List Pair
or_none None = []
or_none (Some ps) = ps

abbrev pub with_metadata : Option Bytes → List Pair → List Pair
with_metadata None ps = ps
with_metadata (Some m) ps = insert_over (metadata_key, m) ps

abbrev pub block_of : Bool → List Pair → Option Bytes
block_of big [] = None
block_of big (p ∷ ps) = Some (metadata_to_bytes big (p ∷ ps))

-- the metadata of `ArrowSchema::new`: "Export adds the reserved keys, overwriting equal ones", `~` in `more` adds no metadata key
abbrev pub schema_metadata : Bool → Option (List Pair) → Option Extension → Option Bytes
schema_metadata big ps None = block_of big (or_none ps)
schema_metadata big ps (Some e) = Some (metadata_to_bytes big (insert_over (name_key, e.0) (with_metadata e.1 (or_none ps))))
