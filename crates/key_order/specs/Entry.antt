-- Entries: an entry is a number that says where in a text a key stands, so that keys are put in order without being moved. It is the place where the
-- key starts times 65536, and the key's length. Assumes nothing.
use Rattle.std.specs.Prelude.{◌≡◌, List, [], ◌∷◌, ℕ, ◌+◌, ◌*◌, ◌/◌, ◌%◌, ◌≤◌, ◌<◌, length, get_or, take, drop}
use Rattle.sheets.specs.Bytes.{Bytes}

-- the entry of a key that starts there and is so long
abbrev pub entry_of : ℕ → ℕ → ℕ
entry_of start size = start * 65536 + size

-- both numbers have 16 bits
abbrev pub IsEntry : ℕ → ℕ → Type 0
IsEntry start size = (start < 65536) × (size < 65536)

-- where the key of an entry starts
abbrev pub start_of : ℕ → ℕ
start_of e = e / 65536

-- how long it is
abbrev pub size_of : ℕ → ℕ
size_of e = e % 65536

-- the key of an entry; it ends with the text if the entry tells of more
unfoldable pub key_at : Bytes → ℕ → Bytes
key_at text e = take (size_of e) (drop (start_of e) text)

-- the key without its first bytes
unfoldable pub rest_at : Bytes → ℕ → ℕ → Bytes
rest_at text shared e = drop shared (key_at text e)

-- the key has four bytes after those, all of them in the text
abbrev pub HasFour : Bytes → ℕ → ℕ → Type 0
HasFour text shared e = (shared + 4 ≤ size_of e) × (start_of e + (shared + 4) ≤ length text)

-- what holds of each entry
abbrev pub Each : (ℕ → Type 0) → List ℕ → Type 0
Each P [] = Unit {0}
Each P (e ∷ es) = P e × Each P es

-- the key begins with the first n bytes of s
abbrev pub Begins : Bytes → Bytes → ℕ → ℕ → Type 0
Begins text s n e = take n s ≡ take n (key_at text e)

-- the keys of all the entries begin with the same n bytes: those of the first
abbrev pub Shares : Bytes → List ℕ → ℕ → Type 0
Shares text l n = Each (Begins text (key_at text (get_or l 0 0)) n) l
