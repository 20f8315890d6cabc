-- The order of a metadata block's keys, as `BTreeMap` of the source has it: ascending by byte, the last of equal keys kept. A key is that of its
-- entry. Assumes nothing.
use Rattle.std.specs.Prelude.{cond, List, [], ◌∷◌, ℕ, ◌≤◌, length}
use Rattle.sheets.specs.Bytes.{Bytes, same}
use Rattle.sheets.specs.Field.{before}

-- the entry at its place, unless its key is there
unfoldable pub insert_entry : (ℕ → Bytes) → ℕ → List ℕ → List ℕ
insert_entry key p [] = p ∷ []
insert_entry key p (q ∷ qs) =
    cond (before (key p) (key q)) (p ∷ q ∷ qs)
    (cond (same (key p) (key q)) (q ∷ qs) (q ∷ insert_entry key p qs))

-- the entries in order of keys; "The last of equal keys wins"
unfoldable pub ordered : (ℕ → Bytes) → List ℕ → List ℕ
unfolding insert_entry
ordered key [] = []
ordered key (p ∷ ps) = insert_entry key p (ordered key ps)

-- there are n entries, and as much room beside them
abbrev pub Room : List ℕ → List ℕ → ℕ → Type 0
Room entries spare n = (n ≤ length entries) × (n ≤ length spare)
