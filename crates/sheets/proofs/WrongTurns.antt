-- Sheets that tell the wrong turns of document 01 from the right ones, and each refusal from its neighbours in the order of visiting: one table,
-- by computation. The answers are the source's, but for document 02. Assumes nothing.
use mathlib.Core.Path.{◌≡◌, refl}
use mathlib.Core.Bool.{Bool, true, false}
use mathlib.Core.List.{List, [], ◌∷◌, ◌++◌, map}
use Prim.Native.Nat.{ℕ}
use lib.ListN.{replicate}
use Rattle.sheets.specs.Bytes.{Bytes, ascii}
use Rattle.sheets.specs.Refusal.{no_room}
use Rattle.sheets.specs.Outcome.{imported, exported, plained, outcome, import_outcome}
use Rattle.sheets.specs.Bench.{Case, Right, schema_sheet, field_sheet, imports, import_refuses, exports, times}

abbrev export_refuses : Bytes → ℕ → Case
export_refuses a n = record { call = exported false; sheet = field_sheet a; wanted = (n, []) }

abbrev plains : Bytes → Bytes → Case
plains a b = record { call = plained; sheet = field_sheet a; wanted = (0, field_sheet b) }

-- import: flags, keys, ids
abbrev pub import_turns : List Case
import_turns =
    -- nullable is a bit (document 02, #102): -1 and -2 have it, the two least numbers have not; by division -1 is not nullable, the second least is
    imports (ascii "67 - -1 ~ 0 0\n") (ascii "14 0 0 ~ ~ - 1 ~ 0\n")
    ∷ imports (ascii "67 - -2 ~ 0 0\n") (ascii "14 0 0 ~ ~ - 1 ~ 0\n")
    ∷ imports (ascii "67 - -9223372036854775808 ~ 0 0\n") (ascii "14 0 0 ~ ~ - 0 ~ 0\n")
    ∷ imports (ascii "67 - -9223372036854775807 ~ 0 0\n") (ascii "14 0 0 ~ ~ - 0 ~ 0\n")
    -- all three of one number: -3 has ordered and sorted, and has not nullable
    ∷ imports (ascii "2b6d - -3 ~ 1 0\n69 - -3 ~ 0 1\n67 - 0 ~ 0 0\n") (ascii "31 1 0 ~ ~ - 0 ~ 1\n32 2 1 ~ ~ - 0 ~ 1\n14 0 0 ~ ~ ~ ~ ~ 0\n")
    -- ordered and sorted are bits: -8 has neither, -1 both
    ∷ imports (ascii "2b6d - -8 ~ 1 0\n67 - 0 ~ 0 0\n") (ascii "31 0 0 ~ ~ - 0 ~ 1\n14 0 0 ~ ~ - 0 ~ 0\n")
    ∷ imports (ascii "69 - -1 ~ 0 1\n75 - 0 ~ 0 0\n") (ascii "32 2 1 ~ ~ - 1 ~ 1\n25 0 0 ~ ~ ~ ~ ~ 0\n")
    -- ids are not matched to fields
    ∷ imports (ascii "2b75733a372c2d312c2b30 - 0 ~ 1 0\n67 - 0 ~ 0 0\n") (ascii "41 1 0 7,-1,0 ~ - 0 ~ 1\n14 0 0 ~ ~ - 0 ~ 0\n")
    -- extension metadata without a name is dropped, with one it is no pair
    ∷ imports (ascii "67 - 0 01000000180000004152524f573a657874656e73696f6e3a6d657461646174610100000078 0 0\n") (ascii "14 0 0 ~ ~ - 0 ~ 0\n")
    ∷ imports (ascii "67 - 0 01000000140000004152524f573a657874656e73696f6e3a6e616d6500000000 0 0\n") (ascii "37 0 0 - ~ - 0 ~ 1\n14 0 0 ~ ~ ~ ~ ~ 0\n")
    -- keys in order of bytes, the last of equal ones
    ∷ imports (ascii "67 - 0 030000000100000062010000003101000000610100000032010000006201000000330a 0 0\n") (ascii "14 0 0 ~ ~ - 0 61=32,62=33 0\n")
    -- a null name is empty; the second child of a list is not visited
    ∷ imports (ascii "2b6c ~ 0 ~ 2 0\n67 ~ 0 ~ 0 0\n~ ff 0 00 0 0\n") (ascii "27 0 0 ~ ~ - 0 ~ 1\n14 0 0 ~ ~ - 0 ~ 0\n")
    ∷ []

pub import_turns_lem : Right import_turns
unfolding imported exported
import_turns_lem = refl

-- import: which refusal comes first
abbrev pub import_order : List Case
import_order =
    -- 2 before 3: 33 levels and a broken line, or a byte 00 in a name
    import_refuses (times 32 (ascii "2b6c 70 2 ~ 1 0\n") ++ ascii "67 69 00 ~ 0 0\n") 2
    ∷ import_refuses (times 32 (ascii "2b6c 70 2 ~ 1 0\n") ++ ascii "67 00 0 ~ 0 0\n") 2
    -- no `-0`, no plus, no spare zeros, no uppercase, no odd digits, no empty column, no second space
    ∷ import_refuses (ascii "67 - -0 ~ 0 0\n") 2
    ∷ import_refuses (ascii "67 - +1 ~ 0 0\n") 2
    ∷ import_refuses (ascii "67 - 00 ~ 0 0\n") 2
    ∷ import_refuses (ascii "6C - 0 ~ 0 0\n") 2
    ∷ import_refuses (ascii "671 - 0 ~ 0 0\n") 2
    ∷ import_refuses (ascii "67  0 ~ 0 0\n") 2
    ∷ import_refuses (ascii "67 -  0 ~ 0 0\n") 2
    -- byte 00 in a name; lines missing, left over, with a last line that is not ended
    ∷ import_refuses (ascii "67 00 0 ~ 0 0\n") 2
    ∷ import_refuses (ascii "67 - 9223372036854775808 ~ 0 0\n") 2
    ∷ import_refuses (ascii "67 - 0 ~ 9223372036854775807 0\n") 2
    ∷ import_refuses (ascii "67 - 0 ~ 0 2\n67 - 0 ~ 0 0\n67 - 0 ~ 0 0\n") 2
    ∷ import_refuses (ascii "67 - 0 ~ 0 0\n67 - 0 ~ 0 0\n") 2
    ∷ import_refuses (ascii "67 - 0 ~ 0 0") 2
    ∷ import_refuses [] 2
    -- the child's name before the parent's metadata; the size before the child; the index before the values; 10 before the metadata
    ∷ import_refuses (ascii "2b6c - 0 00 1 0\n67 ff 0 ~ 0 0\n") 5
    ∷ import_refuses (ascii "2b773a33 - 0 00 0 0\n") 10
    ∷ import_refuses (ascii "67 - 0 ~ 0 1\n~ - 0 ~ 0 0\n") 9
    ∷ import_refuses (ascii "69 - 0 ~ 0 1\n~ - 0 ~ 0 0\n") 4
    -- a length: extent before text, key before value
    ∷ import_refuses (ascii "67 - 0 - 0 0\n") 11
    ∷ import_refuses (ascii "67 - 0 0100000001000000ff 0 0\n") 5
    ∷ import_refuses (ascii "67 - 0 0100000002000000ff 0 0\n") 11
    ∷ import_refuses (ascii "67 - 0 01000000ffffffff 0 0\n") 11
    ∷ []

pub import_order_lem : Right import_order
unfolding imported exported
import_order_lem = refl

-- export and plain form
abbrev pub export_turns : List Case
export_turns =
    -- the outermost of two extensions; a dictionary under it is its index type alone; plain form likewise
    exports (ascii "37 0 0 65 ~ 61 0 ~ 1\n37 0 0 66 67 ~ ~ ~ 1\n32 2 1 ~ ~ ~ ~ ~ 1\n25 0 0 ~ ~ ~ ~ ~ 0\n") (ascii "69 61 0 01000000140000004152524f573a657874656e73696f6e3a6e616d650100000065 0 0\n")
    ∷ plains (ascii "37 0 0 65 ~ 61 0 ~ 1\n37 0 0 66 67 ~ ~ ~ 1\n32 2 1 ~ ~ ~ ~ ~ 1\n25 0 0 ~ ~ ~ ~ ~ 0\n") (ascii "37 0 0 65 ~ 61 0 ~ 1\n4 0 0 ~ ~ ~ ~ ~ 0\n")
    -- an inner extension vanishes and its inner type stays
    ∷ plains (ascii "37 0 0 65 ~ 61 0 ~ 1\n37 0 0 66 67 ~ ~ ~ 1\n25 0 0 ~ ~ ~ ~ ~ 0\n") (ascii "37 0 0 65 ~ 61 0 ~ 1\n25 0 0 ~ ~ ~ ~ ~ 0\n")
    -- empty zone, empty pairs, ids of a union
    ∷ plains (ascii "15 3 0 - ~ - 0 - 0\n") (ascii "15 3 0 ~ ~ - 0 ~ 0\n")
    ∷ plains (ascii "41 0 0 ~ ~ - 0 ~ 2\n0 0 0 ~ ~ - 0 ~ 0\n0 0 0 ~ ~ - 0 ~ 0\n") (ascii "41 0 0 0,1 ~ - 0 ~ 2\n0 0 0 ~ ~ - 0 ~ 0\n0 0 0 ~ ~ - 0 ~ 0\n")
    -- 12, 13 before what is below, 14 after it
    ∷ export_refuses (ascii "40 0 0 ~ ~ - 0 ~ 0\n") 12
    ∷ export_refuses (ascii "41 0 0 - ~ - 0 ~ 1\n40 0 0 ~ ~ - 0 ~ 0\n") 13
    ∷ export_refuses (ascii "41 0 0 ~ ~ - 0 ~ 0\n") 13
    ∷ export_refuses (ascii "30 0 0 ~ ~ 00 0 ~ 1\n40 0 0 ~ ~ - 0 ~ 0\n") 12
    ∷ export_refuses (ascii "30 0 0 ~ ~ 00 0 ~ 0\n") 14
    -- a reserved key is overwritten; the block is in order of bytes
    ∷ exports (ascii "37 0 0 65 6d 61 1 4152524f573a657874656e73696f6e3a6e616d65=78,62=63 1\n0 0 0 ~ ~ ~ ~ ~ 0\n")
    (ascii "6e 61 2 03000000180000004152524f573a657874656e73696f6e3a6d65746164617461010000006d140000004152524f573a657874656e73696f6e3a6e616d65010000006501000000620100000063 0 0\n")
    ∷ []

pub export_turns_lem : Right export_turns
unfolding imported exported plained
export_turns_lem = refl

-- document 02, #104: metadata in each order
abbrev imports_in : Bool → Bytes → Bytes → Case
imports_in big a b = record { call = imported big; sheet = schema_sheet a; wanted = (0, field_sheet b) }

abbrev import_refuses_in : Bool → Bytes → ℕ → Case
import_refuses_in big a n = record { call = imported big; sheet = schema_sheet a; wanted = (n, []) }

abbrev exports_in : Bool → Bytes → Bytes → Case
exports_in big a b = record { call = exported big; sheet = field_sheet a; wanted = (0, schema_sheet b) }

abbrev pub order_turns : List Case
order_turns =
    -- one pair, in each order, and in the other one
    imports_in true (ascii "6e - 0 00000001000000016d0000000131 0 0\n") (ascii "0 0 0 ~ ~ - 0 6d=31 0\n")
    ∷ imports_in false (ascii "6e - 0 01000000010000006d0100000031 0 0\n") (ascii "0 0 0 ~ ~ - 0 6d=31 0\n")
    ∷ import_refuses_in true (ascii "6e - 0 01000000010000006d0100000031 0 0\n") 11
    ∷ import_refuses_in false (ascii "6e - 0 00000001000000016d0000000131 0 0\n") 11
    -- the sign is in the first byte of a big-endian number, and in the last byte of a little-endian one: of the count, and of a length
    ∷ imports_in true (ascii "6e - 0 80000000 0 0\n") (ascii "0 0 0 ~ ~ - 0 ~ 0\n")
    ∷ import_refuses_in false (ascii "6e - 0 80000000 0 0\n") 11
    ∷ import_refuses_in true (ascii "6e - 0 00000080 0 0\n") 11
    ∷ imports_in false (ascii "6e - 0 00000080 0 0\n") (ascii "0 0 0 ~ ~ - 0 ~ 0\n")
    ∷ import_refuses_in true (ascii "6e - 0 0000000180000000 0 0\n") 11
    -- a length: extent before text; no block at all
    ∷ import_refuses_in true (ascii "6e - 0 0000000100000001ff 0 0\n") 5
    ∷ import_refuses_in true (ascii "6e - 0 0000000100000002ff 0 0\n") 11
    ∷ import_refuses_in true (ascii "6e - 0 - 0 0\n") 11
    -- the last of equal keys; bytes past the last pair
    ∷ imports_in true (ascii "6e - 0 00000002000000016d0000000131000000016d0000000132 0 0\n") (ascii "0 0 0 ~ ~ - 0 6d=32 0\n")
    ∷ imports_in true (ascii "6e - 0 00000001000000016d000000013100 0 0\n") (ascii "0 0 0 ~ ~ - 0 6d=31 0\n")
    -- every block of a sheet is in the order, a child's and a dictionary's values' too
    ∷ imports_in true (ascii "2b73 - 0 00000001000000016d0000000131 1 0\n69 - 0 00000001000000016e0000000131 0 1\n67 - 0 00000001000000016f0000000131 0 0\n") (ascii "30 0 0 ~ ~ - 0 6d=31 1\n32 2 0 ~ ~ - 0 6e=31 1\n14 0 0 ~ ~ ~ ~ ~ 0\n")
    ∷ import_refuses_in true (ascii "69 - 0 ~ 0 1\n67 - 0 01000000010000006d0100000031 0 0\n") 11
    -- what export writes
    ∷ exports_in true (ascii "37 0 0 78 ~ - 0 ~ 1\n0 0 0 ~ ~ ~ ~ ~ 0\n") (ascii "6e - 0 00000001000000144152524f573a657874656e73696f6e3a6e616d650000000178 0 0\n")
    ∷ exports_in true (ascii "0 0 0 ~ ~ - 0 6d=31 0\n") (ascii "6e - 0 00000001000000016d0000000131 0 0\n")
    ∷ []

pub order_turns_lem : Right order_turns
unfolding imported exported
order_turns_lem = refl

-- "16 comes exactly if the sheet is longer than the buffer": a field sheet of 67 bytes into 66 bytes and into 67
pub room_turns : map (λ (n : ℕ). (import_outcome (schema_sheet (ascii "67 - 0 ~ 0 0\n")) (replicate n 7)).number) (66 ∷ 67 ∷ []) ≡ no_room ∷ 0 ∷ []
unfolding imported outcome
room_turns = refl
