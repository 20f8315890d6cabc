-- Well-formed UTF-8 (document 01, 'Metadata block': UTF-8 testing "follows the Unicode standard"): the standard's Table 3-7. Assumes nothing.
use Rattle.std.specs.Prelude.{◌≡◌, Bool, true, false, ◌&&◌, ◌||◌, List, [], ◌∷◌, ◌++◌, ℕ, leb, Option, None, Some}
use Rattle.sheets.specs.Rule.{is, each, Meets}
use Rattle.sheets.specs.Bytes.{Bytes}

-- the bytes from the first to the last
pub record Range : Type 0 where
  pub first : ℕ
  pub last : ℕ

infix 80 ◌to◌
abbrev pub ◌to◌ : ℕ → ℕ → Range
◌to◌ a b = record { first = a; last = b }

abbrev pub in_range : Range → ℕ → Bool
in_range r b = leb r.first b && leb b r.last

-- Table 3-7, "Well-Formed UTF-8 Byte Sequences": in each row the ranges of the first, second, third and fourth byte
abbrev pub table : List (List Range)
table =
    (0x00 to 0x7f ∷ [])
    ∷ (0xc2 to 0xdf ∷ 0x80 to 0xbf ∷ [])
    ∷ (0xe0 to 0xe0 ∷ 0xa0 to 0xbf ∷ 0x80 to 0xbf ∷ [])
    ∷ (0xe1 to 0xec ∷ 0x80 to 0xbf ∷ 0x80 to 0xbf ∷ [])
    ∷ (0xed to 0xed ∷ 0x80 to 0x9f ∷ 0x80 to 0xbf ∷ [])
    ∷ (0xee to 0xef ∷ 0x80 to 0xbf ∷ 0x80 to 0xbf ∷ [])
    ∷ (0xf0 to 0xf0 ∷ 0x90 to 0xbf ∷ 0x80 to 0xbf ∷ 0x80 to 0xbf ∷ [])
    ∷ (0xf1 to 0xf3 ∷ 0x80 to 0xbf ∷ 0x80 to 0xbf ∷ 0x80 to 0xbf ∷ [])
    ∷ (0xf4 to 0xf4 ∷ 0x80 to 0x8f ∷ 0x80 to 0xbf ∷ 0x80 to 0xbf ∷ [])
    ∷ []

-- one byte from each range of the row
abbrev pub fits : List Range → Bytes → Bool
fits [] [] = true
fits [] (b ∷ bs) = false
fits (r ∷ rs) [] = false
fits (r ∷ rs) (b ∷ bs) = in_range r b && fits rs bs

-- the bytes are a sequence of one of the rows
abbrev pub is_sequence : List (List Range) → Bytes → Bool
is_sequence [] s = false
is_sequence (row ∷ rows) s = fits row s || is_sequence rows s

abbrev pub concat : List Bytes → Bytes
concat [] = []
concat (s ∷ ss) = s ++ concat ss

-- "well-formed": sequences of the table, one after the other
abbrev pub WellFormed : Bytes → Type 0
WellFormed b = (ss : List Bytes) × Meets (each (λ s. is (is_sequence table s)) ss) × (concat ss ≡ b)

-- ── the same as a test that reads the bytes once; proofs/Utf8Laws shows `is_utf8 b ≡ true ↔ WellFormed b`

-- the ranges that follow in the row that the byte begins; no byte begins two rows
abbrev pub following : ℕ → List (List Range) → Option (List Range)
following b [] = None
following b ([] ∷ rows) = following b rows
following b ((r ∷ rs) ∷ rows) = elim (in_range r b) [ true ↦ Some rs | false ↦ following b rows ]

-- first a byte from each of these ranges, then sequences of the rows up to the end
abbrev pub sequences_of : List (List Range) → List Range → Bytes → Bool
sequences_of rows [] [] = true
sequences_of rows [] (b ∷ bs) = elim (following b rows) [ None ↦ false | Some rs ↦ sequences_of rows rs bs ]
sequences_of rows (r ∷ rs) [] = false
sequences_of rows (r ∷ rs) (b ∷ bs) = in_range r b && sequences_of rows rs bs

abbrev pub sequences : List Range → Bytes → Bool
sequences rs bs = sequences_of table rs bs

abbrev pub is_utf8 : Bytes → Bool
is_utf8 bs = sequences [] bs
