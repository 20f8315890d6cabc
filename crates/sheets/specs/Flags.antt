-- Document 01, 'Schema sheet': "The flag bits 1, 2 and 4 belong to the schema line and bear names there: ordered dictionary, nullable, sorted
-- map keys." Assumes nothing.
use Rattle.std.specs.Prelude.{Bool, not, ℕ, ◌/◌, ◌%◌, eqb, ℤ, pos, negsuc}
use Rattle.std.specs.Int.Signed.{quot_z}

abbrev pub ORDERED : ℕ
ORDERED = 1

abbrev pub NULLABLE : ℕ
NULLABLE = 2

abbrev pub SORTED : ℕ
SORTED = 4

abbrev pub odd : ℕ → Bool
odd n = eqb (n % 2) 1

-- the bit whose value is the power of two m, in two's complement: -(n + 1) has the complement of the bits of n
abbrev pub bit : ℕ → ℤ → Bool
bit m (pos n) = odd (n / m)
bit m (negsuc n) = not (odd (n / m))

-- "Import takes ordered and sorted by bit", and document 02, #102: "Nullable becomes bit 2 of the flags, as the C data interface has it"
abbrev pub is_ordered : ℤ → Bool
is_ordered z = bit ORDERED z

abbrev pub is_sorted : ℤ → Bool
is_sorted z = bit SORTED z

abbrev pub nullable : ℤ → Bool
nullable z = bit NULLABLE z

-- the source's reading, which document 01 had: "nullable as (flags / 2) & 1 with division truncated toward zero". It is the bit but for odd negative
-- numbers, where it is the other truth value (`StandardFlagLaws`)
abbrev pub nullable_by_division : ℤ → Bool
nullable_by_division z = bit 1 (quot_z z (pos 2))
