-- The flags of the Arrow C data interface (specs/Standard) against those that are read and written here. Each of the three is the published bit for
-- every int64_t, as all 64 would be; what export writes has exactly the published bits; and the source's reading of nullable, by division, is that bit but
-- for odd negative numbers, where it is the opposite. By arithmetic on quotients. Assumes nothing.
use mathlib.Core.Path.{◌≡◌, refl, sym, ◌∙◌, ap, subst}
use mathlib.Core.Bool.{Bool, true, false, not}
use Prim.Native.Nat.{ℕ, zero, suc, ◌+◌, ◌-◌, ◌*◌, ◌/◌, ◌%◌, ◌^◌, ◌≤◌, ◌<◌}
use native.Mathlib.Nat.{mod-lt, mul_comm, mul-sub, mul-le-mul_right, pow-suc}
use native.Mathlib.Omega.{arith}
use lib.Dec.{eqb}
use lib.IntN.{ℤ, pos, negsuc, neg_ℤ}
use lib.Pow.{pow_pos, shr_lt, split, high, ones_split}
use lib.Signed.{mag}
use borrow.Author.Tests.{eqb-true, eqb-false, eq-eqb, ne_eqb}
use Rattle.sheets.specs.Flags.{ORDERED, NULLABLE, SORTED, odd, bit, is_ordered, is_sorted, nullable, nullable_by_division}
use Rattle.sheets.specs.Export.{flag}
use Rattle.sheets.specs.Standard.{ARROW_FLAG_DICTIONARY_ORDERED, ARROW_FLAG_NULLABLE, ARROW_FLAG_MAP_KEYS_SORTED, has_flag}

pub flags_named : (ORDERED ≡ ARROW_FLAG_DICTIONARY_ORDERED) × (NULLABLE ≡ ARROW_FLAG_NULLABLE) × (SORTED ≡ ARROW_FLAG_MAP_KEYS_SORTED)
flags_named = (refl, refl, refl)

-- a number that 64 bits hold
abbrev pub Is64 : ℤ → Type 0
Is64 z = mag z < 2 ^ 63

-- a half that is odd exactly where the other is not
odd_other : (x y : ℕ) → x % 2 + y % 2 ≡ 1 → odd x ≡ not (odd y)
odd_other x y h = pick (eqb (y % 2) 1) refl
  where
    pick : (t : Bool) → eqb (y % 2) 1 ≡ t → eqb (x % 2) 1 ≡ not t
    pick true e = ne_eqb (x % 2) 1 (omega (arith, eqb-true (y % 2) 1 e))
    pick false e = eq-eqb (x % 2) 1 (omega (arith, eqb-false (y % 2) 1 e))

-- ── read

-- the bits from k on of the complement of n, in j + k bits, are the complement of those of n, in j bits
complement_high : (j k n : ℕ) → n < 2 ^ (j + k) → ((2 ^ (j + k) - 1) - n) / 2 ^ k ≡ (2 ^ j - 1) - n / 2 ^ k
complement_high j k n h =
    let m = 2 ^ k in
    let p = 2 ^ j - 1 in
    let low : n % m < m = mod-lt n (pow_pos k) in
    let less : n / m ≤ p = omega (arith, shr_lt j k h) in
    let parts : (2 ^ (j + k) - 1) - n ≡ (p - n / m) * m + ((m - 1) - n % m) =
    omega (arith, ones_split j k, split n k, mul_comm (p - n / m) m ∙ mul-sub m p (n / m), mul_comm m p, mul_comm m (n / m), mul-le-mul_right m less, low) in
    ap (λ (x : ℕ). x / m) parts ∙ high (p - n / m) k (omega (arith, low))

-- so a bit of the one is set where that of the other is not
complement_bit : (i k n : ℕ) → n < 2 ^ (suc i + k) → ((2 ^ (suc i + k) - 1) - n) / 2 ^ k % 2 + n / 2 ^ k % 2 ≡ 1
complement_bit i k n h =
    ap (λ (x : ℕ). x % 2 + n / 2 ^ k % 2) (complement_high (suc i) k n h) ∙ omega (arith, pow-suc 2 i, shr_lt (suc i) k h)

-- the bit of value 2 ^ k is the standard's flag of that value, for all 64 and for every number: -(n + 1) is stored as the complement of n
pub flag_bit : (k : ℕ) → k < 64 → (z : ℤ) → Is64 z → bit (2 ^ k) z ≡ has_flag (2 ^ k) z
flag_bit k l (pos n) h = refl
flag_bit k l (negsuc n) h =
    let all : suc (63 - k) + k ≡ 64 = omega (arith, l) in
    let other = subst (λ (w : ℕ). n < 2 ^ w → ((2 ^ w - 1) - n) / 2 ^ k % 2 + n / 2 ^ k % 2 ≡ 1) all (complement_bit (63 - k) k n) in
    sym (odd_other (((2 ^ 64 - 1) - n) / 2 ^ k) (n / 2 ^ k) (other (omega (arith, h))))

-- "Import takes ordered and sorted by bit"
pub ordered_flag : (z : ℤ) → Is64 z → is_ordered z ≡ has_flag ARROW_FLAG_DICTIONARY_ORDERED z
ordered_flag z h = flag_bit 0 (omega arith) z h

-- document 02, #102: "Nullable becomes bit 2 of the flags, as the C data interface has it"
pub nullable_flag : (z : ℤ) → Is64 z → nullable z ≡ has_flag ARROW_FLAG_NULLABLE z
nullable_flag z h = flag_bit 1 (omega arith) z h

pub sorted_flag_lem : (z : ℤ) → Is64 z → is_sorted z ≡ has_flag ARROW_FLAG_MAP_KEYS_SORTED z
sorted_flag_lem z h = flag_bit 2 (omega arith) z h

-- ── the source's reading of nullable, by division

-- a number and its negative are odd together
negated_odd : (m : ℕ) → bit 1 (neg_ℤ (pos m)) ≡ odd m
negated_odd zero = refl
negated_odd (suc j) = sym (odd_other (suc j) (j / 1) (omega arith))

-- it is the bit where the flags are not negative,
pub division_natural : (n : ℕ) → nullable_by_division (pos n) ≡ nullable (pos n)
division_natural n = let whole : n / 2 / 1 ≡ n / 2 = omega arith in ap odd whole

-- and where they are negative and even: -(n + 1) is even where n is odd;
pub division_even : (n : ℕ) → odd n ≡ true → nullable_by_division (negsuc n) ≡ nullable (negsuc n)
division_even n e =
    let half : suc n / 2 ≡ suc (n / 2) = omega (arith, eqb-true (n % 2) 1 e) in
    negated_odd (suc n / 2) ∙ ap odd half ∙ odd_other (suc (n / 2)) (n / 2) (omega arith)

-- where they are negative and odd it is the other truth value: of -3 the bit is not set, and the source says nullable
pub division_odd : (n : ℕ) → odd n ≡ false → nullable_by_division (negsuc n) ≡ not (nullable (negsuc n))
division_odd n e =
    let half : suc n / 2 ≡ n / 2 = omega (arith, eqb-false (n % 2) 1 e) in
    negated_odd (suc n / 2) ∙ ap odd half ∙ sym (twice (odd (n / 2)))
  where
    twice : (b : Bool) → not (not b) ≡ b
    twice true = refl
    twice false = refl

-- ── written: the flags of a field and of its dictionary or map, as export adds them up

abbrev pub Has : ℤ → Bool → Bool → Bool → Type 0
Has z ordered is_nullable sorted =
    (has_flag ARROW_FLAG_DICTIONARY_ORDERED z ≡ ordered) × (has_flag ARROW_FLAG_NULLABLE z ≡ is_nullable) × (has_flag ARROW_FLAG_MAP_KEYS_SORTED z ≡ sorted)

pub dictionary_flags : (is_nullable ordered : Bool) → Has (pos (flag is_nullable NULLABLE + flag ordered ORDERED)) ordered is_nullable false
dictionary_flags true true = (refl, refl, refl)
dictionary_flags true false = (refl, refl, refl)
dictionary_flags false true = (refl, refl, refl)
dictionary_flags false false = (refl, refl, refl)

pub map_flags : (is_nullable sorted : Bool) → Has (pos (flag is_nullable NULLABLE + flag sorted SORTED)) false is_nullable sorted
map_flags true true = (refl, refl, refl)
map_flags true false = (refl, refl, refl)
map_flags false true = (refl, refl, refl)
map_flags false false = (refl, refl, refl)
