-- How long each piece of a field line is, so that a caller can bound a line. Assumes nothing.
use mathlib.Core.Path.{◌≡◌, refl, ◌∙◌}
use mathlib.Core.Bool.{Bool, true, false}
use mathlib.Core.List.{[], ◌∷◌}
use Prim.Native.Nat.{ℕ, ◌+◌, ◌≤◌, ◌<◌, ◌^◌}
use native.Mathlib.Omega.{arith}
use lib.ListN.{length, length-append}
use Rattle.sheets.specs.Bytes.{Bytes, line_end, space, equals}
use Rattle.sheets.specs.Number.{decimal}
use Rattle.sheets.specs.FieldSheet.{no_text, to_nat}
use Rattle.decimal.proofs.WriteLaws.{decimal_short}
use Rattle.field_line.specs.Columns.{column, kind_piece, shape_piece, own_piece, end_piece, pair_piece}

pub column_length_lem : (c : Bytes) → length (column c) ≡ 1 + length c
unfolding column
column_length_lem c = length-append c (space ∷ []) ∙ omega arith

-- one digit
pub flag_length : (b : Bool) → length (decimal (to_nat b)) ≡ 1
unfolding decimal
flag_length true = refl
flag_length false = refl

-- a number of 64 bits
pub number_short : (n : ℕ) → n < 2 ^ 64 → length (column (decimal n)) ≤ 21
number_short n h = omega (arith, column_length_lem (decimal n), decimal_short n h)

-- numbers of 64 bits
pub kind_short : (kind p q : ℕ) → kind < 2 ^ 64 → p < 2 ^ 64 → q < 2 ^ 64 → length (kind_piece kind p q) ≤ 63
unfolding kind_piece
kind_short kind p q h k l = simp length-append (omega (arith, number_short kind h, number_short p k, number_short q l))

pub shape_length : (kind p q : ℕ) (text more : Bytes)
    → length (shape_piece kind p q text more) ≡ 5 + (length (decimal kind) + length (decimal p) + length (decimal q) + length text + length more)
unfolding shape_piece
shape_length kind p q text more = simp (length-append, column_length_lem) (omega arith)

-- numbers of 64 bits
pub shape_short : (kind p q : ℕ) (text more : Bytes) → kind < 2 ^ 64 → p < 2 ^ 64 → q < 2 ^ 64
    → length (shape_piece kind p q text more) ≤ 65 + length text + length more
shape_short kind p q text more h k l = omega (arith, shape_length kind p q text more, decimal_short kind h, decimal_short p k, decimal_short q l)

pub bare_length : length (own_piece no_text no_text no_text) ≡ 6
unfolding column own_piece
bare_length = refl

pub end_length : (children : ℕ) → length (end_piece children) ≡ 1 + length (decimal children)
unfolding end_piece
end_length children = length-append (decimal children) (line_end ∷ []) ∙ omega arith

-- a number of 64 bits
pub end_short : (children : ℕ) → children < 2 ^ 64 → length (end_piece children) ≤ 21
end_short children h = omega (arith, end_length children, decimal_short children h)

pub pair_length : (key value : Bytes) → length (pair_piece key value) ≡ 1 + length key + length value
unfolding pair_piece
pair_length key value = length-append key (equals ∷ value) ∙ omega arith
