-- Columns at the ends of their widths, computed from the definitions. Assumes nothing.
use mathlib.Core.Path.{◌≡◌, refl}
use Prim.Native.Nat.{◌^◌}
use lib.IntN.{negsuc}
use Rattle.sheets.specs.Refusal.{bad_lines}
use Rattle.sheets.specs.Bytes.{ascii}
use Rattle.sheets.specs.Answer.{refused, given}
use Rattle.decimal.specs.Column.{column_below, signed_column}

greatest_u64 : column_below (2 ^ 64) (ascii "18446744073709551615") ≡ given 18446744073709551615
unfolding column_below
greatest_u64 = refl

past_u64 : column_below (2 ^ 64) (ascii "18446744073709551616") ≡ refused bad_lines
unfolding column_below
past_u64 = refl

plus : column_below (2 ^ 64) (ascii "+1") ≡ refused bad_lines
unfolding column_below
plus = refl

spare_zero : column_below (2 ^ 64) (ascii "01") ≡ refused bad_lines
unfolding column_below
spare_zero = refl

least_i64 : signed_column (2 ^ 63) (ascii "-9223372036854775808") ≡ given (negsuc 9223372036854775807)
unfolding signed_column
least_i64 = refl

past_i64 : signed_column (2 ^ 63) (ascii "9223372036854775808") ≡ refused bad_lines
unfolding signed_column
past_i64 = refl

minus_zero : signed_column (2 ^ 63) (ascii "-0") ≡ refused bad_lines
unfolding signed_column
minus_zero = refl

least_i32 : signed_column (2 ^ 31) (ascii "-2147483648") ≡ given (negsuc 2147483647)
unfolding signed_column
least_i32 = refl
