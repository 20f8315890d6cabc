-- The columns of a type as the writers leave them. By cases. Assumes nothing.
use mathlib.Core.Path.{◌≡◌, refl, sym, ◌∙◌}
use mathlib.Core.Logic.{◌≢◌}
use mathlib.Core.Bool.{true}
use mathlib.Core.List.{[], ◌∷◌}
use Prim.Native.Nat.{ℕ, ◌<◌, ◌^◌}
use native.Mathlib.Omega.{arith}
use lib.ListN.{length}
use borrow.Author.Tests.{ne_eqb}
use Rattle.sheets.specs.Bytes.{Bytes}
use Rattle.sheets.specs.Kind
use Rattle.sheets.specs.Text.{hex, write_text}
use Rattle.sheets.specs.FieldSheet.{decimal_kind, no_text, to_nat}
use Rattle.sheets.specs.Format.{width_of, zone}
use Rattle.hexadecimal.specs.Hex.{is_hex, bytes_of}
use Rattle.hexadecimal.proofs.HexLaws.{twice_length}
use Rattle.hexadecimal.proofs.PartLaws.{hex_bytes}
use Rattle.datatypes.specs.Places.{time_place, union_place, is_sparse}
use Rattle.datatypes.specs.declared.units.TimeUnit.{TimeUnit}
use Rattle.datatypes.specs.declared.units.TimeUnit.TheVariants as TimeUnits
use Rattle.datatypes.specs.declared.units.UnionMode.{UnionMode}
use Rattle.datatypes.specs.declared.units.UnionMode.TheVariants as UnionModes

-- ── a decimal

pub other_width : (n : ℕ) → n ≢ 32 → n ≢ 64 → n ≢ 256 → Kind.Decimal ≡ decimal_kind (width_of n)
other_width n a b c = rw (ne_eqb n 32 a, ne_eqb n 64 b, ne_eqb n 256 c)

-- ── a timestamp

zone_text : (b : Bytes) → length b ≢ 0 → write_text (zone b) ≡ hex b
zone_text [] h = absurd (h refl)
zone_text (x ∷ b) h = refl

-- an empty zone is none
pub no_zone : (t : Bytes) → length t ≡ 0 → no_text ≡ write_text (zone (bytes_of t))
unfolding bytes_of
no_zone [] h = refl
no_zone (x ∷ t) h = absurd (omega arith)

pub some_zone : (t : Bytes) → is_hex t ≡ true → length t ≢ 0 → t ≡ write_text (zone (bytes_of t))
some_zone t h n = sym (zone_text (bytes_of t) (λ e. n (omega (arith, twice_length t h))) ∙ hex_bytes t h)

pub unit_small : (u : TimeUnit) → time_place u < 2 ^ 64
unit_small TimeUnits.Second = omega arith
unit_small TimeUnits.Millisecond = omega arith
unit_small TimeUnits.Microsecond = omega arith
unit_small TimeUnits.Nanosecond = omega arith

-- ── a union

pub mode_place : (m : UnionMode) → union_place m ≡ to_nat (is_sparse m)
mode_place UnionModes.Dense = refl
mode_place UnionModes.Sparse = refl

pub mode_small : (m : UnionMode) → union_place m < 2 ^ 64
mode_small UnionModes.Dense = omega arith
mode_small UnionModes.Sparse = omega arith
