-- How long a format is: never empty, and not much longer than the columns that it comes from. Assumes nothing.
use mathlib.Core.Path.{◌≡◌, refl, sym, ap, subst, ◌∙◌}
use mathlib.Core.Bool.{Bool, true, false, ◌&&◌, cond}
use mathlib.Core.List.{List, [], ◌∷◌, ◌++◌}
use mathlib.Core.List.{map as map_list}
use Rattle.std.specs.Prelude.{Option, None, Some}
use Prim.Native.Nat.{ℕ, zero, suc, ◌+◌, ◌*◌, ◌≤◌, ◌<◌, ◌^◌}
use native.Mathlib.Omega.{arith}
use lib.Dec.{eqb, ltb}
use lib.ListN.{length, length-append}
use borrow.Author.Tests.{ltb-true}
use Rattle.sheets.specs.Refusal.{no_format}
use Rattle.sheets.specs.Rule.{Rule, is, ◌and◌, each, Meets}
use Rattle.sheets.specs.Bytes.{Bytes, ascii, comma, join}
use Rattle.sheets.specs.Answer.{Answer, given, ◌>>=◌, found}
use Rattle.sheets.specs.Number.{decimal, write_signed}
use Rattle.sheets.specs.Text.{write_text}
use Rattle.sheets.specs.Field.{second, millisecond, microsecond, nanosecond, bits128, bits32, bits64, bits256, Scalar, leaf, timestamp, fixed_size_binary, decimal_type, list, large_list, fixed_size_list, map, struct, union, UnionMode, up_from}
use Rattle.sheets.specs.FieldSheet.{Shape, of_scalar, of_nesting, of_grouping, of_dictionary, of_extension, columns}
use Rattle.sheets.specs.FieldTrees.{shape_rule}
use Rattle.sheets.specs.Format.{FormatRow, rows, row_of, scalar_format, union_name, or_empty}
use Rattle.sheets.proofs.Tests.{same_given, not_given, meets}
use Rattle.hexadecimal.proofs.PartLaws.{length_hex}
use Rattle.decimal.proofs.WriteLaws.{decimal_short}
use Rattle.put_format.specs.LineFormat.{shape_format, line_format, CanFormat}

-- ── names

abbrev short_row : FormatRow → Rule
short_row r = is (ltb 0 (length r.name)) and is (ltb (length r.name) 8)

row_short : (k u : ℕ) (l : List FormatRow) → Meets (each short_row l) → (r : FormatRow) → row_of k u l ≡ Some r → Meets (short_row r)
row_short k u [] h r e = absurd (let z : ◌≡◌ {A = ℕ} 0 1 = cc in omega arith)
row_short k u (x ∷ l) h r e = pick (eqb k x.kind && eqb u x.unit) e (row_short k u l h.1 r)
  where
    pick : (t : Bool) → cond t (Some x) (row_of k u l) ≡ Some r → (row_of k u l ≡ Some r → Meets (short_row r)) → Meets (short_row r)
    pick true f next =
        let s : x ≡ r = cc in
        subst (λ (y : FormatRow). Meets (short_row y)) s h.0
    pick false f next = next f

rows_short : Meets (each short_row rows)
unfolding rows
rows_short = meets (each short_row rows) refl

named_short : (k u : ℕ) (f : Bytes) → scalar_format (leaf k u) ≡ given f → (0 < length f) × (length f < 8)
named_short k u f h = go (row_of k u rows) refl h
  where
    go : (o : Option FormatRow) → row_of k u rows ≡ o → (found no_format o >>= λ r. given r.name) ≡ given f → (0 < length f) × (length f < 8)
    go None e g = not_given g
    go (Some r) e g =
        let s = row_short k u rows rows_short r e in
        let n : r.name ≡ f = same_given g in
        let m : length r.name ≡ length f = ap length n in
        (omega (arith, m, ltb-true 0 (length r.name) s.0), omega (arith, m, ltb-true (length r.name) 8 s.1))

-- ── counted ids

counted_short : (m c : ℕ) → m + c < 2 ^ 64 → length (join comma (map_list write_signed (up_from m (suc c)))) ≤ 21 * suc c
counted_short m zero h = omega (arith, decimal_short m (omega arith))
counted_short m (suc c) h =
    let rest = join comma (map_list write_signed (up_from (suc m) (suc c))) in
    omega (arith, length-append (decimal m) (comma ∷ rest), decimal_short m (omega arith), counted_short (suc m) c (omega arith))

-- ── shapes

-- a format that is not empty, and its most bytes
abbrev Size : ℕ → Bytes → Type 0
Size most f = (0 < length f) × (length f ≤ most)

sized : (most : ℕ) (g f : Bytes) → given g ≡ given f → Size most g → Size most f
sized most g f e h = subst (Size most) (same_given e) h

zone_short : (z : Option Bytes) → length (or_empty z) ≤ length (write_text z)
zone_short None = omega arith
zone_short (Some []) = omega arith
zone_short (Some (b ∷ bs)) = omega (arith, length_hex (b ∷ bs))

size_of : (n : ℕ) → Meets (is (ltb n (2 ^ 64))) → length (decimal n) ≤ 20
size_of n h = decimal_short n (ltb-true n (2 ^ 64) h)

scalar_size : (s : Scalar) (fields : ℕ) (f : Bytes) → Meets (shape_rule (of_scalar s)) → scalar_format s ≡ given f → Size (64 + length (columns (of_scalar s)).text + 21 * fields) f
scalar_size (leaf k u) n f h e = let s = named_short k u f e in (s.0, omega (arith, s.1))
scalar_size (timestamp second z) n f h e = sized _ (ascii "tss:" ++ or_empty z) f e (omega arith, omega (arith, zone_short z))
scalar_size (timestamp millisecond z) n f h e = sized _ (ascii "tsm:" ++ or_empty z) f e (omega arith, omega (arith, zone_short z))
scalar_size (timestamp microsecond z) n f h e = sized _ (ascii "tsu:" ++ or_empty z) f e (omega arith, omega (arith, zone_short z))
scalar_size (timestamp nanosecond z) n f h e = sized _ (ascii "tsn:" ++ or_empty z) f e (omega arith, omega (arith, zone_short z))
scalar_size (fixed_size_binary m) n f h e = sized _ (ascii "w:" ++ decimal m) f e (omega arith, omega (arith, size_of m h))
scalar_size (decimal_type bits128 p s) n f h e =
    sized _ (ascii "d:" ++ join comma (decimal p ∷ decimal s ∷ [])) f e
    (omega arith, omega (arith, length-append (decimal p) (comma ∷ decimal s), size_of p h.0, size_of s h.1))
scalar_size (decimal_type bits32 p s) n f h e =
    sized _ (ascii "d:" ++ join comma (decimal p ∷ decimal s ∷ ascii "32" ∷ [])) f e
    (omega arith, omega (arith, length-append (decimal p) (comma ∷ (decimal s ++ ascii ",32")), length-append (decimal s) (ascii ",32"), size_of p h.0, size_of s h.1))
scalar_size (decimal_type bits64 p s) n f h e =
    sized _ (ascii "d:" ++ join comma (decimal p ∷ decimal s ∷ ascii "64" ∷ [])) f e
    (omega arith, omega (arith, length-append (decimal p) (comma ∷ (decimal s ++ ascii ",64")), length-append (decimal s) (ascii ",64"), size_of p h.0, size_of s h.1))
scalar_size (decimal_type bits256 p s) n f h e =
    sized _ (ascii "d:" ++ join comma (decimal p ∷ decimal s ∷ ascii "256" ∷ [])) f e
    (omega arith, omega (arith, length-append (decimal p) (comma ∷ (decimal s ++ ascii ",256")), length-append (decimal s) (ascii ",256"), size_of p h.0, size_of s h.1))

union_name_lem : (m : UnionMode) → length (union_name m) ≡ 4
union_name_lem true = refl
union_name_lem false = refl

shape_size : (s : Shape) (fields : ℕ) (f : Bytes) → Meets (shape_rule s) → fields < 65536 → shape_format s fields ≡ given f → Size (64 + length (columns s).text + 21 * fields) f
shape_size (of_scalar s) n f h l e = scalar_size s n f h e
shape_size (of_nesting list) n f h l e = sized _ (ascii "+l") f e (omega arith, omega arith)
shape_size (of_nesting large_list) n f h l e = sized _ (ascii "+L") f e (omega arith, omega arith)
shape_size (of_nesting (fixed_size_list m)) n f h l e = sized _ (ascii "+w:" ++ decimal m) f e (omega arith, omega (arith, size_of m h))
shape_size (of_nesting (map b)) n f h l e = sized _ (ascii "+m") f e (omega arith, omega arith)
shape_size (of_grouping struct) n f h l e = sized _ (ascii "+s") f e (omega arith, omega arith)
shape_size (of_grouping (union m None)) zero f h l e = not_given e
shape_size (of_grouping (union m None)) (suc n) f h l e =
    let t = join comma (map_list write_signed (up_from 0 (suc n))) in
    sized _ (union_name m ++ t) f e (omega (arith, length-append (union_name m) t, union_name_lem m), omega (arith, length-append (union_name m) t, union_name_lem m, counted_short 0 n (omega arith)))
shape_size (of_grouping (union m (Some []))) n f h l e = not_given e
shape_size (of_grouping (union m (Some (z ∷ zs)))) n f h l e =
    let t = join comma (write_signed z ∷ map_list write_signed zs) in
    sized _ (union_name m ++ t) f e (omega (arith, length-append (union_name m) t, union_name_lem m), omega (arith, length-append (union_name m) t, union_name_lem m))
shape_size (of_dictionary ix o) n f h l e = let s = named_short (ix + 2) 0 f e in (s.0, omega (arith, s.1))
shape_size (of_extension a b) n f h l e = not_given e

pub format_size : (kind p q : ℕ) (text : Bytes) (fields at : ℕ) → CanFormat kind p q text fields at → (f : Bytes) → line_format kind p q text fields ≡ given f → (0 < length f) × (length f ≤ 64 + length text + 21 * fields)
unfolding line_format
format_size kind p q text fields at h f e =
    let s = shape_size h.shape fields f h.rule h.few (ap (λ (a : Answer Shape). a >>= λ x. shape_format x fields) (sym h.read) ∙ e) in
    (s.0, omega (arith, s.1, ap length h.is))
