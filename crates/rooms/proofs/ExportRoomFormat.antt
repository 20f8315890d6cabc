-- How long the column format of a schema line can be, by the columns kind p q text more that it comes from: `FormatBounded`. The names of the table have at
-- most 7 bytes; numbers and texts of the line stand in the format once, each byte as two digits; ids that are None take at most 10 digits for each
-- field. Assumes nothing.
use mathlib.Core.Path.{◌≡◌, refl, subst}
use mathlib.Core.Bool.{Bool, true, false, ◌&&◌, cond}
use mathlib.Core.List.{List, [], ◌∷◌, ◌++◌}
use mathlib.Core.List.{map as map_list}
use Rattle.std.specs.Prelude.{None, Some}
use Prim.Native.Nat.{ℕ, zero, suc, ◌+◌, ◌*◌, ◌≤◌}
use native.Mathlib.Omega.{arith}
use lib.Dec.{eqb, leb}
use lib.ListN.{length}
use borrow.Author.Tests.{leb-true}
use Rattle.sheets.specs.Refusal.{no_format}
use Rattle.sheets.specs.Rule.{Rule, is, each, Meets}
use Rattle.sheets.specs.Bytes.{Bytes, ascii, comma, join}
use Rattle.sheets.specs.Number.{decimal, write_signed}
use Rattle.sheets.specs.Text.{write_text}
use Rattle.sheets.specs.Field.{TimeUnit, unit_place, second, millisecond, microsecond, nanosecond, Width, bits128, bits32, bits64, bits256, Scalar, leaf, timestamp, fixed_size_binary, decimal_type, Nesting, list, large_list, fixed_size_list, map, Grouping, struct, union, UnionMode, up_from}
use Rattle.sheets.specs.FieldSheet.{Shape, of_scalar, of_nesting, of_grouping}
use Rattle.sheets.specs.Format.{FormatRow, rows, row_of, unit_letter, or_empty, width_text, scalar_format, nesting_format, union_name, grouping_format}
use Rattle.sheets.proofs.Tests.{meets, same_some, not_some}
use Rattle.sheets.proofs.SizeLaws.{hex_length}
use Rattle.rooms.proofs.Sizes.{parts_size, join_size, width_digits, decimal_least, text_least, text_size_lem, shape_size, shape_least, counted_size}
use Rattle.rooms.proofs.RoomLaws.{Gives, gives_refused, gives_given, gives_more, gives_then, gives_found}

-- The bound on the format's column and the byte after it, by the line's first five columns and the number of fields, which may need ids. It leaves 1225
-- for the rest of the schema line: no more for `_pli128`, where it is 15 bytes by 10.
abbrev pub FormatBounded : Shape → ℕ → Bytes → Type 0
FormatBounded s fields f = 37 * suc (length (write_text (Some f))) + 1225 ≤ 178 * shape_size s + 370 * fields

-- the digits of a text of at most n bytes
digits_within : (b : Bytes) (n : ℕ) → 1 ≤ n → length b ≤ n → length (write_text (Some b)) ≤ 2 * n
digits_within [] n k h = omega arith
digits_within (x ∷ b) n k h = omega (arith, hex_length b)

pub short_format : (s : Shape) (f : Bytes) → length f ≤ 7 → FormatBounded s 0 f
short_format s f h = omega (arith, digits_within f 7 (omega arith) h, shape_least s)

-- ── names of the table

abbrev short_row : FormatRow → Rule
short_row r = is (leb (length r.name) 7)

rows_short : Meets (each short_row rows)
unfolding rows
rows_short = meets (each short_row rows) refl

row_short : (k u : ℕ) (l : List FormatRow) → Meets (each short_row l) → (r : FormatRow) → row_of k u l ≡ Some r → Meets (short_row r)
row_short k u [] h r e = not_some e
row_short k u (x ∷ l) h r e = pick (eqb k x.kind && eqb u x.unit) e (row_short k u l h.1 r)
  where
    pick : (t : Bool) → cond t (Some x) (row_of k u l) ≡ Some r → (row_of k u l ≡ Some r → Meets (short_row r)) → Meets (short_row r)
    pick true f next = subst (λ (y : FormatRow). Meets (short_row y)) (same_some f) h.0
    pick false f next = next f

pub name_short : (k u : ℕ) → Gives (λ f. length f ≤ 7) (scalar_format (leaf k u))
name_short k u =
    gives_then (gives_found no_format (row_of k u rows) (row_short k u rows rows_short)) (λ r h. gives_given (leb-true (length r.name) 7 h))

-- ── formats

unit_size : (u : TimeUnit) (b : Bytes) → length (ascii "ts" ++ unit_letter u ++ ascii ":" ++ b) ≡ 4 + length b
unit_size second b = omega arith
unit_size millisecond b = omega arith
unit_size microsecond b = omega arith
unit_size nanosecond b = omega arith

width_size : (w : Width) → parts_size (width_text w) ≤ 4
width_size bits128 = omega arith
width_size bits32 = omega arith
width_size bits64 = omega arith
width_size bits256 = omega arith

pub scalar_format_lem : (s : Scalar) → Gives (FormatBounded (of_scalar s) 0) (scalar_format s)
scalar_format_lem (leaf k u) = gives_more (short_format (of_scalar (leaf k u))) (name_short k u)
scalar_format_lem (timestamp u z) =
    let t = ascii "ts" ++ unit_letter u ++ ascii ":" ++ or_empty z in
    let n = digits_within t (4 + length (or_empty z)) (omega arith) (omega (arith, unit_size u (or_empty z))) in
    gives_given (omega (arith, n, text_size_lem z, text_least z, decimal_least 15, decimal_least (unit_place u), decimal_least 0))
scalar_format_lem (fixed_size_binary size) =
    let n = digits_within (ascii "w:" ++ decimal size) (2 + length (decimal size)) (omega arith) (omega arith) in
    gives_given (omega (arith, n, decimal_least 23, decimal_least size, decimal_least 0))
scalar_format_lem (decimal_type w p s) =
    let t = join comma (decimal p ∷ decimal s ∷ width_text w) in
    let l = join_size comma (decimal p) (decimal s ∷ width_text w) in
    let n = digits_within (ascii "d:" ++ t) (7 + length (decimal p) + length (decimal s)) (omega arith) (omega (arith, l, width_size w)) in
    gives_given (omega (arith, n, width_digits w, decimal_least p, decimal_least s))

pub nesting_format_lem : (n : Nesting) → FormatBounded (of_nesting n) 0 (nesting_format n)
nesting_format_lem list = short_format (of_nesting list) (ascii "+l") (omega arith)
nesting_format_lem large_list = short_format (of_nesting large_list) (ascii "+L") (omega arith)
nesting_format_lem (fixed_size_list size) =
    let n = digits_within (ascii "+w:" ++ decimal size) (3 + length (decimal size)) (omega arith) (omega arith) in
    omega (arith, n, decimal_least 28, decimal_least size, decimal_least 0)
nesting_format_lem (map sorted) = short_format (of_nesting (map sorted)) (ascii "+m") (omega arith)

union_digits : (mode : UnionMode) (ids : Bytes) → length (write_text (Some (union_name mode ++ ids))) ≤ 8 + 2 * length ids
union_digits true ids = omega (arith, hex_length ids)
union_digits false ids = omega (arith, hex_length ids)

pub grouping_format_lem : (g : Grouping) (count : ℕ) → count ≤ 10000 → Gives (FormatBounded (of_grouping g) count) (grouping_format g count)
grouping_format_lem struct count h = gives_given (omega (arith, short_format (of_grouping struct) (ascii "+s") (omega arith)))
grouping_format_lem (union mode None) zero h = gives_refused
grouping_format_lem (union mode None) (suc count) h =
    let ids = join comma (map_list write_signed (up_from 0 (suc count))) in
    gives_given (omega (arith, union_digits mode ids, counted_size (suc count) h, shape_least (of_grouping (union mode None))))
grouping_format_lem (union mode (Some [])) count h = gives_refused
grouping_format_lem (union mode (Some (z ∷ zs))) count h =
    let ids = join comma (write_signed z ∷ map_list write_signed zs) in
    gives_given (omega (arith, union_digits mode ids, shape_least (of_grouping (union mode (Some (z ∷ zs)))), decimal_least 41))
