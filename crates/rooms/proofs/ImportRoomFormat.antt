-- What a format says of a type, as the columns kind p q text more of its line: 13 times their bytes are at most 38 times the format's bytes and 105 more.
-- The two are equal for a format of one byte whose kind has two digits: 11 bytes, 143 on either side. A number is written without plus and spare zeros,
-- so with no more bytes than it was read from; a timezone has two digits for each byte, as in the format's column; ids are joined by commas in both. Case
-- by case as `read_format` goes, and one test over the fixed names. Assumes nothing.
use mathlib.Core.Path.{◌≡◌, refl, ap, subst}
use mathlib.Core.Bool.{Bool, true, false, cond}
use mathlib.Core.List.{List, [], ◌∷◌}
use mathlib.Core.List.{map as map_list}
use Rattle.std.specs.Prelude.{Option, None, Some}
use Prim.Native.Nat.{ℕ, zero, suc, ◌+◌, ◌*◌, ◌^◌, ◌≤◌, ◌<◌}
use native.Mathlib.Omega.{arith}
use lib.Dec.{eqb, leb, ltb}
use lib.IntN.{ℤ, pos}
use lib.ListN.{length}
use borrow.Author.Tests.{leb-true}
use Rattle.sheets.specs.Refusal.{bad_number}
use Rattle.sheets.specs.Rule.{Rule, is, each, Meets}
use Rattle.sheets.specs.Bytes.{Bytes, plus_sign, comma, minus_sign, colon, ascii, same, split, join, all}
use Rattle.sheets.specs.Answer.{Answer, given, ◌>>=◌, read_each}
use Rattle.sheets.specs.Kind
use Rattle.sheets.specs.IntegerType
use Rattle.sheets.specs.Number.{is_digit, decimal, value_from, write_signed}
use Rattle.sheets.specs.Text.{write_text}
use Rattle.sheets.specs.Field.{TimeUnit, unit_place, second, millisecond, microsecond, nanosecond, bits128, Scalar, leaf, timestamp, fixed_size_binary, fixed_size_list, union}
use Rattle.sheets.specs.FieldSheet.{Shape, of_dictionary}
use Rattle.sheets.specs.FieldSheet.{of_scalar as scalar_shape, of_nesting as nesting_shape, of_grouping as grouping_shape}
use Rattle.sheets.specs.Format.{FormatRow, rows, row_named, Format, of_scalar, of_nesting, of_grouping, unsigned, drop_plus, read_size, minus, read_id, width_of, decimal_parts, cut, zone, read_cut, read_other, read_named, read_format, to_integer_type}
use Rattle.sheets.proofs.Tests.{meets, not_some, same_some}
use Rattle.sheets.proofs.BytesLaws.{same_eq}
use Rattle.sheets.proofs.InverseLaws.{join_split}
use Rattle.rooms.proofs.RoomLaws.{Gives, gives_refused, gives_given, gives_more, gives_then, gives_when, gives_cond}
use Rattle.rooms.proofs.Sizes.{parts_size, join_size, one_digit, two_digits, width_digits, flag_size, value_size_lem, text_most, list_most, shape_size}

-- ── numbers

-- a number is written in its column with no more bytes than it was read from
abbrev Written : Bytes → ℕ → Type 0
Written t n = length (decimal n) ≤ length t

unsigned_size : (t : Bytes) → Gives (Written t) (unsigned t)
unsigned_size [] = gives_refused
unsigned_size (b ∷ bs) = gives_when bad_number (all is_digit (b ∷ bs)) (value_from 0 (b ∷ bs)) (λ h. value_size_lem (b ∷ bs) (omega arith) h)

plus_size : (t : Bytes) → length (drop_plus t) ≤ length t
plus_size [] = omega arith
plus_size (b ∷ bs) = pick (eqb b plus_sign)
  where
    pick : (t : Bool) → length (cond t bs (b ∷ bs)) ≤ suc (length bs)
    pick true = omega arith
    pick false = omega arith

read_size_lem : (t : Bytes) → Gives (Written t) (read_size t)
read_size_lem t = gives_then (unsigned_size (drop_plus t)) (λ n h. gives_when bad_number (is (ltb n (2 ^ 64))) n (λ _. omega (arith, plus_size t)))

-- an id likewise
abbrev IdWritten : Bytes → ℤ → Type 0
IdWritten t z = length (write_signed z) ≤ length t

minus_size : (n : ℕ) → length (write_signed (minus n)) ≤ suc (length (decimal n))
minus_size zero = omega arith
minus_size (suc n) = omega arith

id_size : (t : Bytes) → Gives (IdWritten t) (read_id t)
id_size [] = gives_refused
id_size (b ∷ bs) =
    gives_cond (eqb b minus_sign)
    (λ _. gives_then (unsigned_size bs) (λ n h. gives_when bad_number (is (leb n (2 ^ 31))) (minus n) (λ _. omega (arith, minus_size n))))
    (λ _. gives_then (unsigned_size (drop_plus (b ∷ bs)))
    (λ n h. gives_when bad_number (is (ltb n (2 ^ 31))) (pos n) (λ _. omega (arith, plus_size (b ∷ bs)))))

-- ids, each with a separator
abbrev IdsWritten : List Bytes → List ℤ → Type 0
IdsWritten ps zs = parts_size (map_list write_signed zs) ≤ parts_size ps

ids_size : (ps : List Bytes) → Gives (IdsWritten ps) (read_each read_id ps)
ids_size [] = gives_given (omega arith)
ids_size (p ∷ ps) = gives_then (id_size p) (λ z h. gives_then (ids_size ps) (λ zs k. gives_given (omega arith)))

-- the parts of a text, each with a separator, have at most one byte more than the text
split_size : (s : ℕ) (r : Bytes) → parts_size (split s r) ≤ suc (length r)
split_size s r = omega (arith, go (split s r), ap (λ (b : Bytes). length b) (join_split s r))
  where
    go : (ps : List Bytes) → parts_size ps ≤ suc (length (join s ps))
    go [] = omega arith
    go (p ∷ ps) = omega (arith, join_size s p ps)

-- ── what stands after the colon

unit_digit : (u : TimeUnit) → length (decimal (unit_place u)) ≤ 1
unit_digit second = one_digit 0 (omega arith)
unit_digit millisecond = one_digit 1 (omega arith)
unit_digit microsecond = one_digit 2 (omega arith)
unit_digit nanosecond = one_digit 3 (omega arith)

-- precision and scale, and a kind of two digits
abbrev PartsWritten : List Bytes → Scalar → Type 0
PartsWritten ps s = shape_size (scalar_shape s) ≤ 7 + parts_size ps

parts_size_lem : (ps : List Bytes) → Gives (PartsWritten ps) (decimal_parts ps)
parts_size_lem [] = gives_refused
parts_size_lem (p ∷ []) = gives_refused
parts_size_lem (p ∷ s ∷ []) =
    gives_then (read_size_lem p) (λ a h. gives_then (read_size_lem s) (λ b k. gives_given (omega (arith, width_digits bits128))))
parts_size_lem (p ∷ s ∷ w ∷ []) =
    gives_then (read_size_lem w)
    (λ n _. gives_then (read_size_lem p) (λ a h. gives_then (read_size_lem s) (λ b k. gives_given (omega (arith, width_digits (width_of n))))))
parts_size_lem (p ∷ s ∷ w ∷ x ∷ xs) = gives_refused

zone_size : (r : Bytes) → length (write_text (zone r)) ≤ suc (2 * length r)
zone_size [] = omega arith
zone_size (b ∷ bs) = text_most (Some (b ∷ bs))

-- ── the format

abbrev pub shape_of : Format → Shape
shape_of (of_scalar s) = scalar_shape s
shape_of (of_nesting n) = nesting_shape n
shape_of (of_grouping g) = grouping_shape g

-- the columns of a type, bounded by a format of n bytes
abbrev pub Bounded : ℕ → Shape → Type 0
Bounded n s = 13 * shape_size s ≤ 38 * n + 105

abbrev pub FormatBounded : ℕ → Format → Type 0
FormatBounded n g = Bounded n (shape_of g)

-- a format that is just these bytes
same_size : (f k : Bytes) → same f k ≡ true → length f ≡ length k
same_size f k e = ap (λ (b : Bytes). length b) (same_eq f k e)

-- what stands before the colon and after it
abbrev PartsOf : Bytes → Bytes × Bytes → Type 0
PartsOf f x = length f ≡ length x.0 + suc (length x.1)

cut_size : (f : Bytes) (x : Bytes × Bytes) → cut f ≡ Some x → PartsOf f x
cut_size [] x e = not_some e
cut_size (b ∷ bs) x e = pick (eqb b colon) (cut bs) (cut_size bs) e
  where
    later : Option (Bytes × Bytes) → Option (Bytes × Bytes)
    later o = elim o [ None ↦ None | Some hr ↦ Some (b ∷ hr.0, hr.1) ]

    inner : (o : Option (Bytes × Bytes)) → ((y : Bytes × Bytes) → o ≡ Some y → PartsOf bs y) → later o ≡ Some x → PartsOf (b ∷ bs) x
    inner None next g = not_some g
    inner (Some y) next g = subst (PartsOf (b ∷ bs)) (same_some g) (omega (arith, next y refl))

    pick : (t : Bool) (o : Option (Bytes × Bytes)) → ((y : Bytes × Bytes) → o ≡ Some y → PartsOf bs y)
        → elim t as (λ z. Option (Bytes × Bytes)) [ true ↦ Some ([], bs) | false ↦ later o ] ≡ Some x → PartsOf (b ∷ bs) x
    pick true o next g = subst (PartsOf (b ∷ bs)) (same_some g) (omega arith)
    pick false o next g = inner o next g

module _ (h r : Bytes) where
  abbrev CutBounded : Format → Type 0
  CutBounded g = FormatBounded (length h + suc (length r)) g

  timestamp_bounded : (u : TimeUnit) → 3 ≤ length h → Gives CutBounded (given (of_scalar (timestamp u (zone r))))
  timestamp_bounded u l = gives_given (omega (arith, two_digits Kind.Timestamp (omega arith), unit_digit u, flag_size false, zone_size r))

  binary_bounded : Gives CutBounded (read_size r >>= λ n. given (of_scalar (fixed_size_binary n)))
  binary_bounded = gives_then (read_size_lem r) (λ n k. gives_given (omega (arith, two_digits Kind.FixedSizeBinary (omega arith), flag_size false)))

  list_bounded : Gives CutBounded (read_size r >>= λ n. given (of_nesting (fixed_size_list n)))
  list_bounded = gives_then (read_size_lem r) (λ n k. gives_given (omega (arith, two_digits Kind.FixedSizeList (omega arith), flag_size false)))

  decimal_bounded : Gives CutBounded (decimal_parts (split comma r) >>= λ s. given (of_scalar s))
  decimal_bounded = gives_then (parts_size_lem (split comma r)) (λ s k. gives_given (omega (arith, split_size comma r)))

  union_bounded : (mode : Bool) → 3 ≤ length h → Gives CutBounded (read_each read_id (split comma r) >>= λ zs. given (of_grouping (union mode (Some zs))))
  union_bounded mode l =
      gives_then (ids_size (split comma r))
      (λ zs k. gives_given (omega (arith, two_digits Kind.Union (omega arith), flag_size mode, flag_size false, list_most write_signed zs, split_size comma r)))

  cut_bounded : Gives CutBounded (read_cut h r)
  cut_bounded =
      gives_cond (same h (ascii "tss")) (λ e. timestamp_bounded second (omega (arith, same_size h (ascii "tss") e)))
      (λ _. gives_cond (same h (ascii "tsm")) (λ e. timestamp_bounded millisecond (omega (arith, same_size h (ascii "tsm") e)))
      (λ _. gives_cond (same h (ascii "tsu")) (λ e. timestamp_bounded microsecond (omega (arith, same_size h (ascii "tsu") e)))
      (λ _. gives_cond (same h (ascii "tsn")) (λ e. timestamp_bounded nanosecond (omega (arith, same_size h (ascii "tsn") e)))
      (λ _. gives_cond (same h (ascii "w")) (λ _. binary_bounded)
      (λ _. gives_cond (same h (ascii "+w")) (λ _. list_bounded)
      (λ _. gives_cond (same h (ascii "d")) (λ _. decimal_bounded)
      (λ _. gives_cond (same h (ascii "+us")) (λ e. union_bounded true (omega (arith, same_size h (ascii "+us") e)))
      (λ _. gives_cond (same h (ascii "+ud")) (λ e. union_bounded false (omega (arith, same_size h (ascii "+ud") e)))
      (λ _. gives_refused)))))))))

-- one test over the fixed names
abbrev row_bounded : FormatRow → Rule
row_bounded r = is (leb (13 * shape_size (scalar_shape (leaf r.kind r.unit))) (38 * length r.name + 105))

table : Meets (each row_bounded rows)
unfolding rows decimal
table = meets (each row_bounded rows) refl

abbrev LeafBounded : Bytes → FormatRow → Type 0
LeafBounded f r = FormatBounded (length f) (of_scalar (leaf r.kind r.unit))

row_bounded_lem : (f : Bytes) (rs : List FormatRow) → Meets (each row_bounded rs) → (r : FormatRow) → row_named f rs ≡ Some r → LeafBounded f r
row_bounded_lem f [] h r e = not_some e
row_bounded_lem f (q ∷ rs) h r e = pick (same f q.name) refl e (row_bounded_lem f rs h.1 r)
  where
    pick : (t : Bool) → same f q.name ≡ t → cond t (Some q) (row_named f rs) ≡ Some r → (row_named f rs ≡ Some r → LeafBounded f r) → LeafBounded f r
    pick true t g next =
        subst (LeafBounded f) (same_some g)
        (omega (arith, leb-true (13 * shape_size (scalar_shape (leaf q.kind q.unit))) (38 * length q.name + 105) h.0, same_size f q.name t))
    pick false t g next = next g

named_bounded : (f : Bytes) (o : Option FormatRow) (other : Answer Format) → ((r : FormatRow) → o ≡ Some r → LeafBounded f r)
    → Gives (FormatBounded (length f)) other → Gives (FormatBounded (length f)) (read_named o other)
named_bounded f (Some r) other h k = gives_given (h r refl)
named_bounded f None other h k = k

other_bounded : (f : Bytes) (o : Option (Bytes × Bytes)) → ((x : Bytes × Bytes) → o ≡ Some x → PartsOf f x) → Gives (FormatBounded (length f)) (read_other o)
other_bounded f None h = gives_refused
other_bounded f (Some x) h = gives_more (λ g k. omega (arith, h x refl)) (cut_bounded x.0 x.1)

pub format_bounded : (sorted : Bool) (f : Bytes) → Gives (FormatBounded (length f)) (read_format sorted f)
format_bounded sorted f =
    named_bounded f (row_named f rows) _ (row_bounded_lem f rows table)
    (gives_cond (same f (ascii "+l"))
    (λ e. gives_given (omega (arith, two_digits Kind.List (omega arith), flag_size false, same_size f (ascii "+l") e)))
    (λ _. gives_cond (same f (ascii "+L"))
    (λ e. gives_given (omega (arith, two_digits Kind.LargeList (omega arith), flag_size false, same_size f (ascii "+L") e)))
    (λ _. gives_cond (same f (ascii "+m"))
    (λ e. gives_given (omega (arith, two_digits Kind.Map (omega arith), flag_size sorted, flag_size false, same_size f (ascii "+m") e)))
    (λ _. gives_cond (same f (ascii "+s"))
    (λ e. gives_given (omega (arith, two_digits Kind.Struct (omega arith), flag_size false, same_size f (ascii "+s") e)))
    (λ _. other_bounded f (cut f) (cut_size f))))))

-- ── the index type of a dictionary

pub index_bounded : (ordered : Bool) (f : Bytes) → Gives (λ ix. Bounded (length f) (of_dictionary ix ordered)) (to_integer_type f)
index_bounded ordered f =
    gives_cond (same f (ascii "c")) (λ e. gives_given (letter IntegerType.Int8 (ascii "c") (omega arith) refl e))
    (λ _. gives_cond (same f (ascii "C")) (λ e. gives_given (letter IntegerType.UInt8 (ascii "C") (omega arith) refl e))
    (λ _. gives_cond (same f (ascii "s")) (λ e. gives_given (letter IntegerType.Int16 (ascii "s") (omega arith) refl e))
    (λ _. gives_cond (same f (ascii "S")) (λ e. gives_given (letter IntegerType.UInt16 (ascii "S") (omega arith) refl e))
    (λ _. gives_cond (same f (ascii "i")) (λ e. gives_given (letter IntegerType.Int32 (ascii "i") (omega arith) refl e))
    (λ _. gives_cond (same f (ascii "I")) (λ e. gives_given (letter IntegerType.UInt32 (ascii "I") (omega arith) refl e))
    (λ _. gives_cond (same f (ascii "l")) (λ e. gives_given (letter IntegerType.Int64 (ascii "l") (omega arith) refl e))
    (λ _. gives_cond (same f (ascii "L")) (λ e. gives_given (letter IntegerType.UInt64 (ascii "L") (omega arith) refl e))
    (λ _. gives_refused))))))))
  where
    letter : (ix : ℕ) (k : Bytes) → ix < 10 → length k ≡ 1 → same f k ≡ true → Bounded (length f) (of_dictionary ix ordered)
    letter ix k h l e = omega (arith, two_digits Kind.Dictionary (omega arith), one_digit ix h, flag_size ordered, same_size f k e)
