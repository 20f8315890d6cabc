-- How long the columns are that a format says: at most so many bytes for each byte of the format. Shown of the answer, whatever it is, so that no
-- equation has to be taken apart. Assumes nothing.
use mathlib.Core.Path.{◌≡◌, refl, subst}
use mathlib.Core.Bool.{Bool, true, false, cond}
use mathlib.Core.List.{List, [], ◌∷◌}
use mathlib.Core.List.{map as map_list}
use Rattle.std.specs.Prelude.{Option, None, Some}
use Prim.Native.Nat.{ℕ, zero, suc, ◌+◌, ◌*◌, ◌≤◌, ◌<◌, ◌^◌}
use native.Mathlib.Nat.{le_trans}
use native.Mathlib.Omega.{arith}
use lib.Dec.{eqb, leb, ltb}
use lib.IntN.{ℤ, pos}
use lib.Signed.{mag}
use lib.ListN.{length, take, drop, length-append, length-drop}
use borrow.Author.Tests.{leb-true, ltb-true, ltb-false}
use Rattle.sheets.specs.Refusal.{bad_number}
use Rattle.sheets.specs.Rule.{is, ◌and◌, each, Meets}
use Rattle.sheets.specs.Bytes.{Bytes, comma, ascii, same, prepend, split_step, split, join}
use Rattle.sheets.specs.Answer.{Answer, refused, given, ◌>>=◌, decide, read_each}
use Rattle.sheets.specs.Kind
use Rattle.sheets.specs.Number.{write_signed}
use Rattle.sheets.specs.Text.{write_text}
use Rattle.sheets.specs.Field.{TimeUnit, unit_place, second, millisecond, microsecond, nanosecond, Width, bits128, bits32, bits64, bits256, timestamp, fixed_size_binary, decimal_type, fixed_size_list, union, UnionMode}
use Rattle.sheets.specs.FieldSheet.{columns, of_dictionary, no_text, to_nat, decimal_kind, write_list}
use Rattle.sheets.specs.Format.{Format, of_scalar, of_nesting, of_grouping, FormatRow, rows, row_named, unsigned, drop_plus, read_size, minus, read_id, width_of, decimal_parts, zone, cut, read_cut, read_other, read_named, read_format}
use Rattle.sheets.proofs.Tests.{meets}
use Rattle.hexadecimal.specs.Hex.{is_hex, bytes_of}
use Rattle.hexadecimal.proofs.HexLaws.{twice_length}
use Rattle.hexadecimal.proofs.PartLaws.{length_hex}
use Rattle.decimal.proofs.WriteLaws.{signed_short}
use Rattle.datatypes.specs.Places.{integer_place}
use Rattle.datatypes.specs.declared.IntegerType.{IntegerType}
use Rattle.datatypes.specs.declared.IntegerType.TheVariants as IntegerTypes
use Rattle.field_line.specs.Columns.{shape_piece, columns_piece}
use Rattle.field_line.proofs.LengthLaws.{shape_short}
use Rattle.sheets.specs.Parts.{bytes_before}
use Rattle.format.specs.Parts.{read_ids}
use Rattle.import_type.specs.TypeColumns.{shape_of}
use Rattle.format.proofs.PartLaws.{cut_at, cut_none}

-- ── a union's ids

abbrev IdShort : Answer ℤ → Type 0
IdShort (refused r) = Unit {0}
IdShort (given z) = length (write_signed z) ≤ 20

minus_mag : (n : ℕ) → n ≤ 2 ^ 31 → mag (minus n) < 2 ^ 63
minus_mag zero h = omega arith
minus_mag (suc n) h = omega arith

chain_short : (m : Answer ℕ) (test : ℕ → Bool) (f : ℕ → ℤ) → ((n : ℕ) → test n ≡ true → length (write_signed (f n)) ≤ 20) → IdShort (m >>= λ n. decide bad_number (test n) (f n))
chain_short (refused r) test f h = tt
chain_short (given n) test f h = pick (test n) refl
  where
    pick : (t : Bool) → test n ≡ t → IdShort (decide bad_number t (f n))
    pick true e = h n e
    pick false e = tt

id_short : (b : Bytes) → IdShort (read_id b)
id_short [] = tt
id_short (x ∷ b) = pick (eqb x 45)
  where
    pick : (t : Bool) → IdShort (cond t (unsigned b >>= λ n. decide bad_number (leb n (2 ^ 31)) (minus n)) (unsigned (drop_plus (x ∷ b)) >>= λ n. decide bad_number (ltb n (2 ^ 31)) (pos n)))
    pick true = chain_short (unsigned b) (λ n. leb n (2 ^ 31)) minus (λ n h. signed_short (minus n) (minus_mag n (leb-true n (2 ^ 31) h)))
    pick false = chain_short (unsigned (drop_plus (x ∷ b))) (λ n. ltb n (2 ^ 31)) pos (λ n h. signed_short (pos n) (omega (arith, ltb-true n (2 ^ 31) h)))

join_short : (p : Bytes) (ps : List Bytes) → length (join 44 (p ∷ ps)) ≤ length p + (1 + length (join 44 ps))
join_short p [] = omega arith
join_short p (q ∷ ps) = omega (arith, length-append p (44 ∷ join 44 (q ∷ ps)))

abbrev IdsShort : ℕ → Answer (List ℤ) → Type 0
IdsShort k (refused r) = Unit {0}
IdsShort k (given zs) = length (join 44 (map_list write_signed zs)) ≤ 21 * k

each_short : (ps : List Bytes) → IdsShort (length ps) (read_each read_id ps)
each_short [] = omega arith
each_short (p ∷ ps) = step (read_id p) (read_each read_id ps) (id_short p) (each_short ps)
  where
    step : (a : Answer ℤ) (m : Answer (List ℤ)) → IdShort a → IdsShort (length ps) m → IdsShort (length (p ∷ ps)) (a >>= λ z. m >>= λ zs. given (z ∷ zs))
    step (refused r) m h k = tt
    step (given z) (refused r) h k = tt
    step (given z) (given zs) h k = omega (arith, join_short (write_signed z) (map_list write_signed zs))

prepend_few : (x : ℕ) (ps : List Bytes) → length (prepend x ps) ≤ 1 + length ps
prepend_few x [] = omega arith
prepend_few x (p ∷ ps) = omega arith

split_few : (s : ℕ) (b : Bytes) → length (split s b) ≤ 1 + length b
split_few s [] = omega arith
split_few s (x ∷ b) = pick (eqb x s) (split_few s b)
  where
    pick : (t : Bool) → length (split s b) ≤ 1 + length b → length (split_step t x (split s b)) ≤ 1 + length (x ∷ b)
    pick true h = omega arith
    pick false h = omega (arith, prepend_few x (split s b))

listed_short : (zs : List ℤ) → length (write_list write_signed (Some zs)) ≤ 1 + length (join 44 (map_list write_signed zs))
listed_short [] = omega arith
listed_short (z ∷ zs) = omega arith

pub ids_short : (b : Bytes) (zs : List ℤ) → read_ids b ≡ given zs → length (write_list write_signed (Some zs)) ≤ 22 + 21 * length b
ids_short b zs e =
    let h : IdsShort (length (split comma b)) (given zs) = subst (IdsShort (length (split comma b))) e (each_short (split comma b)) in
    omega (arith, listed_short zs, split_few comma b)

-- ── any format

abbrev FormatShort : ℕ → Answer Format → Type 0
FormatShort n (refused r) = Unit {0}
FormatShort n (given g) = length (columns_piece (columns (shape_of g))) ≤ n

cond_short : (n : ℕ) (t : Bool) (a b : Answer Format) → FormatShort n a → FormatShort n b → FormatShort n (cond t a b)
cond_short n true a b h k = h
cond_short n false a b h k = k

wider : (m n : ℕ) (a : Answer Format) → m ≤ n → FormatShort m a → FormatShort n a
wider m n (refused r) l h = tt
wider m n (given g) l h = le_trans h l

-- numbers of 64 bits, and a text
text_short : (kind p q : ℕ) (text : Bytes) → kind < 2 ^ 64 → p < 2 ^ 64 → q < 2 ^ 64 → length (shape_piece kind p q text no_text) ≤ 66 + length text
text_short kind p q text h k l = omega (arith, shape_short kind p q text no_text h k l)

-- numbers alone
numbers_short : (kind p q : ℕ) → kind < 2 ^ 64 → p < 2 ^ 64 → q < 2 ^ 64 → length (shape_piece kind p q no_text no_text) ≤ 67
numbers_short kind p q h k l = omega (arith, text_short kind p q no_text h k l)

-- ── a size

abbrev SizeSmall : Answer ℕ → Type 0
SizeSmall (refused r) = Unit {0}
SizeSmall (given n) = n < 2 ^ 64

size_small : (b : Bytes) → SizeSmall (read_size b)
size_small b = chain (unsigned (drop_plus b))
  where
    chain : (m : Answer ℕ) → SizeSmall (m >>= λ n. decide bad_number (ltb n (2 ^ 64)) n)
    chain (refused r) = tt
    chain (given n) = pick (ltb n (2 ^ 64)) refl
      where
        pick : (t : Bool) → ltb n (2 ^ 64) ≡ t → SizeSmall (decide bad_number t n)
        pick true e = ltb-true n (2 ^ 64) e
        pick false e = tt

sized_short : (a : Answer ℕ) → SizeSmall a → (make : ℕ → Format) → ((n : ℕ) → n < 2 ^ 64 → FormatShort 67 (given (make n))) → FormatShort 67 (a >>= λ n. given (make n))
sized_short (refused r) h make k = tt
sized_short (given n) h make k = k n h

-- ── a decimal

kind_small_lem : (w : Width) → decimal_kind w < 2 ^ 64
kind_small_lem bits128 = omega arith
kind_small_lem bits32 = omega arith
kind_small_lem bits64 = omega arith
kind_small_lem bits256 = omega arith

pair_short : (w : Width) (a b : Answer ℕ) → SizeSmall a → SizeSmall b → FormatShort 67 ((a >>= λ p. b >>= λ s. given (decimal_type w p s)) >>= λ s. given (of_scalar s))
pair_short w (refused r) b h k = tt
pair_short w (given p) (refused r) h k = tt
pair_short w (given p) (given s) h k = numbers_short (decimal_kind w) p s (kind_small_lem w) h k

wide_short : (n : Answer ℕ) (a b : Answer ℕ) → SizeSmall a → SizeSmall b → FormatShort 67 ((n >>= λ w. a >>= λ p. b >>= λ s. given (decimal_type (width_of w) p s)) >>= λ s. given (of_scalar s))
wide_short (refused r) a b h k = tt
wide_short (given w) a b h k = pair_short (width_of w) a b h k

decimal_short : (ps : List Bytes) → FormatShort 67 (decimal_parts ps >>= λ s. given (of_scalar s))
decimal_short [] = tt
decimal_short (p ∷ []) = tt
decimal_short (p ∷ s ∷ []) = pair_short bits128 (read_size p) (read_size s) (size_small p) (size_small s)
decimal_short (p ∷ s ∷ w ∷ []) = wide_short (read_size w) (read_size p) (read_size s) (size_small p) (size_small s)
decimal_short (p ∷ s ∷ w ∷ x ∷ xs) = tt

-- ── a timestamp and a union

unit_small : (u : TimeUnit) → unit_place u < 2 ^ 64
unit_small second = omega arith
unit_small millisecond = omega arith
unit_small microsecond = omega arith
unit_small nanosecond = omega arith

zone_short : (r : Bytes) → length (write_text (zone r)) ≤ 1 + 2 * length r
zone_short [] = omega arith
zone_short (x ∷ r) = omega (arith, length_hex (x ∷ r))

timestamp_short : (u : TimeUnit) (r : Bytes) → FormatShort (88 + 21 * length r) (given (of_scalar (timestamp u (zone r))))
timestamp_short u r = omega (arith, text_short Kind.Timestamp (unit_place u) 0 (write_text (zone r)) (omega arith) (unit_small u) (omega arith), zone_short r)

flag_small : (b : Bool) → to_nat b < 2 ^ 64
flag_small true = omega arith
flag_small false = omega arith

union_short : (m : UnionMode) (r : Bytes) → FormatShort (88 + 21 * length r) (read_each read_id (split comma r) >>= λ zs. given (of_grouping (union m (Some zs))))
union_short m r = pick (read_ids r) refl
  where
    pick : (a : Answer (List ℤ)) → read_ids r ≡ a → FormatShort (88 + 21 * length r) (a >>= λ zs. given (of_grouping (union m (Some zs))))
    pick (refused q) e = tt
    pick (given zs) e = omega (arith, text_short Kind.Union (to_nat m) 0 (write_list write_signed (Some zs)) (omega arith) (flag_small m) (omega arith), ids_short r zs e)

-- ── all

other_short : (n : ℕ) (a : Answer Format) → FormatShort 67 a → FormatShort (88 + n) a
other_short n a h = wider 67 (88 + n) a (omega arith) h

cut_short : (h r : Bytes) → FormatShort (88 + 21 * length r) (read_cut h r)
cut_short h r =
    let n = 21 * length r in
    cond_short (88 + n) (same h (ascii "tss")) _ _ (timestamp_short second r)
    (cond_short (88 + n) (same h (ascii "tsm")) _ _ (timestamp_short millisecond r)
    (cond_short (88 + n) (same h (ascii "tsu")) _ _ (timestamp_short microsecond r)
    (cond_short (88 + n) (same h (ascii "tsn")) _ _ (timestamp_short nanosecond r)
    (cond_short (88 + n) (same h (ascii "w")) _ _ (other_short n (read_size r >>= λ k. given (of_scalar (fixed_size_binary k))) (sized_short (read_size r) (size_small r) (λ k. of_scalar (fixed_size_binary k)) (λ k l. numbers_short Kind.FixedSizeBinary k 0 (omega arith) l (omega arith))))
    (cond_short (88 + n) (same h (ascii "+w")) _ _ (other_short n (read_size r >>= λ k. given (of_nesting (fixed_size_list k))) (sized_short (read_size r) (size_small r) (λ k. of_nesting (fixed_size_list k)) (λ k l. numbers_short Kind.FixedSizeList k 0 (omega arith) l (omega arith))))
    (cond_short (88 + n) (same h (ascii "d")) _ _ (other_short n (decimal_parts (split comma r) >>= λ s. given (of_scalar s)) (decimal_short (split comma r)))
    (cond_short (88 + n) (same h (ascii "+us")) _ _ (union_short true r)
    (cond_short (88 + n) (same h (ascii "+ud")) _ _ (union_short false r) tt))))))))

colon_short : (b : Bytes) → FormatShort (67 + 21 * length b) (read_other (cut b))
colon_short b = pick (ltb k (length b)) refl
  where
    k : ℕ
    k = bytes_before 58 b

    pick : (t : Bool) → ltb k (length b) ≡ t → FormatShort (67 + 21 * length b) (read_other (cut b))
    pick true e =
        let h : k < length b = ltb-true k (length b) e in
        rw (cut_at b k refl h) (wider (88 + 21 * length (drop (k + 1) b)) (67 + 21 * length b) (read_cut (take k b) (drop (k + 1) b)) (omega (arith, length-drop (k + 1) b)) (cut_short (take k b) (drop (k + 1) b)))
    pick false e = rw (cut_none b k refl (ltb-false k (length b) e)) tt

abbrev RowSmall : Option FormatRow → Type 0
RowSmall None = Unit {0}
RowSmall (Some r) = (r.kind < 2 ^ 64) × (r.unit < 2 ^ 64)

row_small : (b : Bytes) (l : List FormatRow) → Meets (each (λ r. is (ltb r.kind 64) and is (ltb r.unit 64)) l) → RowSmall (row_named b l)
row_small b [] m = tt
row_small b (r ∷ l) m = pick (same b r.name) (row_small b l m.1)
  where
    pick : (t : Bool) → RowSmall (row_named b l) → RowSmall (cond t (Some r) (row_named b l))
    pick true next = (omega (arith, ltb-true r.kind 64 m.0.0), omega (arith, ltb-true r.unit 64 m.0.1))
    pick false next = next

rows_small : (b : Bytes) → RowSmall (row_named b rows)
unfolding rows
rows_small b = row_small b rows (meets (each (λ r. is (ltb r.kind 64) and is (ltb r.unit 64)) rows) refl)

named_short : (n : ℕ) (o : Option FormatRow) (a : Answer Format) → RowSmall o → FormatShort (67 + n) a → FormatShort (67 + n) (read_named o a)
named_short n None a h k = k
named_short n (Some r) a h k = omega (arith, numbers_short r.kind r.unit 0 h.0 h.1 (omega arith))

read_short : (sorted : Bool) (b : Bytes) → FormatShort (67 + 21 * length b) (read_format sorted b)
read_short sorted b =
    let n = 21 * length b in
    named_short n (row_named b rows) _ (rows_small b)
    (cond_short (67 + n) (same b (ascii "+l")) _ _ (omega (arith, numbers_short Kind.List 0 0 (omega arith) (omega arith) (omega arith)))
    (cond_short (67 + n) (same b (ascii "+L")) _ _ (omega (arith, numbers_short Kind.LargeList 0 0 (omega arith) (omega arith) (omega arith)))
    (cond_short (67 + n) (same b (ascii "+m")) _ _ (omega (arith, numbers_short Kind.Map (to_nat sorted) 0 (omega arith) (flag_small sorted) (omega arith)))
    (cond_short (67 + n) (same b (ascii "+s")) _ _ (omega (arith, numbers_short Kind.Struct 0 0 (omega arith) (omega arith) (omega arith))) (colon_short b)))))

-- the columns of the type that the format f says
pub format_short : (f : Bytes) → is_hex f ≡ true → (sorted : Bool) (g : Format) → read_format sorted (bytes_of f) ≡ given g → length (columns_piece (columns (shape_of g))) ≤ 87 + 21 * length f
format_short f h sorted g e =
    let s : FormatShort (67 + 21 * length (bytes_of f)) (given g) = subst (FormatShort (67 + 21 * length (bytes_of f))) e (read_short sorted (bytes_of f)) in
    omega (arith, twice_length f h)

index_small : (t : IntegerType) → integer_place t < 2 ^ 64
index_small IntegerTypes.Int8 = omega arith
index_small IntegerTypes.Int16 = omega arith
index_small IntegerTypes.Int32 = omega arith
index_small IntegerTypes.Int64 = omega arith
index_small IntegerTypes.Int128 = omega arith
index_small IntegerTypes.UInt8 = omega arith
index_small IntegerTypes.UInt16 = omega arith
index_small IntegerTypes.UInt32 = omega arith
index_small IntegerTypes.UInt64 = omega arith
index_small IntegerTypes.UInt128 = omega arith

-- the columns of a dictionary
pub dictionary_short_lem : (index : IntegerType) (ordered : Bool) → length (columns_piece (columns (of_dictionary (integer_place index) ordered))) ≤ 67
dictionary_short_lem index ordered = numbers_short Kind.Dictionary (integer_place index) (to_nat ordered) (omega arith) (index_small index) (flag_small ordered)
