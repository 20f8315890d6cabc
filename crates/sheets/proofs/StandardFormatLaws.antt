-- The format strings of the Arrow C data interface (specs/Standard) against those that are read and written here: each published one reads as its row
-- says, each type that a row is taken for is written so, and each that is written is published, but for `_pli128` and `_plu128`. Fixed names by one
-- computation over the tables; those with numbers by the laws of numbers, in range or not. Assumes nothing.
use mathlib.Core.Path.{◌≡◌, refl, sym, ◌∙◌, ap, subst}
use mathlib.Core.Logic.{inl, inr}
use mathlib.Core.Bool.{Bool, true, false, ◌&&◌, ◌||◌, cond}
use mathlib.Core.List.{List, [], ◌∷◌, ◌++◌}
use mathlib.Core.List.{map as map_list}
use Rattle.std.specs.Prelude.{None, Some}
use Prim.Native.Nat.{ℕ, ◌+◌, ◌^◌}
use lib.Dec.{eqb, ltb}
use lib.IntN.{ℤ, pos, negsuc}
use Rattle.sheets.specs.Refusal.{bad_number, no_format}
use Rattle.sheets.specs.Rule.{Rule, is, ◌and◌, each, passes, Meets}
use Rattle.sheets.specs.Bytes.{Bytes, ascii, lacks, same, join}
use Rattle.sheets.specs.Answer.{Answer, refused, given, ◌>>=◌, when, decide, found, read_each}
use Rattle.sheets.specs.Number.{decimal, write_signed}
use Rattle.sheets.specs.Kind
use Rattle.sheets.specs.Field.{Info, TimeUnit, second, millisecond, microsecond, nanosecond, Width, bits128, bits32, bits64, bits256, Scalar, leaf, timestamp, fixed_size_binary, decimal_type, list, large_list, fixed_size_list, map, struct, union, ArrowDataType, scalar, nested, grouped, dictionary, extension, Fields, count_fields, up_from, size_rule, id_rule}
use Rattle.sheets.specs.Format.{rows, row_of, or_empty, scalar_format, union_name, write_ids, Format, of_scalar, of_nesting, of_grouping, read_size, read_id, decimal_parts, width_of, zone, read_format, to_format, index_format, to_integer_type}
use Rattle.sheets.specs.Format as F
use Rattle.sheets.specs.Standard.{Published, decimal128_format, decimal_format, bit_width, fixed_width_binary_format, timestamp_format, fixed_sized_list_format, union_format, fixed_formats, In, PublishedRow, fixed, decimal128, decimal_bits, fixed_width_binary, timestamps, fixed_sized_list, unions, published, index_formats, source_name, IsPublished}
use Rattle.sheets.proofs.Tests.{never, not_some, not_given, first_gave, same_given, met_when, meets}
use Rattle.sheets.proofs.BytesLaws.{same_eq, split_join, each_lacks}
use Rattle.sheets.proofs.NumberLaws.{decimal_lacks, signed_lacks}
use Rattle.sheets.proofs.FormatLaws.{size_any, id_any, found_some}

-- ── lists

-- two functions that agree along a list agree at each of it
agree_in : {A B : Type 0} (f g : A → B) (l : List A) → map_list f l ≡ map_list g l → (a : A) → In a l → f a ≡ g a
agree_in f g [] e a h = absurd h
agree_in f g (b ∷ l) e a (inl h) = ap f h ∙ heads e ∙ ap g (sym h)
  where
    heads : f b ∷ map_list f l ≡ g b ∷ map_list g l → f b ≡ g b
    heads k = cc
agree_in f g (b ∷ l) e a (inr h) = agree_in f g l (tails e) a h
  where
    tails : f b ∷ map_list f l ≡ g b ∷ map_list g l → map_list f l ≡ map_list g l
    tails k = cc

-- ── numbers of a format, in range or not

ids_any : (zs : List ℤ) → read_each read_id (map_list write_signed zs) ≡ when bad_number (each id_rule zs) zs
ids_any [] = refl
ids_any (z ∷ zs) = rw (id_any z, ids_any zs) (pick (passes (id_rule z)) (passes (each id_rule zs)))
  where
    pick : (r s : Bool) → (decide bad_number r z >>= λ x. decide bad_number s zs >>= λ y. given (x ∷ y)) ≡ decide bad_number (r && s) (z ∷ zs)
    pick true true = refl
    pick true false = refl
    pick false s = refl

-- what is made of a value that was met
when_map : {A B : Type 0} (rule : Rule) (f : A → B) (a : A) → (when bad_number rule a >>= λ x. given (f x)) ≡ when bad_number rule (f a)
when_map {A} {B} rule f a = pick (passes rule)
  where
    pick : (t : Bool) → (decide bad_number t a >>= λ x. given (f x)) ≡ decide bad_number t (f a)
    pick true = refl
    pick false = refl

-- ── each published format reads as its row says

abbrev Reads : (sorted : Bool) → PublishedRow sorted → Type 0
Reads sorted r = read_format sorted (published r).format ≡ (published r).taken

-- precision and scale, both read; a scale below 0 does not
two_sizes : (p s : ℕ) (w : Width) → (read_size (decimal p) >>= λ a. read_size (decimal s) >>= λ b. given (decimal_type w a b)) ≡ when bad_number (size_rule p and size_rule s) (decimal_type w p s)
two_sizes p s w = rw (size_any p, size_any s) (pick (ltb p (2 ^ 64)) (ltb s (2 ^ 64)))
  where
    pick : (t u : Bool) → (decide bad_number t p >>= λ a. decide bad_number u s >>= λ b. given (decimal_type w a b)) ≡ decide bad_number (t && u) (decimal_type w p s)
    pick true true = refl
    pick true false = refl
    pick false u = refl

scale_fails : (p s : ℕ) (w : Width) → (read_size (decimal p) >>= λ a. read_size (write_signed (negsuc s)) >>= λ b. given (decimal_type w a b)) ≡ refused bad_number
scale_fails p s w = rw (size_any p) (pick (ltb p (2 ^ 64)))
  where
    pick : (t : Bool) → (decide bad_number t p >>= λ a. read_size (write_signed (negsuc s)) >>= λ b. given (decimal_type w a b)) ≡ refused bad_number
    pick true = refl
    pick false = refl

-- the third part is the width
width_part : (w : Width) (p s : Bytes) → decimal_parts (p ∷ s ∷ decimal (bit_width w) ∷ []) ≡ (read_size p >>= λ a. read_size s >>= λ b. given (decimal_type w a b))
width_part bits128 p s = rw (size_any 128)
width_part bits32 p s = rw (size_any 32)
width_part bits64 p s = rw (size_any 64)
width_part bits256 p s = rw (size_any 256)

read_decimal : (sorted : Bool) (p : ℕ) (s : ℤ) → Reads sorted (decimal128 p s)
unfolding rows
read_decimal sorted p (pos s) =
    rw (split_join 44 (decimal p) (decimal s ∷ []) (decimal_lacks 44 refl p, (decimal_lacks 44 refl s, refl)), two_sizes p s bits128) (when_map (size_rule p and size_rule s) of_scalar (decimal_type bits128 p s))
read_decimal sorted p (negsuc s) =
    rw (split_join 44 (decimal p) (write_signed (negsuc s) ∷ []) (decimal_lacks 44 refl p, (signed_lacks 44 refl (negsuc s), refl)), scale_fails p s bits128)

read_width : (sorted : Bool) (p : ℕ) (s : ℤ) (w : Width) → Reads sorted (decimal_bits p s w)
unfolding rows
read_width sorted p (pos s) w =
    rw (split_join 44 (decimal p) (decimal s ∷ decimal (bit_width w) ∷ []) (decimal_lacks 44 refl p, (decimal_lacks 44 refl s, (decimal_lacks 44 refl (bit_width w), refl))), width_part w (decimal p) (decimal s), two_sizes p s w)
    (when_map (size_rule p and size_rule s) of_scalar (decimal_type w p s))
read_width sorted p (negsuc s) w =
    rw (split_join 44 (decimal p) (write_signed (negsuc s) ∷ decimal (bit_width w) ∷ []) (decimal_lacks 44 refl p, (signed_lacks 44 refl (negsuc s), (decimal_lacks 44 refl (bit_width w), refl))), width_part w (decimal p) (write_signed (negsuc s)), scale_fails p s w)

texts_free : (zs : List ℤ) → Meets (each_lacks 44 (map_list write_signed zs))
texts_free [] = refl
texts_free (z ∷ zs) = (signed_lacks 44 refl z, texts_free zs)

read_union : (sorted mode : Bool) (ids : List ℤ) → Reads sorted (unions mode ids)
unfolding rows
read_union sorted true [] = refl
read_union sorted false [] = refl
read_union sorted true (z ∷ zs) =
    rw (split_join 44 (write_signed z) (map_list write_signed zs) (texts_free (z ∷ zs)), ids_any (z ∷ zs)) (when_map (each id_rule (z ∷ zs)) (λ l. of_grouping (union true (Some l))) (z ∷ zs))
read_union sorted false (z ∷ zs) =
    rw (split_join 44 (write_signed z) (map_list write_signed zs) (texts_free (z ∷ zs)), ids_any (z ∷ zs)) (when_map (each id_rule (z ∷ zs)) (λ l. of_grouping (union false (Some l))) (z ∷ zs))

fixed_read : (sorted : Bool) → map_list (λ (r : Published). read_format sorted r.format) (fixed_formats sorted) ≡ map_list (λ (r : Published). r.taken) (fixed_formats sorted)
unfolding rows
fixed_read sorted = refl

pub read_published : (sorted : Bool) (r : PublishedRow sorted) → read_format sorted (published r).format ≡ (published r).taken
unfolding rows
read_published sorted (fixed r h) = agree_in (λ (r : Published). read_format sorted r.format) (λ (r : Published). r.taken) (fixed_formats sorted) (fixed_read sorted) r h
read_published sorted (decimal128 p s) = read_decimal sorted p s
read_published sorted (decimal_bits p s w) = read_width sorted p s w
read_published sorted (fixed_width_binary n) = rw (size_any n) (when_map (size_rule n) (λ m. of_scalar (fixed_size_binary m)) n)
read_published sorted (timestamps second z) = refl
read_published sorted (timestamps millisecond z) = refl
read_published sorted (timestamps microsecond z) = refl
read_published sorted (timestamps nanosecond z) = refl
read_published sorted (fixed_sized_list n) = rw (size_any n) (when_map (size_rule n) (λ m. of_nesting (fixed_size_list m)) n)
read_published sorted (unions mode ids) = read_union sorted mode ids

-- "any other width Decimal": a width that the columnar format does not have is read as 128 bits (a departure)
pub read_any_width : (sorted : Bool) (p s : ℕ) (w : Bytes) (n : ℕ) → Meets (lacks 44 w) → read_size w ≡ given n → width_of n ≡ bits128
    → read_format sorted (ascii "d:" ++ join 44 (decimal p ∷ decimal s ∷ w ∷ [])) ≡ (decimal128_format p (pos s)).taken
unfolding rows
read_any_width sorted p s w n free size kind =
    rw (split_join 44 (decimal p) (decimal s ∷ w ∷ []) (decimal_lacks 44 refl p, (decimal_lacks 44 refl s, (free, refl))), size, kind, two_sizes p s bits128)
    (when_map (size_rule p and size_rule s) of_scalar (decimal_type bits128 p s))

-- a dictionary's index: each published integer type is read as its place, and written so
pub indexes_read : map_list (λ (p : Bytes × ℕ). to_integer_type p.0) index_formats ≡ map_list (λ (p : Bytes × ℕ). given p.1) index_formats
indexes_read = refl

pub indexes_written : map_list (λ (p : Bytes × ℕ). index_format p.1) index_formats ≡ map_list (λ (p : Bytes × ℕ). given p.0) index_formats
unfolding rows
indexes_written = refl

-- ── each type that a row is taken for is written as the row says

-- the type that a format tells, over a field or fields
abbrev pub type_from : Format → Info → ArrowDataType → Fields → ArrowDataType
type_from (of_scalar s) i t fs = scalar s
type_from (of_nesting n) i t fs = nested n i t
type_from (of_grouping g) i t fs = grouped g fs

-- a decimal of 128 bits has two names, and the first is written
abbrev pub first_name : {sorted : Bool} → PublishedRow sorted → Published
first_name (fixed r h) = r
first_name (decimal128 p s) = decimal128_format p s
first_name (decimal_bits p s bits128) = decimal128_format p s
first_name (decimal_bits p s bits32) = decimal_format p s bits32
first_name (decimal_bits p s bits64) = decimal_format p s bits64
first_name (decimal_bits p s bits256) = decimal_format p s bits256
first_name (fixed_width_binary n) = fixed_width_binary_format n
first_name (timestamps u z) = timestamp_format u z
first_name (fixed_sized_list n) = fixed_sized_list_format n
first_name (unions mode ids) = union_format mode ids

module _ (i : Info) (a : ArrowDataType) (fs : Fields) where
  abbrev Writes : Bytes → Format → Type 0
  Writes f g = to_format (type_from g i a fs) ≡ given f

  known : (f : Bytes) (x g : Format) → given x ≡ given g → Writes f x → Writes f g
  known f x g e h = subst (Writes f) (same_given e) h

  met : (f : Bytes) (x g : Format) (rule : Rule) → when bad_number rule x ≡ given g → Writes f x → Writes f g
  met f x g rule e h = subst (Writes f) (met_when bad_number rule x g e).1 h

  fixed_written : (sorted : Bool)
      → map_list (λ (r : Published). r.taken >>= λ g. to_format (type_from g i a fs)) (fixed_formats sorted)
      ≡ map_list (λ (r : Published). r.taken >>= λ g. given r.format) (fixed_formats sorted)
  unfolding rows
  fixed_written sorted = refl

  fixed_writes : (r : Published) (m : Answer Format) (g : Format) → m ≡ given g → (m >>= λ x. to_format (type_from x i a fs)) ≡ (m >>= λ x. given r.format) → Writes r.format g
  fixed_writes r m g e h = rw e at h

  timestamp_written : (u : TimeUnit) (z : Bytes) → Writes (timestamp_format u z).format (of_scalar (timestamp u (zone z)))
  timestamp_written second [] = refl
  timestamp_written second (b ∷ z) = refl
  timestamp_written millisecond [] = refl
  timestamp_written millisecond (b ∷ z) = refl
  timestamp_written microsecond [] = refl
  timestamp_written microsecond (b ∷ z) = refl
  timestamp_written nanosecond [] = refl
  timestamp_written nanosecond (b ∷ z) = refl

  union_written : (mode : Bool) (z : ℤ) (zs : List ℤ) → Writes (union_format mode (z ∷ zs)).format (of_grouping (union mode (Some (z ∷ zs))))
  union_written true z zs = refl
  union_written false z zs = refl

  pub write_published : (sorted : Bool) (r : PublishedRow sorted) (g : Format) → (published r).taken ≡ given g → to_format (type_from g i a fs) ≡ given (first_name r).format
  unfolding decimal
  write_published sorted (fixed r h) g e =
      fixed_writes r r.taken g e (agree_in (λ (r : Published). r.taken >>= λ g. to_format (type_from g i a fs)) (λ (r : Published). r.taken >>= λ g. given r.format) (fixed_formats sorted) (fixed_written sorted) r h)
  write_published sorted (decimal128 p (pos s)) g e = met _ _ g (size_rule p and size_rule s) e refl
  write_published sorted (decimal128 p (negsuc s)) g e = not_given e
  write_published sorted (decimal_bits p (pos s) bits128) g e = met _ _ g (size_rule p and size_rule s) e refl
  write_published sorted (decimal_bits p (pos s) bits32) g e = met _ _ g (size_rule p and size_rule s) e refl
  write_published sorted (decimal_bits p (pos s) bits64) g e = met _ _ g (size_rule p and size_rule s) e refl
  write_published sorted (decimal_bits p (pos s) bits256) g e = met _ _ g (size_rule p and size_rule s) e refl
  write_published sorted (decimal_bits p (negsuc s) w) g e = not_given e
  write_published sorted (fixed_width_binary n) g e = met _ _ g (size_rule n) e refl
  write_published sorted (timestamps u z) g e = known _ _ g e (timestamp_written u z)
  write_published sorted (fixed_sized_list n) g e = met _ _ g (size_rule n) e refl
  write_published sorted (unions mode []) g e = not_given e
  write_published sorted (unions mode (z ∷ zs)) g e = met _ _ g (each id_rule (z ∷ zs)) e (union_written mode z zs)

-- ── what is written is published, but for the source's own two names

abbrev listed : Bytes → List Published → Bool
listed f [] = false
listed f (t ∷ ts) = same t.format f || listed f ts

listed_in : (f : Bytes) (ts : List Published) → listed f ts ≡ true → (r : Published) × In r ts × (r.format ≡ f)
listed_in f [] h = never h
listed_in f (t ∷ ts) h = pick (same t.format f) refl h (listed_in f ts)
  where
    pick : (u : Bool) → same t.format f ≡ u → u || listed f ts ≡ true → (listed f ts ≡ true → (r : Published) × In r ts × (r.format ≡ f)) → (r : Published) × In r (t ∷ ts) × (r.format ≡ f)
    pick true e k next = (t, inl refl, same_eq t.format f e)
    pick false e k next = let n = next k in (n.0, inr n.1, n.2)

listed_published : (sorted : Bool) (f : Bytes) → listed f (fixed_formats sorted) ≡ true → IsPublished sorted f
listed_published sorted f h = let q = listed_in f (fixed_formats sorted) h in (fixed q.0 q.1, q.2)

-- one test over the table of fixed names
abbrev row_published : Bool → F.FormatRow → Rule
row_published sorted r = is (source_name r.name || listed r.name (fixed_formats sorted))

table : (sorted : Bool) → Meets (each (row_published sorted) rows)
unfolding rows
table sorted = meets (each (row_published sorted) rows) refl

row_published_lem : (sorted : Bool) (l : List F.FormatRow) → Meets (each (row_published sorted) l) → (k u : ℕ) (r : F.FormatRow) → row_of k u l ≡ Some r → Meets (row_published sorted r)
row_published_lem sorted [] h k u r e = not_some e
row_published_lem sorted (x ∷ l) h k u r e = pick (eqb k x.kind && eqb u x.unit) (row_published_lem sorted l h.1 k u r) e
  where
    pick : (t : Bool) → (row_of k u l ≡ Some r → Meets (row_published sorted r)) → cond t (Some x) (row_of k u l) ≡ Some r → Meets (row_published sorted r)
    pick true next g =
        let same : x ≡ r = cc in
        subst (λ y. Meets (row_published sorted y)) same h.0
    pick false next g = next g

leaf_published : (sorted : Bool) (k u : ℕ) (f : Bytes) → scalar_format (leaf k u) ≡ given f → source_name f ≡ false → IsPublished sorted f
leaf_published sorted k u f e d =
    let r = first_gave (found no_format (row_of k u rows)) (λ (r : F.FormatRow). given r.name) f e in
    let t : Meets (row_published sorted r.0) = row_published_lem sorted rows (table sorted) k u r.0 (found_some no_format (row_of k u rows) r.0 r.1) in
    named r.0.name (same_given r.2) t
  where
    named : (n : Bytes) → n ≡ f → source_name n || listed n (fixed_formats sorted) ≡ true → IsPublished sorted f
    named n p h = listed_published sorted f (rw (p, d) at h)

scalar_published : (sorted : Bool) (s : Scalar) (f : Bytes) → scalar_format s ≡ given f → source_name f ≡ false → IsPublished sorted f
unfolding decimal
scalar_published sorted (leaf k u) f e d = leaf_published sorted k u f e d
scalar_published sorted (timestamp second z) f e d = (timestamps second (or_empty z), same_given e)
scalar_published sorted (timestamp millisecond z) f e d = (timestamps millisecond (or_empty z), same_given e)
scalar_published sorted (timestamp microsecond z) f e d = (timestamps microsecond (or_empty z), same_given e)
scalar_published sorted (timestamp nanosecond z) f e d = (timestamps nanosecond (or_empty z), same_given e)
scalar_published sorted (fixed_size_binary n) f e d = (fixed_width_binary n, same_given e)
scalar_published sorted (decimal_type bits128 p s) f e d = (decimal128 p (pos s), same_given e)
scalar_published sorted (decimal_type bits32 p s) f e d = (decimal_bits p (pos s) bits32, same_given e)
scalar_published sorted (decimal_type bits64 p s) f e d = (decimal_bits p (pos s) bits64, same_given e)
scalar_published sorted (decimal_type bits256 p s) f e d = (decimal_bits p (pos s) bits256, same_given e)

ids_published : (sorted mode : Bool) (ids : List ℤ) (f : Bytes) → write_ids (union_name mode) ids ≡ given f → IsPublished sorted f
ids_published sorted mode [] f e = not_given e
ids_published sorted true (z ∷ zs) f e = (unions true (z ∷ zs), same_given e)
ids_published sorted false (z ∷ zs) f e = (unions false (z ∷ zs), same_given e)

pub written_published : (sorted : Bool) (t : ArrowDataType) (f : Bytes) → to_format t ≡ given f → source_name f ≡ false → IsPublished sorted f
written_published sorted (scalar s) f e d = scalar_published sorted s f e d
written_published sorted (nested list i t) f e d = subst (IsPublished sorted) (same_given e) (listed_published sorted (ascii "+l") refl)
written_published sorted (nested large_list i t) f e d = subst (IsPublished sorted) (same_given e) (listed_published sorted (ascii "+L") refl)
written_published sorted (nested (fixed_size_list n) i t) f e d = (fixed_sized_list n, same_given e)
written_published sorted (nested (map b) i t) f e d = subst (IsPublished sorted) (same_given e) (listed_published sorted (ascii "+m") refl)
written_published sorted (grouped struct fs) f e d = subst (IsPublished sorted) (same_given e) (listed_published sorted (ascii "+s") refl)
written_published sorted (grouped (union mode None) fs) f e d = ids_published sorted mode (up_from 0 (count_fields fs)) f e
written_published sorted (grouped (union mode (Some ids)) fs) f e d = ids_published sorted mode ids f e
written_published sorted (dictionary ix ordered t) f e d = leaf_published sorted (ix + Kind.Int8) 0 f e d
written_published sorted (extension n m t) f e d = written_published sorted t f e d
