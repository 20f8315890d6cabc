-- Which numbers each call can be refused with (demand 1, and document 02, #106, "The numbers of demand 1 run on"): import 1 to 11; export 1, 2, 3, 12, 13, 14
-- (OnlyLaws, `export_numbers_lem`), strict export 17 and 18 besides (`strict_numbers_lem`); plain form and page 1, 2, 3 (`plain_numbers`); the mappings 1, 2, 3 and 15,
-- the conversions 15. A call that is lent a buffer has 16 besides. So every call that was there before strict export keeps to the numbers up to 16, and gives
-- neither 17 nor 18. By induction over what is read, converted or mapped: a chain refuses with what its steps refuse with. Assumes nothing.
use mathlib.Core.Path.{◌≡◌, refl, sym, ap, subst}
use mathlib.Core.Bool.{Bool, true, false, ◌||◌, cond}
use mathlib.Core.List.{List, [], ◌∷◌}
use Rattle.std.specs.Prelude.{Option, None, Some}
use Prim.Native.Nat.{ℕ, zero, suc, ◌^◌, ◌≤◌}
use native.Mathlib.Omega.{arith}
use lib.Dec.{eqb, leb, ltb}
use lib.IntN.{ℤ, pos}
use borrow.Author.Tests.{eqb-true, leb-true}
use Rattle.sheets.specs.Refusal.{Refusal, bad_lines, too_deep, null_format, not_utf8, unsupported_format, bad_number, bad_decimal, no_child, bad_metadata, undefined_mapping, number_of, one_of}
use Rattle.sheets.specs.Rule.{Rule, is, each, Meets}
use Rattle.sheets.specs.Bytes.{Bytes, ascii, comma, minus_sign, same, split, all}
use Rattle.sheets.specs.Answer.{Answer, refused, given, ◌>>=◌, when, found, read_each}
use Rattle.sheets.specs.Number.{value_from, is_digit}
use Rattle.sheets.specs.Utf8.{is_utf8}
use Rattle.sheets.specs.Sheet.{read_sheet, single}
use Rattle.sheets.specs.Kind
use Rattle.sheets.specs.IntegerType
use Rattle.sheets.specs.IntervalUnit
use Rattle.sheets.specs.PrimitiveType as Primitive
use Rattle.sheets.specs.Flags.{is_sorted}
use Rattle.sheets.specs.Schema.{Node, Schema, schema, Schemas, end, ◌&◌, Dictionary, absent, present, schema_trees, schema_rule, schema_levels, schema_heading, read_schema_sheet}
use Rattle.sheets.specs.Field.{bits128, bits32, bits64, bits256, Scalar, leaf, timestamp, fixed_size_binary, decimal_type, ArrowDataType, scalar, nested, grouped, dictionary, extension, Fields, nil, add, Field}
use Rattle.sheets.specs.FieldSheet.{read_field_sheet}
use Rattle.sheets.specs.Format.{FormatRow, Format, of_scalar, of_nesting, of_grouping, rows, row_named, unsigned, drop_plus, read_size, minus, read_id, decimal_parts, cut, read_cut, read_other, read_named, read_format, to_integer_type}
use Rattle.sheets.specs.Metadata.{value32, count_of, cut_at, take_text, take_pairs, read_block, metadata_from_bytes}
use Rattle.sheets.specs.Import.{format_text, name_text, first_of, all_of, type_of, to_dtype, to_field_node, to_field, to_fields, to_values}
use Rattle.sheets.specs.Mappings.{PhysicalType, leaf_rows, row_at, scalar_physical, to_physical_type, scalar_under, is_map, is_union, unless, underlying_physical_type, fields_underlying, to_storage, to_storage_recursive, fields_storage, inner_dtype, type_at, get_child, is_nested, contains_dictionary, from_integer_type, from_primitive_type}
use Rattle.sheets.specs.Visits.{import_lines, export_lines}
use Rattle.sheets.specs.Outcome.{Outcome, outcome, imported, exported, plained, paged, mapped, picked, converted, import_outcome_in, export_outcome_in, plain_outcome, page_outcome, underlying_physical_type_outcome, to_storage_outcome, to_storage_recursive_outcome, inner_dtype_outcome, get_child_outcome, from_integer_type_outcome, from_primitive_type_outcome, places, to_physical_type_outcome, yes_no, is_nested_outcome, contains_dictionary_outcome, measure, lines_in, measure_import_outcome, measure_export_outcome}
use Rattle.sheets.specs.Demand3.{written}
use Rattle.sheets.specs.RoundTrip.{Buffers, RoundTrip, all_same, export_refused, import_refused, plain_refused, again_refused, import_differs, again_differs, round_trip_number, trip_steps, round_trip_outcome_in, SameExports, compared, one_export_refused, other_export_refused, one_plain_refused, other_plain_refused, same_exports_number, pair_steps, same_exports_outcome}
use Rattle.sheets.proofs.Tests.{never, meets}
use Rattle.sheets.proofs.OutcomeLaws.{Cases, turned_back, too_long, answered, cases}
use Rattle.sheets.proofs.RefusalLaws.{trees_only}
use Rattle.sheets.proofs.OnlyLaws.{Only, only_given, only_refused, only_chain, only_cond, only_when, only_found, among, only_more, only_lines, single_only, sheet_numbers_lem, field_sheet_numbers, sheet_numbers, export_numbers, export_numbers_lem, plain_numbers}
use Rattle.sheets.proofs.ReturnNumbers.{index_numbers}
use Rattle.sheets.proofs.RoundTripLaws as Trip
use Rattle.sheets.proofs.SameExportsLaws as Pair

-- ── import: the schema's producer, 4 to 11

abbrev pub producer_numbers : List ℕ
producer_numbers = 4 ∷ 5 ∷ 6 ∷ 7 ∷ 8 ∷ 9 ∷ 10 ∷ 11 ∷ []

abbrev Producers : {A : Type 0} → Answer A → Type 0
Producers a = Only producer_numbers a

gives : {A : Type 0} (a : A) → Producers (given a)
gives a = only_given producer_numbers a

then : {A B : Type 0} (m : Answer A) (f : A → Answer B) → Producers m → ((a : A) → Producers (f a)) → Producers (m >>= f)
then m f h k = only_chain producer_numbers m f h (λ a e. k a)

either : {A : Type 0} (t : Bool) (a b : Answer A) → Producers a → Producers b → Producers (cond t a b)
either t a b h k = only_cond producer_numbers t a b h k

-- its format

number_bad : {A : Type 0} (rule : Rule) (a : A) → Producers (when bad_number rule a)
number_bad rule a = only_when producer_numbers bad_number refl rule a

unsigned_bad : (b : Bytes) → Producers (unsigned b)
unsigned_bad [] = only_refused producer_numbers bad_number refl
unsigned_bad (b ∷ bs) = number_bad (all is_digit (b ∷ bs)) (value_from 0 (b ∷ bs))

size_bad : (b : Bytes) → Producers (read_size b)
size_bad b = then (unsigned (drop_plus b)) _ (unsigned_bad (drop_plus b)) (λ n. number_bad (is (ltb n (2 ^ 64))) n)

id_bad : (b : Bytes) → Producers (read_id b)
id_bad [] = only_refused producer_numbers bad_number refl
id_bad (b ∷ bs) =
    either (eqb b minus_sign) _ _ (then (unsigned bs) _ (unsigned_bad bs) (λ n. number_bad (is (leb n (2 ^ 31))) (minus n)))
    (then (unsigned (drop_plus (b ∷ bs))) _ (unsigned_bad (drop_plus (b ∷ bs))) (λ n. number_bad (is (ltb n (2 ^ 31))) (pos n)))

ids_bad : (bs : List Bytes) → Producers (read_each read_id bs)
ids_bad [] = gives []
ids_bad (b ∷ bs) = then (read_id b) _ (id_bad b) (λ z. then (read_each read_id bs) _ (ids_bad bs) (λ zs. gives (z ∷ zs)))

parts_bad : (ps : List Bytes) → Producers (decimal_parts ps)
parts_bad [] = only_refused producer_numbers bad_decimal refl
parts_bad (p ∷ []) = only_refused producer_numbers bad_decimal refl
parts_bad (p ∷ s ∷ []) = then (read_size p) _ (size_bad p) (λ a. then (read_size s) _ (size_bad s) (λ b. gives _))
parts_bad (p ∷ s ∷ w ∷ []) = then (read_size w) _ (size_bad w) (λ n. then (read_size p) _ (size_bad p) (λ a. then (read_size s) _ (size_bad s) (λ b. gives _)))
parts_bad (p ∷ s ∷ w ∷ x ∷ xs) = only_refused producer_numbers bad_decimal refl

cut_bad : (h r : Bytes) → Producers (read_cut h r)
cut_bad h r =
    either (same h (ascii "tss")) _ _ (gives _)
    (either (same h (ascii "tsm")) _ _ (gives _)
    (either (same h (ascii "tsu")) _ _ (gives _)
    (either (same h (ascii "tsn")) _ _ (gives _)
    (either (same h (ascii "w")) _ _ (then (read_size r) _ (size_bad r) (λ n. gives _))
    (either (same h (ascii "+w")) _ _ (then (read_size r) _ (size_bad r) (λ n. gives _))
    (either (same h (ascii "d")) _ _ (then (decimal_parts (split comma r)) _ (parts_bad (split comma r)) (λ s. gives _))
    (either (same h (ascii "+us")) _ _ (then (read_each read_id (split comma r)) _ (ids_bad (split comma r)) (λ zs. gives _))
    (either (same h (ascii "+ud")) _ _ (then (read_each read_id (split comma r)) _ (ids_bad (split comma r)) (λ zs. gives _))
    (only_refused producer_numbers unsupported_format refl)))))))))

other_bad : (o : Option (Bytes × Bytes)) → Producers (read_other o)
other_bad None = only_refused producer_numbers unsupported_format refl
other_bad (Some hr) = cut_bad hr.0 hr.1

named_bad : (o : Option FormatRow) (other : Answer Format) → Producers other → Producers (read_named o other)
named_bad None other h = h
named_bad (Some r) other h = gives _

format_bad : (sorted : Bool) (f : Bytes) → Producers (read_format sorted f)
format_bad sorted f =
    named_bad (row_named f rows) _
    (either (same f (ascii "+l")) _ _ (gives _)
    (either (same f (ascii "+L")) _ _ (gives _)
    (either (same f (ascii "+m")) _ _ (gives _)
    (either (same f (ascii "+s")) _ _ (gives _) (other_bad (cut f))))))

-- its metadata

bytes_bad : (n : ℕ) (bs : Bytes) → Producers (cut_at n bs)
bytes_bad zero bs = gives ([], bs)
bytes_bad (suc n) [] = only_refused producer_numbers bad_metadata refl
bytes_bad (suc n) (b ∷ bs) = then (cut_at n bs) _ (bytes_bad n bs) (λ y. gives _)

module _ (big : Bool) where
  text_bad : (bs : Bytes) → Producers (take_text big bs)
  text_bad bs =
      then (cut_at 4 bs) _ (bytes_bad 4 bs)
      (λ y. then (when bad_metadata (is (ltb (value32 big y.0) (2 ^ 31))) true) _ (only_when producer_numbers bad_metadata refl (is (ltb (value32 big y.0) (2 ^ 31))) true)
      (λ u. then (cut_at (value32 big y.0) y.1) _ (bytes_bad (value32 big y.0) y.1) (λ z. only_when producer_numbers not_utf8 refl (is (is_utf8 z.0)) _)))

  pairs_bad : (n : ℕ) (bs : Bytes) → Producers (take_pairs big n bs)
  pairs_bad zero bs = gives []
  pairs_bad (suc n) bs = then (take_text big bs) _ (text_bad bs) (λ k. then (take_text big k.1) _ (text_bad k.1) (λ v. then (take_pairs big n v.1) _ (pairs_bad n v.1) (λ ps. gives _)))

  metadata_bad : (m : Option Bytes) → Producers (metadata_from_bytes big m)
  metadata_bad None = gives _
  metadata_bad (Some b) = then (read_block big b) _ (then (cut_at 4 b) _ (bytes_bad 4 b) (λ y. pairs_bad (count_of (value32 big y.0)) y.1)) (λ ps. gives _)

-- its texts

format_text_bad : (f : Option Bytes) → Producers (format_text f)
format_text_bad None = only_refused producer_numbers null_format refl
format_text_bad (Some b) = only_when producer_numbers not_utf8 refl (is (is_utf8 b)) b

name_text_bad : (n : Option Bytes) → Producers (name_text n)
name_text_bad None = gives []
name_text_bad (Some b) = only_when producer_numbers not_utf8 refl (is (is_utf8 b)) b

-- its tree

abbrev EachBad : List (Answer Field) → Type 0
EachBad [] = Unit {0}
EachBad (f ∷ fs) = Producers f × EachBad fs

abbrev ValuesBad : Option (Answer Field) → Type 0
ValuesBad None = Unit {0}
ValuesBad (Some a) = Producers a

first_bad : (fs : List (Answer Field)) → EachBad fs → Producers (first_of fs)
first_bad [] h = only_refused producer_numbers no_child refl
first_bad (f ∷ fs) h = h.0

all_bad : (fs : List (Answer Field)) → EachBad fs → Producers (all_of fs)
all_bad [] h = gives nil
all_bad (f ∷ fs) h = then f _ h.0 (λ a. then (all_of fs) _ (all_bad fs h.1) (λ rest. gives _))

type_bad : (g : Format) (fs : List (Answer Field)) → EachBad fs → Producers (type_of g fs)
type_bad (of_scalar s) fs h = gives _
type_bad (of_nesting n) fs h = then (first_of fs) _ (first_bad fs h) (λ f. gives _)
type_bad (of_grouping g) fs h = then (all_of fs) _ (all_bad fs h) (λ all. gives _)

dtype_bad : (f : Bytes) (flags : ℤ) (fs : List (Answer Field)) (values : Option (Answer Field)) → EachBad fs → ValuesBad values → Producers (to_dtype f flags fs values)
dtype_bad f flags fs None h k = then (read_format (is_sorted flags) f) _ (format_bad (is_sorted flags) f) (λ g. type_bad g fs h)
dtype_bad f flags fs (Some values) h k = then (to_integer_type f) _ (index_numbers producer_numbers refl f) (λ ix. then values _ k (λ v. gives _))

module _ (big : Bool) where
  node_bad : (n : Node) (fs : List (Answer Field)) (values : Option (Answer Field)) → EachBad fs → ValuesBad values → Producers (to_field_node big n fs values)
  node_bad n fs values h k =
      then (format_text n.format) _ (format_text_bad n.format)
      (λ f. then (to_dtype f n.flags fs values) _ (dtype_bad f n.flags fs values h k)
      (λ t. then (metadata_from_bytes big n.metadata) _ (metadata_bad big n.metadata) (λ m. then (name_text n.name) _ (name_text_bad n.name) (λ name. gives _))))

  mutual
    field_bad : (s : Schema) → Producers (to_field big s)
    field_bad (schema n cs d) = node_bad n (to_fields big cs) (to_values big d) (fields_bad cs) (values_bad d)

    fields_bad : (cs : Schemas) → EachBad (to_fields big cs)
    fields_bad end = tt
    fields_bad (s & ss) = (field_bad s, fields_bad ss)

    values_bad : (d : Dictionary) → ValuesBad (to_values big d)
    values_bad absent = tt
    values_bad (present s) = field_bad s

schema_sheet_numbers : (ns : List ℕ) → one_of ns 1 ≡ true → one_of ns 2 ≡ true → one_of ns 3 ≡ true → (b : Bytes) → Only ns (read_schema_sheet b)
schema_sheet_numbers ns h k l b =
    only_chain ns (read_sheet schema_heading b) _ (sheet_numbers_lem ns h k schema_heading b)
    (λ ls e1. only_chain ns (schema_trees ls) _ (only_lines ns k (schema_trees ls) (trees_only ls))
    (λ ts e2. only_chain ns (single ts) _ (only_lines ns k (single ts) (single_only ts))
    (λ t e3. only_chain ns (when bad_lines (schema_rule t) t) _ (only_when ns bad_lines k (schema_rule t) t) (λ u e4. only_when ns too_deep l (is (leb (schema_levels u) 32)) u))))

abbrev pub import_numbers : List ℕ
import_numbers = 1 ∷ 2 ∷ 3 ∷ 4 ∷ 5 ∷ 6 ∷ 7 ∷ 8 ∷ 9 ∷ 10 ∷ 11 ∷ []

pub import_numbers_lem : (big : Bool) (b : Bytes) → Only import_numbers (imported big b)
unfolding imported
import_numbers_lem big b =
    only_chain import_numbers (read_schema_sheet b) _ (schema_sheet_numbers import_numbers refl refl refl b)
    (λ s e. only_chain import_numbers (to_field big s) _ (only_more producer_numbers import_numbers (meets (among producer_numbers import_numbers) refl) (to_field big s) (field_bad big s)) (λ f g. only_given import_numbers _))

-- ── page

pub page_numbers : (b : Bytes) → Only sheet_numbers (paged b)
unfolding paged
page_numbers b = only_chain sheet_numbers (read_field_sheet b) _ (field_sheet_numbers sheet_numbers refl refl refl b) (λ f e. only_given sheet_numbers _)

-- ── the mappings: 15

abbrev fifteen : List ℕ
fifteen = 15 ∷ []

undefined : {A : Type 0} → Only {A = A} fifteen (refused undefined_mapping)
undefined = only_refused fifteen undefined_mapping refl

unless_15 : {A : Type 0} (t : Bool) (a : Answer A) → Only fifteen a → Only fifteen (unless t a)
unless_15 true a h = undefined
unless_15 false a h = h

row_15 : {A : Type 0} (k : ℕ) (f : _ → Answer A) → ((r : _) → Only fifteen (f r)) → Only fifteen (found undefined_mapping (row_at k leaf_rows) >>= f)
row_15 k f h = only_chain fifteen (found undefined_mapping (row_at k leaf_rows)) f (only_found fifteen undefined_mapping refl (row_at k leaf_rows)) (λ r e. h r)

scalar_physical_15 : (s : Scalar) → Only fifteen (scalar_physical s)
scalar_physical_15 (leaf k u) = only_cond fifteen (eqb k Kind.Interval) _ _ (only_given fifteen _) (row_15 k _ (λ r. only_given fifteen _))
scalar_physical_15 (timestamp u z) = only_given fifteen _
scalar_physical_15 (fixed_size_binary n) = only_given fifteen _
scalar_physical_15 (decimal_type bits128 p s) = only_given fifteen _
scalar_physical_15 (decimal_type bits32 p s) = only_given fifteen _
scalar_physical_15 (decimal_type bits64 p s) = only_given fifteen _
scalar_physical_15 (decimal_type bits256 p s) = only_given fifteen _

physical_15 : (t : ArrowDataType) → Only fifteen (to_physical_type t)
physical_15 (scalar s) = scalar_physical_15 s
physical_15 (nested n i t) = only_given fifteen _
physical_15 (grouped g fs) = only_given fifteen _
physical_15 (dictionary ix ordered t) = only_given fifteen _
physical_15 (extension n m t) = physical_15 t

scalar_under_15 : (s : Scalar) → Only fifteen (scalar_under s)
scalar_under_15 (leaf k u) =
    only_cond fifteen (eqb k Kind.Interval) _ _ (only_cond fifteen (eqb u IntervalUnit.YearMonth) _ _ (only_given fifteen _) (only_cond fifteen (eqb u IntervalUnit.DayTime) _ _ (only_given fifteen _) undefined))
    (only_cond fifteen (eqb k Kind.Unknown) _ _ (only_given fifteen _) (row_15 k _ (λ r. only_given fifteen _)))
scalar_under_15 (timestamp u z) = only_given fifteen _
scalar_under_15 (fixed_size_binary n) = only_given fifteen _
scalar_under_15 (decimal_type bits128 p s) = only_given fifteen _
scalar_under_15 (decimal_type bits32 p s) = only_given fifteen _
scalar_under_15 (decimal_type bits64 p s) = only_given fifteen _
scalar_under_15 (decimal_type bits256 p s) = undefined

mutual
  under_15 : (t : ArrowDataType) → Only fifteen (underlying_physical_type t)
  under_15 (scalar s) = scalar_under_15 s
  under_15 (nested n i t) = unless_15 (is_map n) _ (only_chain fifteen (underlying_physical_type t) _ (under_15 t) (λ u e. only_given fifteen _))
  under_15 (grouped g fs) = unless_15 (is_union g) _ (only_chain fifteen (fields_underlying fs) _ (fields_under_15 fs) (λ us e. only_given fifteen _))
  under_15 (dictionary ix ordered t) = only_given fifteen _
  under_15 (extension n m t) = under_15 t

  fields_under_15 : (fs : Fields) → Only fifteen (fields_underlying fs)
  fields_under_15 nil = only_given fifteen nil
  fields_under_15 (add i t fs) = only_chain fifteen (underlying_physical_type t) _ (under_15 t) (λ u e. only_chain fifteen (fields_underlying fs) _ (fields_under_15 fs) (λ us g. only_given fifteen _))

mutual
  storage_15 : (t : ArrowDataType) → Only fifteen (to_storage_recursive t)
  storage_15 (scalar s) = only_given fifteen _
  storage_15 (nested n i t) = unless_15 (is_map n) _ (only_chain fifteen (to_storage_recursive t) _ (storage_15 t) (λ u e. only_given fifteen _))
  storage_15 (grouped g fs) = unless_15 (is_union g) _ (only_chain fifteen (fields_storage fs) _ (fields_storage_15 fs) (λ us e. only_given fifteen _))
  storage_15 (dictionary ix ordered t) = only_chain fifteen (to_storage_recursive t) _ (storage_15 t) (λ u e. only_given fifteen _)
  storage_15 (extension n m t) = storage_15 t

  fields_storage_15 : (fs : Fields) → Only fifteen (fields_storage fs)
  fields_storage_15 nil = only_given fifteen nil
  fields_storage_15 (add i t fs) = only_chain fifteen (to_storage_recursive t) _ (storage_15 t) (λ u e. only_chain fifteen (fields_storage fs) _ (fields_storage_15 fs) (λ us g. only_given fifteen _))

inner_15 : (t : ArrowDataType) → Only fifteen (inner_dtype t)
inner_15 (scalar s) = undefined
inner_15 (nested n i t) = unless_15 (is_map n) _ (only_given fifteen t)
inner_15 (grouped g fs) = undefined
inner_15 (dictionary ix ordered t) = undefined
inner_15 (extension n m t) = undefined

at_15 : (fs : Fields) (k : ℕ) → Only fifteen (type_at fs k)
at_15 nil k = undefined
at_15 (add i t fs) zero = only_given fifteen t
at_15 (add i t fs) (suc k) = at_15 fs k

child_15 : (k : ℕ) (t : ArrowDataType) → Only fifteen (get_child k t)
child_15 k (scalar s) = undefined
child_15 k (nested n i t) = only_cond fifteen (eqb k 0) _ _ (only_given fifteen t) undefined
child_15 k (grouped g fs) = at_15 fs k
child_15 k (dictionary ix ordered t) = undefined
child_15 k (extension n m t) = child_15 k t

abbrev pub mapping_numbers : List ℕ
mapping_numbers = 1 ∷ 2 ∷ 3 ∷ 15 ∷ []

-- a mapping of what a sheet says
mapping_numbers_lem : {A B : Type 0} (map : ArrowDataType → Answer A) (answer : Field → A → B) → ((t : ArrowDataType) → Only fifteen (map t)) → (b : Bytes) → Only mapping_numbers (read_field_sheet b >>= λ f. map f.type >>= λ t. given (answer f t))
mapping_numbers_lem map answer h b =
    only_chain mapping_numbers (read_field_sheet b) _ (field_sheet_numbers mapping_numbers refl refl refl b)
    (λ f e. only_chain mapping_numbers (map f.type) _ (only_more fifteen mapping_numbers (meets (among fifteen mapping_numbers) refl) (map f.type) (h f.type)) (λ t g. only_given mapping_numbers _))

pub mapped_numbers : (change : ArrowDataType → Answer ArrowDataType) → ((t : ArrowDataType) → Only fifteen (change t)) → (b : Bytes) → Only mapping_numbers (mapped change b)
mapped_numbers change h b = mapping_numbers_lem change _ h b

pub picked_numbers : (pick : ArrowDataType → Answer ArrowDataType) → ((t : ArrowDataType) → Only fifteen (pick t)) → (b : Bytes) → Only mapping_numbers (picked pick b)
picked_numbers pick h b = mapping_numbers_lem pick _ h b

pub underlying_numbers : (b : Bytes) → Only mapping_numbers (mapped underlying_physical_type b)
underlying_numbers b = mapped_numbers underlying_physical_type under_15 b

pub storage_numbers : (b : Bytes) → Only mapping_numbers (mapped (λ t. given (to_storage t)) b)
storage_numbers b = mapped_numbers (λ t. given (to_storage t)) (λ t. only_given fifteen (to_storage t)) b

pub recursive_numbers : (b : Bytes) → Only mapping_numbers (mapped to_storage_recursive b)
recursive_numbers b = mapped_numbers to_storage_recursive storage_15 b

pub inner_numbers : (b : Bytes) → Only mapping_numbers (picked inner_dtype b)
inner_numbers b = picked_numbers inner_dtype inner_15 b

pub child_numbers : (k : ℕ) (b : Bytes) → Only mapping_numbers (picked (get_child k) b)
child_numbers k b = picked_numbers (get_child k) (child_15 k) b

pub physical_numbers : (b : Bytes) → Only mapping_numbers (read_field_sheet b >>= λ f. to_physical_type f.type)
physical_numbers b =
    only_chain mapping_numbers (read_field_sheet b) _ (field_sheet_numbers mapping_numbers refl refl refl b)
    (λ f e. only_more fifteen mapping_numbers (meets (among fifteen mapping_numbers) refl) (to_physical_type f.type) (physical_15 f.type))

-- yes or no of what a sheet says: 1, 2, 3
pub told_numbers : (tell : ArrowDataType → Bool) (b : Bytes) → Only sheet_numbers (read_field_sheet b >>= λ f. given (tell f.type))
told_numbers tell b = only_chain sheet_numbers (read_field_sheet b) _ (field_sheet_numbers sheet_numbers refl refl refl b) (λ f e. only_given sheet_numbers _)

-- the conversions
pub converted_numbers : (a : Answer ArrowDataType) → Only fifteen a → Only fifteen (converted a)
converted_numbers a h = only_chain fifteen a _ h (λ t e. only_given fifteen _)

pub integer_15 : (p : ℕ) → Only fifteen (from_integer_type p)
integer_15 p = only_cond fifteen (leb p IntegerType.UInt128) _ _ (only_given fifteen _) undefined

pub primitive_15 : (p : ℕ) → Only fifteen (from_primitive_type p)
primitive_15 p =
    only_cond fifteen (ltb p Primitive.Int256) _ _ (only_given fifteen _)
    (only_cond fifteen (eqb p Primitive.Int256) _ _ (only_given fifteen _)
    (only_cond fifteen (leb p Primitive.Float64) _ _ (only_given fifteen _) (only_cond fifteen (leb p Primitive.MonthDayMillis) _ _ (only_given fifteen _) undefined)))

-- ── the calls that were there before strict export keep to the numbers up to 16

abbrev pub present_last : ℕ
present_last = 16

-- numbers that are all at most this
abbrev up_to : ℕ → List ℕ → Rule
up_to m ns = each (λ (n : ℕ). is (leb n m)) ns

one_up_to : (m : ℕ) (ns : List ℕ) → Meets (up_to m ns) → (n : ℕ) → one_of ns n ≡ true → n ≤ m
one_up_to m [] w n h = never h
one_up_to m (k ∷ ns) w n h = pick (eqb n k) refl h (one_up_to m ns w.1 n)
  where
    pick : (t : Bool) → eqb n k ≡ t → t || one_of ns n ≡ true → (one_of ns n ≡ true → n ≤ m) → n ≤ m
    pick true e h next = subst (λ (x : ℕ). x ≤ m) (sym (eqb-true n k e)) (leb-true k m w.0)
    pick false e h next = next h

module _ (ns : List ℕ) (w : Meets (up_to present_last ns)) where
  refused_present : {A : Type 0} (a : Answer A) → Only ns a → (r : Refusal) → a ≡ refused r → number_of r ≤ present_last
  refused_present a h r e = one_up_to present_last ns w (number_of r) (h r e)

  outcome_present : (a : Answer Bytes) → Only ns a → (out : Bytes) → (outcome a out).number ≤ present_last
  outcome_present a h out = go (cases a out)
    where
      go : Cases a out → (outcome a out).number ≤ present_last
      go (turned_back r e o) = omega (arith, ap (λ (y : Outcome). y.number) o, refused_present a h r e)
      go (too_long x e l o) = omega (arith, ap (λ (y : Outcome). y.number) o)
      go (answered x e l o) = omega (arith, ap (λ (y : Outcome). y.number) o)

  measure_present : (a : Answer Bytes) → Only ns a → (n : ℕ) → (measure a n).number ≤ present_last
  measure_present (refused r) h n = refused_present (refused r) h r refl
  measure_present (given x) h n = omega arith

  places_present : (a : Answer PhysicalType) → Only ns a → (places a).number ≤ present_last
  places_present (refused r) h = refused_present (refused r) h r refl
  places_present (given p) h = omega arith

  yes_no_present : (a : Answer Bool) → Only ns a → (yes_no a).number ≤ present_last
  yes_no_present (refused r) h = refused_present (refused r) h r refl
  yes_no_present (given b) h = omega arith

module _ (big : Bool) (b out : Bytes) where
  pub import_present : (import_outcome_in big b out).number ≤ present_last
  import_present = outcome_present import_numbers (meets (up_to present_last import_numbers) refl) (imported big b) (import_numbers_lem big b) out

  pub export_present : (export_outcome_in big b out).number ≤ present_last
  export_present = outcome_present export_numbers (meets (up_to present_last export_numbers) refl) (exported big b) (export_numbers_lem big b) out

module _ (big : Bool) (b : Bytes) where
  pub measure_import_present : (measure_import_outcome big b).number ≤ present_last
  measure_import_present = measure_present import_numbers (meets (up_to present_last import_numbers) refl) (imported big b) (import_numbers_lem big b) (lines_in import_lines (read_schema_sheet b))

  pub measure_export_present : (measure_export_outcome big b).number ≤ present_last
  measure_export_present = measure_present export_numbers (meets (up_to present_last export_numbers) refl) (exported big b) (export_numbers_lem big b) (lines_in export_lines (read_field_sheet b))

module _ (b out : Bytes) where
  pub plain_present : (plain_outcome b out).number ≤ present_last
  plain_present = outcome_present sheet_numbers (meets (up_to present_last sheet_numbers) refl) (plained b) (plain_numbers b) out

  pub page_present : (page_outcome b out).number ≤ present_last
  page_present = outcome_present sheet_numbers (meets (up_to present_last sheet_numbers) refl) (paged b) (page_numbers b) out

  mapping_present : (a : Answer Bytes) → Only mapping_numbers a → (outcome a out).number ≤ present_last
  mapping_present a h = outcome_present mapping_numbers (meets (up_to present_last mapping_numbers) refl) a h out

  pub underlying_present : (underlying_physical_type_outcome b out).number ≤ present_last
  underlying_present = mapping_present (mapped underlying_physical_type b) (underlying_numbers b)

  pub storage_present : (to_storage_outcome b out).number ≤ present_last
  storage_present = mapping_present (mapped (λ t. given (to_storage t)) b) (storage_numbers b)

  pub recursive_present : (to_storage_recursive_outcome b out).number ≤ present_last
  recursive_present = mapping_present (mapped to_storage_recursive b) (recursive_numbers b)

  pub inner_present : (inner_dtype_outcome b out).number ≤ present_last
  inner_present = mapping_present (picked inner_dtype b) (inner_numbers b)

  pub child_present : (k : ℕ) → (get_child_outcome b k out).number ≤ present_last
  child_present k = mapping_present (picked (get_child k) b) (child_numbers k b)

module _ (p : ℕ) (out : Bytes) where
  pub integer_present : (from_integer_type_outcome p out).number ≤ present_last
  integer_present = outcome_present fifteen (meets (up_to present_last fifteen) refl) (converted (from_integer_type p)) (converted_numbers (from_integer_type p) (integer_15 p)) out

  pub primitive_present : (from_primitive_type_outcome p out).number ≤ present_last
  primitive_present = outcome_present fifteen (meets (up_to present_last fifteen) refl) (converted (from_primitive_type p)) (converted_numbers (from_primitive_type p) (primitive_15 p)) out

module _ (b : Bytes) where
  pub physical_present : (to_physical_type_outcome b).number ≤ present_last
  physical_present = places_present mapping_numbers (meets (up_to present_last mapping_numbers) refl) (read_field_sheet b >>= λ f. to_physical_type f.type) (physical_numbers b)

  pub nested_present : (is_nested_outcome b).number ≤ present_last
  nested_present = yes_no_present sheet_numbers (meets (up_to present_last sheet_numbers) refl) (read_field_sheet b >>= λ f. given (is_nested f.type)) (told_numbers is_nested b)

  pub contains_present : (contains_dictionary_outcome b).number ≤ present_last
  contains_present = yes_no_present sheet_numbers (meets (up_to present_last sheet_numbers) refl) (read_field_sheet b >>= λ f. given (contains_dictionary f.type)) (told_numbers contains_dictionary b)

module _ (big : Bool) (out : Buffers) where
  -- `round_trip` by the present export, and `same_exports`
  pub trip_present : (b : Bytes) → round_trip_number (round_trip_outcome_in big b out).answer ≤ present_last
  trip_present b = go (round_trip_outcome_in big b out).answer (Trip.says false big b out (round_trip_outcome_in big b out).answer refl)
    where
      go : (r : RoundTrip) → Trip.Told (trip_steps false big b out) r → round_trip_number r ≤ present_last
      go all_same t = omega arith
      go (export_refused n) t = omega (arith, t.0, export_present big b out.first)
      go (import_refused n) t = omega (arith, t.0, import_present big (written (export_outcome_in big b out.first)) out.second)
      go (plain_refused n) t = omega (arith, t.0, plain_present b out.third)
      go (again_refused n) t = omega (arith, t.0, export_present big (written (plain_outcome b out.third)) out.fourth)
      go import_differs t = omega arith
      go again_differs t = omega arith

  pub pair_present : (one other : Bytes) → same_exports_number (same_exports_outcome big one other out).answer ≤ present_last
  pair_present one other = go (same_exports_outcome big one other out).answer (Pair.says big one other out (same_exports_outcome big one other out).answer refl)
    where
      go : (r : SameExports) → Pair.Told (pair_steps big one other out) r → same_exports_number r ≤ present_last
      go (compared x y) t = omega arith
      go (one_export_refused n) t = omega (arith, t.0, export_present big one out.first)
      go (other_export_refused n) t = omega (arith, t.0, export_present big other out.second)
      go (one_plain_refused n) t = omega (arith, t.0, plain_present one out.third)
      go (other_plain_refused n) t = omega (arith, t.0, plain_present other out.fourth)
