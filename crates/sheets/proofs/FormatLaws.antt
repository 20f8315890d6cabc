-- Format strings read back as what they were written from, in plain form. Assumes nothing.
use mathlib.Core.Path.{◌≡◌, refl, ◌∙◌, ap}
use mathlib.Core.Bool.{Bool, true, false, ◌&&◌, ◌||◌, not, cond}
use mathlib.Core.List.{List, [], ◌∷◌, ◌++◌}
use mathlib.Core.List.{map as map_list}
use Rattle.std.specs.Prelude.{Option, None, Some}
use Prim.Native.Nat.{ℕ, zero, suc, ◌+◌, ◌^◌, ◌<◌, ◌≤◌}
use native.Mathlib.Omega.{arith}
use lib.Dec.{eqb, ltb, leb}
use lib.IntN.{ℤ, pos, negsuc}
use borrow.Author.Tests.{lt-ltb, le-leb, leb-true, eqb-true, ne_eqb}
use Rattle.sheets.specs.Refusal.{Refusal, bad_number, no_format}
use Rattle.sheets.specs.Rule.{Rule, is, ◌and◌, each, Meets}
use Rattle.sheets.specs.Bytes.{Bytes, ascii, all, lacks, same, join}
use Rattle.sheets.specs.Answer.{Answer, refused, given, ◌>>=◌, found, when}
use Rattle.sheets.specs.Number.{decimal, value_from, is_digit, lean, write_signed}
use Rattle.sheets.specs.Utf8.{is_utf8}
use Rattle.sheets.specs.Field.{TimeUnit, second, millisecond, microsecond, nanosecond, Width, bits128, bits32, bits64, bits256, Scalar, leaf, timestamp, fixed_size_binary, decimal_type, Nesting, list, large_list, fixed_size_list, map, Grouping, struct, union, up_from, scalar_rule, nesting_rule, grouping_rule, size_rule, id_rule, text_rule}
use Rattle.sheets.specs.Strict.{narrow}
use Rattle.sheets.specs.Plain.{plain_zone, plain_scalar, plain_grouping}
use Rattle.sheets.specs.Format.{FormatRow, rows, row_named, row_of, unit_letter, or_empty, width_text, scalar_format, nesting_format, union_name, write_ids, grouping_format, Format, of_scalar, of_nesting, of_grouping, unsigned, drop_plus, read_size, read_id, decimal_parts, zone, read_named, read_format, to_integer_type, index_format}
use Rattle.sheets.proofs.Tests.{passing, meets, when_met, first_gave, every, at_each, and_left, and_right, never, not_some, not_given}
use Rattle.sheets.proofs.BytesLaws.{split_join, each_lacks, all_append, all_weaken}
use Rattle.sheets.proofs.NumberLaws.{decimal_digits, decimal_lean, value_decimal, decimal_lacks, signed_lacks}
use Rattle.sheets.proofs.Utf8Laws.{utf8_append, is_ascii, ascii_utf8}
use Rattle.sheets.proofs.ListLaws.{read_each_lem, each_free}

-- ── numbers of a format, in range or not

read_unsigned : (b : Bytes) → lean b ≡ true → Meets (all is_digit b) → unsigned (drop_plus b) ≡ given (value_from 0 b)
read_unsigned [] l h = never l
read_unsigned (c ∷ cs) l h =
    rw (ne_eqb c 43 (omega (arith, leb-true 48 c (and_left (leb 48 c) (leb c 57) h.0))), passing (all is_digit (c ∷ cs)) h)

pub size_any : (n : ℕ) → read_size (decimal n) ≡ when bad_number (size_rule n) n
size_any n = rw (read_unsigned (decimal n) (decimal_lean n) (decimal_digits n), value_decimal n)

pub read_size_lem : (n : ℕ) → Meets (size_rule n) → read_size (decimal n) ≡ given n
read_size_lem n h = size_any n ∙ when_met bad_number (size_rule n) n h

-- a digit is no sign
positive_any : (b : Bytes) → lean b ≡ true → Meets (all is_digit b) → read_id b ≡ when bad_number (is (ltb (value_from 0 b) (2 ^ 31))) (pos (value_from 0 b))
positive_any [] l h = never l
positive_any (c ∷ cs) l h =
    let d : 48 ≤ c = leb-true 48 c (and_left (leb 48 c) (leb c 57) h.0) in
    rw (ne_eqb c 45 (omega arith), read_unsigned (c ∷ cs) l h)

unsigned_digits : (b : Bytes) → lean b ≡ true → Meets (all is_digit b) → unsigned b ≡ given (value_from 0 b)
unsigned_digits [] l h = never l
unsigned_digits (c ∷ cs) l h = rw (passing (all is_digit (c ∷ cs)) h)

negative_any : (b : Bytes) (n : ℕ) → lean b ≡ true → Meets (all is_digit b) → value_from 0 b ≡ suc n → read_id (45 ∷ b) ≡ when bad_number (is (leb (suc n) (2 ^ 31))) (negsuc n)
negative_any b n l h v = rw (unsigned_digits b l h, v)

pub id_any : (z : ℤ) → read_id (write_signed z) ≡ when bad_number (id_rule z) z
id_any (pos n) = positive_any (decimal n) (decimal_lean n) (decimal_digits n) ∙ ap (λ k. when bad_number (is (ltb k (2 ^ 31))) (pos k)) (value_decimal n)
id_any (negsuc n) = negative_any (decimal (suc n)) n (decimal_lean (suc n)) (decimal_digits (suc n)) (value_decimal (suc n))

pub read_id_lem : (z : ℤ) → Meets (id_rule z) → read_id (write_signed z) ≡ given z
read_id_lem z h = id_any z ∙ when_met bad_number (id_rule z) z h

-- ── fixed names: one test over the table

abbrev is_row : Option FormatRow → FormatRow → Bool
is_row None r = false
is_row (Some x) r = eqb x.kind r.kind && eqb x.unit r.unit

-- a row's name finds it, is UTF-8 and has no byte 00
abbrev row_rule : FormatRow → Rule
row_rule r = is (is_row (row_named r.name rows) r) and is (is_utf8 r.name) and lacks 0 r.name

table : Meets (each row_rule rows)
unfolding rows
table = meets (each row_rule rows) refl

row_of_lem : (l : List FormatRow) → Meets (each row_rule l) → (k u : ℕ) (r : FormatRow) → row_of k u l ≡ Some r → Meets (row_rule r) × (k ≡ r.kind) × (u ≡ r.unit)
row_of_lem [] h k u r e = not_some e
row_of_lem (x ∷ l) h k u r e = pick (eqb k x.kind && eqb u x.unit) refl (row_of_lem l h.1 k u r) e
  where
    pick : (t : Bool) → (eqb k x.kind && eqb u x.unit) ≡ t → (row_of k u l ≡ Some r → Meets (row_rule r) × (k ≡ r.kind) × (u ≡ r.unit)) → cond t (Some x) (row_of k u l) ≡ Some r → Meets (row_rule r) × (k ≡ r.kind) × (u ≡ r.unit)
    pick true t next g =
        let same : x ≡ r = cc in
        rw (← same) (h.0, eqb-true k x.kind (and_left (eqb k x.kind) (eqb u x.unit) t), eqb-true u x.unit (and_right (eqb k x.kind) (eqb u x.unit) t))
    pick false t next g = next g

named : (o : Option FormatRow) (r : FormatRow) (other : Answer Format) → is_row o r ≡ true → read_named o other ≡ given (of_scalar (leaf r.kind r.unit))
named None r other h = never h
named (Some x) r other h =
    rw (eqb-true x.kind r.kind (and_left (eqb x.kind r.kind) (eqb x.unit r.unit) h), eqb-true x.unit r.unit (and_right (eqb x.kind r.kind) (eqb x.unit r.unit) h))

pub found_some : {A : Type 0} (n : Refusal) (o : Option A) (a : A) → found n o ≡ given a → o ≡ Some a
found_some n None a h = not_given h
found_some n (Some x) a h = cc

-- ── ASCII is UTF-8

digit_ascii : (b : ℕ) → is_digit b ≡ true → is_ascii b ≡ true
digit_ascii b h = le-leb b 127 (omega (arith, leb-true b 57 (and_right (leb 48 b) (leb b 57) h)))

decimal_ascii : (n : ℕ) → Meets (all is_ascii (decimal n))
decimal_ascii n = all_weaken is_digit is_ascii digit_ascii (decimal n) (decimal_digits n)

signed_ascii : (z : ℤ) → Meets (all is_ascii (write_signed z))
signed_ascii (pos n) = decimal_ascii n
signed_ascii (negsuc n) = (refl, decimal_ascii (suc n))

abbrev each_ascii : List Bytes → Rule
each_ascii ps = each (all is_ascii) ps

join_ascii : (ps : List Bytes) → Meets (each_ascii ps) → Meets (all is_ascii (join 44 ps))
join_ascii [] h = refl
join_ascii (p ∷ []) h = h.0
join_ascii (p ∷ q ∷ ps) h = all_append is_ascii p (44 ∷ join 44 (q ∷ ps)) h.0 (refl, join_ascii (q ∷ ps) h.1)

-- ── scalar types

zone_plain : (z : Option Bytes) → zone (or_empty z) ≡ plain_zone z
zone_plain None = refl
zone_plain (Some []) = refl
zone_plain (Some (b ∷ bs)) = refl

read_timestamp : (sorted : Bool) (u : TimeUnit) (z : Option Bytes) → read_format sorted (ascii "ts" ++ unit_letter u ++ ascii ":" ++ or_empty z) ≡ given (of_scalar (timestamp u (zone (or_empty z))))
unfolding rows
read_timestamp sorted second z = refl
read_timestamp sorted millisecond z = refl
read_timestamp sorted microsecond z = refl
read_timestamp sorted nanosecond z = refl

width_back : (w : Width) (p s : ℕ) → Meets (size_rule p) → Meets (size_rule s) → decimal_parts (decimal p ∷ decimal s ∷ width_text w) ≡ given (decimal_type w p s)
width_back bits128 p s h k = rw (read_size_lem p h, read_size_lem s k)
width_back bits32 p s h k = rw (read_size_lem p h, read_size_lem s k)
width_back bits64 p s h k = rw (read_size_lem p h, read_size_lem s k)
width_back bits256 p s h k = rw (read_size_lem p h, read_size_lem s k)

width_free : (w : Width) → Meets (each_lacks 44 (width_text w))
width_free bits128 = refl
width_free bits32 = meets (each_lacks 44 (width_text bits32)) refl
width_free bits64 = meets (each_lacks 44 (width_text bits64)) refl
width_free bits256 = meets (each_lacks 44 (width_text bits256)) refl

read_decimal_format : (sorted : Bool) (w : Width) (p s : ℕ) → Meets (size_rule p) → Meets (size_rule s) → read_format sorted (ascii "d:" ++ join 44 (decimal p ∷ decimal s ∷ width_text w)) ≡ given (of_scalar (decimal_type w p s))
unfolding rows
read_decimal_format sorted w p s h k =
    rw (split_join 44 (decimal p) (decimal s ∷ width_text w) (decimal_lacks 44 refl p, (decimal_lacks 44 refl s, width_free w)), width_back w p s h k)

-- what a row of the table says of the name written for a place and a unit
leaf_row_lem : (k u : ℕ) (f : Bytes) → scalar_format (leaf k u) ≡ given f → (r : FormatRow) × (Meets (row_rule r) × (k ≡ r.kind) × (u ≡ r.unit)) × (r.name ≡ f)
leaf_row_lem k u f e =
    let (r, g, n) = first_gave (found no_format (row_of k u rows)) (λ (r : FormatRow). given r.name) f e in
    (r, row_of_lem rows table k u r (found_some no_format (row_of k u rows) r g), cc)

read_row : (sorted : Bool) (r : FormatRow) (k u : ℕ) (f : Bytes) → Meets (row_rule r) × (k ≡ r.kind) × (u ≡ r.unit) → r.name ≡ f → read_format sorted f ≡ given (of_scalar (leaf k u))
read_row sorted r k u f h name = rw (← name, h.1, h.2) (named (row_named r.name rows) r _ h.0.0)

pub read_scalar : (sorted : Bool) (s : Scalar) (f : Bytes) → Meets (scalar_rule s) → scalar_format s ≡ given f → read_format sorted f ≡ given (of_scalar (plain_scalar s))
unfolding rows
read_scalar sorted (leaf k u) f h e = let l = leaf_row_lem k u f e in read_row sorted l.0 k u f l.1 l.2
read_scalar sorted (timestamp u z) f h e =
    let text : ascii "ts" ++ unit_letter u ++ ascii ":" ++ or_empty z ≡ f = cc in
    rw (← text, ← (zone_plain z)) (read_timestamp sorted u z)
read_scalar sorted (fixed_size_binary n) f h e =
    let text : ascii "w:" ++ decimal n ≡ f = cc in
    rw (← text, read_size_lem n h)
read_scalar sorted (decimal_type w p s) f h e =
    let text : ascii "d:" ++ join 44 (decimal p ∷ decimal s ∷ width_text w) ≡ f = cc in
    rw (← text) (read_decimal_format sorted w p s h.0 h.1)

pub utf8_scalar : (s : Scalar) (f : Bytes) → Meets (scalar_rule s) → scalar_format s ≡ given f → is_utf8 f ≡ true
utf8_scalar (leaf k u) f h e = let l = leaf_row_lem k u f e in rw l.2 at l.1.0.1.0
utf8_scalar (timestamp u z) f h e =
    let text : ascii "ts" ++ unit_letter u ++ ascii ":" ++ or_empty z ≡ f = cc in
    rw (← text) (utf8_append (ascii "ts" ++ unit_letter u ++ ascii ":") (or_empty z) (letters u) (zone_utf8 z h))
  where
    letters : (v : TimeUnit) → is_utf8 (ascii "ts" ++ unit_letter v ++ ascii ":") ≡ true
    letters second = refl
    letters millisecond = refl
    letters microsecond = refl
    letters nanosecond = refl

    zone_utf8 : (y : Option Bytes) → Meets (text_rule y) → is_utf8 (or_empty y) ≡ true
    zone_utf8 None k = refl
    zone_utf8 (Some b) k = k
utf8_scalar (fixed_size_binary n) f h e =
    let text : ascii "w:" ++ decimal n ≡ f = cc in
    rw (← text) (ascii_utf8 (decimal n) (decimal_ascii n))
utf8_scalar (decimal_type w p s) f h e =
    let text : ascii "d:" ++ join 44 (decimal p ∷ decimal s ∷ width_text w) ≡ f = cc in
    rw (← text) (ascii_utf8 (join 44 (decimal p ∷ decimal s ∷ width_text w)) (join_ascii (decimal p ∷ decimal s ∷ width_text w) (decimal_ascii p, (decimal_ascii s, widths w))))
  where
    widths : (v : Width) → Meets (each_ascii (width_text v))
    widths bits128 = refl
    widths bits32 = meets (each_ascii (width_text bits32)) refl
    widths bits64 = meets (each_ascii (width_text bits64)) refl
    widths bits256 = meets (each_ascii (width_text bits256)) refl

-- ── nested types

abbrev pub sorted_of : Nesting → Bool
sorted_of list = false
sorted_of large_list = false
sorted_of (fixed_size_list n) = false
sorted_of (map sorted) = sorted

pub read_nesting : (n : Nesting) → Meets (nesting_rule n) → read_format (sorted_of n) (nesting_format n) ≡ given (of_nesting n)
unfolding rows
read_nesting list h = refl
read_nesting large_list h = refl
read_nesting (fixed_size_list n) h = rw (read_size_lem n h)
read_nesting (map sorted) h = refl

pub utf8_nesting : (n : Nesting) → is_utf8 (nesting_format n) ≡ true
utf8_nesting list = refl
utf8_nesting large_list = refl
utf8_nesting (fixed_size_list n) = ascii_utf8 (decimal n) (decimal_ascii n)
utf8_nesting (map sorted) = refl

-- ── grouped types

read_union : (sorted sparse : Bool) (z : ℤ) (zs : List ℤ) → Meets (each id_rule (z ∷ zs))
    → read_format sorted (union_name sparse ++ join 44 (write_signed z ∷ map_list write_signed zs)) ≡ given (of_grouping (union sparse (Some (z ∷ zs))))
unfolding rows
read_union sorted true z zs h =
    rw (split_join 44 (write_signed z) (map_list write_signed zs) (each_free id_rule write_signed 44 (λ y k. signed_lacks 44 refl y) (z ∷ zs) h), read_each_lem id_rule write_signed read_id read_id_lem (z ∷ zs) h)
read_union sorted false z zs h =
    rw (split_join 44 (write_signed z) (map_list write_signed zs) (each_free id_rule write_signed 44 (λ y k. signed_lacks 44 refl y) (z ∷ zs) h), read_each_lem id_rule write_signed read_id read_id_lem (z ∷ zs) h)

read_ids_lem : (sorted sparse : Bool) (zs : List ℤ) (f : Bytes) → Meets (each id_rule zs) → write_ids (union_name sparse) zs ≡ given f → read_format sorted f ≡ given (of_grouping (union sparse (Some zs)))
read_ids_lem sorted sparse [] f h e = not_given e
read_ids_lem sorted sparse (z ∷ zs) f h e =
    let text : union_name sparse ++ join 44 (write_signed z ∷ map_list write_signed zs) ≡ f = cc in
    rw (← text) (read_union sorted sparse z zs h)

utf8_ids : (sparse : Bool) (zs : List ℤ) (f : Bytes) → write_ids (union_name sparse) zs ≡ given f → is_utf8 f ≡ true
utf8_ids sparse [] f e = not_given e
utf8_ids sparse (z ∷ zs) f e =
    let text : union_name sparse ++ join 44 (write_signed z ∷ map_list write_signed zs) ≡ f = cc in
    rw (← text) (utf8_append (union_name sparse) (join 44 (write_signed z ∷ map_list write_signed zs)) (names sparse) (ascii_utf8 (join 44 (write_signed z ∷ map_list write_signed zs)) (join_ascii (write_signed z ∷ map_list write_signed zs) (texts (z ∷ zs)))))
  where
    names : (b : Bool) → is_utf8 (union_name b) ≡ true
    names true = refl
    names false = refl

    texts : (l : List ℤ) → Meets (each_ascii (map_list write_signed l))
    texts [] = refl
    texts (y ∷ l) = (signed_ascii y, texts l)

-- ids that are counted are in range
pub up_from_lem : (n count : ℕ) → n + count ≤ 2 ^ 31 → Meets (each id_rule (up_from n count))
up_from_lem n zero h = refl
up_from_lem n (suc count) h = (lt-ltb n (2 ^ 31) (omega arith), up_from_lem (suc n) count (omega arith))

pub read_grouping : (sorted : Bool) (g : Grouping) (count : ℕ) (f : Bytes) → Meets (grouping_rule g) → count ≤ 2 ^ 31 → grouping_format g count ≡ given f → read_format sorted f ≡ given (of_grouping (plain_grouping g count))
unfolding rows
read_grouping sorted struct count f h k e =
    let text : ascii "+s" ≡ f = cc in
    rw (← text)
read_grouping sorted (union sparse None) count f h k e = read_ids_lem sorted sparse (up_from 0 count) f (up_from_lem 0 count (omega arith)) e
read_grouping sorted (union sparse (Some ids)) count f h k e = read_ids_lem sorted sparse ids f h e

pub utf8_grouping : (g : Grouping) (count : ℕ) (f : Bytes) → grouping_format g count ≡ given f → is_utf8 f ≡ true
utf8_grouping struct count f e =
    let text : ascii "+s" ≡ f = cc in
    rw (← text)
utf8_grouping (union sparse None) count f e = utf8_ids sparse (up_from 0 count) f e
utf8_grouping (union sparse (Some ids)) count f e = utf8_ids sparse ids f e

-- ── a dictionary's index: one test over the places

abbrev answers : Answer ℕ → ℕ → Bool
answers (refused n) d = false
answers (given v) d = eqb v d

abbrev or_not : Bool → Bool → Bool
or_not a b = not a || b

index_test_lem : (ix : ℕ) → ix < 10 → or_not (narrow ix) (answers (index_format ix >>= to_integer_type) ix) ≡ true
unfolding rows
index_test_lem ix h = at_each 10 (λ k. or_not (narrow k) (answers (index_format k >>= to_integer_type) k)) (meets (every 10 (λ k. or_not (narrow k) (answers (index_format k >>= to_integer_type) k))) refl) ix h

answered : (a : Answer ℕ) (d : ℕ) → answers a d ≡ true → a ≡ given d
answered (refused n) d h = cc
answered (given v) d h = ap given (eqb-true v d h)

pub read_index : (ix : ℕ) (f : Bytes) → ix < 10 → narrow ix ≡ true → index_format ix ≡ given f → to_integer_type f ≡ given ix
read_index ix f h k e =
    let t : or_not (narrow ix) (answers (index_format ix >>= to_integer_type) ix) ≡ true = index_test_lem ix h in
    answered (to_integer_type f) ix (rw (k, e) at t)
