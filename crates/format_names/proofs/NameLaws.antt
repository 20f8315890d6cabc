-- The table of fixed names: the rows of a range are looked through one by one, by digits as numbers, which are equal exactly if the names are; and what a
-- row says. What the table holds is computed from `fixed_rows`. Assumes nothing.
use mathlib.Core.Path.{◌≡◌, refl, sym, ◌∙◌, ap, ap₂, subst}
use mathlib.Core.Bool.{Bool, true, false, not, ◌&&◌, ◌||◌}
use mathlib.Core.List.{List, [], ◌∷◌, ◌++◌}
use mathlib.Core.List.{map as map_list}
use Rattle.std.specs.Prelude.{Option, None, Some}
use Prim.Native.Nat.{ℕ, zero, suc, ◌+◌, ◌*◌, ◌/◌, ◌≤◌, ◌<◌, min}
use native.Mathlib.Nat.{not-suc-le-zero, le_of_suc-le-suc}
use native.Mathlib.Numerals.{add-one}
use native.Mathlib.Omega.{arith}
use lib.Dec.{eqb, ltb}
use lib.ListN.{length, get_or, take, drop, drop_of_length-le, length-drop, length-take, take-append-drop}
use lib.Seq.{drop-cons, get_or-take, get_or-drop, length-take-le, take_all}
use borrow.Author.Tests.{eqb-true, eqb-false, ltb-true, ne_eqb, eq-eqb, le-ltb, not-true}
use Rattle.sheets.specs.Rule.{Rule, each, Meets}
use Rattle.sheets.specs.Bytes.{Bytes, all, is_byte, same}
use Rattle.sheets.specs.Text.{hex}
use Rattle.sheets.specs.Metadata.{little_value}
use Rattle.sheets.specs.Answer.{given}
use Rattle.sheets.specs.Format.{FormatRow, row_named, cut, read_other, read_format}
use Rattle.sheets.specs.FixedNames.{fixed_rows, is_nested, named_format, has_length}
use Rattle.sheets.proofs.Tests.{never, not_some, and_left, and_right, meets, every, at_each}
use Rattle.sheets.proofs.BytesLaws.{same_refl, same_eq}
use Rattle.sheets.proofs.FixedNameLaws.{names_38, read_fixed, read_fixed_lem}
use Rattle.hexadecimal.specs.Hex.{is_hex, bytes_of}
use Rattle.hexadecimal.proofs.PartLaws.{bytes_hex, hex_bytes, length_hex, all_take, all_drop}
use Rattle.hexadecimal.proofs.HexLaws.{length_bytes, twice_length, bytes_below}
use Rattle.words.specs.Words.{Small}
use Rattle.words.proofs.WordLaws.{same_bytes}
use Rattle.words.proofs.DigitLaws.{hex_bytes_small}
use Rattle.datatypes.proofs.AtLaws.{Rest, listed, not_listed}
use Rattle.format_names.specs.declared.Digits.{Digits}
use Rattle.format_names.specs.Names.{table_length, row_at, rows_from, low_digits, high_digits, HasDigits, DigitsOf, same_digits, HasRows, leaf_of, leaf_named}

-- ── rows one by one

get_d_map : (f : FormatRow → ℕ) (l : List FormatRow) (i : ℕ) → i < length l → get_or (map_list f l) i 0 ≡ f (get_or l i (record { name = []; kind = 0; unit = 0 }))
get_d_map f [] i h = absurd (not-suc-le-zero h)
get_d_map f (r ∷ l) zero h = refl
get_d_map f (r ∷ l) (suc i) h = get_d_map f l i (le_of_suc-le-suc h)

abbrev no_row : FormatRow
no_row = record { name = []; kind = 0; unit = 0 }

module _ (row count : ℕ) (fit : row + count ≤ table_length) where
  rows_length : length (rows_from row count) ≡ count
  rows_length = length-take-le count (drop row fixed_rows) (omega (arith, length-drop row fixed_rows, names_38))

  row_of_lem : (i : ℕ) → i < count → get_or (rows_from row count) i no_row ≡ row_at (row + i)
  unfolding row_at
  row_of_lem i h = get_or-take count (drop row fixed_rows) i no_row h ∙ get_or-drop row fixed_rows i no_row

  rows_cons : (i : ℕ) → i < count → drop i (rows_from row count) ≡ row_at (row + i) ∷ drop (i + 1) (rows_from row count)
  rows_cons i h = rw (add-one i) (drop-cons (rows_from row count) i no_row (omega (arith, rows_length)) ∙ ap (λ (r : FormatRow). r ∷ drop (suc i) (rows_from row count)) (row_of_lem i h))

  pub rows_found : (b : Bytes) (i : ℕ) → i < count → same b (row_at (row + i)).name ≡ true → row_named b (drop i (rows_from row count)) ≡ Some (row_at (row + i))
  rows_found b i h e = rw (rows_cons i h, e)

  pub rows_next : (b : Bytes) (i : ℕ) → i < count → same b (row_at (row + i)).name ≡ false → row_named b (drop i (rows_from row count)) ≡ row_named b (drop (i + 1) (rows_from row count))
  rows_next b i h e = rw (rows_cons i h, e)

  pub rows_end : (b : Bytes) (i : ℕ) → count ≤ i → row_named b (drop i (rows_from row count)) ≡ None
  rows_end b i h = rw (drop_of_length-le (rows_from row count) {i = i} (omega (arith, rows_length)))

  -- a row's name is as long as all of them
  each_at : (n : ℕ) (l : List FormatRow) (i : ℕ) → i < length l → Meets (each (has_length n) l) → length (get_or l i no_row).name ≡ n
  each_at n [] i h m = absurd (not-suc-le-zero h)
  each_at n (r ∷ l) zero h m = eqb-true (length r.name) n m.0
  each_at n (r ∷ l) (suc i) h m = each_at n l i (le_of_suc-le-suc h) m.1

  pub row_length : (n i : ℕ) → i < count → Meets (each (has_length n) (rows_from row count)) → length (row_at (row + i)).name ≡ n
  row_length n i h m = ap (λ (r : FormatRow). length r.name) (sym (row_of_lem i h)) ∙ each_at n (rows_from row count) i (omega (arith, rows_length)) m

-- ── names by digits

-- names are bytes
abbrev pub byte_rule : FormatRow → Rule
byte_rule r = all is_byte r.name

pub rows_bytes : Meets (each byte_rule fixed_rows)
unfolding fixed_rows
rows_bytes = meets (each byte_rule fixed_rows) refl

bytes_at : (l : List FormatRow) (i : ℕ) → Meets (each byte_rule l) → Meets (all is_byte (get_or l i no_row).name)
bytes_at [] i m = refl
bytes_at (r ∷ l) zero m = m.0
bytes_at (r ∷ l) (suc i) m = bytes_at l i m.1

pub row_bytes : (i : ℕ) → Meets (all is_byte (row_at i).name)
unfolding row_at
row_bytes i = bytes_at fixed_rows i rows_bytes

module _ (f name : Bytes) (text : is_hex f ≡ true) (bytes : Meets (all is_byte name)) where
  f_small : Small f
  f_small = subst Small (hex_bytes f text) (hex_bytes_small (bytes_of f) (bytes_below f))

  -- equal numbers are equal digits, and these are of equal bytes
  pub same_digits_lem : length name ≡ length f / 2 → low_digits (hex name) ≡ low_digits f → high_digits (hex name) ≡ high_digits f
      → same (bytes_of f) name ≡ true
  same_digits_lem n low high =
      let h = hex name in
      let size : length h ≡ length f = omega (arith, length_hex name, twice_length f text, length_bytes f text) in
      let first : take 8 h ≡ take 8 f =
      same_bytes (take 8 h) (take 8 f) (length-take 8 h ∙ ap (min 8) size ∙ sym (length-take 8 f)) (all_take _ 8 h (hex_bytes_small name bytes)) (all_take _ 8 f f_small) low in
      let last : drop 8 h ≡ drop 8 f =
      same_bytes (drop 8 h) (drop 8 f) (omega (arith, length-drop 8 h, length-drop 8 f, size)) (all_drop _ 8 h (hex_bytes_small name bytes)) (all_drop _ 8 f f_small) high in
      let whole : h ≡ f = sym (take-append-drop 8 h) ∙ ap₂ ◌++◌ first last ∙ take-append-drop 8 f in
      ap (λ (x : Bytes). same (bytes_of x) name) (sym whole) ∙ ap (λ (x : Bytes). same x name) (bytes_hex name bytes) ∙ same_refl name

  -- a number that differs is of another name
  pub other_digits : (part : Bytes → Bytes) → (little_value (part (hex name)) ≡ little_value (part f) → ⊥) → same (bytes_of f) name ≡ false
  other_digits part d = pick (same (bytes_of f) name) refl
    where
      pick : (t : Bool) → same (bytes_of f) name ≡ t → t ≡ false
      pick true e = absurd (d (ap (λ (x : Bytes). little_value (part x)) (ap hex (sym (same_eq (bytes_of f) name e)) ∙ hex_bytes f text)))
      pick false e = refl

-- ── rows by their numbers

pub or_right : (u v : Bool) → u ≡ false → (u || v) ≡ true → v ≡ true
or_right true v f g = never (sym f)
or_right false v f g = g

-- the row of the last arm of a `match`, from what the arms before it list
pub last_arm : (kss : List (List ℕ)) (a b n : ℕ) → Meets (every b (λ j. ltb j a || (listed kss j || eqb j n))) → (x : ℕ) → a ≤ x → x < b → Rest kss x → x ≡ n
last_arm kss a b n test x low high rest =
    eqb-true x n
    (or_right (listed kss x) (eqb x n) (not-true (listed kss x) (not_listed x kss rest))
    (or_right (ltb x a) (listed kss x || eqb x n) (le-ltb x a low) (at_each b (λ j. ltb j a || (listed kss j || eqb j n)) test x high)))

-- the names of neighbouring rows have one length
pub lengths : (a b n : ℕ) → Meets (every b (λ j. ltb j a || eqb (length (row_at j).name) n)) → (i : ℕ) → a ≤ i → i < b → n ≡ length (row_at i).name
lengths a b n test i low high =
    sym (eqb-true (length (row_at i).name) n (or_right (ltb i a) (eqb (length (row_at i).name) n) (le-ltb i a low) (at_each b (λ j. ltb j a || eqb (length (row_at j).name) n) test i high)))

-- the longest have seven bytes
pub name_short : (i : ℕ) → i < table_length → length (row_at i).name < 8
unfolding row_at
name_short i h = ltb-true (length (row_at i).name) 8 (at_each table_length (λ j. ltb (length (row_at j).name) 8) (meets (every table_length (λ j. ltb (length (row_at j).name) 8)) refl) i h)

-- the last four rows are of types with children, which have no unit, and no other
pub leaf_row_lem : (i : ℕ) → i < 34 → is_nested (row_at i).kind ≡ false
unfolding row_at
leaf_row_lem i h = not-true (is_nested (row_at i).kind) (at_each 34 (λ j. not (is_nested (row_at j).kind)) (meets (every 34 (λ j. not (is_nested (row_at j).kind))) refl) i h)

abbrev nested_test : ℕ → Bool
nested_test j = ltb j 34 || (is_nested (row_at j).kind && eqb (row_at j).unit 0)

late_nested : (i : ℕ) → 34 ≤ i → i < table_length → (is_nested (row_at i).kind && eqb (row_at i).unit 0) ≡ true
unfolding row_at
late_nested i low high = or_right (ltb i 34) (is_nested (row_at i).kind && eqb (row_at i).unit 0) (le-ltb i 34 low) (at_each table_length nested_test (meets (every table_length nested_test) refl) i high)

pub nested_row_lem : (i : ℕ) → 34 ≤ i → i < table_length → is_nested (row_at i).kind ≡ true
nested_row_lem i low high = and_left (is_nested (row_at i).kind) (eqb (row_at i).unit 0) (late_nested i low high)

pub nested_unit : (i : ℕ) → 34 ≤ i → i < table_length → 0 ≡ (row_at i).unit
nested_unit i low high = sym (eqb-true (row_at i).unit 0 (and_right (is_nested (row_at i).kind) (eqb (row_at i).unit 0) (late_nested i low high)))

-- ── a format's digits

module _ (f : Bytes) where
  -- up to eight are all that there are
  pub all_low : (k : ℕ) → length f ≡ k → k ≤ 8 → little_value (take k f) ≡ low_digits f
  all_low k e h = ap little_value (take_all k f (omega arith) ∙ sym (take_all 8 f (omega arith)))

  pub none_high : (k : ℕ) → length f ≡ k → k ≤ 8 → 0 ≡ high_digits f
  none_high k e h = ap little_value (sym (drop_of_length-le f {i = 8} (omega arith)))

  pub all_high : (k : ℕ) → length f ≡ 8 + k → little_value (take k (drop 8 f)) ≡ high_digits f
  all_high k e = ap little_value (take_all k (drop 8 f) (omega (arith, length-drop 8 f)))

  pub even : HasDigits f → (n : ℕ) → length f / 2 ≡ n → length f ≡ 2 * n
  even d n e = sym (twice_length f d.is_text) ∙ ap (λ (k : ℕ). 2 * k) (length_bytes f d.is_text ∙ e)

  -- the longest name is of seven bytes
  pub longest : HasDigits f → (length f / 2 ≡ 2 → ⊥) → (length f / 2 ≡ 3 → ⊥) → length f ≡ 14
  longest d p q = even d 7 (pick (eqb (length f / 2) 2) (eqb (length f / 2) 3) refl refl d.longer)
    where
      pick : (u v : Bool) → eqb (length f / 2) 2 ≡ u → eqb (length f / 2) 3 ≡ v → (u || (v || eqb (length f / 2) 7)) ≡ true → length f / 2 ≡ 7
      pick true v e g h = absurd (p (eqb-true (length f / 2) 2 e))
      pick false true e g h = absurd (q (eqb-true (length f / 2) 3 g))
      pick false false e g h = eqb-true (length f / 2) 7 h

-- a name whose length is the format's is its name exactly if it has its digits
pub digits_name : (f name : Bytes) (d : Digits) → is_hex f ≡ true → Meets (all is_byte name) → length name ≡ length f / 2 → DigitsOf f d → same_digits name d ≡ same (bytes_of f) name
digits_name f name d text bytes n o = pick (eqb low d.low) (eqb high d.high) refl refl
  where
    low : ℕ
    low = low_digits (hex name)

    high : ℕ
    high = high_digits (hex name)

    pick : (u v : Bool) → eqb low d.low ≡ u → eqb high d.high ≡ v → (u && v) ≡ same (bytes_of f) name
    pick true true e g = sym (same_digits_lem f name text bytes n (eqb-true low d.low e ∙ o.low) (eqb-true high d.high g ∙ o.high))
    pick true false e g = sym (other_digits f name text bytes (drop 8) (λ x. eqb-false high d.high g (x ∙ sym o.high)))
    pick false v e g = sym (other_digits f name text bytes (take 8) (λ x. eqb-false low d.low e (x ∙ sym o.low)))

-- by its first digits, and by those after them
pub other_low : (name : Bytes) (d : Digits) → (low_digits (hex name) ≡ d.low → ⊥) → false ≡ same_digits name d
other_low name d h = rw (ne_eqb (low_digits (hex name)) d.low h)

pub same_low : (name : Bytes) (d : Digits) (high : ℕ) → low_digits (hex name) ≡ d.low → high ≡ high_digits (hex name) → eqb high d.high ≡ same_digits name d
same_low name d high h e = rw (eq-eqb (low_digits (hex name)) d.low h) (ap (λ (x : ℕ). eqb x d.high) e)

-- of a row whose name has the format's length
pub row_same : {f : Bytes} {row count : ℕ} (d : Digits) → HasRows f row count → DigitsOf f d → (i : ℕ) → i < count → same_digits (row_at (row + i)).name d ≡ same (bytes_of f) (row_at (row + i)).name
row_same {f} {row} {count} d h o i l = digits_name f (row_at (row + i)).name d h.digits.is_text (row_bytes (row + i)) (row_length row count h.fit (length f / 2) i l h.long) o

-- ── the columns of the table

pub kind_at : (i : ℕ) → i < table_length → get_or (map_list (λ r. r.kind) fixed_rows) i 0 ≡ (row_at i).kind
unfolding row_at
kind_at i h = get_d_map (λ r. r.kind) fixed_rows i (omega (arith, names_38))

pub unit_at_lem : (i : ℕ) → i < table_length → get_or (map_list (λ r. r.unit) fixed_rows) i 0 ≡ (row_at i).unit
unfolding row_at
unit_at_lem i h = get_d_map (λ r. r.unit) fixed_rows i (omega (arith, names_38))

-- ── what a name says

module _ (sorted : Bool) (f : Bytes) where
  -- what its row says
  pub name_says : (k u : ℕ) → Some (k, u) ≡ leaf_named f → given (named_format sorted k u) ≡ read_format sorted f
  name_says k u e = pick (row_named f fixed_rows) refl e ∙ read_fixed_lem sorted f
    where
      pick : (o : Option FormatRow) → row_named f fixed_rows ≡ o → Some (k, u) ≡ leaf_of o → given (named_format sorted k u) ≡ read_fixed sorted o (read_other (cut f))
      pick None n g = not_some (sym g)
      pick (Some r) n g =
          let q : ◌≡◌ {A = ℕ × ℕ} (k, u) (r.kind, r.unit) = cc in
          ap (λ (x : ℕ × ℕ). given (named_format sorted x.0 x.1)) q

  -- a format that is no name
  pub name_other : None ≡ leaf_named f → read_other (cut f) ≡ read_format sorted f
  name_other e = pick (row_named f fixed_rows) e ∙ read_fixed_lem sorted f
    where
      pick : (o : Option FormatRow) → None ≡ leaf_of o → read_other (cut f) ≡ read_fixed sorted o (read_other (cut f))
      pick None g = refl
      pick (Some r) g = not_some g
