-- Plain form line by line (specs/PlainSteps) gives the lines of the plain form; what becomes of each column; and when nothing changes. By cases of
-- the type. Assumes nothing.
use mathlib.Core.Path.{◌≡◌, refl, sym, ◌∙◌, ap}
use mathlib.Core.Bool.{Bool, true, false, ◌&&◌}
use mathlib.Core.List.{List, [], ◌∷◌, ◌++◌, append-nil}
use mathlib.Core.List.{map as map_list}
use Rattle.std.specs.Prelude.{Option, None, Some}
use Prim.Native.Nat.{ℕ, ◌/◌, ◌%◌}
use native.Mathlib.Omega.{arith}
use lib.Dec.{eqb, leb}
use lib.IntN.{ℤ, pos, negsuc}
use borrow.Author.Tests.{leb-true, ne_eqb}
use Rattle.sheets.specs.Rule.{Meets}
use Rattle.sheets.specs.Bytes.{Bytes, same, join, all}
use Rattle.sheets.specs.Answer.{given}
use Rattle.sheets.specs.Number.{decimal, write_signed, lean, is_digit}
use Rattle.sheets.specs.Text.{hex_digit, hex, write_text}
use Rattle.sheets.specs.Field.{Pair, Info, Scalar, leaf, timestamp, fixed_size_binary, decimal_type, Grouping, struct, union, ArrowDataType, scalar, nested, grouped, dictionary, extension, Fields, nil, add, count_fields}
use Rattle.sheets.specs.FieldSheet.{Entry, columns, of_scalar, of_grouping, of_dictionary, of_extension, type_lines, fields_lines, pair_text, write_list, field_heading}
use Rattle.sheets.specs.Plain.{plain_zone, plain_pairs, plain_info, plain_scalar, plain_grouping, plain_type, plain_fields, plain}
use Rattle.sheets.specs.Outcome.{plained}
use Rattle.sheets.specs.FieldTrees.{is_extension, push_fields, type_shape, type_below}
use Rattle.sheets.specs.Walk.{type_walk, fields_walk, sheet_walk}
use Rattle.sheets.specs.PlainSteps.{plain_own, plain_step, empty_to_none, plain_ids, plain_text, is_plain_own, is_plain_shape, is_plain, are_plain, row_plain}
use Rattle.sheets.proofs.Tests.{never, not_some, and_left, and_right}
use Rattle.sheets.proofs.NumberLaws.{decimal_lean, decimal_digits}
use Rattle.sheets.proofs.PlainLaws.{count_plain}
use Rattle.sheets.proofs.FieldTrees.{fields_push}
use Rattle.sheets.proofs.WalkLaws.{sheet_walked}

mutual
  -- in no extension, with any columns
  pub type_plain : (t : ArrowDataType) (i : Option Info) → type_walk plain_step t i false ≡ given (type_lines (plain_type t false) (plain_own i))
  type_plain (scalar s) i = refl
  type_plain (nested n j t) i = rw (type_plain t (Some j))
  type_plain (grouped g fs) i = rw (fields_plain fs, count_plain fs)
  type_plain (dictionary ix ordered t) i = rw (type_plain t None)
  type_plain (extension n m t) i = rw (inner_plain t)

  -- directly in an extension, bare
  pub inner_plain : (t : ArrowDataType) → type_walk plain_step t None true ≡ given (type_lines (plain_type t true) None)
  inner_plain (scalar s) = refl
  inner_plain (nested n j t) = rw (type_plain t (Some j))
  inner_plain (grouped g fs) = rw (fields_plain fs, count_plain fs)
  inner_plain (dictionary ix ordered t) = refl
  inner_plain (extension n m t) = rw (inner_plain t)

  pub fields_plain : (fs : Fields) → fields_walk plain_step fs false ≡ given (fields_lines (plain_fields fs))
  fields_plain nil = refl
  fields_plain (add i t fs) = rw (type_plain t (Some i), fields_plain fs)

-- with the heading: the plain form of a sheet
pub sheet_plain : (b : Bytes) → plained b ≡ sheet_walk plain_step false field_heading b
unfolding plained
sheet_plain b = sheet_walked plain_step false field_heading b (λ f. given (type_lines (plain f).type (Some (plain f).info))) (λ f. type_plain f.type (Some f.info))

-- ── columns

two_same : (x y c : ℕ) (r : Bytes) → same (x ∷ y ∷ r) (c ∷ []) ≡ false
two_same x y c r = go (eqb x c)
  where
    go : (b : Bool) → (b && false) ≡ false
    go true = refl
    go false = refl

-- the timezone
pub zone_text : (z : Option Bytes) → write_text (plain_zone z) ≡ empty_to_none (write_text z)
zone_text None = refl
zone_text (Some []) = refl
zone_text (Some (b ∷ bs)) = rw (two_same (hex_digit (b / 16)) (hex_digit (b % 16)) 45 (hex bs))

pair_same : (p : Pair) (r : Bytes) → same (pair_text p ++ r) (45 ∷ []) ≡ false
pair_same p r = go p.0
  where
    go : (k : Bytes) → same ((hex k ++ (61 ∷ hex p.1)) ++ r) (45 ∷ []) ≡ false
    go [] = refl
    go (b ∷ bs) = two_same (hex_digit (b / 16)) (hex_digit (b % 16)) 45 ((hex bs ++ (61 ∷ hex p.1)) ++ r)

-- the pairs
pub pairs_text_lem : (ps : Option (List Pair)) → write_list pair_text (plain_pairs ps) ≡ empty_to_none (write_list pair_text ps)
pairs_text_lem None = refl
pairs_text_lem (Some []) = refl
pairs_text_lem (Some (p ∷ [])) = rw (sym (ap (λ t. same t (45 ∷ [])) (append-nil (pair_text p))) ∙ pair_same p [])
pairs_text_lem (Some (p ∷ q ∷ ps)) = rw (pair_same p (44 ∷ join 44 (pair_text q ∷ map_list pair_text ps)))

signed_same : (z : ℤ) (r : Bytes) → same (write_signed z ++ r) (126 ∷ []) ≡ false
signed_same (negsuc n) r = refl
signed_same (pos n) r = go (decimal n) (decimal_lean n) (decimal_digits n)
  where
    go : (t : Bytes) → lean t ≡ true → Meets (all is_digit t) → same (t ++ r) (126 ∷ []) ≡ false
    go [] l d = never l
    go (b ∷ bs) l d = rw (ne_eqb b 126 (omega (arith, leb-true b 57 (and_right (leb 48 b) (leb b 57) d.0))))

-- the union's ids
pub ids_text : (mode : Bool) (ids : Option (List ℤ)) (n : ℕ) → (columns (of_grouping (plain_grouping (union mode ids) n))).text ≡ plain_ids (columns (of_grouping (union mode ids))).text n
ids_text mode None n = refl
ids_text mode (Some []) n = refl
ids_text mode (Some (z ∷ [])) n = rw (sym (ap (λ t. same t (126 ∷ [])) (append-nil (write_signed z))) ∙ signed_same z [])
ids_text mode (Some (z ∷ y ∷ ids)) n = rw (signed_same z (44 ∷ join 44 (write_signed y ∷ map_list write_signed ids)))

-- ── what is plain already

same_pairs : (i : Info) → is_plain_own (Some i) ≡ true → plain_info i ≡ i
same_pairs i h = go i.pairs refl h
  where
    go : (ps : Option (List Pair)) → i.pairs ≡ ps → plain_text ps ≡ true → plain_info i ≡ i
    go None e k = λ x. record { name = i.name; nullable = i.nullable; pairs = (ap plain_pairs e ∙ sym e) x }
    go (Some []) e k = never k
    go (Some (p ∷ ps)) e k = λ x. record { name = i.name; nullable = i.nullable; pairs = (ap plain_pairs e ∙ sym e) x }

same_scalar : (s : Scalar) (inside : Bool) → is_plain_shape (of_scalar s) inside ≡ true → plain_scalar s ≡ s
same_scalar (leaf k u) inside h = refl
same_scalar (timestamp u None) inside h = refl
same_scalar (timestamp u (Some [])) inside h = never h
same_scalar (timestamp u (Some (b ∷ bs))) inside h = refl
same_scalar (fixed_size_binary n) inside h = refl
same_scalar (decimal_type w p s) inside h = refl

same_grouping : (g : Grouping) (n : ℕ) (inside : Bool) → is_plain_shape (of_grouping g) inside ≡ true → plain_grouping g n ≡ g
same_grouping struct n inside h = refl
same_grouping (union mode None) n inside h = never h
same_grouping (union mode (Some ids)) n inside h = refl

mutual
  -- a type that is plain is its own plain form
  pub plain_already : (t : ArrowDataType) (inside : Bool) → is_plain t inside ≡ true → plain_type t inside ≡ t
  plain_already (scalar s) inside h = ap scalar (same_scalar s inside h)
  plain_already (nested n i t) inside h =
      rw (same_pairs i (and_left (is_plain_own (Some i)) (is_plain t false) h), plain_already t false (and_right (is_plain_own (Some i)) (is_plain t false) h))
  plain_already (grouped g fs) inside h =
      rw (same_grouping g (count_fields fs) inside (and_left (is_plain_shape (of_grouping g) inside) (are_plain fs) h), fields_already fs (and_right (is_plain_shape (of_grouping g) inside) (are_plain fs) h))
  plain_already (dictionary ix ordered t) true h = never h
  plain_already (dictionary ix ordered t) false h = rw (plain_already t false h)
  plain_already (extension n m t) true h = never h
  plain_already (extension n m t) false h = rw (plain_already t true h)

  fields_already : (fs : Fields) → are_plain fs ≡ true → plain_fields fs ≡ fs
  fields_already nil h = refl
  fields_already (add i t fs) h =
      let r = and_right (is_plain_own (Some i)) (is_plain t false && are_plain fs) h in
      rw (same_pairs i (and_left (is_plain_own (Some i)) (is_plain t false && are_plain fs) h), plain_already t false (and_left (is_plain t false) (are_plain fs) r), fields_already fs (and_right (is_plain t false) (are_plain fs) r))

and_four : (a b c d : Bool) → ((a && b) && (c && d)) ≡ ((a && (b && c)) && d)
and_four true true c d = refl
and_four true false c d = refl
and_four false b c d = refl

fields_row_plain : (fs : Fields) (es : List Entry) → row_plain (push_fields fs es) false ≡ (are_plain fs && row_plain es false)
fields_row_plain nil es = refl
fields_row_plain (add i t fs) es = rw (fields_row_plain fs es) (and_four (is_plain_own (Some i)) (is_plain t false) (are_plain fs) (row_plain es false))

two : (o b c : Bool) → ((o && b) && c) ≡ ((o && true) && (b && c))
two true b c = refl
two false b c = refl

-- One loop over the lines, without recursion, tells whether all is plain: a line stands directly in an extension exactly if the line before it is an
-- extension's.
pub row_plain_lem : (i : Option Info) (t : ArrowDataType) (es : List Entry) (inside : Bool)
    → row_plain ((i, t) ∷ es) inside ≡ ((is_plain_own i && is_plain_shape (type_shape t) inside) && row_plain (type_below t ++ es) (is_extension (type_shape t)))
row_plain_lem i (scalar s) es inside = refl
row_plain_lem i (nested n j t) es inside = two (is_plain_own i) (is_plain_own (Some j) && is_plain t false) (row_plain es false)
row_plain_lem i (grouped g fs) es inside =
    rw (sym (ap (λ (l : List Entry). row_plain l false) (fields_push fs es)) ∙ fields_row_plain fs es) (sym (and_four (is_plain_own i) (is_plain_shape (of_grouping g) inside) (are_plain fs) (row_plain es false)))
row_plain_lem i (dictionary ix ordered t) es inside = sym (and_four (is_plain_own i) (is_plain_shape (of_dictionary ix ordered) inside) (is_plain t false) (row_plain es false))
row_plain_lem i (extension n m t) es inside = sym (and_four (is_plain_own i) (is_plain_shape (of_extension n m) inside) (is_plain t true) (row_plain es false))

-- ── and nothing else is

own_only : (i : Info) → plain_info i ≡ i → is_plain_own (Some i) ≡ true
own_only i e = go i.pairs (ap (λ (j : Info). j.pairs) e)
  where
    go : (ps : Option (List Pair)) → plain_pairs ps ≡ ps → plain_text ps ≡ true
    go None k = refl
    go (Some []) k = not_some k
    go (Some (p ∷ ps)) k = refl

scalar_only : (s : Scalar) (inside : Bool) → scalar (plain_scalar s) ≡ scalar s → is_plain_shape (of_scalar s) inside ≡ true
scalar_only (leaf k u) inside e = refl
scalar_only (timestamp u None) inside e = refl
scalar_only (timestamp u (Some [])) inside e = absurd (let z : ◌≡◌ {A = ℕ} 0 1 = cc in omega arith)
scalar_only (timestamp u (Some (b ∷ bs))) inside e = refl
scalar_only (fixed_size_binary n) inside e = refl
scalar_only (decimal_type w p s) inside e = refl

grouping_only : (g : Grouping) (n : ℕ) (inside : Bool) → plain_grouping g n ≡ g → is_plain_shape (of_grouping g) inside ≡ true
grouping_only struct n inside e = refl
grouping_only (union mode None) n inside e = absurd (let z : ◌≡◌ {A = ℕ} 0 1 = cc in omega arith)
grouping_only (union mode (Some ids)) n inside e = refl

-- no extension stands directly in one
no_extension : (t u : ArrowDataType) (n : Bytes) (m : Option Bytes) → plain_type t true ≡ extension n m u → ⊥
no_extension (scalar s) u n m e = let z : ◌≡◌ {A = ℕ} 0 1 = cc in omega arith
no_extension (nested g i t) u n m e = let z : ◌≡◌ {A = ℕ} 0 1 = cc in omega arith
no_extension (grouped g fs) u n m e = let z : ◌≡◌ {A = ℕ} 0 1 = cc in omega arith
no_extension (dictionary ix ordered t) u n m e = let z : ◌≡◌ {A = ℕ} 0 1 = cc in omega arith
no_extension (extension a b t) u n m e = no_extension t u n m e

mutual
  -- a type that is its own plain form is plain: so the test is exact
  pub plain_only : (t : ArrowDataType) (inside : Bool) → plain_type t inside ≡ t → is_plain t inside ≡ true
  plain_only (scalar s) inside e = scalar_only s inside e
  plain_only (nested n i t) inside e =
      let a : plain_info i ≡ i = cc in
      let b : plain_type t false ≡ t = cc in
      rw (own_only i a, plain_only t false b)
  plain_only (grouped g fs) inside e =
      let a : plain_grouping g (count_fields fs) ≡ g = cc in
      let b : plain_fields fs ≡ fs = cc in
      rw (grouping_only g (count_fields fs) inside a, fields_only fs b)
  plain_only (dictionary ix ordered t) true e = absurd (let z : ◌≡◌ {A = ℕ} 0 1 = cc in omega arith)
  plain_only (dictionary ix ordered t) false e = let b : plain_type t false ≡ t = cc in plain_only t false b
  plain_only (extension n m t) true e = absurd (no_extension t t n m e)
  plain_only (extension n m t) false e = let b : plain_type t true ≡ t = cc in plain_only t true b

  fields_only : (fs : Fields) → plain_fields fs ≡ fs → are_plain fs ≡ true
  fields_only nil e = refl
  fields_only (add i t fs) e =
      let a : plain_info i ≡ i = cc in
      let b : plain_type t false ≡ t = cc in
      let c : plain_fields fs ≡ fs = cc in
      rw (own_only i a, plain_only t false b, fields_only fs c)
