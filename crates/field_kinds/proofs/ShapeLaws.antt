-- The columns kind p q text more of a line: they are a type's that keeps the rules exactly if they fit the kind, column by column. One way goes
-- by the shape, the other by the kind. Assumes nothing.
use mathlib.Core.Path.{◌≡◌, refl, sym, ◌∙◌, ap, subst}
use mathlib.Core.Bool.{Bool, true, false, ◌||◌, cond, true≢false}
use mathlib.Core.List.{List, [], ◌∷◌}
use Rattle.std.specs.Prelude.{Option, None, Some}
use Prim.Native.Nat.{ℕ, zero, suc, ◌^◌, ◌<◌}
use native.Mathlib.Omega.{arith}
use lib.Dec.{eqb, leb, ltb}
use lib.IntN.{ℤ}
use borrow.Author.Tests.{eqb-true, ltb-true, leb-true, leb-false, ne_eqb}
use Rattle.sheets.specs.Rule.{is, passes, Meets}
use Rattle.sheets.specs.Bytes.{Bytes}
use Rattle.sheets.specs.Answer.{Answer, given, ◌>>=◌}
use Rattle.sheets.specs.Number.{write_signed, read_signed}
use Rattle.sheets.specs.Text.{write_text, read_text}
use Rattle.sheets.specs.Utf8.{is_utf8}
use Rattle.sheets.specs.Kind
use Rattle.sheets.specs.Field.{TimeUnit, unit_place, second, millisecond, microsecond, nanosecond, bits128, bits32, bits64, bits256, leaf, timestamp, fixed_size_binary, decimal_type, list, large_list, fixed_size_list, map, struct, union, is_leaf, has_unit, text_rule, id_rule, grouping_rule}
use Rattle.sheets.specs.FieldSheet.{Columns, Shape, of_scalar, of_nesting, of_grouping, of_dictionary, of_extension, no_text, to_nat, read_some, columns, read_list, write_list, read_shape}
use Rattle.sheets.specs.FieldTrees.{shape_rule, children_rule}
use Rattle.sheets.proofs.Tests.{first_gave, same_given, every, at_each, meets, passing}
use Rattle.sheets.proofs.BytesLaws.{same_eq}
use Rattle.sheets.proofs.TextLaws.{read_text_lem}
use Rattle.sheets.proofs.InverseLaws.{text_read, signed_read}
use Rattle.sheets.proofs.Utf8Laws.{utf8_bytes, text_bytes}
use Rattle.sheets.proofs.ListLaws.{list_rule}
use Rattle.sheets.proofs.FieldSheetLaws.{ids_listed, read_ids_lem, read_shape_lem, shape_read}
use Rattle.sheets.proofs.FieldTrees.{leaf_other, leaf_small}
use Rattle.field_columns.specs.Lists.{keeps, ids_rule, is_ids}
use Rattle.field_columns.specs.FieldColumns.{is_nothing, is_some_text, is_optional_text, is_content}
use Rattle.field_kinds.specs.FieldKinds.{p_fits, q_fits, text_content, more_content, children_fit, Fits}
use Rattle.field_kinds.proofs.ListOnce.{keeps_given, list_once}

-- ── from the shape to the columns

listed_ids : (s : Bool) (ids : Option (List ℤ)) → Meets (list_rule id_rule ids) → Meets (grouping_rule (union s ids))
listed_ids s None h = h
listed_ids s (Some ids) h = h

unit_small : (u : TimeUnit) → ltb (unit_place u) 4 ≡ true
unit_small second = refl
unit_small millisecond = refl
unit_small microsecond = refl
unit_small nanosecond = refl

bit_small : (b : Bool) → ltb (to_nat b) 2 ≡ true
bit_small true = refl
bit_small false = refl

text_fits : (t : Option Bytes) → Meets (text_rule t) → is_optional_text (write_text t) ≡ true
unfolding is_optional_text
text_fits t h = ap (keeps text_rule) (read_text_lem t (text_bytes t h)) ∙ passing (text_rule t) h

name_fits_lem : (n : Bytes) → is_utf8 n ≡ true → is_some_text (write_text (Some n)) ≡ true
unfolding is_some_text
name_fits_lem n h = ap (λ (a : Answer (Option Bytes)). keeps (λ (b : Bytes). is (is_utf8 b)) (a >>= read_some)) (read_text_lem (Some n) (utf8_bytes n h)) ∙ h

ids_fit : (ids : Option (List ℤ)) → Meets (list_rule id_rule ids) → is_ids (write_list write_signed ids) ≡ true
unfolding is_ids
ids_fit ids h = ap (keeps ids_rule) (read_ids_lem ids h) ∙ passing (ids_rule ids) (listed_ids false ids h)

nothing_fits : is_nothing no_text ≡ true
unfolding is_nothing
nothing_fits = refl

fits_of : (s : Shape) → Meets (shape_rule s) → Fits (columns s)
fits_of (of_scalar (leaf k u)) h =
    record {
      p_fit = rw h.0 h.1;
      q_fit = rw (leaf_other k Kind.Decimal h.0 refl, leaf_other k Kind.Decimal32 h.0 refl, leaf_other k Kind.Decimal64 h.0 refl, leaf_other k Kind.Decimal256 h.0 refl, leaf_other k Kind.Dictionary h.0 refl);
      text_fit = rw (leaf_other k Kind.Timestamp h.0 refl, leaf_other k Kind.Extension h.0 refl, leaf_other k Kind.Union h.0 refl) nothing_fits;
      more_fit = rw (leaf_other k Kind.Extension h.0 refl) nothing_fits;
    }
fits_of (of_scalar (timestamp u zone)) h = record { p_fit = unit_small u; q_fit = refl; text_fit = text_fits zone h; more_fit = nothing_fits }
fits_of (of_scalar (fixed_size_binary n)) h = record { p_fit = h; q_fit = refl; text_fit = nothing_fits; more_fit = nothing_fits }
fits_of (of_scalar (decimal_type bits128 p s)) h = record { p_fit = h.0; q_fit = h.1; text_fit = nothing_fits; more_fit = nothing_fits }
fits_of (of_scalar (decimal_type bits32 p s)) h = record { p_fit = h.0; q_fit = h.1; text_fit = nothing_fits; more_fit = nothing_fits }
fits_of (of_scalar (decimal_type bits64 p s)) h = record { p_fit = h.0; q_fit = h.1; text_fit = nothing_fits; more_fit = nothing_fits }
fits_of (of_scalar (decimal_type bits256 p s)) h = record { p_fit = h.0; q_fit = h.1; text_fit = nothing_fits; more_fit = nothing_fits }
fits_of (of_nesting list) h = record { p_fit = refl; q_fit = refl; text_fit = nothing_fits; more_fit = nothing_fits }
fits_of (of_nesting large_list) h = record { p_fit = refl; q_fit = refl; text_fit = nothing_fits; more_fit = nothing_fits }
fits_of (of_nesting (fixed_size_list n)) h = record { p_fit = h; q_fit = refl; text_fit = nothing_fits; more_fit = nothing_fits }
fits_of (of_nesting (map sorted)) h = record { p_fit = bit_small sorted; q_fit = refl; text_fit = nothing_fits; more_fit = nothing_fits }
fits_of (of_grouping struct) h = record { p_fit = refl; q_fit = refl; text_fit = nothing_fits; more_fit = nothing_fits }
fits_of (of_grouping (union sparse ids)) h = record { p_fit = bit_small sparse; q_fit = refl; text_fit = ids_fit ids (ids_listed sparse ids h); more_fit = nothing_fits }
fits_of (of_dictionary ix ordered) h = record { p_fit = h; q_fit = bit_small ordered; text_fit = nothing_fits; more_fit = nothing_fits }
fits_of (of_extension n m) h = record { p_fit = refl; q_fit = refl; text_fit = name_fits_lem n h.0; more_fit = text_fits m h.1 }

pub shape_fits : (c : Columns) (s : Shape) → read_shape c ≡ given s → Meets (shape_rule s) → Fits c
shape_fits c s e h = subst Fits (shape_read c s e) (fits_of s h)

-- ── from the columns to the shape

-- the type of columns that fit
pub record Shaped (c : Columns) : Type 0 where
  pub shape : Shape
  pub reads : read_shape c ≡ given shape
  pub rule : Meets (shape_rule shape)
  pub written : columns shape ≡ c

made : {c : Columns} (s : Shape) → Meets (shape_rule s) → columns s ≡ c → Shaped c
made s h e = record { shape = s; reads = ap read_shape (sym e) ∙ read_shape_lem s h; rule = h; written = e }

unit_of : (p : ℕ) → ltb p 4 ≡ true → (u : TimeUnit) × (unit_place u ≡ p)
unit_of zero h = (second, refl)
unit_of (suc zero) h = (millisecond, refl)
unit_of (suc (suc zero)) h = (microsecond, refl)
unit_of (suc (suc (suc zero))) h = (nanosecond, refl)
unit_of (suc (suc (suc (suc p)))) h = absurd (let l = ltb-true (suc (suc (suc (suc p)))) 4 h in omega arith)

bit_of : (p : ℕ) → ltb p 2 ≡ true → (b : Bool) × (to_nat b ≡ p)
bit_of zero h = (false, refl)
bit_of (suc zero) h = (true, refl)
bit_of (suc (suc p)) h = absurd (let l = ltb-true (suc (suc p)) 2 h in omega arith)

zero_is : (p : ℕ) → eqb p 0 ≡ true → 0 ≡ p
zero_is p h = sym (eqb-true p 0 h)

nothing_is : (c : Bytes) → is_nothing c ≡ true → no_text ≡ c
unfolding is_nothing
nothing_is c h = same_eq no_text c h

pub text_is_lem : (c : Bytes) → is_optional_text c ≡ true → (t : Option Bytes) × (write_text t ≡ c) × Meets (text_rule t)
unfolding is_optional_text
text_is_lem c h = let w = keeps_given text_rule (read_text c) h in (w.0, text_read c w.0 w.1, w.2)

pub name_is_lem : (c : Bytes) → is_some_text c ≡ true → (n : Bytes) × (write_text (Some n) ≡ c) × (is_utf8 n ≡ true)
unfolding is_some_text
name_is_lem c h =
    let w = keeps_given (λ (b : Bytes). is (is_utf8 b)) (read_text c >>= read_some) h in
    let t = first_gave (read_text c) read_some w.0 w.1 in
    go t.0 w.0 t.1 t.2 w.2
  where
    go : (t : Option Bytes) (n : Bytes) → read_text c ≡ given t → read_some t ≡ given n → is_utf8 n ≡ true → (n : Bytes) × (write_text (Some n) ≡ c) × (is_utf8 n ≡ true)
    go None n e f u = absurd (let y : ◌≡◌ {A = ℕ} 0 1 = cc in omega arith)
    go (Some m) n e f u = (n, ap (λ (x : Bytes). write_text (Some x)) (sym (same_given f)) ∙ text_read c (Some m) e, u)

ids_are : (c : Bytes) → is_ids c ≡ true → (ids : Option (List ℤ)) × (write_list write_signed ids ≡ c) × Meets (list_rule id_rule ids)
unfolding is_ids
ids_are c h =
    let w = keeps_given ids_rule (read_list read_signed c) h in
    (w.0, list_once write_signed read_signed signed_read c w.0 w.1, ids_listed false w.0 w.2)

abbrev cols : ℕ → ℕ → ℕ → Bytes → Bytes → Columns
cols k p q t m = record { kind = k; p = p; q = q; text = t; more = m }

-- one of some numbers
data Among (k : ℕ) : List ℕ → Type 0 where
  here : {x : ℕ} {l : List ℕ} → k ≡ x → Among k (x ∷ l)
  later : {x : ℕ} {l : List ℕ} → Among k l → Among k (x ∷ l)

abbrev member : ℕ → List ℕ → Bool
member k [] = false
member k (x ∷ l) = eqb k x || member k l

among : (k : ℕ) (l : List ℕ) → member k l ≡ true → Among k l
among k [] h = absurd (true≢false (sym h))
among k (x ∷ l) h = pick (eqb k x) refl h (among k l)
  where
    pick : (t : Bool) → eqb k x ≡ t → (t || member k l) ≡ true → (member k l ≡ true → Among k l) → Among k (x ∷ l)
    pick true e g next = here (eqb-true k x e)
    pick false e g next = later (next g)

abbrev others : List ℕ
others =
    Kind.Timestamp ∷ Kind.FixedSizeBinary ∷ Kind.List ∷ Kind.FixedSizeList ∷ Kind.LargeList ∷ Kind.Struct ∷ Kind.Map ∷ Kind.Dictionary ∷ Kind.Decimal ∷ Kind.Decimal32 ∷ Kind.Decimal64 ∷ Kind.Decimal256 ∷ Kind.Extension ∷ Kind.Union ∷ []

-- each kind up to Union is a leaf or one of these
kind_among_lem : (k : ℕ) → k < 42 → is_leaf k ≡ false → Among k others
kind_among_lem k h e =
    let w : (is_leaf k || member k others) ≡ true = at_each 42 (λ n. is_leaf n || member n others) (meets (every 42 (λ n. is_leaf n || member n others)) refl) k h in
    among k others (sym (ap (λ (t : Bool). t || member k others) e) ∙ w)

-- there is no kind past Union
kind_known : (k p : ℕ) → is_leaf k ≡ false → p_fits k p ≡ true → k < 42
kind_known k p l h = pick (leb k 41) refl
  where
    pick : (t : Bool) → leb k 41 ≡ t → k < 42
    pick true e = omega (arith, leb-true k 41 e)
    pick false e =
        let far : 41 < k = leb-false k 41 e in
        let no : (n : ℕ) → n < 42 → eqb k n ≡ false = λ n s. ne_eqb k n (λ q. omega arith) in
        let None : p_fits k p ≡ false = rw (
          l,
          no Kind.Timestamp (omega arith),
          no Kind.FixedSizeBinary (omega arith),
          no Kind.FixedSizeList (omega arith),
          no Kind.Decimal (omega arith),
          no Kind.Decimal32 (omega arith),
          no Kind.Decimal64 (omega arith),
          no Kind.Decimal256 (omega arith),
          no Kind.Map (omega arith),
          no Kind.Dictionary (omega arith),
          no Kind.Union (omega arith),
          e,
        ) in
        absurd (true≢false (sym h ∙ None))

module _ (p q : ℕ) (t m : Bytes) where
  at_kind : (k n : ℕ) → k ≡ n → (Fits (cols n p q t m) → Shaped (cols n p q t m)) → Fits (cols k p q t m) → Shaped (cols k p q t m)
  at_kind k n e g f = subst (λ (x : ℕ). Shaped (cols x p q t m)) (sym e) (g (subst (λ (x : ℕ). Fits (cols x p q t m)) e f))

  -- a type of numbers alone
  numbers_made : (k p₀ q₀ : ℕ) → p₀ ≡ p → q₀ ≡ q → is_nothing t ≡ true → is_nothing m ≡ true → cols k p₀ q₀ no_text no_text ≡ cols k p q t m
  numbers_made k p₀ q₀ ep eq et em = λ i. cols k (ep i) (eq i) (nothing_is t et i) (nothing_is m em i)

  leaf_made : (k : ℕ) → is_leaf k ≡ true → Fits (cols k p q t m) → Shaped (cols k p q t m)
  leaf_made k h f =
      made (of_scalar (leaf k p)) (h, unit) (numbers_made k p 0 refl (zero_is q quantity) text more)
    where
      no : (n : ℕ) → is_leaf n ≡ false → eqb k n ≡ false
      no n g = leaf_other k n h g

      unit : cond (has_unit k) (ltb p 4) (eqb p 0) ≡ true
      unit = sym (let w : p_fits k p ≡ cond (has_unit k) (ltb p 4) (eqb p 0) = rw h in w) ∙ f.p_fit

      quantity : eqb q 0 ≡ true
      quantity = sym (let w : q_fits k q ≡ eqb q 0 = rw (no Kind.Decimal refl, no Kind.Decimal32 refl, no Kind.Decimal64 refl, no Kind.Decimal256 refl, no Kind.Dictionary refl) in w) ∙ f.q_fit

      text : is_nothing t ≡ true
      text = sym (let w : is_content (text_content k) t ≡ is_nothing t = rw (no Kind.Timestamp refl, no Kind.Extension refl, no Kind.Union refl) in w) ∙ f.text_fit

      more : is_nothing m ≡ true
      more = sym (let w : is_content (more_content k) m ≡ is_nothing m = rw (no Kind.Extension refl) in w) ∙ f.more_fit

  zoned : Fits (cols Kind.Timestamp p q t m) → Shaped (cols Kind.Timestamp p q t m)
  zoned f =
      let u = unit_of p f.p_fit in
      let z = text_is_lem t f.text_fit in
      made (of_scalar (timestamp u.0 z.0)) z.2 (λ i. cols Kind.Timestamp (u.1 i) (zero_is q f.q_fit i) (z.1 i) (nothing_is m f.more_fit i))

  extended : Fits (cols Kind.Extension p q t m) → Shaped (cols Kind.Extension p q t m)
  extended f =
      let n = name_is_lem t f.text_fit in
      let z = text_is_lem m f.more_fit in
      made (of_extension n.0 z.0) (n.2, z.2) (λ i. cols Kind.Extension (zero_is p f.p_fit i) (zero_is q f.q_fit i) (n.1 i) (z.1 i))

  united : Fits (cols Kind.Union p q t m) → Shaped (cols Kind.Union p q t m)
  united f =
      let b = bit_of p f.p_fit in
      let d = ids_are t f.text_fit in
      made (of_grouping (union b.0 d.0)) (listed_ids b.0 d.0 d.2) (λ i. cols Kind.Union (b.1 i) (zero_is q f.q_fit i) (d.1 i) (nothing_is m f.more_fit i))

  mapped : Fits (cols Kind.Map p q t m) → Shaped (cols Kind.Map p q t m)
  mapped f = let b = bit_of p f.p_fit in made (of_nesting (map b.0)) refl (numbers_made Kind.Map (to_nat b.0) 0 b.1 (zero_is q f.q_fit) f.text_fit f.more_fit)

  indexed : Fits (cols Kind.Dictionary p q t m) → Shaped (cols Kind.Dictionary p q t m)
  indexed f = let b = bit_of q f.q_fit in made (of_dictionary p b.0) f.p_fit (numbers_made Kind.Dictionary p (to_nat b.0) refl b.1 f.text_fit f.more_fit)

  by_kind : (k : ℕ) → Among k others → Fits (cols k p q t m) → Shaped (cols k p q t m)
  by_kind k (here e) = at_kind k Kind.Timestamp e zoned
  by_kind k (later (here e)) = at_kind k Kind.FixedSizeBinary e (λ f. made (of_scalar (fixed_size_binary p)) f.p_fit (numbers_made Kind.FixedSizeBinary p 0 refl (zero_is q f.q_fit) f.text_fit f.more_fit))
  by_kind k (later (later (here e))) = at_kind k Kind.List e (λ f. made (of_nesting list) refl (numbers_made Kind.List 0 0 (zero_is p f.p_fit) (zero_is q f.q_fit) f.text_fit f.more_fit))
  by_kind k (later (later (later (here e)))) = at_kind k Kind.FixedSizeList e (λ f. made (of_nesting (fixed_size_list p)) f.p_fit (numbers_made Kind.FixedSizeList p 0 refl (zero_is q f.q_fit) f.text_fit f.more_fit))
  by_kind k (later (later (later (later (here e))))) = at_kind k Kind.LargeList e (λ f. made (of_nesting large_list) refl (numbers_made Kind.LargeList 0 0 (zero_is p f.p_fit) (zero_is q f.q_fit) f.text_fit f.more_fit))
  by_kind k (later (later (later (later (later (here e)))))) = at_kind k Kind.Struct e (λ f. made (of_grouping struct) refl (numbers_made Kind.Struct 0 0 (zero_is p f.p_fit) (zero_is q f.q_fit) f.text_fit f.more_fit))
  by_kind k (later (later (later (later (later (later (here e))))))) = at_kind k Kind.Map e mapped
  by_kind k (later (later (later (later (later (later (later (here e)))))))) = at_kind k Kind.Dictionary e indexed
  by_kind k (later (later (later (later (later (later (later (later (here e))))))))) = at_kind k Kind.Decimal e (λ f. made (of_scalar (decimal_type bits128 p q)) (f.p_fit, f.q_fit) (numbers_made Kind.Decimal p q refl refl f.text_fit f.more_fit))
  by_kind k (later (later (later (later (later (later (later (later (later (here e)))))))))) = at_kind k Kind.Decimal32 e (λ f. made (of_scalar (decimal_type bits32 p q)) (f.p_fit, f.q_fit) (numbers_made Kind.Decimal32 p q refl refl f.text_fit f.more_fit))
  by_kind k (later (later (later (later (later (later (later (later (later (later (here e))))))))))) = at_kind k Kind.Decimal64 e (λ f. made (of_scalar (decimal_type bits64 p q)) (f.p_fit, f.q_fit) (numbers_made Kind.Decimal64 p q refl refl f.text_fit f.more_fit))
  by_kind k (later (later (later (later (later (later (later (later (later (later (later (here e)))))))))))) = at_kind k Kind.Decimal256 e (λ f. made (of_scalar (decimal_type bits256 p q)) (f.p_fit, f.q_fit) (numbers_made Kind.Decimal256 p q refl refl f.text_fit f.more_fit))
  by_kind k (later (later (later (later (later (later (later (later (later (later (later (later (here e))))))))))))) = at_kind k Kind.Extension e extended
  by_kind k (later (later (later (later (later (later (later (later (later (later (later (later (later (here e)))))))))))))) = at_kind k Kind.Union e united
  by_kind k (later (later (later (later (later (later (later (later (later (later (later (later (later (later x)))))))))))))) = elim x [ ]

pub fits_shape : (c : Columns) → Fits c → Shaped c
fits_shape c f = pick (is_leaf c.kind) refl
  where
    pick : (t : Bool) → is_leaf c.kind ≡ t → Shaped c
    pick true e = leaf_made c.p c.q c.text c.more c.kind e f
    pick false e = by_kind c.p c.q c.text c.more c.kind (kind_among_lem c.kind (kind_known c.kind c.p e f.p_fit) e) f

-- ── the numbers fit 64 bits

unit_below : (k u : ℕ) (t : Bool) → cond t (ltb u 4) (eqb u 0) ≡ true → u < 4
unit_below k u true h = ltb-true u 4 h
unit_below k u false h = let z : u ≡ 0 = eqb-true u 0 h in omega arith

-- the numbers of a line that keeps the rules
pub record Small (c : Columns) : Type 0 where
  pub kind_small : c.kind < 2 ^ 64
  pub p_small : c.p < 2 ^ 64
  pub q_small : c.q < 2 ^ 64

bit_below : (b : Bool) → to_nat b < 2 ^ 64
bit_below true = omega arith
bit_below false = omega arith

unit_few : (u : TimeUnit) → unit_place u < 2 ^ 64
unit_few u = omega (arith, ltb-true (unit_place u) 4 (unit_small u))

small_of : (s : Shape) → Meets (shape_rule s) → Small (columns s)
small_of (of_scalar (leaf k u)) h = record { kind_small = omega (arith, leaf_small k h.0); p_small = omega (arith, unit_below k u (has_unit k) h.1); q_small = omega arith }
small_of (of_scalar (timestamp u zone)) h = record { kind_small = omega arith; p_small = unit_few u; q_small = omega arith }
small_of (of_scalar (fixed_size_binary n)) h = record { kind_small = omega arith; p_small = ltb-true n (2 ^ 64) h; q_small = omega arith }
small_of (of_scalar (decimal_type bits128 p s)) h = record { kind_small = omega arith; p_small = ltb-true p (2 ^ 64) h.0; q_small = ltb-true s (2 ^ 64) h.1 }
small_of (of_scalar (decimal_type bits32 p s)) h = record { kind_small = omega arith; p_small = ltb-true p (2 ^ 64) h.0; q_small = ltb-true s (2 ^ 64) h.1 }
small_of (of_scalar (decimal_type bits64 p s)) h = record { kind_small = omega arith; p_small = ltb-true p (2 ^ 64) h.0; q_small = ltb-true s (2 ^ 64) h.1 }
small_of (of_scalar (decimal_type bits256 p s)) h = record { kind_small = omega arith; p_small = ltb-true p (2 ^ 64) h.0; q_small = ltb-true s (2 ^ 64) h.1 }
small_of (of_nesting list) h = record { kind_small = omega arith; p_small = omega arith; q_small = omega arith }
small_of (of_nesting large_list) h = record { kind_small = omega arith; p_small = omega arith; q_small = omega arith }
small_of (of_nesting (fixed_size_list n)) h = record { kind_small = omega arith; p_small = ltb-true n (2 ^ 64) h; q_small = omega arith }
small_of (of_nesting (map sorted)) h = record { kind_small = omega arith; p_small = bit_below sorted; q_small = omega arith }
small_of (of_grouping struct) h = record { kind_small = omega arith; p_small = omega arith; q_small = omega arith }
small_of (of_grouping (union sparse ids)) h = record { kind_small = omega arith; p_small = bit_below sparse; q_small = omega arith }
small_of (of_dictionary ix ordered) h = record { kind_small = omega arith; p_small = omega (arith, ltb-true ix 10 h); q_small = bit_below ordered }
small_of (of_extension n m) h = record { kind_small = omega arith; p_small = omega arith; q_small = omega arith }

pub shape_small : (c : Columns) (s : Shape) → read_shape c ≡ given s → Meets (shape_rule s) → Small c
shape_small c s e h = subst Small (shape_read c s e) (small_of s h)

-- ── the lines below

children_of_lem : (s : Shape) → Meets (shape_rule s) → (n : ℕ) → passes (children_rule s n) ≡ children_fit (columns s).kind n
children_of_lem (of_scalar (leaf k u)) h n =
    rw (
      leaf_other k Kind.Struct h.0 refl,
      leaf_other k Kind.Union h.0 refl,
      leaf_other k Kind.List h.0 refl,
      leaf_other k Kind.FixedSizeList h.0 refl,
      leaf_other k Kind.LargeList h.0 refl,
      leaf_other k Kind.Map h.0 refl,
      leaf_other k Kind.Dictionary h.0 refl,
      leaf_other k Kind.Extension h.0 refl,
    )
children_of_lem (of_scalar (timestamp u zone)) h n = refl
children_of_lem (of_scalar (fixed_size_binary m)) h n = refl
children_of_lem (of_scalar (decimal_type bits128 p s)) h n = refl
children_of_lem (of_scalar (decimal_type bits32 p s)) h n = refl
children_of_lem (of_scalar (decimal_type bits64 p s)) h n = refl
children_of_lem (of_scalar (decimal_type bits256 p s)) h n = refl
children_of_lem (of_nesting list) h n = refl
children_of_lem (of_nesting large_list) h n = refl
children_of_lem (of_nesting (fixed_size_list m)) h n = refl
children_of_lem (of_nesting (map sorted)) h n = refl
children_of_lem (of_grouping struct) h n = refl
children_of_lem (of_grouping (union sparse ids)) h n = refl
children_of_lem (of_dictionary ix ordered) h n = refl
children_of_lem (of_extension a m) h n = refl

-- the column `children` is right for a type exactly if it is for the kind
pub children_kind : (c : Columns) (s : Shape) → read_shape c ≡ given s → Meets (shape_rule s) → (n : ℕ) → passes (children_rule s n) ≡ children_fit c.kind n
children_kind c s e h n = children_of_lem s h n ∙ ap (λ (d : Columns). children_fit d.kind n) (shape_read c s e)
