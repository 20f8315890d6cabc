-- A line that stays a line, by its columns: what the plain form makes of each is what is written, and where no column changes the line is copied as it
-- stands. By cases of what the line says of its type, and of its field. Assumes nothing.
use mathlib.Core.Path.{◌≡◌, refl, sym, ap, subst, ◌∙◌}
use mathlib.Core.Bool.{Bool, true, false, not, cond}
use mathlib.Core.List.{[], ◌∷◌, ◌++◌, append_assoc}
use Rattle.std.specs.Prelude.{Option, None, Some}
use Prim.Native.Nat.{ℕ, ◌+◌, ◌-◌, ◌*◌, ◌^◌, ◌≤◌, ◌<◌}
use native.Mathlib.Omega.{arith}
use lib.ListN.{length, take, drop, length-append, length-take, length-drop}
use lib.Seq.{take-append_seam}
use borrow.Author.Tests.{not-true, eq-eqb, ne_eqb}
use Rattle.sheets.specs.Rule.{Meets}
use Rattle.sheets.specs.Bytes.{Bytes, ascii, same}
use Rattle.sheets.specs.Number.{decimal}
use Rattle.sheets.specs.Kind
use Rattle.sheets.specs.Field.{Info, leaf, timestamp, fixed_size_binary, decimal_type, bits128, bits32, bits64, bits256, list, large_list, fixed_size_list, map, struct, union}
use Rattle.sheets.specs.FieldSheet.{Shape, of_scalar, of_nesting, of_grouping, of_dictionary, of_extension, no_text, to_nat, columns, info_columns, line_of, field_line}
use Rattle.sheets.specs.FieldTrees.{Head, is_bare, shape_rule, fields}
use Rattle.sheets.specs.TreeWalks.{LineAt}
use Rattle.sheets.specs.PlainSteps.{plain_own, empty_to_none}
use Rattle.sheets.specs.Walk.{head_text}
use Rattle.sheets.proofs.Tests.{never}
use Rattle.sheets.proofs.FieldTrees.{leaf_other}
use Rattle.sheets.proofs.PlainSteps.{zone_text, pairs_text_lem, ids_text}
use Rattle.sheets.proofs.WalkLaws.{head_text_lem}
use Rattle.columns.specs.Columns.{part}
use Rattle.columns.specs.declared.Part.{Part}
use Rattle.field_line.specs.Columns.{column, kind_piece, shape_piece, own_piece, end_piece}
use Rattle.buffer.specs.Over.{over, PutAt}
use Rattle.buffer.proofs.OverLaws.{over_at_zero}
use Rattle.field_line.proofs.ColumnLaws.{line_pieces_left, put_same}
use Rattle.field_line.proofs.LengthLaws.{column_length_lem, flag_length, kind_short, bare_length, end_short}
use Rattle.read_field_line.specs.FieldLines.{PartAt, flag_of, FieldLineAt}
use Rattle.read_field_line.specs.declared.FieldLine.{FieldLine}
use Rattle.walks.specs.Places.{own_limit}
use Rattle.plain_line.specs.PlainLines.{plain_shape, plain_line, HasPart, column_in, counted_ids, text_change_of, changed_text, own_text, changed_line, is_kept, LineHere, LinePut}
use Rattle.plain_line.specs.declared.line.TextChange.{TextChange}
use Rattle.plain_line.specs.declared.line.TextChange.TheVariants.{Kept, Absent, Counted}
use Rattle.plain_line.proofs.IdsLaws.{ids_short}

-- ── the columns kind p q text more

absent_or : (b : Bool) (t : Bytes) (n : ℕ) → cond b no_text t ≡ changed_text (cond b Absent Kept) t n
absent_or true t n = refl
absent_or false t n = refl

counted_or : (b : Bool) (t : Bytes) (n : ℕ) → cond b (counted_ids n) t ≡ changed_text (cond b Counted Kept) t n
counted_or true t n = refl
counted_or false t n = refl

text_plain : (sh : Shape) (n : ℕ) → Meets (shape_rule sh) → (columns (plain_shape sh n)).text ≡ changed_text (text_change_of (columns sh).kind (columns sh).text) (columns sh).text n
text_plain (of_scalar (leaf k u)) n h = rw (leaf_other k Kind.Timestamp h.0 refl, leaf_other k Kind.Union h.0 refl)
text_plain (of_scalar (timestamp u zone)) n h = zone_text zone ∙ absent_or (same (columns (of_scalar (timestamp u zone))).text (ascii "-")) (columns (of_scalar (timestamp u zone))).text n
text_plain (of_scalar (fixed_size_binary m)) n h = refl
text_plain (of_scalar (decimal_type bits128 p q)) n h = refl
text_plain (of_scalar (decimal_type bits32 p q)) n h = refl
text_plain (of_scalar (decimal_type bits64 p q)) n h = refl
text_plain (of_scalar (decimal_type bits256 p q)) n h = refl
text_plain (of_nesting list) n h = refl
text_plain (of_nesting large_list) n h = refl
text_plain (of_nesting (fixed_size_list m)) n h = refl
text_plain (of_nesting (map b)) n h = refl
text_plain (of_grouping struct) n h = refl
text_plain (of_grouping (union mode ids)) n h = ids_text mode ids n ∙ counted_or (same (columns (of_grouping (union mode ids))).text no_text) (columns (of_grouping (union mode ids))).text n
text_plain (of_dictionary ix ordered) n h = refl
text_plain (of_extension a m) n h = refl

-- all but the text
record Rest (sh sh' : Shape) : Type 0 where
  kind : (columns sh').kind ≡ (columns sh).kind
  p : (columns sh').p ≡ (columns sh).p
  q : (columns sh').q ≡ (columns sh).q
  more : (columns sh').more ≡ (columns sh).more

rest_plain : (sh : Shape) (n : ℕ) → Rest sh (plain_shape sh n)
rest_plain (of_scalar (leaf k u)) n = record { kind = refl; p = refl; q = refl; more = refl }
rest_plain (of_scalar (timestamp u zone)) n = record { kind = refl; p = refl; q = refl; more = refl }
rest_plain (of_scalar (fixed_size_binary m)) n = record { kind = refl; p = refl; q = refl; more = refl }
rest_plain (of_scalar (decimal_type w p q)) n = record { kind = refl; p = refl; q = refl; more = refl }
rest_plain (of_nesting g) n = record { kind = refl; p = refl; q = refl; more = refl }
rest_plain (of_grouping struct) n = record { kind = refl; p = refl; q = refl; more = refl }
rest_plain (of_grouping (union mode None)) n = record { kind = refl; p = refl; q = refl; more = refl }
rest_plain (of_grouping (union mode (Some ids))) n = record { kind = refl; p = refl; q = refl; more = refl }
rest_plain (of_dictionary ix ordered) n = record { kind = refl; p = refl; q = refl; more = refl }
rest_plain (of_extension a m) n = record { kind = refl; p = refl; q = refl; more = refl }

-- test by test
module _ (k : ℕ) (t : Bytes) where
  pub zone_absent : k ≡ Kind.Timestamp → same t (45 ∷ []) ≡ true → Absent ≡ text_change_of k t
  zone_absent e h = rw (eq-eqb k Kind.Timestamp e, h)

  pub zone_kept : k ≡ Kind.Timestamp → same t (45 ∷ []) ≡ false → Kept ≡ text_change_of k t
  zone_kept e h = rw (eq-eqb k Kind.Timestamp e, h)

  pub ids_counted : k ≡ Kind.Union → same t (126 ∷ []) ≡ true → Counted ≡ text_change_of k t
  ids_counted e h = rw (e, h)

  pub ids_kept : k ≡ Kind.Union → same t (126 ∷ []) ≡ false → Kept ≡ text_change_of k t
  ids_kept e h = rw (e, h)

  pub text_kept : (k ≡ Kind.Timestamp → ⊥) → (k ≡ Kind.Union → ⊥) → Kept ≡ text_change_of k t
  text_kept a b = rw (ne_eqb k Kind.Timestamp a, ne_eqb k Kind.Union b)

module _ (c : TextChange) (t : Bytes) where
  pub kept_tested : (b : Bool) → c ≡ Kept → b ≡ same t (45 ∷ []) → not b ≡ is_kept c t
  kept_tested b e h = rw (e, h)

  pub absent_tested : c ≡ Absent → false ≡ is_kept c t
  absent_tested e = rw e

  pub counted_tested : c ≡ Counted → false ≡ is_kept c t
  counted_tested e = rw e

-- ── the columns name nullable pairs

abbrev own_columns : Option Info → Bytes
own_columns i = own_piece (info_columns i).0 (info_columns i).1.0 (info_columns i).1.1

module _ (s : Bytes) (l : FieldLine) where
  own_plain : (i : Option Info) → l.bare ≡ is_bare i → l.nullable ≡ flag_of i → column_in s l.name ≡ (info_columns i).0 → column_in s l.pairs ≡ (info_columns i).1.1
      → own_columns (plain_own i) ≡ own_text s l
  unfolding own_text
  own_plain None b f n p = rw b
  own_plain (Some i) b f n p = rw (b, f, n, p, pairs_text_lem i.pairs)

  own_kept : (i : Option Info) → l.bare ≡ is_bare i → l.nullable ≡ flag_of i → column_in s l.name ≡ (info_columns i).0 → column_in s l.pairs ≡ (info_columns i).1.1
      → same (column_in s l.pairs) (ascii "-") ≡ false → own_columns i ≡ own_text s l
  unfolding own_text
  own_kept None b f n p e = rw b
  own_kept (Some i) b f n p e = rw (b, e, f, n, p)

  -- as they are written
  pub own_bare : l.bare ≡ true → own_piece no_text no_text no_text ≡ own_text s l
  unfolding own_text
  own_bare e = rw e

  module _ (n : ℕ) (e : l.bare ≡ false) (is : n ≡ to_nat l.nullable) where
    pub own_none : same (column_in s l.pairs) (45 ∷ []) ≡ true → (column (column_in s l.name) ++ column (decimal n)) ++ (126 ∷ 32 ∷ []) ≡ own_text s l
    unfolding own_text own_piece column
    own_none h = rw (e, is, h)

    pub own_listed : same (column_in s l.pairs) (45 ∷ []) ≡ false → (column (column_in s l.name) ++ column (decimal n)) ++ column (column_in s l.pairs) ≡ own_text s l
    unfolding own_text own_piece
    own_listed h = rw (e, is, h)

-- ── the line

-- its bytes, up to the byte 10
line_part : {s : Bytes} {at : ℕ} {x : Head} {end : ℕ} → LineAt fields s at x end → part s at end ≡ head_text x ++ (10 ∷ [])
line_part {s} {at} {x} {end} k =
    let text = k.bytes ++ (10 ∷ []) in
    let n : end - at ≡ length text = omega (arith, ap length k.is, length-drop at s, length-drop end s, length-append k.bytes (10 ∷ drop end s), length-append k.bytes (10 ∷ []), k.low, k.high) in
    let e : drop at s ≡ text ++ drop end s = k.is ∙ sym (append_assoc k.bytes (10 ∷ []) (drop end s)) in
    ap (λ (m : ℕ). take m (drop at s)) n ∙ ap (λ (b : Bytes). take (length text) b) e ∙ take-append_seam text (drop end s)
    ∙ ap (λ (b : Bytes). b ++ (10 ∷ [])) (sym (head_text_lem k.bytes x k.reads))

module _ {s : Bytes} {at : ℕ} {l : FieldLine} (k : FieldLineAt s at l) where
  abbrev h : Head
  h = k.line

  -- a line with these texts and otherwise the columns that were read
  pieces : (sh : Shape) (i : Option Info) (change : TextChange) → Rest h.shape sh → (columns sh).text ≡ changed_text change (column_in s l.text) l.children → own_columns i ≡ own_text s l
      → field_line.write (line_of sh i h.children) ++ (10 ∷ []) ≡ changed_line s l change
  unfolding shape_piece kind_piece changed_line
  pieces sh i change r t o =
      line_pieces_left sh i h.children
      ∙ (λ x. (((kind_piece ((r.kind ∙ sym k.shows.kind) x) ((r.p ∙ sym k.shows.p) x) ((r.q ∙ sym k.shows.q) x) ++ column (t x)) ++ column ((r.more ∙ sym k.shows.more.is) x)) ++ o x) ++ end_piece (sym k.shows.children x))

  abbrev change : TextChange
  change = text_change_of l.kind (column_in s l.text)

  -- the plain form is the line that is written
  pub line_plain : plain_line h ≡ changed_line s l change
  line_plain =
      pieces (plain_shape h.shape h.children) (plain_own h.info) change (rest_plain h.shape h.children)
      (text_plain h.shape h.children k.there.own.1
      ∙ (λ x. changed_text (text_change_of (sym k.shows.kind x) (sym k.shows.text.is x)) (sym k.shows.text.is x) (sym k.shows.children x)))
      (own_plain s l h.info k.shows.bare k.shows.nullable k.shows.name.is k.shows.pairs.is)

  -- where no column changes it stands as it is
  pub line_kept : is_kept change (column_in s l.pairs) ≡ true → plain_line h ≡ part s at l.end
  line_kept e = line_plain ∙ go change e ∙ sym (line_part k.there)
    where
      go : (c : TextChange) → is_kept c (column_in s l.pairs) ≡ true → changed_line s l c ≡ head_text h ++ (10 ∷ [])
      go Absent e = never e
      go Counted e = never e
      go Kept e =
          sym (pieces h.shape h.info Kept (record { kind = refl; p = refl; q = refl; more = refl }) (sym k.shows.text.is)
          (own_kept s l h.info k.shows.bare k.shows.nullable k.shows.name.is k.shows.pairs.is (not-true (same (column_in s l.pairs) (ascii "-")) e)))

-- ── how long the columns are

pub part_there : {s : Bytes} {p : Part} {c : Bytes} → PartAt s p c → HasPart s p
part_there h = (omega (arith, h.some), h.within)

pub part_short : (s : Bytes) (p : Part) → length (column_in s p) ≤ length s
part_short s p = omega (arith, length-take (p.end - p.start) (drop p.start s), length-drop p.start s)

pub text_short : (change : TextChange) (t : Bytes) (n : ℕ) → n < 2 ^ 64 → length (changed_text change t n) ≤ length t + 21 * n + 1
text_short Kept t n h = omega arith
text_short Absent t n h = omega arith
text_short Counted t n h = omega (arith, ids_short n h)

none_short : (b : Bool) (t : Bytes) → length (cond b no_text t) ≤ length t + 1
none_short true t = omega arith
none_short false t = omega arith

pub own_short : (s : Bytes) (l : FieldLine) → length (own_text s l) ≤ 2 * length s + 6
unfolding own_text own_piece
own_short s l = pick l.bare
  where
    pick : (b : Bool)
        → length (cond b (own_piece no_text no_text no_text) (own_piece (column_in s l.name) (decimal (to_nat l.nullable)) (empty_to_none (column_in s l.pairs)))) ≤ 2 * length s + 6
    pick true = omega (arith, bare_length)
    pick false =
        simp (length-append, column_length_lem) (omega (arith, part_short s l.name, part_short s l.pairs, flag_length l.nullable, none_short (same (column_in s l.pairs) (ascii "-")) (column_in s l.pairs)))

-- numbers of 64 bits
pub line_short : {s : Bytes} {at : ℕ} {l : FieldLine} → LineHere s at l → l.kind < 2 ^ 64 → l.p < 2 ^ 64 → l.q < 2 ^ 64 → (change : TextChange) → length (changed_line s l change) ≤ own_limit
unfolding changed_line
line_short {s} {at} {l} w a b c change =
    simp (length-append, column_length_lem)
    (omega (arith, w.few, w.short, kind_short l.kind l.p l.q a b c, text_short change (column_in s l.text) l.children (omega (arith, w.few, w.short)), part_short s l.text, part_short s l.more, own_short s l, end_short l.children (omega (arith, w.few, w.short))))

-- ── what is written

module _ {s : Bytes} {at : ℕ} {l : FieldLine} (w : LineHere s at l) (change : TextChange) (is : change ≡ text_change_of l.kind (column_in s l.text)) where
  -- the line as it stands
  pub put_kept : is_kept change (column_in s l.pairs) ≡ true → (out out' : Bytes) → out' ≡ over (part s at l.end) out → LinePut s at l out out' (l.end - at)
  put_kept e out out' laid k =
      let same : plain_line k.line ≡ part s at l.end = line_kept k (subst (λ (c : TextChange). is_kept c (column_in s l.pairs) ≡ true) is e) in
      let long : length (part s at l.end) ≡ l.end - at = omega (arith, length-take (l.end - at) (drop at s), length-drop at s, k.there.low, k.there.high) in
      ((omega (arith, ap length same, long), laid ∙ ap (λ (b : Bytes). over b out) (sym same) ∙ sym (over_at_zero (plain_line k.line) out)), omega (arith, k.there.high, w.short))

  -- column by column; numbers of 64 bits
  pub put_written : l.kind < 2 ^ 64 → l.p < 2 ^ 64 → l.q < 2 ^ 64 → (out out' : Bytes) (r : ℕ) → PutAt 0 (changed_line s l change) r out out' → LinePut s at l out out' r
  put_written a b c out out' r h k =
      let same : changed_line s l change ≡ plain_line k.line = ap (changed_line s l) is ∙ sym (line_plain k) in
      (put_same 0 out (changed_line s l change) (plain_line k.line) same h, omega (arith, h.0, line_short w a b c change))
