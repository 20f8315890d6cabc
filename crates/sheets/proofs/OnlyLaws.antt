-- Which numbers a call can answer: reading a field sheet refuses with 1, 2 or 3, exporting what it says with 12, 13 or 14, strict export's own tests with 17
-- or 18. A chain refuses with what its steps refuse with. Assumes nothing.
use mathlib.Core.Path.{◌≡◌, refl, sym, ◌∙◌, subst}
use mathlib.Core.Bool.{Bool, true, false, ◌||◌, cond}
use mathlib.Core.List.{List, [], ◌∷◌, ◌++◌}
use Rattle.std.specs.Prelude.{Option, None, Some}
use Prim.Native.Nat.{ℕ, zero, suc, ◌+◌}
use lib.Dec.{eqb, leb}
use lib.ListN.{length}
use borrow.Author.Tests.{eqb-true}
use Rattle.sheets.specs.Refusal.{Refusal, not_sheet, bad_lines, too_deep, zero_byte, no_format, no_union_ids, reserved_key, wide_index, number_of, one_of}
use Rattle.sheets.specs.Rule.{Rule, is, ◌and◌, each, passes, Meets}
use Rattle.sheets.specs.Bytes.{Bytes, split, after, lacks}
use Rattle.sheets.specs.Answer.{Answer, refused, given, ◌>>=◌, when, decide, found}
use Rattle.sheets.specs.Sheet.{read_sheet, ended_lines, single}
use Rattle.sheets.specs.Kind
use Rattle.sheets.specs.Flags.{ORDERED}
use Rattle.sheets.specs.Schema.{Schemas, end, ◌&◌, Dictionary, absent, present}
use Rattle.sheets.specs.Field.{Info, Scalar, leaf, timestamp, fixed_size_binary, decimal_type, Grouping, struct, union, ArrowDataType, scalar, nested, grouped, dictionary, extension, Fields, nil, add, count_fields, field_rule, field_levels}
use Rattle.sheets.specs.FieldSheet.{Entry, entries, field_of, field_heading, read_field_sheet}
use Rattle.sheets.specs.Format.{row_of, rows, scalar_format, nesting_format, grouping_format, index_format}
use Rattle.sheets.specs.Metadata.{Extension}
use Rattle.sheets.specs.Export.{flag, sorted_flag, schema_node, values_info, schema_new_of, schema_children, schema_new}
use Rattle.sheets.specs.FieldTrees.{Head}
use Rattle.sheets.specs.Strict.{keys_rule, index_rule, line_returns, type_heads, lines_return, field_returns}
use Rattle.sheets.specs.Outcome.{exported, strict_exported, exported_as, plained}
use Rattle.sheets.proofs.Tests.{never, not_given, meets}
use Rattle.sheets.proofs.RefusalLaws.{OnlyLines, given_only, refused_only, lines_only, entries_only}

-- ── the one field of a sheet: 2 only

pub single_only : {A : Type 0} (ts : List A) → OnlyLines (single ts)
single_only [] = refused_only
single_only (t ∷ []) = given_only t
single_only (t ∷ u ∷ us) = refused_only

field_of_only : (e : Entry) → OnlyLines (field_of e)
field_of_only (None, t) = refused_only
field_of_only (Some i, t) = given_only _

-- ── refusals among given numbers

-- an answer that is refused with one of these numbers if it is refused
abbrev pub Only : {A : Type 0} → List ℕ → Answer A → Type 0
Only ns a = (r : Refusal) → a ≡ refused r → one_of ns (number_of r) ≡ true

pub only_given : {A : Type 0} (ns : List ℕ) (a : A) → Only ns (given a)
only_given ns a r e = not_given (sym e)

-- an answer that is known to be given
pub only_known : {A : Type 0} (ns : List ℕ) (m : Answer A) (a : A) → m ≡ given a → Only ns m
only_known ns m a h r e = not_given (sym e ∙ h)

pub only_refused : {A : Type 0} (ns : List ℕ) (q : Refusal) → one_of ns (number_of q) ≡ true → Only {A = A} ns (refused q)
only_refused {A} ns q h r e =
    let same : q ≡ r = cc in
    subst (λ (p : Refusal). one_of ns (number_of p) ≡ true) same h

pub only_chain : {A B : Type 0} (ns : List ℕ) (m : Answer A) (f : A → Answer B) → Only ns m → ((a : A) → m ≡ given a → Only ns (f a)) → Only ns (m >>= f)
only_chain ns (refused q) f h k r e =
    let same : q ≡ r = cc in
    subst (λ (p : Refusal). one_of ns (number_of p) ≡ true) same (h q refl)
only_chain ns (given a) f h k r e = k a refl r e

pub only_cond : {A : Type 0} (ns : List ℕ) (t : Bool) (a b : Answer A) → Only ns a → Only ns b → Only ns (cond t a b)
only_cond ns true a b h k = h
only_cond ns false a b h k = k

pub only_when : {A : Type 0} (ns : List ℕ) (q : Refusal) → one_of ns (number_of q) ≡ true → (rule : Rule) (a : A) → Only ns (when q rule a)
only_when {A} ns q h rule a = pick (passes rule)
  where
    pick : (t : Bool) → Only {A = A} ns (decide q t a)
    pick true = only_given ns a
    pick false = only_refused ns q h

pub only_found : {A : Type 0} (ns : List ℕ) (q : Refusal) → one_of ns (number_of q) ≡ true → (o : Option A) → Only ns (found q o)
only_found ns q h None = only_refused ns q h
only_found ns q h (Some a) = only_given ns a

-- each of these numbers is one of those
abbrev pub among : List ℕ → List ℕ → Rule
among ns ms = each (λ (n : ℕ). is (one_of ms n)) ns

pub one_among : (ns ms : List ℕ) → Meets (among ns ms) → (n : ℕ) → one_of ns n ≡ true → one_of ms n ≡ true
one_among [] ms w n h = never h
one_among (m ∷ ns) ms w n h = pick (eqb n m) refl h (one_among ns ms w.1 n)
  where
    pick : (t : Bool) → eqb n m ≡ t → t || one_of ns n ≡ true → (one_of ns n ≡ true → one_of ms n ≡ true) → one_of ms n ≡ true
    pick true e k next = subst (λ (x : ℕ). one_of ms x ≡ true) (sym (eqb-true n m e)) w.0
    pick false e k next = next k

-- a refusal is among more numbers too
pub only_more : {A : Type 0} (ns ms : List ℕ) → Meets (among ns ms) → (a : Answer A) → Only ns a → Only ms a
only_more ns ms w a h r e = one_among ns ms w (number_of r) (h r e)

-- lines are refused with 2
pub only_lines : {A : Type 0} (ns : List ℕ) → one_of ns 2 ≡ true → (a : Answer A) → OnlyLines a → Only ns a
only_lines ns t a h r e = subst (λ (p : Refusal). one_of ns (number_of p) ≡ true) (sym (h r e)) t

-- ── the numbers of the calls

-- "The sheet's maker": 1, 2, 3
abbrev pub sheet_numbers : List ℕ
sheet_numbers = 1 ∷ 2 ∷ 3 ∷ []

-- "The field's owner": 12, 13, 14
abbrev pub owner_numbers : List ℕ
owner_numbers = 12 ∷ 13 ∷ 14 ∷ []

pub sheet_numbers_lem : (ns : List ℕ) → one_of ns 1 ≡ true → one_of ns 2 ≡ true → (heading b : Bytes) → Only ns (read_sheet heading b)
sheet_numbers_lem ns h k heading b =
    only_chain ns (when not_sheet (is (leb (length b) 65535)) b) _ (only_when ns not_sheet h (is (leb (length b) 65535)) b)
    (λ c e. only_chain ns (found not_sheet (after (heading ++ (10 ∷ [])) b)) _ (only_found ns not_sheet h (after (heading ++ (10 ∷ [])) b))
    (λ body g. only_lines ns k (ended_lines (split 10 body)) (lines_only (split 10 body))))

-- reading a field sheet
pub field_sheet_numbers : (ns : List ℕ) → one_of ns 1 ≡ true → one_of ns 2 ≡ true → one_of ns 3 ≡ true → (b : Bytes) → Only ns (read_field_sheet b)
field_sheet_numbers ns h k l b =
    only_chain ns (read_sheet field_heading b) _ (sheet_numbers_lem ns h k field_heading b)
    (λ ls e1. only_chain ns (entries ls) _ (only_lines ns k (entries ls) (entries_only ls))
    (λ ts e2. only_chain ns (single ts) _ (only_lines ns k (single ts) (single_only ts))
    (λ e e3. only_chain ns (field_of e) _ (only_lines ns k (field_of e) (field_of_only e))
    (λ f e4. only_chain ns (when bad_lines (field_rule f) f) _ (only_when ns bad_lines k (field_rule f) f) (λ g e5. only_when ns too_deep l (is (leb (field_levels g) 32)) g)))))

scalar_numbers : (s : Scalar) → Only owner_numbers (scalar_format s)
scalar_numbers (leaf k u) = only_chain owner_numbers (found no_format (row_of k u rows)) _ (only_found owner_numbers no_format refl (row_of k u rows)) (λ r e. only_given owner_numbers _)
scalar_numbers (timestamp u zone) = only_given owner_numbers _
scalar_numbers (fixed_size_binary n) = only_given owner_numbers _
scalar_numbers (decimal_type w p s) = only_given owner_numbers _

grouping_numbers : (g : Grouping) (count : ℕ) → Only owner_numbers (grouping_format g count)
grouping_numbers struct count = only_given owner_numbers _
grouping_numbers (union mode None) zero = only_refused owner_numbers no_union_ids refl
grouping_numbers (union mode None) (suc count) = only_given owner_numbers _
grouping_numbers (union mode (Some [])) count = only_refused owner_numbers no_union_ids refl
grouping_numbers (union mode (Some (z ∷ zs))) count = only_given owner_numbers _

module _ (big : Bool) where
  node_numbers : (i : Info) (e : Option Extension) (f : Bytes) (x : ℕ) (cs : Schemas) (d : Dictionary) → Only owner_numbers (schema_node big i e f x cs d)
  node_numbers i e f x cs d = only_when owner_numbers zero_byte refl (lacks 0 i.name and lacks 0 f) _

  mutual
    type_numbers : (t : ArrowDataType) (i : Info) (e : Option Extension) → Only owner_numbers (schema_new_of big t i e)
    type_numbers (scalar s) i e = only_chain owner_numbers (scalar_format s) _ (scalar_numbers s) (λ f g. node_numbers i e f 0 end absent)
    type_numbers (nested n j t) i e = only_chain owner_numbers (schema_new_of big t j None) _ (type_numbers t j None) (λ c g. node_numbers i e (nesting_format n) (sorted_flag n) (c & end) absent)
    type_numbers (grouped g fs) i e =
        only_chain owner_numbers (grouping_format g (count_fields fs)) _ (grouping_numbers g (count_fields fs))
        (λ f q. only_chain owner_numbers (schema_children big fs) _ (fields_numbers fs) (λ cs p. node_numbers i e f 0 cs absent))
    type_numbers (dictionary ix ordered t) i None =
        only_chain owner_numbers (index_format ix) _ (scalar_numbers (leaf (ix + Kind.Int8) 0))
        (λ f q. only_chain owner_numbers (schema_new_of big t values_info None) _ (type_numbers t values_info None) (λ d p. node_numbers i None f (flag ordered ORDERED) end (present d)))
    type_numbers (dictionary ix ordered t) i (Some e) =
        only_chain owner_numbers (index_format ix) _ (scalar_numbers (leaf (ix + Kind.Int8) 0)) (λ f q. node_numbers i (Some e) f 0 end absent)
    type_numbers (extension n m t) i e = type_numbers t i _

    fields_numbers : (fs : Fields) → Only owner_numbers (schema_children big fs)
    fields_numbers nil = only_given owner_numbers end
    fields_numbers (add i t fs) =
        only_chain owner_numbers (schema_new_of big t i None) _ (type_numbers t i None) (λ c q. only_chain owner_numbers (schema_children big fs) _ (fields_numbers fs) (λ cs p. only_given owner_numbers (c & cs)))

-- export: the sheet's maker and the field's owner are turned back, and no other
abbrev pub export_numbers : List ℕ
export_numbers = 1 ∷ 2 ∷ 3 ∷ 12 ∷ 13 ∷ 14 ∷ []

module _ (big : Bool) where
  pub export_numbers_lem : (b : Bytes) → Only export_numbers (exported big b)
  unfolding exported
  export_numbers_lem b =
      only_chain export_numbers (read_field_sheet b) _ (field_sheet_numbers export_numbers refl refl refl b)
      (λ f e. only_chain export_numbers (schema_new big f) _ (only_more owner_numbers export_numbers (meets (among owner_numbers export_numbers) refl) (schema_new big f) (type_numbers big f.type f.info None)) (λ s g. only_given export_numbers _))

-- strict export: its own tests besides
abbrev pub test_numbers : List ℕ
test_numbers = 17 ∷ 18 ∷ []

lines_numbers : (hs : List Head) → Only test_numbers (lines_return hs)
lines_numbers [] = only_given test_numbers tt
lines_numbers (h ∷ hs) =
    only_chain test_numbers (line_returns h) _
    (only_chain test_numbers (when reserved_key (keys_rule h.info) tt) _ (only_when test_numbers reserved_key refl (keys_rule h.info) tt)
    (λ u e. only_when test_numbers wide_index refl (index_rule h.shape) tt))
    (λ u e. lines_numbers hs)

abbrev pub strict_numbers : List ℕ
strict_numbers = 1 ∷ 2 ∷ 3 ∷ 17 ∷ 18 ∷ 12 ∷ 13 ∷ 14 ∷ []

module _ (big : Bool) where
  pub strict_numbers_lem : (b : Bytes) → Only strict_numbers (strict_exported big b)
  unfolding strict_exported
  strict_numbers_lem b =
      only_chain strict_numbers (read_field_sheet b) _ (field_sheet_numbers strict_numbers refl refl refl b)
      (λ f e. only_chain strict_numbers (field_returns f) _
      (only_more test_numbers strict_numbers (meets (among test_numbers strict_numbers) refl) (field_returns f) (lines_numbers (type_heads f.type (Some f.info))))
      (λ u g. only_chain strict_numbers (schema_new big f) _ (only_more owner_numbers strict_numbers (meets (among owner_numbers strict_numbers) refl) (schema_new big f) (type_numbers big f.type f.info None)) (λ s k. only_given strict_numbers _)))

-- either export
abbrev pub export_numbers_as : Bool → List ℕ
export_numbers_as true = strict_numbers
export_numbers_as false = export_numbers

pub export_numbers_as_lem : (strict big : Bool) (b : Bytes) → Only (export_numbers_as strict) (exported_as strict big b)
export_numbers_as_lem true big b = strict_numbers_lem big b
export_numbers_as_lem false big b = export_numbers_lem big b

-- plain form: the sheet's maker is turned back, and no other
pub plain_numbers : (b : Bytes) → Only sheet_numbers (plained b)
unfolding plained
plain_numbers b = only_chain sheet_numbers (read_field_sheet b) _ (field_sheet_numbers sheet_numbers refl refl refl b) (λ f e. only_given sheet_numbers _)
