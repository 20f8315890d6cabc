-- In which sense `import_visits` and `export_visits` (specs/Visits) are the lines visited (document 02, #105: "The line count equals the lines the definition
-- visits"). No line too few: the visited lines alone tell what is answered and how much is counted (`import_told`, `export_told`); the trees are read back
-- from the two lists line by line, with any lines after them. So changing what stands on any other line, its form kept, changes neither (`import_unchanged`,
-- `export_unchanged`), since it leaves the visited lines as they were (`import_same`, `export_same`). No line too many:
-- where a sheet is accepted, each visited line was read, and could have been refused (`import_read`, `export_read`). By induction on the trees and by cases of
-- the format. Assumes nothing.
use mathlib.Core.Path.{◌≡◌, refl, sym, ◌∙◌, ap, ap₂, subst}
use mathlib.Core.Logic.{◌≢◌}
use mathlib.Core.Bool.{Bool, true, false}
use mathlib.Core.List.{List, [], ◌∷◌, ◌++◌, append_assoc}
use Rattle.std.specs.Prelude.{Option, None, Some}
use Prim.Native.Nat.{ℕ, suc}
use native.Mathlib.Omega.{arith}
use lib.ListN.{length}
use Rattle.sheets.specs.Bytes.{Bytes}
use Rattle.sheets.specs.Answer.{Answer, refused, given, ◌>>=◌}
use Rattle.sheets.specs.Flags.{is_sorted, nullable, ORDERED}
use Rattle.sheets.specs.Sheet.{is_some}
use Rattle.sheets.specs.Schema.{Node, Schema, schema, Schemas, end, ◌&◌, Dictionary, absent, present, Line, line_of, node_of, children_of, dictionary_of, count_schemas, count_dictionary, write_schema_sheet, read_schema_sheet}
use Rattle.sheets.specs.Field.{Info, Nesting, Grouping, Scalar, ArrowDataType, scalar, nested, grouped, dictionary, extension, Fields, nil, add, Field, count_fields}
use Rattle.sheets.specs.FieldSheet.{Shape, write_field_sheet, read_field_sheet}
use Rattle.sheets.specs.FieldSheet.{of_scalar as scalar_shape, of_nesting as nesting_shape, of_grouping as grouping_shape, of_dictionary, of_extension}
use Rattle.sheets.specs.FieldTrees.{Head, type_shape, entry_head}
use Rattle.sheets.specs.LineTrees.{Each}
use Rattle.sheets.specs.Format.{Format, of_scalar, of_nesting, of_grouping, read_format, to_integer_type, scalar_format, nesting_format, grouping_format, index_format}
use Rattle.sheets.specs.Metadata.{Extension, metadata_from_bytes}
use Rattle.sheets.specs.Import.{format_text, name_text, first_of, all_of, type_of, to_dtype, extended, to_field_node, to_field, to_fields, to_values}
use Rattle.sheets.specs.Export.{flag, sorted_flag, schema_node, values_info, outermost, schema_new_of, schema_children, schema_new}
use Rattle.sheets.specs.Visits.{format_of, first_lines, every_line, lines_asked, lines_below, import_visits, children_visits, values_visits, import_lines, export_visits, visits_of_fields, export_lines, SameAsked, SameForImport, SameFirst, SameEach, SameValues, SameForExport, SameFields}
use Rattle.sheets.specs.Outcome.{imported, exported, outcome, import_outcome_in, export_outcome_in, measure, lines_in, measure_import_outcome, measure_export_outcome}
use Rattle.sheets.proofs.Tests.{never, not_given, same_some, first_gave}
use Rattle.sheets.proofs.LineTrees.{each_both}

-- ── lists

module _ {A : Type 0} where
  first_same : {x y : A} {a b : List A} → x ∷ a ≡ y ∷ b → x ≡ y
  first_same h = cc

  rest_same : {x y : A} {a b : List A} → x ∷ a ≡ y ∷ b → a ≡ b
  rest_same h = cc

  -- two parts, with others after them
  regrouped : (a b k c d l : List A) → (a ++ b) ++ k ≡ (c ++ d) ++ l → a ++ (b ++ k) ≡ c ++ (d ++ l)
  regrouped a b k c d l h = sym (append_assoc a b k) ∙ h ∙ append_assoc c d l

-- ── import

module _ (big : Bool) where
  -- what a node makes of its type
  abbrev finished : Node → ArrowDataType → Answer Field
  finished n t = do
    (pairs, e) ← metadata_from_bytes big n.metadata
    name ← name_text n.name
    given (record { info = record { name = name; nullable = nullable n.flags; pairs = pairs }; type = extended e t })

  -- without a dictionary: what the format says, the type over the children, then the node
  by_format : (n : Node) (children : List (Answer Field)) → to_field_node big n children None ≡ ((format_of n >>= λ g. type_of g children) >>= finished n)
  by_format n children = go (format_text n.format)
    where
      go : (a : Answer Bytes) → (a >>= λ f. to_dtype f n.flags children None >>= finished n) ≡ (((a >>= λ f. read_format (is_sorted n.flags) f) >>= λ g. type_of g children) >>= finished n)
      go (refused r) = refl
      go (given f) = refl

  -- the visited lines of a tree, and of the trees below a line, tell what is made of them, and where the lines after them begin
  abbrev FieldTold : Schema → Type 0
  FieldTold t = (u : Schema) (k l : List Line) → import_visits t ++ k ≡ import_visits u ++ l → (to_field big t ≡ to_field big u) × (k ≡ l)

  abbrev FirstTold : Schemas → Type 0
  FirstTold cs = (bs : Schemas) (k l : List Line) → count_schemas cs ≡ count_schemas bs → first_lines (children_visits cs) ++ k ≡ first_lines (children_visits bs) ++ l
      → (first_of (to_fields big cs) ≡ first_of (to_fields big bs)) × (k ≡ l)

  abbrev AllTold : Schemas → Type 0
  AllTold cs = (bs : Schemas) (k l : List Line) → count_schemas cs ≡ count_schemas bs → every_line (children_visits cs) ++ k ≡ every_line (children_visits bs) ++ l
      → (all_of (to_fields big cs) ≡ all_of (to_fields big bs)) × (k ≡ l)

  abbrev ValuesTold : Dictionary → Type 0
  ValuesTold absent = Unit {0}
  ValuesTold (present v) = FieldTold v

  -- by what the format asks for
  asked_told : (a : Answer Format) (cs bs : Schemas) (k l : List Line) → FirstTold cs → AllTold cs → count_schemas cs ≡ count_schemas bs
      → lines_asked a (children_visits cs) ++ k ≡ lines_asked a (children_visits bs) ++ l
      → ((a >>= λ g. type_of g (to_fields big cs)) ≡ (a >>= λ g. type_of g (to_fields big bs))) × (k ≡ l)
  asked_told (refused r) cs bs k l first all c h = (refl, h)
  asked_told (given (of_scalar s)) cs bs k l first all c h = (refl, h)
  asked_told (given (of_nesting g)) cs bs k l first all c h =
      let r = first bs k l c h in (ap (λ (x : Answer Field). x >>= λ f. given (nested g f.info f.type)) r.0, r.1)
  asked_told (given (of_grouping g)) cs bs k l first all c h = let r = all bs k l c h in (ap (λ (x : Answer Fields). x >>= λ fs. given (grouped g fs)) r.0, r.1)

  -- a node with a dictionary or without
  node_told : (n : Node) (cs bs : Schemas) (d e : Dictionary) (k l : List Line) → FirstTold cs → AllTold cs → ValuesTold d
      → count_schemas cs ≡ count_schemas bs → count_dictionary d ≡ count_dictionary e
      → lines_below n (children_visits cs) (values_visits d) ++ k ≡ lines_below n (children_visits bs) (values_visits e) ++ l
      → (to_field big (schema n cs d) ≡ to_field big (schema n bs e)) × (k ≡ l)
  node_told n cs bs absent absent k l first all values c v h =
      let r = asked_told (format_of n) cs bs k l first all c h in
      (by_format n (to_fields big cs) ∙ ap (λ (a : Answer ArrowDataType). a >>= finished n) r.0 ∙ sym (by_format n (to_fields big bs)), r.1)
  node_told n cs bs absent (present w) k l first all values c v h = absurd (omega arith)
  node_told n cs bs (present v) absent k l first all values c e h = absurd (omega arith)
  node_told n cs bs (present v) (present w) k l first all values c e h =
      let r = values w k l h in (ap (λ (a : Answer Field). to_field_node big n (to_fields big cs) (Some a)) r.0, r.1)

  all_both : (x y : Answer Field) (fs gs : List (Answer Field)) → x ≡ y → all_of fs ≡ all_of gs → all_of (x ∷ fs) ≡ all_of (y ∷ gs)
  all_both x y fs gs p q = ap₂ (λ (a : Answer Field) (b : Answer Fields). a >>= λ f. b >>= λ rest. given (add f.info f.type rest)) p q

  mutual
    field_told : (t : Schema) → FieldTold t
    field_told (schema n cs d) (schema m bs e) k l h =
        let p : line_of n (count_schemas cs) (count_dictionary d) ≡ line_of m (count_schemas bs) (count_dictionary e) = first_same h in
        subst (λ (x : Node). lines_below n (children_visits cs) (values_visits d) ++ k ≡ lines_below x (children_visits bs) (values_visits e) ++ l → (to_field big (schema n cs d) ≡ to_field big (schema x bs e)) × (k ≡ l))
        (ap node_of p)
        (node_told n cs bs d e k l (λ bs k l c h. first_told cs bs k l c h) (λ bs k l c h. all_told cs bs k l c h) (values_told d) (ap children_of p) (ap dictionary_of p))
        (rest_same h)

    first_told : (cs : Schemas) → FirstTold cs
    first_told end end k l c h = (refl, h)
    first_told end (b & bs) k l c h = absurd (omega arith)
    first_told (s & ss) end k l c h = absurd (omega arith)
    first_told (s & ss) (b & bs) k l c h = field_told s b k l h

    all_told : (cs : Schemas) → AllTold cs
    all_told end end k l c h = (refl, h)
    all_told end (b & bs) k l c h = absurd (omega arith)
    all_told (s & ss) end k l c h = absurd (omega arith)
    all_told (s & ss) (b & bs) k l c h =
        let r = field_told s b (every_line (children_visits ss) ++ k) (every_line (children_visits bs) ++ l) (regrouped (import_visits s) (every_line (children_visits ss)) k (import_visits b) (every_line (children_visits bs)) l h) in
        let q = all_told ss bs k l (omega arith) r.1 in
        (all_both (to_field big s) (to_field big b) (to_fields big ss) (to_fields big bs) r.0 q.0, q.1)

    values_told : (d : Dictionary) → ValuesTold d
    values_told absent = tt
    values_told (present v) = λ u k l h. field_told v u k l h

  -- schemas with the same visited lines are the same field
  pub field_visited : (t u : Schema) → import_visits t ≡ import_visits u → to_field big t ≡ to_field big u
  field_visited t u h = (field_told t u [] [] (ap (λ (ls : List Line). ls ++ []) h)).0

  imported_as : (b : Bytes) (t : Schema) → read_schema_sheet b ≡ given t → imported big b ≡ (to_field big t >>= λ f. given (write_field_sheet f))
  unfolding imported
  imported_as b t e = ap (λ (a : Answer Schema). a >>= λ s. to_field big s >>= λ f. given (write_field_sheet f)) e

  -- Sheets that can be read, with the same visited lines: the same answer in every buffer, and the same counts.
  pub import_told : (b c : Bytes) (t u : Schema) → read_schema_sheet b ≡ given t → read_schema_sheet c ≡ given u → import_visits t ≡ import_visits u
      → ((out : Bytes) → import_outcome_in big b out ≡ import_outcome_in big c out) × (measure_import_outcome big b ≡ measure_import_outcome big c)
  unfolding import_lines
  import_told b c t u p q h =
      let e : imported big b ≡ imported big c = imported_as b t p ∙ ap (λ (a : Answer Field). a >>= λ f. given (write_field_sheet f)) (field_visited t u h) ∙ sym (imported_as c u q) in
      (λ out. ap (λ (a : Answer Bytes). outcome a out) e, ap₂ measure e (ap (lines_in import_lines) p ∙ ap (λ (ls : List Line). length ls) h ∙ sym (ap (lines_in import_lines) q)))

-- ── import, where other lines change

-- what is asked for is the same
asked_same : (n : Node) (cs bs : Schemas) (d e : Dictionary) → count_dictionary d ≡ count_dictionary e
    → (SameFirst cs bs → first_lines (children_visits cs) ≡ first_lines (children_visits bs)) → (SameEach cs bs → every_line (children_visits cs) ≡ every_line (children_visits bs))
    → (SameValues d e → values_visits d ≡ values_visits e) → SameAsked (format_of n) d (SameFirst cs bs) (SameEach cs bs) (SameValues d e)
    → lines_below n (children_visits cs) (values_visits d) ≡ lines_below n (children_visits bs) (values_visits e)
asked_same n cs bs (present v) (present w) c first all values h = same_some (values h)
asked_same n cs bs (present v) absent c first all values h = absurd (omega arith)
asked_same n cs bs absent (present w) c first all values h = absurd (omega arith)
asked_same n cs bs absent absent c first all values h = go (format_of n) h
  where
    go : (a : Answer Format) → SameAsked a absent (SameFirst cs bs) (SameEach cs bs) (SameValues absent absent) → lines_asked a (children_visits cs) ≡ lines_asked a (children_visits bs)
    go (refused r) k = refl
    go (given (of_scalar s)) k = refl
    go (given (of_nesting g)) k = first k
    go (given (of_grouping g)) k = all k

mutual
  -- Trees that differ on other lines alone have the same visited lines.
  pub import_same : (t u : Schema) → SameForImport t u → import_visits t ≡ import_visits u
  import_same (schema n cs d) (schema m bs e) (p, h) =
      let below : lines_below n (children_visits cs) (values_visits d) ≡ lines_below m (children_visits bs) (values_visits e) =
      asked_same n cs bs d e (ap dictionary_of p) (λ k. first_same_lines cs bs (ap children_of p) k) (λ k. each_same cs bs (ap children_of p) k) (λ k. values_same d e (ap dictionary_of p) k) h
      ∙ ap (λ (x : Node). lines_below x (children_visits bs) (values_visits e)) (ap node_of p) in
      ap₂ (λ (l : Line) (ls : List Line). l ∷ ls) p below

  first_same_lines : (cs bs : Schemas) → count_schemas cs ≡ count_schemas bs → SameFirst cs bs → first_lines (children_visits cs) ≡ first_lines (children_visits bs)
  first_same_lines end end c h = refl
  first_same_lines end (b & bs) c h = absurd (omega arith)
  first_same_lines (s & ss) end c h = absurd (omega arith)
  first_same_lines (s & ss) (b & bs) c h = import_same s b h

  each_same : (cs bs : Schemas) → count_schemas cs ≡ count_schemas bs → SameEach cs bs → every_line (children_visits cs) ≡ every_line (children_visits bs)
  each_same end end c h = refl
  each_same end (b & bs) c h = absurd (omega arith)
  each_same (s & ss) end c h = absurd (omega arith)
  each_same (s & ss) (b & bs) c (h, k) = ap₂ (λ (x y : List Line). x ++ y) (import_same s b h) (each_same ss bs (omega arith) k)

  values_same : (d e : Dictionary) → count_dictionary d ≡ count_dictionary e → SameValues d e → values_visits d ≡ values_visits e
  values_same absent absent c h = refl
  values_same absent (present w) c h = absurd (omega arith)
  values_same (present v) absent c h = absurd (omega arith)
  values_same (present v) (present w) c h = ap Some (import_same v w h)

-- "changing what stands on any other line, its form kept, changes neither the answer nor the counts"
pub import_unchanged : (big : Bool) (b c : Bytes) (t u : Schema) → read_schema_sheet b ≡ given t → read_schema_sheet c ≡ given u → SameForImport t u
    → ((out : Bytes) → import_outcome_in big b out ≡ import_outcome_in big c out) × (measure_import_outcome big b ≡ measure_import_outcome big c)
import_unchanged big b c t u p q h = import_told big b c t u p q (import_same t u h)

-- ── import, the lines of an accepted sheet

-- it is a value and no refusal
abbrev pub Gives : {A : Type 0} → Answer A → Type 0
Gives {A} a = (v : A) × (a ≡ given v)

-- what was read of a line: its format, which is there and is UTF-8, its metadata and its name
pub record IsRead (big : Bool) (l : Line) : Type 0 where
  pub format : Gives (format_text (node_of l).format)
  pub metadata : Gives (metadata_from_bytes big (node_of l).metadata)
  pub name : Gives (name_text (node_of l).name)

module _ (big : Bool) where
  node_read : (n : Node) (children : List (Answer Field)) (values : Option (Answer Field)) (c d : ℕ) (f : Field) → to_field_node big n children values ≡ given f → IsRead big (line_of n c d)
  node_read n children values c d f h =
      let (x, e, g) = first_gave (format_text n.format) (λ x. to_dtype x n.flags children values >>= finished big n) f h in
      let (t, i, j) = first_gave (to_dtype x n.flags children values) (finished big n) f g in
      own (x, e) t j
    where
      own : Gives (format_text n.format) → (t : ArrowDataType) → finished big n t ≡ given f → IsRead big (line_of n c d)
      own x t g =
          let (p, e, i) = first_gave (metadata_from_bytes big n.metadata) (λ p. name_text n.name >>= λ m. given (record { info = record { name = m; nullable = nullable n.flags; pairs = p.0 }; type = extended p.1 t })) f g in
          let (m, j, o) = first_gave (name_text n.name) (λ m. given (record { info = record { name = m; nullable = nullable n.flags; pairs = p.0 }; type = extended p.1 t })) f i in
          record { format = x; metadata = (p, e); name = (m, j) }

  -- a dictionary's values
  values_gave : (n : Node) (children : List (Answer Field)) (a : Answer Field) (f : Field) → to_field_node big n children (Some a) ≡ given f → Gives a
  values_gave n children (given v) f h = (v, refl)
  values_gave n children (refused r) f h = format (format_text n.format) h
    where
      index : (x : Answer ℕ) → ((x >>= λ ix. refused r) >>= finished big n) ≡ given f → Gives {A = Field} (refused r)
      index (refused q) e = not_given e
      index (given ix) e = not_given e

      format : (x : Answer Bytes) → (x >>= λ y. (to_integer_type y >>= λ ix. refused r) >>= finished big n) ≡ given f → Gives {A = Field} (refused r)
      format (refused q) e = not_given e
      format (given y) e = index (to_integer_type y) e

  abbrev FieldRead : Schema → Type 0
  FieldRead t = (f : Field) → to_field big t ≡ given f → Each (IsRead big) (import_visits t)

  abbrev FirstRead : Schemas → Type 0
  FirstRead cs = (f : Field) → first_of (to_fields big cs) ≡ given f → Each (IsRead big) (first_lines (children_visits cs))

  abbrev AllRead : Schemas → Type 0
  AllRead cs = (fs : Fields) → all_of (to_fields big cs) ≡ given fs → Each (IsRead big) (every_line (children_visits cs))

  abbrev ValuesRead : Dictionary → Type 0
  ValuesRead absent = Unit {0}
  ValuesRead (present v) = FieldRead v

  asked_read : (a : Answer Format) (cs : Schemas) (t : ArrowDataType) → (a >>= λ g. type_of g (to_fields big cs)) ≡ given t → FirstRead cs → AllRead cs → Each (IsRead big) (lines_asked a (children_visits cs))
  asked_read (refused r) cs t h first all = tt
  asked_read (given (of_scalar s)) cs t h first all = tt
  asked_read (given (of_nesting g)) cs t h first all = let (f, e, i) = first_gave (first_of (to_fields big cs)) (λ f. given (nested g f.info f.type)) t h in first f e
  asked_read (given (of_grouping g)) cs t h first all = let (fs, e, i) = first_gave (all_of (to_fields big cs)) (λ fs. given (grouped g fs)) t h in all fs e

  below_read : (n : Node) (cs : Schemas) (d : Dictionary) (f : Field) → to_field big (schema n cs d) ≡ given f → FirstRead cs → AllRead cs → ValuesRead d
      → Each (IsRead big) (lines_below n (children_visits cs) (values_visits d))
  below_read n cs absent f h first all values =
      let (t, e, i) = first_gave (format_of n >>= λ g. type_of g (to_fields big cs)) (finished big n) f (sym (by_format big n (to_fields big cs)) ∙ h) in
      asked_read (format_of n) cs t e first all
  below_read n cs (present v) f h first all values = let (w, e) = values_gave n (to_fields big cs) (to_field big v) f h in values w e

  mutual
    field_read : (t : Schema) → FieldRead t
    field_read (schema n cs d) f h =
        (node_read n (to_fields big cs) (to_values big d) (count_schemas cs) (count_dictionary d) f h, below_read n cs d f h (λ g e. first_read cs g e) (λ gs e. all_read cs gs e) (values_read d))

    first_read : (cs : Schemas) → FirstRead cs
    first_read end f h = tt
    first_read (s & ss) f h = field_read s f h

    all_read : (cs : Schemas) → AllRead cs
    all_read end fs h = tt
    all_read (s & ss) fs h =
        let (a, e, i) = first_gave (to_field big s) (λ a. all_of (to_fields big ss) >>= λ rest. given (add a.info a.type rest)) fs h in
        let (rest, j, k) = first_gave (all_of (to_fields big ss)) (λ rest. given (add a.info a.type rest)) fs i in
        each_both (IsRead big) (import_visits s) (every_line (children_visits ss)) (field_read s a e) (all_read ss rest j)

    values_read : (d : Dictionary) → ValuesRead d
    values_read absent = tt
    values_read (present v) = λ f h. field_read v f h

  -- Every visited line of a schema that is accepted was read.
  pub import_read : (t : Schema) (f : Field) → to_field big t ≡ given f → Each (IsRead big) (import_visits t)
  import_read t f h = field_read t f h

-- so a line whose format is null is none of them
pub not_null : (big : Bool) (l : Line) → IsRead big l → (node_of l).format ≢ None
not_null big l r e = not_given (sym (ap format_text e) ∙ r.format.1)

-- ── export

-- a type of this shape
abbrev OfShape : Shape → ArrowDataType → Type 0
OfShape (scalar_shape s) u = u ≡ scalar s
OfShape (nesting_shape n) u = (j : Info) × (w : ArrowDataType) × (u ≡ nested n j w)
OfShape (grouping_shape g) u = (hs : Fields) × (u ≡ grouped g hs)
OfShape (of_dictionary ix ordered) u = (w : ArrowDataType) × (u ≡ dictionary ix ordered w)
OfShape (of_extension n m) u = (w : ArrowDataType) × (u ≡ extension n m w)

of_shape : (u : ArrowDataType) → OfShape (type_shape u) u
of_shape (scalar s) = refl
of_shape (nested n j w) = (j, w, refl)
of_shape (grouped g hs) = (hs, refl)
of_shape (dictionary ix ordered w) = (w, refl)
of_shape (extension n m w) = (w, refl)

-- the first visited line is the type's own
abbrev first_head : List Head → Option Head
first_head [] = None
first_head (x ∷ l) = Some x

first_head_lem : (u : ArrowDataType) (j : Option Info) (inside : Bool) (l : List Head) → first_head (export_visits u j inside ++ l) ≡ Some (entry_head (j, u))
first_head_lem (scalar s) j inside l = refl
first_head_lem (nested n i t) j inside l = refl
first_head_lem (grouped g fs) j inside l = refl
first_head_lem (dictionary ix ordered t) j false l = refl
first_head_lem (dictionary ix ordered t) j true l = refl
first_head_lem (extension n m t) j inside l = refl

module _ (big : Bool) where
  -- exported alike, as any field; the flag says that some extension is directly around
  abbrev Alike : ArrowDataType → ArrowDataType → Bool → Type 0
  Alike t u inside = (i : Info) (e : Option Extension) → is_some e ≡ inside → schema_new_of big t i e ≡ schema_new_of big u i e

  -- the visited lines of a type tell its export, the columns of its field, and where the lines after them begin
  abbrev Told : ArrowDataType → Bool → ArrowDataType → Type 0
  Told t inside u = (i j : Option Info) (k l : List Head) → export_visits t i inside ++ k ≡ export_visits u j inside ++ l → Alike t u inside × (i ≡ j) × (k ≡ l)

  abbrev FieldsTold : Fields → Type 0
  FieldsTold fs = (hs : Fields) (k l : List Head) → count_fields fs ≡ count_fields hs → visits_of_fields fs ++ k ≡ visits_of_fields hs ++ l → (schema_children big fs ≡ schema_children big hs) × (k ≡ l)

  -- two types with the same first line have the same shape
  by_shape : (t u : ArrowDataType) (inside : Bool) → (OfShape (type_shape t) u → Told t inside u) → Told t inside u
  by_shape t u inside told i j k l h =
      let p : entry_head (i, t) ≡ entry_head (j, u) = same_some (sym (first_head_lem t i inside k) ∙ ap first_head h ∙ first_head_lem u j inside l) in
      told (subst (λ (s : Shape). OfShape s u) (sym (ap (λ (x : Head). x.shape) p)) (of_shape u)) i j k l h

  info_same : {x y : Head} → x ≡ y → x.info ≡ y.info
  info_same p = ap (λ (x : Head). x.info) p

  scalar_told : (s : Scalar) (inside : Bool) → Told (scalar s) inside (scalar s)
  scalar_told s inside i j k l h = (λ a e q. refl, info_same (first_same h), rest_same h)

  nested_told : (n : Nesting) (j m : Info) (t w : ArrowDataType) (inside : Bool) → Told t false w → Told (nested n j t) inside (nested n m w)
  nested_told n j m t w inside told i i' k l h =
      let r = told (Some j) (Some m) k l (rest_same h) in
      (λ a e q. ap (λ (x : Answer Schema). x >>= λ c. schema_node big a e (nesting_format n) (sorted_flag n) (c & end) absent) (r.0 j None refl ∙ ap (λ (x : Info). schema_new_of big w x None) (same_some r.1)), info_same (first_same h), r.2)

  grouped_told : (g : Grouping) (fs hs : Fields) (inside : Bool) → FieldsTold fs → Told (grouped g fs) inside (grouped g hs)
  grouped_told g fs hs inside told i j k l h =
      let c : count_fields fs ≡ count_fields hs = ap (λ (x : Head). x.children) (first_same h) in
      let r = told hs k l c (rest_same h) in
      (λ a e q. ap₂ (λ (n : ℕ) (x : Answer Schemas). grouping_format g n >>= λ f. x >>= λ cs. schema_node big a e f 0 cs absent) c r.0, info_same (first_same h), r.1)

  -- directly under an extension nothing is asked of the values
  under_told : (ix : ℕ) (ordered : Bool) (t w : ArrowDataType) → Told (dictionary ix ordered t) true (dictionary ix ordered w)
  under_told ix ordered t w i j k l h = (alike, info_same (first_same h), rest_same h)
    where
      alike : Alike (dictionary ix ordered t) (dictionary ix ordered w) true
      alike a None q = never q
      alike a (Some e) q = refl

  dictionary_told : (ix : ℕ) (ordered : Bool) (t w : ArrowDataType) → Told t false w → Told (dictionary ix ordered t) false (dictionary ix ordered w)
  dictionary_told ix ordered t w told i j k l h = let r = told None None k l (rest_same h) in (alike r.0, info_same (first_same h), r.2)
    where
      alike : Alike t w false → Alike (dictionary ix ordered t) (dictionary ix ordered w) false
      alike p a None q = ap (λ (x : Answer Schema). index_format ix >>= λ f. x >>= λ d. schema_node big a None f (flag ordered ORDERED) end (present d)) (p values_info None refl)
      alike p a (Some e) q = never (sym q)

  extension_told : (n : Bytes) (m : Option Bytes) (t w : ArrowDataType) (inside : Bool) → Told t true w → Told (extension n m t) inside (extension n m w)
  extension_told n m t w inside told i j k l h = let r = told None None k l (rest_same h) in (λ a e q. r.0 a (Some (outermost e (n, m))) refl, info_same (first_same h), r.2)

  mutual
    type_told : (t : ArrowDataType) (inside : Bool) (u : ArrowDataType) → Told t inside u
    type_told (scalar s) inside u = by_shape (scalar s) u inside (λ o. subst (λ (x : ArrowDataType). Told (scalar s) inside x) (sym o) (scalar_told s inside))
    type_told (nested n j t) inside u =
        by_shape (nested n j t) u inside (λ (m, w, o). subst (λ (x : ArrowDataType). Told (nested n j t) inside x) (sym o) (nested_told n j m t w inside (λ i j k l h. type_told t false w i j k l h)))
    type_told (grouped g fs) inside u =
        by_shape (grouped g fs) u inside (λ (hs, o). subst (λ (x : ArrowDataType). Told (grouped g fs) inside x) (sym o) (grouped_told g fs hs inside (λ hs k l c h. fields_told fs hs k l c h)))
    type_told (dictionary ix ordered t) false u =
        by_shape (dictionary ix ordered t) u false (λ (w, o). subst (λ (x : ArrowDataType). Told (dictionary ix ordered t) false x) (sym o) (dictionary_told ix ordered t w (λ i j k l h. type_told t false w i j k l h)))
    type_told (dictionary ix ordered t) true u = by_shape (dictionary ix ordered t) u true (λ (w, o). subst (λ (x : ArrowDataType). Told (dictionary ix ordered t) true x) (sym o) (under_told ix ordered t w))
    type_told (extension n m t) inside u =
        by_shape (extension n m t) u inside (λ (w, o). subst (λ (x : ArrowDataType). Told (extension n m t) inside x) (sym o) (extension_told n m t w inside (λ i j k l h. type_told t true w i j k l h)))

    fields_told : (fs : Fields) → FieldsTold fs
    fields_told nil nil k l c h = (refl, h)
    fields_told nil (add j u hs) k l c h = absurd (omega arith)
    fields_told (add i t fs) nil k l c h = absurd (omega arith)
    fields_told (add i t fs) (add j u hs) k l c h =
        let r = type_told t false u (Some i) (Some j) (visits_of_fields fs ++ k) (visits_of_fields hs ++ l) (regrouped (export_visits t (Some i) false) (visits_of_fields fs) k (export_visits u (Some j) false) (visits_of_fields hs) l h) in
        let q = fields_told fs hs k l (omega arith) r.2 in
        (ap₂ (λ (x : Answer Schema) (y : Answer Schemas). x >>= λ a. y >>= λ cs. given (a & cs)) (r.0 i None refl ∙ ap (λ (x : Info). schema_new_of big u x None) (same_some r.1)) q.0, q.1)

  -- fields with the same visited lines have the same export
  pub schema_visited : (f g : Field) → export_visits f.type (Some f.info) false ≡ export_visits g.type (Some g.info) false → schema_new big f ≡ schema_new big g
  schema_visited f g h =
      let r = type_told f.type false g.type (Some f.info) (Some g.info) [] [] (ap (λ (ls : List Head). ls ++ []) h) in
      r.0 f.info None refl ∙ ap (λ (i : Info). schema_new_of big g.type i None) (same_some r.1)

  exported_as_lem : (b : Bytes) (f : Field) → read_field_sheet b ≡ given f → exported big b ≡ (schema_new big f >>= λ s. given (write_schema_sheet s))
  unfolding exported
  exported_as_lem b f e = ap (λ (a : Answer Field). a >>= λ g. schema_new big g >>= λ s. given (write_schema_sheet s)) e

  -- Sheets that can be read, with the same visited lines: the same answer in every buffer, and the same counts.
  pub export_told : (b c : Bytes) (f g : Field) → read_field_sheet b ≡ given f → read_field_sheet c ≡ given g → export_visits f.type (Some f.info) false ≡ export_visits g.type (Some g.info) false
      → ((out : Bytes) → export_outcome_in big b out ≡ export_outcome_in big c out) × (measure_export_outcome big b ≡ measure_export_outcome big c)
  unfolding export_lines
  export_told b c f g p q h =
      let e : exported big b ≡ exported big c = exported_as_lem b f p ∙ ap (λ (a : Answer Schema). a >>= λ s. given (write_schema_sheet s)) (schema_visited f g h) ∙ sym (exported_as_lem c g q) in
      (λ out. ap (λ (a : Answer Bytes). outcome a out) e, ap₂ measure e (ap (lines_in export_lines) p ∙ ap (λ (ls : List Head). length ls) h ∙ sym (ap (lines_in export_lines) q)))

-- ── export, where other lines change

mutual
  -- Types that differ on other lines alone have the same visited lines.
  pub export_same : (t u : ArrowDataType) (i : Option Info) (inside : Bool) → SameForExport t u inside → export_visits t i inside ≡ export_visits u i inside
  export_same (scalar s) u i inside e = ap (λ (x : ArrowDataType). export_visits x i inside) (sym e)
  export_same (nested n j t) u i inside (w, e, h) =
      ap (λ (ls : List Head). entry_head (i, nested n j t) ∷ ls) (export_same t w (Some j) false h) ∙ ap (λ (x : ArrowDataType). export_visits x i inside) (sym e)
  export_same (grouped g fs) u i inside (hs, e, h) =
      let same = fields_same fs hs h in
      ap₂ (λ (n : ℕ) (ls : List Head). record { shape = grouping_shape g; info = i; children = n } ∷ ls) same.0 same.1 ∙ ap (λ (x : ArrowDataType). export_visits x i inside) (sym e)
  export_same (dictionary ix ordered t) u i false (w, e, h) =
      ap (λ (ls : List Head). entry_head (i, dictionary ix ordered t) ∷ ls) (export_same t w None false h) ∙ ap (λ (x : ArrowDataType). export_visits x i false) (sym e)
  export_same (dictionary ix ordered t) u i true (w, e) = ap (λ (x : ArrowDataType). export_visits x i true) (sym e)
  export_same (extension n m t) u i inside (w, e, h) =
      ap (λ (ls : List Head). entry_head (i, extension n m t) ∷ ls) (export_same t w None true h) ∙ ap (λ (x : ArrowDataType). export_visits x i inside) (sym e)

  fields_same : (fs hs : Fields) → SameFields fs hs → (count_fields fs ≡ count_fields hs) × (visits_of_fields fs ≡ visits_of_fields hs)
  fields_same nil hs e = (ap count_fields (sym e), ap visits_of_fields (sym e))
  fields_same (add i t fs) hs (w, rest, e, h, k) =
      let same = fields_same fs rest k in
      (ap suc same.0 ∙ ap count_fields (sym e), ap₂ (λ (x y : List Head). x ++ y) (export_same t w (Some i) false h) same.1 ∙ ap visits_of_fields (sym e))

-- "changing what stands on any other line, its form kept, changes neither the answer nor the counts"
pub export_unchanged : (big : Bool) (b c : Bytes) (i : Info) (t u : ArrowDataType) → read_field_sheet b ≡ given (record { info = i; type = t }) → read_field_sheet c ≡ given (record { info = i; type = u }) → SameForExport t u false
    → ((out : Bytes) → export_outcome_in big b out ≡ export_outcome_in big c out) × (measure_export_outcome big b ≡ measure_export_outcome big c)
export_unchanged big b c i t u p q h = export_told big b c (record { info = i; type = t }) (record { info = i; type = u }) p q (export_same t u (Some i) false h)

-- ── export, the lines of an accepted sheet

-- a line of this shape has a format, so that 12 and 13 do not come: lists and map always have one, and an extension's line needs none
abbrev pub HasFormat : Shape → ℕ → Type 0
HasFormat (scalar_shape s) n = Gives (scalar_format s)
HasFormat (nesting_shape g) n = Unit {0}
HasFormat (grouping_shape g) n = Gives (grouping_format g n)
HasFormat (of_dictionary ix ordered) n = Gives (index_format ix)
HasFormat (of_extension a m) n = Unit {0}

abbrev pub Formatted : Head → Type 0
Formatted x = HasFormat x.shape x.children

module _ (big : Bool) where
  mutual
    type_read : (t : ArrowDataType) (i : Option Info) (j : Info) (e : Option Extension) (s : Schema) → schema_new_of big t j e ≡ given s → Each Formatted (export_visits t i (is_some e))
    type_read (scalar x) i j e s h = let (f, p, q) = first_gave (scalar_format x) (λ f. schema_node big j e f 0 end absent) s h in ((f, p), tt)
    type_read (nested n k t) i j e s h =
        let (c, p, q) = first_gave (schema_new_of big t k None) (λ c. schema_node big j e (nesting_format n) (sorted_flag n) (c & end) absent) s h in
        (tt, type_read t (Some k) k None c p)
    type_read (grouped g fs) i j e s h =
        let (f, p, q) = first_gave (grouping_format g (count_fields fs)) (λ f. schema_children big fs >>= λ cs. schema_node big j e f 0 cs absent) s h in
        let (cs, u, v) = first_gave (schema_children big fs) (λ cs. schema_node big j e f 0 cs absent) s q in
        ((f, p), fields_read fs cs u)
    type_read (dictionary ix ordered t) i j None s h =
        let (f, p, q) = first_gave (index_format ix) (λ f. schema_new_of big t values_info None >>= λ d. schema_node big j None f (flag ordered ORDERED) end (present d)) s h in
        let (d, u, v) = first_gave (schema_new_of big t values_info None) (λ d. schema_node big j None f (flag ordered ORDERED) end (present d)) s q in
        ((f, p), type_read t None values_info None d u)
    type_read (dictionary ix ordered t) i j (Some e) s h = let (f, p, q) = first_gave (index_format ix) (λ f. schema_node big j (Some e) f 0 end absent) s h in ((f, p), tt)
    type_read (extension n m t) i j e s h = (tt, type_read t None j (Some (outermost e (n, m))) s h)

    fields_read : (fs : Fields) (cs : Schemas) → schema_children big fs ≡ given cs → Each Formatted (visits_of_fields fs)
    fields_read nil cs h = tt
    fields_read (add i t fs) cs h =
        let (c, p, q) = first_gave (schema_new_of big t i None) (λ c. schema_children big fs >>= λ ds. given (c & ds)) cs h in
        let (ds, u, v) = first_gave (schema_children big fs) (λ ds. given (c & ds)) cs q in
        each_both Formatted (export_visits t (Some i) false) (visits_of_fields fs) (type_read t (Some i) i None c p) (fields_read fs ds u)

  -- Every visited line of a field that is accepted has its format.
  pub export_read : (f : Field) (s : Schema) → schema_new big f ≡ given s → Each Formatted (export_visits f.type (Some f.info) false)
  export_read f s h = type_read f.type (Some f.info) f.info None s h
