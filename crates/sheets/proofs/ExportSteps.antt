-- Export line by line (specs/ExportSteps) gives the schema's lines or its refusal: by cases of the type, in every state. Code passes the extensions
-- around a type by a loop: `export_opened` is a field's walk from the line of its type in all of them on. Assumes nothing.
use mathlib.Core.Path.{◌≡◌, refl, sym, ◌∙◌, ap, subst}
use mathlib.Core.Bool.{Bool, true, false}
use mathlib.Core.List.{List, [], ◌++◌, append-nil}
use Rattle.std.specs.Prelude.{Option, None, Some}
use Prim.Native.Nat.{ℕ, suc}
use native.Mathlib.Omega.{arith}
use lib.ListN.{length, length-append}
use Rattle.sheets.specs.Refusal.{Refusal, zero_byte}
use Rattle.sheets.specs.Rule.{◌and◌, passes}
use Rattle.sheets.specs.Bytes.{Bytes, lacks}
use Rattle.sheets.specs.Answer.{Answer, refused, given, ◌>>=◌, decide}
use Rattle.sheets.specs.Flags.{ORDERED}
use Rattle.sheets.specs.Sheet.{write_sheet}
use Rattle.sheets.specs.Schema.{Schema, Schemas, end, ◌&◌, Dictionary, absent, present, count_schemas, count_dictionary, schema_lines, children_lines, dictionary_lines, schema_heading}
use Rattle.sheets.specs.Field.{Info, ArrowDataType, scalar, nested, grouped, dictionary, extension, Fields, nil, add, Field, count_fields}
use Rattle.sheets.specs.FieldSheet.{type_lines, fields_lines, read_field_sheet}
use Rattle.sheets.specs.FieldTrees.{type_shape, type_count, type_below, entry_lines}
use Rattle.sheets.specs.Format.{scalar_format, nesting_format, grouping_format, index_format}
use Rattle.sheets.specs.Metadata.{Extension}
use Rattle.sheets.specs.Export.{flag, sorted_flag, values_info, outermost, schema_node, schema_new_of, schema_children, schema_new}
use Rattle.sheets.specs.Mappings.{to_storage}
use Rattle.sheets.specs.Strict.{field_returns}
use Rattle.sheets.specs.Outcome.{exported, strict_exported}
use Rattle.sheets.specs.Walk.{visit, skip, Step, writes, line_written, type_walk, fields_walk, sheet_walk}
use Rattle.sheets.specs.Walk.{Walked, extensions_around, line_visits, line_walked, type_visits, fields_visits, type_walked, row_walked}
use Rattle.sheets.specs.Visits.{export_visits, visits_of_fields, export_lines}
use Rattle.sheets.specs.ExportSteps.{schema_written, children_written, Bearer, or_values, info_of, extension_of, schema_own, schema_step_of, schema_step, extension_in}
use Rattle.sheets.proofs.Tests.{chained, chain_same, first_gave, not_given}
use Rattle.sheets.proofs.WalkLaws.{nothing_own, later, passed_own, later_walked, walked_opened, scalar_visits}

-- a test, and what follows
test_same : {A B C : Type 0} (r : Refusal) (b : Bool) (x : A) (y : B) (f : A → Answer C) (g : B → Answer C) → f x ≡ g y → (decide r b x >>= f) ≡ (decide r b y >>= g)
test_same r true x y f g h = h
test_same r false x y f g h = refl

module _ (big : Bool) where
  -- a node, after what is below it
  own_written_lem : (i : Info) (e : Option Extension) (f : Bytes) (x : ℕ) (cs : Schemas) (d : Dictionary) (ls : List Bytes) → children_lines cs ++ dictionary_lines d ≡ ls
      → (schema_own big i e f x (count_schemas cs) (count_dictionary d) >>= λ a. given (a ++ ls)) ≡ (schema_node big i e f x cs d >>= λ s. given (schema_lines s))
  own_written_lem i e f x cs d ls h =
      subst (λ l. (schema_own big i e f x (count_schemas cs) (count_dictionary d) >>= λ a. given (a ++ l)) ≡ (schema_node big i e f x cs d >>= λ s. given (schema_lines s))) h
      (test_same zero_byte (passes (lacks 0 i.name and lacks 0 f)) _ _ (λ a. given (a ++ (children_lines cs ++ dictionary_lines d))) (λ s. given (schema_lines s)) refl)

  -- the line of a scalar, or of an index type alone
  alone : (i : Info) (e : Option Extension) (visited : Option Bearer → Answer (List Bytes)) (ls : List Bytes) (a : Answer Bytes)
      → line_written (a >>= λ f. given (writes (schema_own big i e f 0 0 0) skip)) visited ls ≡ ((a >>= λ f. schema_node big i e f 0 end absent) >>= λ s. given (schema_lines s))
  alone i e visited ls (refused r) = refl
  alone i e visited ls (given f) = own_written_lem i e f 0 end absent [] refl

  -- a line over one child, and over a dictionary's values
  over_child_lem : (i : Info) (e : Option Extension) (f : Bytes) (x : ℕ) (a : Answer Schema)
      → ((a >>= λ s. given (schema_lines s)) >>= λ b. schema_own big i e f x 1 0 >>= λ o. given (o ++ b)) ≡ ((a >>= λ c. schema_node big i e f x (c & end) absent) >>= λ s. given (schema_lines s))
  over_child_lem i e f x (refused r) = refl
  over_child_lem i e f x (given c) = own_written_lem i e f x (c & end) absent (schema_lines c) (append-nil (schema_lines c ++ []) ∙ append-nil (schema_lines c))

  over_values_lem : (i : Info) (f : Bytes) (x : ℕ) (a : Answer Schema)
      → ((a >>= λ s. given (schema_lines s)) >>= λ b. schema_own big i None f x 0 1 >>= λ o. given (o ++ b)) ≡ ((a >>= λ d. schema_node big i None f x end (present d)) >>= λ s. given (schema_lines s))
  over_values_lem i f x (refused r) = refl
  over_values_lem i f x (given d) = own_written_lem i None f x end (present d) (schema_lines d) refl

  over_children : (i : Info) (e : Option Extension) (f : Bytes) (n : ℕ) (cs : Schemas) → count_schemas cs ≡ n
      → (schema_node big i e f 0 cs absent >>= λ s. given (schema_lines s)) ≡ (schema_own big i e f 0 n 0 >>= λ o. given (o ++ children_lines cs))
  over_children i e f n cs h = subst (λ m. (schema_node big i e f 0 cs absent >>= λ s. given (schema_lines s)) ≡ (schema_own big i e f 0 m 0 >>= λ o. given (o ++ children_lines cs))) h
      (sym (own_written_lem i e f 0 cs absent (children_lines cs) (append-nil (children_lines cs))))

  mutual
    -- In every state, at a line with any columns: the lines of the schema, or its refusal.
    pub type_exported : (t : ArrowDataType) (i : Option Info) (u : Option Bearer) → type_walk (schema_step big) t i u ≡ schema_written big t (info_of u i) (extension_of u)
    type_exported (scalar s) i u = alone (info_of u i) (extension_of u) (λ τ. given []) [] (scalar_format s)
    type_exported (nested n j t) i u =
        ap (λ (m : Answer (List Bytes)). m >>= λ b. schema_own big (info_of u i) (extension_of u) (nesting_format n) (sorted_flag n) 1 0 >>= λ o. given (o ++ b)) (type_exported t (Some j) None)
        ∙ over_child_lem (info_of u i) (extension_of u) (nesting_format n) (sorted_flag n) (schema_new_of big t j None)
    type_exported (grouped g fs) i u = format (grouping_format g (count_fields fs)) (λ h k same. fields_exported fs h k same)
      where
        format : (a : Answer Bytes) → ((h : Schemas → Answer (List Bytes)) (k : List Bytes → Answer (List Bytes)) → ((cs : Schemas) → count_schemas cs ≡ count_fields fs → h cs ≡ k (children_lines cs)) → (fields_walk (schema_step big) fs None >>= k) ≡ (schema_children big fs >>= h))
            → line_written (a >>= λ f. given (writes (schema_own big (info_of u i) (extension_of u) f 0 (count_fields fs) 0) (visit None))) (λ τ. fields_walk (schema_step big) fs τ) (fields_lines fs)
            ≡ ((a >>= λ f. schema_children big fs >>= λ cs. schema_node big (info_of u i) (extension_of u) f 0 cs absent) >>= λ s. given (schema_lines s))
        format (refused r) next = refl
        format (given f) next =
            next (λ cs. schema_node big (info_of u i) (extension_of u) f 0 cs absent >>= λ s. given (schema_lines s)) (λ b. schema_own big (info_of u i) (extension_of u) f 0 (count_fields fs) 0 >>= λ o. given (o ++ b))
            (λ cs e. over_children (info_of u i) (extension_of u) f (count_fields fs) cs e)
            ∙ sym (chained (schema_children big fs) (λ cs. schema_node big (info_of u i) (extension_of u) f 0 cs absent) (λ s. given (schema_lines s)))
    type_exported (dictionary ix ordered t) i None = format (index_format ix) (type_exported t None None)
      where
        format : (a : Answer Bytes) → type_walk (schema_step big) t None None ≡ schema_written big t values_info None
            → line_written (a >>= λ f. given (writes (schema_own big (or_values i) None f (flag ordered ORDERED) 0 1) (visit None))) (λ τ. type_walk (schema_step big) t None τ) (type_lines t None)
            ≡ ((a >>= λ f. schema_new_of big t values_info None >>= λ d. schema_node big (or_values i) None f (flag ordered ORDERED) end (present d)) >>= λ s. given (schema_lines s))
        format (refused r) next = refl
        format (given f) next =
            ap (λ (m : Answer (List Bytes)). m >>= λ b. schema_own big (or_values i) None f (flag ordered ORDERED) 0 1 >>= λ o. given (o ++ b)) next
            ∙ over_values_lem (or_values i) f (flag ordered ORDERED) (schema_new_of big t values_info None)
    type_exported (dictionary ix ordered t) i (Some w) = alone w.info (Some w.extension) (λ τ. type_walk (schema_step big) t None τ) (type_lines t None) (index_format ix)
    type_exported (extension n m t) i u = nothing_own (type_walk (schema_step big) t None (Some (record { info = info_of u i; extension = outermost (extension_of u) (n, m) })))
        ∙ type_exported t None (Some (record { info = info_of u i; extension = outermost (extension_of u) (n, m) }))

    fields_exported : (fs : Fields) (h : Schemas → Answer (List Bytes)) (k : List Bytes → Answer (List Bytes)) → ((cs : Schemas) → count_schemas cs ≡ count_fields fs → h cs ≡ k (children_lines cs))
        → (fields_walk (schema_step big) fs None >>= k) ≡ (schema_children big fs >>= h)
    fields_exported nil h k same = sym (same end refl)
    fields_exported (add i t fs) h k same =
        ap (λ (m : Answer (List Bytes)). (m >>= λ a. fields_walk (schema_step big) fs None >>= λ b. given (a ++ b)) >>= k) (type_exported t (Some i) None)
        ∙ first (schema_new_of big t i None) (λ h k same. fields_exported fs h k same)
      where
        first : (a : Answer Schema) → ((h : Schemas → Answer (List Bytes)) (k : List Bytes → Answer (List Bytes)) → ((cs : Schemas) → count_schemas cs ≡ count_fields fs → h cs ≡ k (children_lines cs)) → (fields_walk (schema_step big) fs None >>= k) ≡ (schema_children big fs >>= h))
            → (((a >>= λ s. given (schema_lines s)) >>= λ x. fields_walk (schema_step big) fs None >>= λ b. given (x ++ b)) >>= k) ≡ ((a >>= λ c. schema_children big fs >>= λ cs. given (c & cs)) >>= h)
        first (refused r) next = refl
        first (given c) next =
            chained (fields_walk (schema_step big) fs None) (λ b. given (schema_lines c ++ b)) k
            ∙ next (λ cs. h (c & cs)) (λ b. k (schema_lines c ++ b)) (λ cs e. same (c & cs) (ap suc e))
            ∙ sym (chained (schema_children big fs) (λ cs. given (c & cs)) h)

  -- the lines of a type's fields
  pub children_exported : (fs : Fields) → fields_walk (schema_step big) fs None ≡ children_written big fs
  children_exported fs = sym (right (fields_walk (schema_step big) fs None)) ∙ fields_exported fs (λ cs. given (children_lines cs)) (λ b. given b) (λ cs e. refl)
    where
      right : (a : Answer (List Bytes)) → (a >>= λ b. given b) ≡ a
      right (refused r) = refl
      right (given b) = refl

  -- with the heading: the sheet of a field
  abbrev field_walk : Field → Answer Bytes
  field_walk f = type_walk (schema_step big) f.type (Some f.info) None >>= λ ls. given (write_sheet schema_heading ls)

  field_exported : (f : Field) → (schema_new big f >>= λ s. given (write_sheet schema_heading (schema_lines s))) ≡ field_walk f
  field_exported f =
      sym (chained (schema_new big f) (λ s. given (schema_lines s)) (λ ls. given (write_sheet schema_heading ls)))
      ∙ ap (λ (a : Answer (List Bytes)). a >>= λ ls. given (write_sheet schema_heading ls)) (sym (type_exported f.type (Some f.info) None))

  -- export of a sheet
  pub sheet_exported : (b : Bytes) → exported big b ≡ sheet_walk (schema_step big) None schema_heading b
  unfolding exported
  sheet_exported b = chain_same (read_field_sheet b) (read_field_sheet b) (λ f. schema_new big f >>= λ s. given (write_sheet schema_heading (schema_lines s))) field_walk refl field_exported

  -- strict export of a sheet
  pub sheet_strict : (b : Bytes) → strict_exported big b ≡ (read_field_sheet b >>= λ f. field_returns f >>= λ _. field_walk f)
  unfolding strict_exported
  sheet_strict b =
      chain_same (read_field_sheet b) (read_field_sheet b) (λ f. field_returns f >>= λ _. schema_new big f >>= λ s. given (write_sheet schema_heading (schema_lines s))) (λ f. field_returns f >>= λ _. field_walk f) refl
      (λ f. chain_same (field_returns f) (field_returns f) (λ _. schema_new big f >>= λ s. given (write_sheet schema_heading (schema_lines s))) (λ _. field_walk f) refl (λ _. field_exported f))

  -- ── extensions

  -- a line, after so many extensions, with the row below the type in all of them
  abbrev inside : ArrowDataType → Answer (Step (Option Bearer)) → Walked
  inside t a = line_walked (extensions_around t) a (λ τ. row_walked (schema_step big) (type_below (to_storage t)) τ) (entry_lines (type_below (to_storage t)))

  one_more : (t : ArrowDataType) (a : Answer (Step (Option Bearer)))
      → later (inside t a) ≡ line_walked (suc (extensions_around t)) a (λ τ. row_walked (schema_step big) (type_below (to_storage t)) τ) (entry_lines (type_below (to_storage t)))
  one_more t a = later_walked (extensions_around t) a (λ τ. row_walked (schema_step big) (type_below (to_storage t)) τ) (entry_lines (type_below (to_storage t)))

  -- the lines of a type in extensions, where both parts of the state came from the first line of the field
  around : (t : ArrowDataType) (j : Option Info) (w : Bearer)
      → type_walked (schema_step big) t j (Some w) ≡ inside t (schema_step_of big (type_shape (to_storage t)) (type_count (to_storage t)) w.info (Some w.extension))
  around (scalar s) j w = walked_opened (schema_step big) (scalar s) j (Some w)
  around (nested n k t) j w = walked_opened (schema_step big) (nested n k t) j (Some w)
  around (grouped g fs) j w = walked_opened (schema_step big) (grouped g fs) j (Some w)
  around (dictionary ix ordered t) j w = walked_opened (schema_step big) (dictionary ix ordered t) j (Some w)
  around (extension n m t) j w = passed_own (type_walked (schema_step big) t None (Some w)) ∙ ap later (around t None w) ∙ one_more t (schema_step_of big (type_shape (to_storage t)) (type_count (to_storage t)) w.info (Some w.extension))

  -- A field's walk, the extensions around its type passed: the line of the type in all of them, with the columns and the extension of the field's first
  -- line, then the row below it.
  pub export_opened : (t : ArrowDataType) (i : Option Info)
      → type_walked (schema_step big) t i None ≡ inside t (schema_step_of big (type_shape (to_storage t)) (type_count (to_storage t)) (or_values i) (extension_in (type_shape t)))
  export_opened (scalar s) i = walked_opened (schema_step big) (scalar s) i None
  export_opened (nested n j t) i = walked_opened (schema_step big) (nested n j t) i None
  export_opened (grouped g fs) i = walked_opened (schema_step big) (grouped g fs) i None
  export_opened (dictionary ix ordered t) i = walked_opened (schema_step big) (dictionary ix ordered t) i None
  export_opened (extension n m t) i =
      let w : Bearer = record { info = or_values i; extension = (n, m) } in
      passed_own (type_walked (schema_step big) t None (Some w)) ∙ ap later (around t None w) ∙ one_more t (schema_step_of big (type_shape (to_storage t)) (type_count (to_storage t)) (or_values i) (Some (n, m)))

  -- ── the lines that are visited (document 02, #105)

  -- whether the line stands directly in an extension
  abbrev borne : Option Bearer → Bool
  borne None = false
  borne (Some w) = true

  mutual
    -- where the walk answers, they are those of the definition
    visited : (t : ArrowDataType) (i : Option Info) (u : Option Bearer) (ls : List Bytes) → type_walk (schema_step big) t i u ≡ given ls → type_visits (schema_step big) t i u ≡ length (export_visits t i (borne u))
    visited (scalar s) i u ls e = scalar_visits (schema_step big) s i u ls e
    visited (nested n j t) i u ls e =
        let below = first_gave (type_walk (schema_step big) t (Some j) None) (λ b. schema_own big (info_of u i) (extension_of u) (nesting_format n) (sorted_flag n) 1 0 >>= λ o. given (o ++ b)) ls e in
        ap suc (visited t (Some j) None below.0 below.1)
    visited (grouped g fs) i u ls e = format (grouping_format g (count_fields fs)) (λ ks k. all_visited fs ks k) e
      where
        format : (a : Answer Bytes) → ((ks : List Bytes) → fields_walk (schema_step big) fs None ≡ given ks → fields_visits (schema_step big) fs None ≡ length (visits_of_fields fs))
            → line_written (a >>= λ f. given (writes (schema_own big (info_of u i) (extension_of u) f 0 (count_fields fs) 0) (visit None))) (λ τ. fields_walk (schema_step big) fs τ) (fields_lines fs) ≡ given ls
            → line_visits (a >>= λ f. given (writes (schema_own big (info_of u i) (extension_of u) f 0 (count_fields fs) 0) (visit None))) (λ τ. fields_visits (schema_step big) fs τ) ≡ suc (length (visits_of_fields fs))
        format (refused r) next k = not_given k
        format (given f) next k =
            let below = first_gave (fields_walk (schema_step big) fs None) (λ b. schema_own big (info_of u i) (extension_of u) f 0 (count_fields fs) 0 >>= λ o. given (o ++ b)) ls k in
            ap suc (next below.0 below.1)
    visited (dictionary ix ordered t) i None ls e = format (index_format ix) (λ ks k. visited t None None ks k) e
      where
        format : (a : Answer Bytes) → ((ks : List Bytes) → type_walk (schema_step big) t None None ≡ given ks → type_visits (schema_step big) t None None ≡ length (export_visits t None false))
            → line_written (a >>= λ f. given (writes (schema_own big (or_values i) None f (flag ordered ORDERED) 0 1) (visit None))) (λ τ. type_walk (schema_step big) t None τ) (type_lines t None) ≡ given ls
            → line_visits (a >>= λ f. given (writes (schema_own big (or_values i) None f (flag ordered ORDERED) 0 1) (visit None))) (λ τ. type_visits (schema_step big) t None τ) ≡ suc (length (export_visits t None false))
        format (refused r) next k = not_given k
        format (given f) next k =
            let below = first_gave (type_walk (schema_step big) t None None) (λ b. schema_own big (or_values i) None f (flag ordered ORDERED) 0 1 >>= λ o. given (o ++ b)) ls k in
            ap suc (next below.0 below.1)
    visited (dictionary ix ordered t) i (Some w) ls e = format (index_format ix) e
      where
        format : (a : Answer Bytes)
            → line_written (a >>= λ f. given (writes (schema_own big w.info (Some w.extension) f 0 0 0) skip)) (λ τ. type_walk (schema_step big) t None τ) (type_lines t None) ≡ given ls
            → line_visits (a >>= λ f. given (writes (schema_own big w.info (Some w.extension) f 0 0 0) skip)) (λ τ. type_visits (schema_step big) t None τ) ≡ 1
        format (refused r) k = not_given k
        format (given f) k = refl
    visited (extension n m t) i u ls e =
        let w : Option Bearer = Some (record { info = info_of u i; extension = outermost (extension_of u) (n, m) }) in
        ap suc (visited t None w ls (sym (nothing_own (type_walk (schema_step big) t None w)) ∙ e))

    all_visited : (fs : Fields) (ls : List Bytes) → fields_walk (schema_step big) fs None ≡ given ls → fields_visits (schema_step big) fs None ≡ length (visits_of_fields fs)
    all_visited nil ls e = refl
    all_visited (add i t fs) ls e =
        let first = first_gave (type_walk (schema_step big) t (Some i) None) (λ a. fields_walk (schema_step big) fs None >>= λ b. given (a ++ b)) ls e in
        let rest = first_gave (fields_walk (schema_step big) fs None) (λ b. given (first.0 ++ b)) ls first.2 in
        omega (arith, visited t (Some i) None first.0 first.1, all_visited fs rest.0 rest.1, length-append (export_visits t (Some i) false) (visits_of_fields fs))

  -- of a field
  pub lines_visited : (f : Field) (ls : List Bytes) → type_walk (schema_step big) f.type (Some f.info) None ≡ given ls → type_visits (schema_step big) f.type (Some f.info) None ≡ export_lines f
  unfolding export_lines
  lines_visited f ls e = visited f.type (Some f.info) None ls e
