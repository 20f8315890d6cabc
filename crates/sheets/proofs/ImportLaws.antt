-- Import goes line by line (specs/ImportLines), for code that writes a node's lines before it goes on to the lines below. A field is its type's lines,
-- under its extension's line if there is one, and a refusal of metadata or name comes last (`own_refused`, `own_plain`, `own_extended`); a type is its own
-- line, then the lines of what it visits (`type_written_lem`). By cases of the format; each law for all nodes. Assumes nothing.
use mathlib.Core.Path.{◌≡◌, refl, sym, ◌∙◌, ap}
use mathlib.Core.Bool.{Bool, true, false}
use mathlib.Core.List.{List, [], ◌∷◌, ◌++◌, append-nil}
use Rattle.std.specs.Prelude.{Option, None, Some}
use Prim.Native.Nat.{ℕ, suc}
use Rattle.sheets.specs.Refusal.{Refusal}
use Rattle.sheets.specs.Bytes.{Bytes}
use Rattle.sheets.specs.Answer.{Answer, refused, given, ◌>>=◌}
use Rattle.sheets.specs.Schema.{Node, schema, Schemas, end, ◌&◌, Dictionary, absent, present, count_schemas, count_dictionary}
use Rattle.sheets.specs.Field.{Info, Nesting, Grouping, ArrowDataType, nested, grouped, dictionary, Fields, nil, add, Field, count_fields}
use Rattle.sheets.specs.FieldSheet.{Shape, field_line, line_of, type_lines, fields_lines}
use Rattle.sheets.specs.FieldSheet.{of_scalar as scalar_shape, of_nesting as nesting_shape, of_grouping as grouping_shape, of_dictionary, of_extension}
use Rattle.sheets.specs.Flags.{is_ordered, is_sorted, nullable}
use Rattle.sheets.specs.Format.{Format, of_scalar, of_nesting, of_grouping, read_format, to_integer_type}
use Rattle.sheets.specs.Metadata.{Extension, metadata_from_bytes}
use Rattle.sheets.specs.Import.{format_text, name_text, first_of, all_of, type_of, to_dtype, extended, to_field_node, to_field, to_fields, to_values}
use Rattle.sheets.specs.ImportLines.{needed, node_shape, below, Own, own_of, shown, written, type_written, row_written, visited, is_bare}
use Rattle.sheets.proofs.Tests.{chain_same}

module _ (big : Bool) where
  own_lines : (bare : Bool) (n : Node) (children : List (Answer Field)) (values : Option (Answer Field))
      → (to_field_node big n children values >>= λ f. given (type_lines f.type (shown bare f.info)))
      ≡ (format_text n.format >>= λ f. to_dtype f n.flags children values >>= λ t. own_of big n >>= λ o. given (type_lines (extended o.1 t) (shown bare o.0)))
  own_lines bare n children values = format (format_text n.format)
    where
      name : (t : ArrowDataType) (p : Option (List (Bytes × Bytes)) × Option Extension) (a : Answer Bytes)
          → ((a >>= λ m. given (record { info = record { name = m; nullable = nullable n.flags; pairs = p.0 }; type = extended p.1 t })) >>= λ (f : Field). given (type_lines f.type (shown bare f.info)))
          ≡ ((a >>= λ m. given (record { name = m; nullable = nullable n.flags; pairs = p.0 }, p.1)) >>= λ (o : Own). given (type_lines (extended o.1 t) (shown bare o.0)))
      name t p (refused r) = refl
      name t p (given m) = refl

      metadata : (t : ArrowDataType) (a : Answer (Option (List (Bytes × Bytes)) × Option Extension))
          → ((a >>= λ p. name_text n.name >>= λ m. given (record { info = record { name = m; nullable = nullable n.flags; pairs = p.0 }; type = extended p.1 t })) >>= λ (f : Field). given (type_lines f.type (shown bare f.info)))
          ≡ ((a >>= λ p. name_text n.name >>= λ m. given (record { name = m; nullable = nullable n.flags; pairs = p.0 }, p.1)) >>= λ (o : Own). given (type_lines (extended o.1 t) (shown bare o.0)))
      metadata t (refused r) = refl
      metadata t (given p) = name t p (name_text n.name)

      type : (a : Answer ArrowDataType)
          → ((a >>= λ t. metadata_from_bytes big n.metadata >>= λ p. name_text n.name >>= λ m. given (record { info = record { name = m; nullable = nullable n.flags; pairs = p.0 }; type = extended p.1 t })) >>= λ (f : Field). given (type_lines f.type (shown bare f.info)))
          ≡ (a >>= λ t. own_of big n >>= λ o. given (type_lines (extended o.1 t) (shown bare o.0)))
      type (refused r) = refl
      type (given t) = metadata t (metadata_from_bytes big n.metadata)

      format : (a : Answer Bytes)
          → ((a >>= λ f. to_dtype f n.flags children values >>= λ t. metadata_from_bytes big n.metadata >>= λ p. name_text n.name >>= λ m. given (record { info = record { name = m; nullable = nullable n.flags; pairs = p.0 }; type = extended p.1 t })) >>= λ (f : Field). given (type_lines f.type (shown bare f.info)))
          ≡ (a >>= λ f. to_dtype f n.flags children values >>= λ t. own_of big n >>= λ o. given (type_lines (extended o.1 t) (shown bare o.0)))
      format (refused r) = refl
      format (given f) = type (to_dtype f n.flags children values)

  -- ── the field through its type

  -- a step after the type's lines
  after_type : {B : Type 0} (j : Option Info) (n : Node) (cs : Schemas) (d : Dictionary) (h : List Bytes → Answer B)
      → (type_written big j (schema n cs d) >>= h) ≡ (format_text n.format >>= λ f. to_dtype f n.flags (to_fields big cs) (to_values big d) >>= λ t. h (type_lines t j))
  after_type j n cs d h = format (format_text n.format)
    where
      type : (a : Answer ArrowDataType) → ((a >>= λ t. given (type_lines t j)) >>= h) ≡ (a >>= λ t. h (type_lines t j))
      type (refused r) = refl
      type (given t) = refl

      format : (a : Answer Bytes)
          → ((a >>= λ f. to_dtype f n.flags (to_fields big cs) (to_values big d) >>= λ t. given (type_lines t j)) >>= h)
          ≡ (a >>= λ f. to_dtype f n.flags (to_fields big cs) (to_values big d) >>= λ t. h (type_lines t j))
      format (refused r) = refl
      format (given f) = type (to_dtype f n.flags (to_fields big cs) (to_values big d))

  module _ (bare : Bool) (n : Node) (cs : Schemas) (d : Dictionary) where
    by_own : (a : Answer Own) → own_of big n ≡ a
        → written big bare (schema n cs d)
        ≡ (format_text n.format >>= λ f. to_dtype f n.flags (to_fields big cs) (to_values big d) >>= λ t. a >>= λ o. given (type_lines (extended o.1 t) (shown bare o.0)))
    by_own a e =
        own_lines bare n (to_fields big cs) (to_values big d)
        ∙ ap (λ (b : Answer Own). format_text n.format >>= λ f. to_dtype f n.flags (to_fields big cs) (to_values big d) >>= λ t. b >>= λ o. given (type_lines (extended o.1 t) (shown bare o.0))) e

    -- a refusal of metadata or name comes after those of the type and what is below it
    pub own_refused : (r : Refusal) → own_of big n ≡ refused r → (j : Option Info) → written big bare (schema n cs d) ≡ (type_written big j (schema n cs d) >>= λ ls. refused r)
    own_refused r e j = by_own (refused r) e ∙ sym (after_type j n cs d (λ ls. refused r))

    -- the field's line is that of its type
    pub own_plain : (i : Info) → own_of big n ≡ given (i, None) → written big bare (schema n cs d) ≡ type_written big (shown bare i) (schema n cs d)
    own_plain i e = by_own (given (i, None)) e

    -- the extension's line, then the type's
    pub own_extended : (i : Info) (e : Extension) → own_of big n ≡ given (i, Some e)
        → written big bare (schema n cs d) ≡ (type_written big None (schema n cs d) >>= λ ls. given (field_line.write (line_of (of_extension e.0 e.1) (shown bare i) 1) ∷ ls))
    own_extended i e h =
        by_own (given (i, Some e)) h
        ∙ sym (after_type None n cs d (λ ls. given (field_line.write (line_of (of_extension e.0 e.1) (shown bare i) 1) ∷ ls)))

-- ── the type through its fields

one_row : (a : Answer (List Bytes)) (f : List Bytes → Answer (List Bytes)) → (a >>= f) ≡ ((a >>= λ x. given [] >>= λ y. given (x ++ y)) >>= f)
one_row (refused r) f = refl
one_row (given x) f = ap f (sym (append-nil x))

module _ (big : Bool) where
  -- all children: their lines, and as many fields as children
  all_rows : {B : Type 0} (cs : Schemas) (h : Fields → Answer B) (k : List Bytes → Answer B) → ((fs : Fields) → count_fields fs ≡ count_schemas cs → h fs ≡ k (fields_lines fs))
      → (all_of (to_fields big cs) >>= h) ≡ (row_written big false cs >>= k)
  all_rows end h k same = same nil refl
  all_rows {B} (s & ss) h k same = first (to_field big s) (all_rows ss)
    where
      rest : (f : Field) (a : Answer Fields) (b : Answer (List Bytes)) → ((m : Fields → Answer B) (l : List Bytes → Answer B) → ((fs : Fields) → count_fields fs ≡ count_schemas ss → m fs ≡ l (fields_lines fs)) → (a >>= m) ≡ (b >>= l))
          → ((a >>= λ r. given (add f.info f.type r)) >>= h) ≡ ((b >>= λ y. given (type_lines f.type (Some f.info) ++ y)) >>= k)
      rest f a b next = join a ∙ next (λ r. h (add f.info f.type r)) (λ y. k (type_lines f.type (Some f.info) ++ y)) (λ fs e. same (add f.info f.type fs) (ap suc e)) ∙ sym (joined b)
        where
          join : (c : Answer Fields) → ((c >>= λ r. given (add f.info f.type r)) >>= h) ≡ (c >>= λ r. h (add f.info f.type r))
          join (refused q) = refl
          join (given r) = refl

          joined : (c : Answer (List Bytes)) → ((c >>= λ y. given (type_lines f.type (Some f.info) ++ y)) >>= k) ≡ (c >>= λ y. k (type_lines f.type (Some f.info) ++ y))
          joined (refused q) = refl
          joined (given y) = refl

      first : (a : Answer Field) → ((m : Fields → Answer B) (l : List Bytes → Answer B) → ((fs : Fields) → count_fields fs ≡ count_schemas ss → m fs ≡ l (fields_lines fs)) → (all_of (to_fields big ss) >>= m) ≡ (row_written big false ss >>= l)) → ((a >>= λ f. all_of (to_fields big ss) >>= λ r. given (add f.info f.type r)) >>= h) ≡ (((a >>= λ f. given (type_lines f.type (Some f.info))) >>= λ x. row_written big false ss >>= λ y. given (x ++ y)) >>= k)
      first (refused q) next = refl
      first (given f) next = rest f (all_of (to_fields big ss)) (row_written big false ss) next

  -- the lines of a type: the format, the type, what it visits
  pub type_written_lem : (j : Option Info) (n : Node) (cs : Schemas) (d : Dictionary)
      → type_written big j (schema n cs d)
      ≡ (format_text n.format >>= λ f. node_shape f n.flags (count_schemas cs) (count_dictionary d) >>= λ sh. row_written big (is_bare sh) (visited sh cs d) >>= λ ls. given (field_line.write (line_of sh j (below sh (count_schemas cs))) ∷ ls))
  type_written_lem j n cs d =
      chain_same (format_text n.format) (format_text n.format) (λ f. to_dtype f n.flags (to_fields big cs) (to_values big d) >>= λ t. given (type_lines t j))
      (λ f. node_shape f n.flags (count_schemas cs) (count_dictionary d) >>= λ sh. row_written big (is_bare sh) (visited sh cs d) >>= λ ls. first sh (below sh (count_schemas cs)) ls) refl (λ f. by_dictionary f d)
    where
      first : Shape → ℕ → List Bytes → Answer (List Bytes)
      first sh k ls = given (field_line.write (line_of sh j k) ∷ ls)

      by_dictionary : (f : Bytes) (v : Dictionary)
          → (to_dtype f n.flags (to_fields big cs) (to_values big v) >>= λ t. given (type_lines t j))
          ≡ (node_shape f n.flags (count_schemas cs) (count_dictionary v) >>= λ sh. row_written big (is_bare sh) (visited sh cs v) >>= λ ls. first sh (below sh (count_schemas cs)) ls)
      by_dictionary f absent = by_format (read_format (is_sorted n.flags) f) cs
        where
          by_nesting : (g : Nesting) (ks : Schemas)
              → ((first_of (to_fields big ks) >>= λ c. given (nested g c.info c.type)) >>= λ t. given (type_lines t j))
              ≡ (needed (of_nesting g) (count_schemas ks) >>= λ sh. row_written big (is_bare sh) (visited sh ks absent) >>= λ ls. first sh (below sh (count_schemas ks)) ls)
          by_nesting g end = refl
          by_nesting g (s & ss) = go (to_field big s) ∙ one_row (written big false s) (first (nesting_shape g) 1)
            where
              go : (a : Answer Field) → ((a >>= λ c. given (nested g c.info c.type)) >>= λ t. given (type_lines t j)) ≡ ((a >>= λ c. given (type_lines c.type (Some c.info))) >>= first (nesting_shape g) 1)
              go (refused r) = refl
              go (given c) = refl

          by_grouping : (g : Grouping) (ks : Schemas)
              → ((all_of (to_fields big ks) >>= λ all. given (grouped g all)) >>= λ t. given (type_lines t j)) ≡ (row_written big false ks >>= first (grouping_shape g) (count_schemas ks))
          by_grouping g ks =
              shift (all_of (to_fields big ks))
              ∙ all_rows ks (λ fs. given (type_lines (grouped g fs) j)) (first (grouping_shape g) (count_schemas ks)) (λ fs e. ap (λ m. first (grouping_shape g) m (fields_lines fs)) e)
            where
              shift : (a : Answer Fields) → ((a >>= λ all. given (grouped g all)) >>= λ t. given (type_lines t j)) ≡ (a >>= λ fs. given (type_lines (grouped g fs) j))
              shift (refused r) = refl
              shift (given fs) = refl

          by_format : (a : Answer Format) (ks : Schemas)
              → ((a >>= λ g. type_of g (to_fields big ks)) >>= λ t. given (type_lines t j))
              ≡ ((a >>= λ g. needed g (count_schemas ks)) >>= λ sh. row_written big (is_bare sh) (visited sh ks absent) >>= λ ls. first sh (below sh (count_schemas ks)) ls)
          by_format (refused r) ks = refl
          by_format (given (of_scalar s)) ks = refl
          by_format (given (of_nesting g)) ks = by_nesting g ks
          by_format (given (of_grouping g)) ks = by_grouping g ks
      by_dictionary f (present v) = by_index (to_integer_type f)
        where
          values : (ix : ℕ) (b : Answer Field)
              → ((b >>= λ c. given (dictionary ix (is_ordered n.flags) c.type)) >>= λ t. given (type_lines t j))
              ≡ ((b >>= λ c. given (type_lines c.type None)) >>= first (of_dictionary ix (is_ordered n.flags)) 1)
          values ix (refused r) = refl
          values ix (given c) = refl

          by_index : (a : Answer ℕ)
              → ((a >>= λ ix. to_field big v >>= λ c. given (dictionary ix (is_ordered n.flags) c.type)) >>= λ t. given (type_lines t j))
              ≡ ((a >>= λ ix. given (of_dictionary ix (is_ordered n.flags))) >>= λ sh. row_written big (is_bare sh) (visited sh cs (present v)) >>= λ ls. first sh (below sh (count_schemas cs)) ls)
          by_index (refused r) = refl
          by_index (given ix) = values ix (to_field big v) ∙ one_row (written big true v) (first (of_dictionary ix (is_ordered n.flags)) 1)
