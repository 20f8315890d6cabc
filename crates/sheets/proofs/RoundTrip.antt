-- Import of an export is the plain form, in the order that it was exported in. Assumes nothing.
use mathlib.Core.Path.{◌≡◌, refl, ap, subst}
use mathlib.Core.Bool.{Bool, true, false}
use Rattle.std.specs.Prelude.{Option, None, Some}
use Prim.Native.Nat.{ℕ, suc, ◌+◌, ◌^◌}
use native.Mathlib.Omega.{arith}
use lib.Dec.{ltb, leb}
use lib.IntN.{pos}
use borrow.Author.Tests.{ltb-true, leb-true}
use Rattle.sheets.specs.Refusal.{zero_byte}
use Rattle.sheets.specs.Rule.{Rule, is, ◌and◌, passes, Meets}
use Rattle.sheets.specs.Bytes.{Bytes, lacks}
use Rattle.sheets.specs.Answer.{Answer, given, ◌>>=◌}
use Rattle.sheets.specs.Utf8.{is_utf8}
use Rattle.sheets.specs.Schema.{Node, Schema, schema, Schemas, end, ◌&◌, Dictionary, absent, present, count_schemas}
use Rattle.sheets.specs.Sheet.{is_some}
use Rattle.sheets.specs.Field.{Info, leaf, Nesting, list, large_list, fixed_size_list, map, ArrowDataType, scalar, nested, grouped, dictionary, extension, Fields, nil, add, Field, count_fields, info_rule, type_rule, fields_rule, field_rule, scalar_rule, leaf_rule}
use Rattle.sheets.specs.Strict.{own_keys as info_free}
use Rattle.sheets.proofs.ConditionLaws.{type_free, fields_free, field_free}
use Rattle.sheets.specs.Plain.{plain_info, plain_type, plain_fields, plain}
use Rattle.sheets.specs.Format.{scalar_format, nesting_format, grouping_format, index_format}
use Rattle.sheets.specs.Metadata.{Extension, schema_metadata}
use Rattle.sheets.specs.Flags.{bit, nullable}
use Rattle.sheets.specs.Import.{to_dtype, to_field, to_fields, to_values, extended, all_of}
use Rattle.sheets.specs.Export.{flag, sorted_flag, schema_node, values_info, schema_new_of, schema_children, schema_new}
use Rattle.sheets.proofs.Tests.{met_when, first_gave, meets, every, at_each}
use Rattle.sheets.proofs.FormatLaws.{read_scalar, utf8_scalar, sorted_of, read_nesting, utf8_nesting, read_grouping, utf8_grouping, read_index}
use Rattle.sheets.proofs.MetadataLaws.{extension_rule, short_block, read_metadata}

-- a schema whose metadata and children 31 bits count: each of a sheet's length does
abbrev mutual
  pub schema_short : Schema → Rule
  schema_short (schema n cs d) = short_block n.metadata and is (leb (count_schemas cs) (2 ^ 31)) and children_short cs and dictionary_short d

  pub children_short : Schemas → Rule
  children_short end = is true
  children_short (s & ss) = schema_short s and children_short ss

  pub dictionary_short : Dictionary → Rule
  dictionary_short absent = is true
  dictionary_short (present s) = schema_short s

-- ── the flags

nullable_plain : (b : Bool) → nullable (pos (flag b 2 + 0)) ≡ b
nullable_plain true = refl
nullable_plain false = refl

nullable_sorted : (b : Bool) (n : Nesting) → nullable (pos (flag b 2 + sorted_flag n)) ≡ b
nullable_sorted true list = refl
nullable_sorted true large_list = refl
nullable_sorted true (fixed_size_list n) = refl
nullable_sorted true (map true) = refl
nullable_sorted true (map false) = refl
nullable_sorted false list = refl
nullable_sorted false large_list = refl
nullable_sorted false (fixed_size_list n) = refl
nullable_sorted false (map true) = refl
nullable_sorted false (map false) = refl

nullable_ordered : (b o : Bool) → nullable (pos (flag b 2 + flag o 1)) ≡ b
nullable_ordered true true = refl
nullable_ordered true false = refl
nullable_ordered false true = refl
nullable_ordered false false = refl

bit_sorted : (b : Bool) (n : Nesting) → bit 4 (pos (flag b 2 + sorted_flag n)) ≡ sorted_of n
bit_sorted true list = refl
bit_sorted true large_list = refl
bit_sorted true (fixed_size_list n) = refl
bit_sorted true (map true) = refl
bit_sorted true (map false) = refl
bit_sorted false list = refl
bit_sorted false large_list = refl
bit_sorted false (fixed_size_list n) = refl
bit_sorted false (map true) = refl
bit_sorted false (map false) = refl

bit_ordered : (b o : Bool) → bit 1 (pos (flag b 2 + flag o 1)) ≡ o
bit_ordered true true = refl
bit_ordered true false = refl
bit_ordered false true = refl
bit_ordered false false = refl

-- ── a node

-- the node that an export has, its metadata in that order
abbrev pub exported_node : Bool → Info → Option Extension → Bytes → ℕ → Node
exported_node big i e f x = record { format = Some f; name = Some i.name; flags = pos (flag i.nullable 2 + x); metadata = schema_metadata big i.pairs e }

module _ (big : Bool) where
  -- as many children as fields
  pub count_export : (fs : Fields) (cs : Schemas) → schema_children big fs ≡ given cs → count_schemas cs ≡ count_fields fs
  count_export nil cs g =
      let e : end ≡ cs = cc in
      rw (← e)
  count_export (add i t fs) cs g =
      let q = first_gave (schema_new_of big t i None) (λ c. schema_children big fs >>= λ r. given (c & r)) cs g in
      let p = first_gave (schema_children big fs) (λ r. given (q.0 & r)) cs q.2 in
      let e : q.0 & p.0 ≡ cs = cc in
      subst (λ c. count_schemas c ≡ suc (count_fields fs)) e (ap suc (count_export fs p.0 p.1))

abbrev back : Info → Option Extension → ArrowDataType → Answer Field
back i e t = given (record { info = plain_info i; type = extended e t })

module _ (big : Bool) where
  -- the schema that a node's export gave
  pub node_gave : (i : Info) (e : Option Extension) (f : Bytes) (x : ℕ) (cs : Schemas) (d : Dictionary) (s : Schema) → schema_node big i e f x cs d ≡ given s
      → Meets (lacks 0 i.name and lacks 0 f) × (schema (exported_node big i e f x) cs d ≡ s)
  node_gave i e f x cs d s g = met_when zero_byte (lacks 0 i.name and lacks 0 f) (schema (exported_node big i e f x) cs d) s g

  import_node : (i : Info) (e : Option Extension) (f : Bytes) (x : ℕ) (cs : Schemas) (d : Dictionary) (t : ArrowDataType)
      → is_utf8 f ≡ true → Meets (info_rule i) → Meets (info_free i) → Meets (extension_rule e) → Meets (short_block (schema_metadata big i.pairs e))
      → nullable (pos (flag i.nullable 2 + x)) ≡ i.nullable
      → to_dtype f (pos (flag i.nullable 2 + x)) (to_fields big cs) (to_values big d) ≡ given t
      → to_field big (schema (exported_node big i e f x) cs d) ≡ back i e t
  import_node i e f x cs d t u h k l short b ty = rw (u, ty, read_metadata big i.pairs e h.1 k l short, h.0, b)

-- an index type is a leaf
pub index_leaf : (ix : ℕ) → ltb ix 10 ≡ true → Meets (scalar_rule (leaf (ix + 2) 0))
index_leaf ix h = meets (leaf_rule (ix + 2) 0) (at_each 10 (λ k. passes (leaf_rule (k + 2) 0)) (meets (every 10 (λ k. passes (leaf_rule (k + 2) 0))) refl) ix (ltb-true ix 10 h))

-- ── the tree

pub values_rule : Meets (info_rule values_info)
values_rule = (refl, refl)

module _ (big : Bool) where
  -- what holds of the schema of a node holds of the schema that its export gave
  pub carry : (P : Schema → Type 0) (i : Info) (e : Option Extension) (f : Bytes) (x : ℕ) (cs : Schemas) (d : Dictionary) (s : Schema) → schema_node big i e f x cs d ≡ given s → P (schema (exported_node big i e f x) cs d) → P s
  carry P i e f x cs d s g h = subst P (node_gave big i e f x cs d s g).1 h

  abbrev Returns : Info → Option Extension → ArrowDataType → Schema → Type 0
  Returns i e t s = Meets (schema_short s) → to_field big s ≡ back i e t

  mutual
    import_type : (t : ArrowDataType) (i : Info) (e : Option Extension) (s : Schema) → Meets (type_rule t) → Meets (info_rule i) → Meets (type_free t) → Meets (info_free i) → Meets (extension_rule e)
        → schema_new_of big t i e ≡ given s → Meets (schema_short s) → to_field big s ≡ back i e (plain_type t (is_some e))
    import_type (scalar c) i e s h hi o oi x g =
        let q = first_gave (scalar_format c) (λ f. schema_node big i e f 0 end absent) s g in
        carry (Returns i e (plain_type (scalar c) (is_some e))) i e q.0 0 end absent s q.2
        (λ l. import_node big i e q.0 0 end absent (plain_type (scalar c) (is_some e)) (utf8_scalar c q.0 h q.1) hi oi x l.0 (nullable_plain i.nullable)
        (rw (read_scalar (bit 4 (pos (flag i.nullable 2 + 0))) c q.0 h q.1)))
    import_type (nested n j t) i e s h hi o oi x g =
        let q = first_gave (schema_new_of big t j None) (λ c. schema_node big i e (nesting_format n) (sorted_flag n) (c & end) absent) s g in
        carry (Returns i e (plain_type (nested n j t) (is_some e))) i e (nesting_format n) (sorted_flag n) (q.0 & end) absent s q.2
        (λ l. import_node big i e (nesting_format n) (sorted_flag n) (q.0 & end) absent (plain_type (nested n j t) (is_some e)) (utf8_nesting n) hi oi x l.0 (nullable_sorted i.nullable n)
        (rw (bit_sorted i.nullable n, read_nesting n h.0, import_type t j None q.0 h.1.1 h.1.0 o.1 o.0 refl q.1 l.1.1.0.0)))
    import_type (grouped c fs) i e s h hi o oi x g =
        let q = first_gave (grouping_format c (count_fields fs)) (λ f. schema_children big fs >>= λ cs. schema_node big i e f 0 cs absent) s g in
        let p = first_gave (schema_children big fs) (λ cs. schema_node big i e q.0 0 cs absent) s q.2 in
        carry (Returns i e (plain_type (grouped c fs) (is_some e))) i e q.0 0 p.0 absent s p.2
        (λ l. import_node big i e q.0 0 p.0 absent (plain_type (grouped c fs) (is_some e)) (utf8_grouping c (count_fields fs) q.0 q.1) hi oi x l.0 (nullable_plain i.nullable)
        (rw (read_grouping (bit 4 (pos (flag i.nullable 2 + 0))) c (count_fields fs) q.0 h.0 (omega (arith, leb-true (count_schemas p.0) (2 ^ 31) l.1.0, count_export big fs p.0 p.1)) q.1, import_fields fs p.0 h.1 o p.1 l.1.1.0)))
    import_type (dictionary ix ordered t) i None s h hi o oi x g =
        let q = first_gave (index_format ix) (λ f. schema_new_of big t values_info None >>= λ d. schema_node big i None f (flag ordered 1) end (present d)) s g in
        let p = first_gave (schema_new_of big t values_info None) (λ d. schema_node big i None q.0 (flag ordered 1) end (present d)) s q.2 in
        carry (Returns i None (plain_type (dictionary ix ordered t) false)) i None q.0 (flag ordered 1) end (present p.0) s p.2
        (λ l. import_node big i None q.0 (flag ordered 1) end (present p.0) (plain_type (dictionary ix ordered t) false) (utf8_scalar (leaf (ix + 2) 0) q.0 (index_leaf ix h.0) q.1) hi oi x l.0 (nullable_ordered i.nullable ordered)
        (rw (read_index ix q.0 (ltb-true ix 10 h.0) o.0 q.1, import_type t values_info None p.0 h.1 values_rule o.1 refl refl p.1 l.1.1.1, bit_ordered i.nullable ordered)))
    import_type (dictionary ix ordered t) i (Some e) s h hi o oi x g =
        let q = first_gave (index_format ix) (λ f. schema_node big i (Some e) f 0 end absent) s g in
        carry (Returns i (Some e) (plain_type (dictionary ix ordered t) true)) i (Some e) q.0 0 end absent s q.2
        (λ l. import_node big i (Some e) q.0 0 end absent (plain_type (dictionary ix ordered t) true) (utf8_scalar (leaf (ix + 2) 0) q.0 (index_leaf ix h.0) q.1) hi oi x l.0 (nullable_plain i.nullable)
        (rw (read_scalar (bit 4 (pos (flag i.nullable 2 + 0))) (leaf (ix + 2) 0) q.0 (index_leaf ix h.0) q.1)))
    import_type (extension n m t) i None s h hi o oi x g = import_type t i (Some (n, m)) s h.1.1 hi o oi (h.0, h.1.0) g
    import_type (extension n m t) i (Some e) s h hi o oi x g = import_type t i (Some e) s h.1.1 hi o oi x g

    import_fields : (fs : Fields) (cs : Schemas) → Meets (fields_rule fs) → Meets (fields_free fs) → schema_children big fs ≡ given cs → Meets (children_short cs) → all_of (to_fields big cs) ≡ given (plain_fields fs)
    import_fields nil cs h o g =
        let e : end ≡ cs = cc in
        subst (λ c. Meets (children_short c) → all_of (to_fields big c) ≡ given nil) e (λ l. refl)
    import_fields (add i t fs) cs h o g =
        let q = first_gave (schema_new_of big t i None) (λ c. schema_children big fs >>= λ r. given (c & r)) cs g in
        let p = first_gave (schema_children big fs) (λ r. given (q.0 & r)) cs q.2 in
        let e : q.0 & p.0 ≡ cs = cc in
        subst (λ c. Meets (children_short c) → all_of (to_fields big c) ≡ given (plain_fields (add i t fs))) e
        (λ l. rw (import_type t i None q.0 h.1.0 h.0 o.1.0 o.0 refl q.1 l.0, import_fields fs p.0 h.1.1 o.1.1 p.1 l.1))

  -- import of an export is the plain form
  pub import_export : (f : Field) (s : Schema) → Meets (field_rule f) → Meets (field_free f) → schema_new big f ≡ given s → Meets (schema_short s) → to_field big s ≡ given (plain f)
  import_export f s h o g l = import_type f.type f.info None s h.1 h.0 o.1 o.0 refl g l
