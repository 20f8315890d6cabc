-- What export gives keeps the rules of a schema sheet, is bytes, has flags from 0 to 7 on every line, and has no more levels than the field. By
-- induction on the field's type; a node is shown once for all types (`node_good`). Assumes nothing.
use mathlib.Core.Path.{◌≡◌, refl, subst}
use mathlib.Core.Bool.{Bool, true, false}
use mathlib.Core.List.{List, [], ◌∷◌, ◌++◌}
use Rattle.std.specs.Prelude.{Option, None, Some}
use Prim.Native.Nat.{ℕ, suc, ◌+◌, ◌^◌, ◌≤◌}
use native.Mathlib.Omega.{arith}
use lib.ListN.{length}
use borrow.Author.Tests.{le-leb, lt-ltb}
use Rattle.sheets.specs.Sheet.{is_some}
use Rattle.sheets.specs.Rule.{each, Meets}
use Rattle.sheets.specs.Bytes.{Bytes, all, is_byte}
use Rattle.sheets.specs.Answer.{given, ◌>>=◌}
use Rattle.sheets.specs.Utf8.{is_utf8}
use Rattle.sheets.specs.Schema.{Schema, Schemas, end, ◌&◌, Dictionary, absent, present, node_rule, each_node, each_child, each_values, schema_rule, schema_levels, children_levels, dictionary_levels}
use Rattle.sheets.specs.Field.{Pair, Info, leaf, Nesting, list, large_list, fixed_size_list, map, ArrowDataType, scalar, nested, grouped, dictionary, extension, Fields, nil, add, Field, count_fields, info_rule, type_rule, fields_rule, field_rule, type_levels, fields_levels, field_levels}
use Rattle.sheets.specs.Format.{scalar_format, nesting_format, grouping_format, index_format}
use Rattle.sheets.specs.Metadata.{word32, write_text32, write_pairs, metadata_to_bytes, Extension, or_none, block_of, insert_over, with_metadata, name_key, schema_metadata}
use Rattle.sheets.specs.Export.{flag, sorted_flag, schema_node, values_info, schema_new_of, schema_children, schema_new, few_flags}
use Rattle.sheets.proofs.Tests.{first_gave}
use Rattle.sheets.proofs.BytesLaws.{all_append}
use Rattle.sheets.proofs.TextLaws.{bytes_rule}
use Rattle.sheets.proofs.Utf8Laws.{utf8_bytes}
use Rattle.sheets.proofs.SchemaLaws.{node_bytes, schema_bytes}
use Rattle.sheets.proofs.FormatLaws.{utf8_scalar, utf8_nesting, utf8_grouping}
use Rattle.sheets.proofs.MetadataLaws.{word_bytes, extension_rule, text_pair, pairs_text_lem, pairs_ordered, all_text}
use Rattle.sheets.proofs.RoundTrip.{index_leaf, node_gave, values_rule}

-- ── the block is bytes

module _ (big : Bool) where
  text_bytes32 : (t : Bytes) → is_utf8 t ≡ true → Meets (all is_byte (write_text32 big t))
  text_bytes32 t h = all_append is_byte (word32 big (length t)) t (word_bytes big (length t)) (utf8_bytes t h)

  pairs_bytes : (ps : List Pair) → Meets (each text_pair ps) → Meets (all is_byte (write_pairs big ps))
  pairs_bytes [] h = refl
  pairs_bytes (p ∷ ps) h =
      all_append is_byte (write_text32 big p.0) (write_text32 big p.1 ++ write_pairs big ps) (text_bytes32 p.0 h.0.0)
      (all_append is_byte (write_text32 big p.1) (write_pairs big ps) (text_bytes32 p.1 h.0.1) (pairs_bytes ps h.1))

  block_bytes : (ps : List Pair) → Meets (each text_pair ps) → Meets (all is_byte (metadata_to_bytes big ps))
  block_bytes ps h = all_append is_byte (word32 big (length ps)) (write_pairs big ps) (word_bytes big (length ps)) (pairs_bytes ps h)

  plain_bytes : (ps : List Pair) → Meets (each text_pair ps) → Meets (bytes_rule (block_of big ps))
  plain_bytes [] h = refl
  plain_bytes (p ∷ ps) h = block_bytes (p ∷ ps) h

  metadata_bytes : (i : Info) (e : Option Extension) → Meets (info_rule i) → Meets (extension_rule e) → Meets (bytes_rule (schema_metadata big i.pairs e))
  metadata_bytes i None h x = plain_bytes (or_none i.pairs) (pairs_text_lem (or_none i.pairs) (pairs_ordered i.pairs h.1))
  metadata_bytes i (Some e) h x =
      block_bytes (insert_over (name_key, e.0) (with_metadata e.1 (or_none i.pairs))) (all_text e (or_none i.pairs) x (pairs_text_lem (or_none i.pairs) (pairs_ordered i.pairs h.1)))

-- ── the flags fit

flag_small : (b : Bool) (n : ℕ) → flag b n ≤ n
flag_small true n = omega arith
flag_small false n = omega arith

sorted_small : (n : Nesting) → sorted_flag n ≤ 4
sorted_small list = omega arith
sorted_small large_list = omega arith
sorted_small (fixed_size_list n) = omega arith
sorted_small (map b) = flag_small b 4

-- ── the tree

record Good (levels : ℕ) (s : Schema) : Type 0 where
  rule : Meets (schema_rule s)
  bytes : Meets (schema_bytes s)
  flags : Meets (each_node few_flags s)
  depth : schema_levels s ≤ levels

record GoodAll (levels : ℕ) (cs : Schemas) : Type 0 where
  rule : Meets (each_child node_rule cs)
  bytes : Meets (each_child node_bytes cs)
  flags : Meets (each_child few_flags cs)
  depth : children_levels cs ≤ levels

record GoodDictionary (levels : ℕ) (d : Dictionary) : Type 0 where
  rule : Meets (each_values node_rule d)
  bytes : Meets (each_values node_bytes d)
  flags : Meets (each_values few_flags d)
  depth : dictionary_levels d ≤ levels

module _ (big : Bool) where
  node_good : (i : Info) (e : Option Extension) (f : Bytes) (x : ℕ) (cs : Schemas) (d : Dictionary) (s : Schema) (l : ℕ)
      → is_utf8 f ≡ true → Meets (info_rule i) → Meets (extension_rule e) → x ≤ 4 → GoodAll l cs → GoodDictionary l d → schema_node big i e f x cs d ≡ given s → Good (suc l) s
  node_good i e f x cs d s l u h k n c v g =
      let q = node_gave big i e f x cs d s g in
      subst (Good (suc l)) q.1
      (record {
        rule = ((q.0.1, (q.0.0, lt-ltb (flag i.nullable 2 + x) (2 ^ 63) (omega (arith, flag_small i.nullable 2)))), (c.rule, v.rule));
        bytes = ((utf8_bytes f u, (utf8_bytes i.name h.0, metadata_bytes big i e h k)), (c.bytes, v.bytes));
        flags = (le-leb (flag i.nullable 2 + x) 7 (omega (arith, flag_small i.nullable 2)), (c.flags, v.flags));
        depth = omega (arith, c.depth, v.depth);
      })

no_children : (l : ℕ) → GoodAll l end
no_children l = record { rule = refl; bytes = refl; flags = refl; depth = omega arith }

no_dictionary : (l : ℕ) → GoodDictionary l absent
no_dictionary l = record { rule = refl; bytes = refl; flags = refl; depth = omega arith }

one_child_lem : {l : ℕ} {s : Schema} → Good l s → GoodAll l (s & end)
one_child_lem {l} {s} g = record { rule = (g.rule, refl); bytes = (g.bytes, refl); flags = (g.flags, refl); depth = omega (arith, g.depth) }

a_dictionary : {l : ℕ} {s : Schema} → Good l s → GoodDictionary l (present s)
a_dictionary {l} {s} g = record { rule = g.rule; bytes = g.bytes; flags = g.flags; depth = g.depth }

deeper : {l k : ℕ} {s : Schema} → l ≤ k → Good l s → Good k s
deeper h g = record { rule = g.rule; bytes = g.bytes; flags = g.flags; depth = omega (arith, g.depth) }

module _ (big : Bool) where
  mutual
    type_good : (t : ArrowDataType) (i : Info) (e : Option Extension) (s : Schema) → Meets (type_rule t) → Meets (info_rule i) → Meets (extension_rule e) → schema_new_of big t i e ≡ given s → Good (type_levels t (is_some e)) s
    type_good (scalar c) i e s h hi x g =
        let q = first_gave (scalar_format c) (λ f. schema_node big i e f 0 end absent) s g in
        node_good big i e q.0 0 end absent s 0 (utf8_scalar c q.0 h q.1) hi x (omega arith) (no_children 0) (no_dictionary 0) q.2
    type_good (nested n j t) i e s h hi x g =
        let q = first_gave (schema_new_of big t j None) (λ c. schema_node big i e (nesting_format n) (sorted_flag n) (c & end) absent) s g in
        node_good big i e (nesting_format n) (sorted_flag n) (q.0 & end) absent s (type_levels t false) (utf8_nesting n) hi x (sorted_small n)
        (one_child_lem (type_good t j None q.0 h.1.1 h.1.0 refl q.1)) (no_dictionary (type_levels t false)) q.2
    type_good (grouped c fs) i e s h hi x g =
        let q = first_gave (grouping_format c (count_fields fs)) (λ f. schema_children big fs >>= λ cs. schema_node big i e f 0 cs absent) s g in
        let p = first_gave (schema_children big fs) (λ cs. schema_node big i e q.0 0 cs absent) s q.2 in
        node_good big i e q.0 0 p.0 absent s (fields_levels fs) (utf8_grouping c (count_fields fs) q.0 q.1) hi x (omega arith)
        (fields_good fs p.0 h.1 p.1) (no_dictionary (fields_levels fs)) p.2
    type_good (dictionary ix ordered t) i None s h hi x g =
        let q = first_gave (index_format ix) (λ f. schema_new_of big t values_info None >>= λ d. schema_node big i None f (flag ordered 1) end (present d)) s g in
        let p = first_gave (schema_new_of big t values_info None) (λ d. schema_node big i None q.0 (flag ordered 1) end (present d)) s q.2 in
        node_good big i None q.0 (flag ordered 1) end (present p.0) s (type_levels t false) (utf8_scalar (leaf (ix + 2) 0) q.0 (index_leaf ix h.0) q.1) hi x (omega (arith, flag_small ordered 1))
        (no_children (type_levels t false)) (a_dictionary (type_good t values_info None p.0 h.1 values_rule refl p.1)) p.2
    type_good (dictionary ix ordered t) i (Some e) s h hi x g =
        let q = first_gave (index_format ix) (λ f. schema_node big i (Some e) f 0 end absent) s g in
        deeper (omega arith)
        (node_good big i (Some e) q.0 0 end absent s 0 (utf8_scalar (leaf (ix + 2) 0) q.0 (index_leaf ix h.0) q.1) hi x (omega arith) (no_children 0) (no_dictionary 0) q.2)
    type_good (extension n m t) i None s h hi x g = type_good t i (Some (n, m)) s h.1.1 hi (h.0, h.1.0) g
    type_good (extension n m t) i (Some e) s h hi x g = deeper (omega arith) (type_good t i (Some e) s h.1.1 hi x g)

    fields_good : (fs : Fields) (cs : Schemas) → Meets (fields_rule fs) → schema_children big fs ≡ given cs → GoodAll (fields_levels fs) cs
    fields_good nil cs h g =
        let e : end ≡ cs = cc in
        subst (GoodAll 0) e (no_children 0)
    fields_good (add i t fs) cs h g =
        let q = first_gave (schema_new_of big t i None) (λ c. schema_children big fs >>= λ r. given (c & r)) cs g in
        let p = first_gave (schema_children big fs) (λ r. given (q.0 & r)) cs q.2 in
        let e : q.0 & p.0 ≡ cs = cc in
        let a = type_good t i None q.0 h.1.0 h.0 refl q.1 in
        let b = fields_good fs p.0 h.1.1 p.1 in
        subst (GoodAll (fields_levels (add i t fs))) e
        (record { rule = (a.rule, b.rule); bytes = (a.bytes, b.bytes); flags = (a.flags, b.flags); depth = omega (arith, a.depth, b.depth) })

  pub export_good : (f : Field) (s : Schema) → Meets (field_rule f) → schema_new big f ≡ given s → Meets (schema_rule s) × Meets (schema_bytes s) × (schema_levels s ≤ field_levels f)
  export_good f s h g =
      let a = type_good f.type f.info None s h.1 h.0 refl g in
      (a.rule, a.bytes, a.depth)

  -- document 02, #102: "Every line that export writes has flags from 0 to 7"
  pub export_flags : (f : Field) (s : Schema) → Meets (field_rule f) → schema_new big f ≡ given s → Meets (each_node few_flags s)
  export_flags f s h g = (type_good f.type f.info None s h.1 h.0 refl g).flags
