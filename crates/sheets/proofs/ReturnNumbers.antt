-- What import can answer to an export, whatever the field: 1 where the export is longer than a sheet may be, 9 where a dictionary has an index
-- of 128 bits, and no other number of a sheet's. Assumes nothing.
use mathlib.Core.Path.{◌≡◌, refl, subst}
use mathlib.Core.Bool.{Bool, true, false}
use mathlib.Core.List.{List, [], ◌∷◌}
use Rattle.std.specs.Prelude.{Option, None, Some}
use Prim.Native.Nat.{ℕ, ◌+◌, ◌^◌, ◌≤◌}
use native.Mathlib.Omega.{arith}
use lib.Dec.{leb}
use lib.IntN.{pos}
use lib.ListN.{length}
use borrow.Author.Tests.{ltb-true, leb-true, le-leb}
use Rattle.sheets.specs.Refusal.{not_sheet, bad_index, one_of}
use Rattle.sheets.specs.Rule.{Meets}
use Rattle.sheets.specs.Bytes.{Bytes, ascii, same}
use Rattle.sheets.specs.Answer.{given, ◌>>=◌}
use Rattle.sheets.specs.Utf8.{is_utf8}
use Rattle.sheets.specs.Kind
use Rattle.sheets.specs.Schema.{Schema, Schemas, end, ◌&◌, Dictionary, absent, present, schema, count_schemas, schema_levels, write_schema_sheet}
use Rattle.sheets.specs.Field.{Pair, Info, leaf, Nesting, list, large_list, fixed_size_list, map, ArrowDataType, scalar, nested, grouped, dictionary, extension, Fields, nil, add, Field, count_fields, info_rule, pairs_rule, metadata_rule, type_rule, fields_rule, field_rule, field_levels, nesting_rule}
use Rattle.sheets.specs.Format.{rows, read_format, of_nesting, nesting_format, scalar_format, grouping_format, index_format, to_integer_type}
use Rattle.sheets.specs.Metadata.{Extension, metadata_from_bytes, schema_metadata, or_none, name_key, with_metadata, insert_over, metadata_to_bytes, block_of}
use Rattle.sheets.specs.Flags.{ORDERED, NULLABLE, is_sorted}
use Rattle.sheets.specs.Import.{to_dtype, to_field, to_fields, to_values, all_of}
use Rattle.sheets.specs.Export.{flag, sorted_flag, schema_node, values_info, schema_new_of, schema_children, schema_new}
use Rattle.sheets.specs.FieldSheet.{read_field_sheet}
use Rattle.sheets.specs.Outcome.{imported, exported}
use Rattle.sheets.proofs.Tests.{first_gave, meets}
use Rattle.sheets.proofs.FormatLaws.{read_size_lem, read_scalar, utf8_scalar, utf8_nesting, read_grouping, utf8_grouping}
use Rattle.sheets.proofs.MetadataLaws.{extension_rule, short_block, read_block_lem, all_text, pairs_text_lem, pairs_ordered}
use Rattle.sheets.proofs.RoundTrip.{schema_short, children_short, exported_node, count_export, index_leaf, values_rule, carry}
use Rattle.sheets.proofs.SchemaLaws.{read_schema_sheet_lem}
use Rattle.sheets.proofs.ExportLaws.{export_good}
use Rattle.sheets.proofs.FieldSheetLaws.{field_read}
use Rattle.sheets.proofs.SizeLaws.{sheet_short}
use Rattle.sheets.proofs.OnlyLaws.{Only, only_given, only_refused, only_chain, only_cond, among, only_more}

abbrev nine : List ℕ
nine = 9 ∷ []

-- ── an index

pub index_numbers : (ns : List ℕ) → one_of ns 9 ≡ true → (f : Bytes) → Only ns (to_integer_type f)
index_numbers ns h f =
    only_cond ns (same f (ascii "c")) _ _ (only_given ns _)
    (only_cond ns (same f (ascii "C")) _ _ (only_given ns _)
    (only_cond ns (same f (ascii "s")) _ _ (only_given ns _)
    (only_cond ns (same f (ascii "S")) _ _ (only_given ns _)
    (only_cond ns (same f (ascii "i")) _ _ (only_given ns _)
    (only_cond ns (same f (ascii "I")) _ _ (only_given ns _)
    (only_cond ns (same f (ascii "l")) _ _ (only_given ns _)
    (only_cond ns (same f (ascii "L")) _ _ (only_given ns _) (only_refused ns bad_index h))))))))

-- ── a node

module _ (big : Bool) where
  metadata_plain : (ps : List Pair) → Meets (pairs_rule ps) → Meets (short_block (block_of big ps)) → Only nine (metadata_from_bytes big (block_of big ps))
  metadata_plain [] h l = only_given nine _
  metadata_plain (p ∷ ps) h l =
      rw (read_block_lem big (p ∷ ps) (pairs_text_lem (p ∷ ps) h) (ltb-true (length (metadata_to_bytes big (p ∷ ps))) (2 ^ 31) l)) (only_given nine _)

  metadata_nine : (ps : Option (List Pair)) (e : Option Extension) → Meets (metadata_rule ps) → Meets (extension_rule e) → Meets (short_block (schema_metadata big ps e)) → Only nine (metadata_from_bytes big (schema_metadata big ps e))
  metadata_nine ps None h x l = metadata_plain (or_none ps) (pairs_ordered ps h) l
  metadata_nine ps (Some e) h x l =
      rw (read_block_lem big (insert_over (name_key, e.0) (with_metadata e.1 (or_none ps))) (all_text e (or_none ps) x (pairs_text_lem (or_none ps) (pairs_ordered ps h))) (ltb-true _ (2 ^ 31) l)) (only_given nine _)

  node_nine : (i : Info) (e : Option Extension) (f : Bytes) (x : ℕ) (cs : Schemas) (d : Dictionary) → is_utf8 f ≡ true → Meets (info_rule i) → Meets (extension_rule e) → Meets (short_block (schema_metadata big i.pairs e))
      → Only nine (to_dtype f (pos (flag i.nullable NULLABLE + x)) (to_fields big cs) (to_values big d)) → Only nine (to_field big (schema (exported_node big i e f x) cs d))
  node_nine i e f x cs d u h k l t =
      rw u
      (only_chain nine (to_dtype f (pos (flag i.nullable NULLABLE + x)) (to_fields big cs) (to_values big d)) _ t
      (λ a q. only_chain nine (metadata_from_bytes big (schema_metadata big i.pairs e)) _ (metadata_nine i.pairs e h.1 k l)
      (λ m r. rw h.0 (only_given nine _))))

-- ── the tree

nesting_any : (sorted : Bool) (n : Nesting) → Meets (nesting_rule n) → (m : Nesting) × (read_format sorted (nesting_format n) ≡ given (of_nesting m))
unfolding rows
nesting_any sorted list h = (list, refl)
nesting_any sorted large_list h = (large_list, refl)
nesting_any sorted (fixed_size_list n) h = (fixed_size_list n, rw (read_size_lem n h))
nesting_any sorted (map b) h = (map sorted, refl)

module _ (big : Bool) where
  abbrev Nine : Schema → Type 0
  Nine s = Meets (schema_short s) → Only nine (to_field big s)

  mutual
    type_nine : (t : ArrowDataType) (i : Info) (e : Option Extension) (s : Schema) → Meets (type_rule t) → Meets (info_rule i) → Meets (extension_rule e)
        → schema_new_of big t i e ≡ given s → Meets (schema_short s) → Only nine (to_field big s)
    type_nine (scalar c) i e s h hi x g =
        let q = first_gave (scalar_format c) (λ f. schema_node big i e f 0 end absent) s g in
        carry big Nine i e q.0 0 end absent s q.2
        (λ l. node_nine big i e q.0 0 end absent (utf8_scalar c q.0 h q.1) hi x l.0
        (rw (read_scalar (is_sorted (pos (flag i.nullable NULLABLE + 0))) c q.0 h q.1) (only_given nine _)))
    type_nine (nested n j t) i e s h hi x g =
        let q = first_gave (schema_new_of big t j None) (λ c. schema_node big i e (nesting_format n) (sorted_flag n) (c & end) absent) s g in
        carry big Nine i e (nesting_format n) (sorted_flag n) (q.0 & end) absent s q.2
        (λ l. node_nine big i e (nesting_format n) (sorted_flag n) (q.0 & end) absent (utf8_nesting n) hi x l.0
        (rw (nesting_any (is_sorted (pos (flag i.nullable NULLABLE + sorted_flag n))) n h.0).1
        (only_chain nine (to_field big q.0) _ (type_nine t j None q.0 h.1.1 h.1.0 refl q.1 l.1.1.0.0) (λ f r. only_given nine _))))
    type_nine (grouped c fs) i e s h hi x g =
        let q = first_gave (grouping_format c (count_fields fs)) (λ f. schema_children big fs >>= λ cs. schema_node big i e f 0 cs absent) s g in
        let p = first_gave (schema_children big fs) (λ cs. schema_node big i e q.0 0 cs absent) s q.2 in
        carry big Nine i e q.0 0 p.0 absent s p.2
        (λ l. node_nine big i e q.0 0 p.0 absent (utf8_grouping c (count_fields fs) q.0 q.1) hi x l.0
        (rw (read_grouping (is_sorted (pos (flag i.nullable NULLABLE + 0))) c (count_fields fs) q.0 h.0 (omega (arith, leb-true (count_schemas p.0) (2 ^ 31) l.1.0, count_export big fs p.0 p.1)) q.1)
        (only_chain nine (all_of (to_fields big p.0)) _ (fields_nine fs p.0 h.1 p.1 l.1.1.0) (λ a r. only_given nine _))))
    type_nine (dictionary ix ordered t) i None s h hi x g =
        let q = first_gave (index_format ix) (λ f. schema_new_of big t values_info None >>= λ d. schema_node big i None f (flag ordered ORDERED) end (present d)) s g in
        let p = first_gave (schema_new_of big t values_info None) (λ d. schema_node big i None q.0 (flag ordered ORDERED) end (present d)) s q.2 in
        carry big Nine i None q.0 (flag ordered ORDERED) end (present p.0) s p.2
        (λ l. node_nine big i None q.0 (flag ordered ORDERED) end (present p.0) (utf8_scalar (leaf (ix + Kind.Int8) 0) q.0 (index_leaf ix h.0) q.1) hi x l.0
        (only_chain nine (to_integer_type q.0) _ (index_numbers nine refl q.0)
        (λ k r. only_chain nine (to_field big p.0) _ (type_nine t values_info None p.0 h.1 values_rule refl p.1 l.1.1.1) (λ v w. only_given nine _))))
    type_nine (dictionary ix ordered t) i (Some e) s h hi x g =
        let q = first_gave (index_format ix) (λ f. schema_node big i (Some e) f 0 end absent) s g in
        carry big Nine i (Some e) q.0 0 end absent s q.2
        (λ l. node_nine big i (Some e) q.0 0 end absent (utf8_scalar (leaf (ix + Kind.Int8) 0) q.0 (index_leaf ix h.0) q.1) hi x l.0
        (rw (read_scalar (is_sorted (pos (flag i.nullable NULLABLE + 0))) (leaf (ix + Kind.Int8) 0) q.0 (index_leaf ix h.0) q.1) (only_given nine _)))
    type_nine (extension n m t) i None s h hi x g = type_nine t i (Some (n, m)) s h.1.1 hi (h.0, h.1.0) g
    type_nine (extension n m t) i (Some e) s h hi x g = type_nine t i (Some e) s h.1.1 hi x g

    fields_nine : (fs : Fields) (cs : Schemas) → Meets (fields_rule fs) → schema_children big fs ≡ given cs → Meets (children_short cs) → Only nine (all_of (to_fields big cs))
    fields_nine nil cs h g =
        let e : end ≡ cs = cc in
        subst (λ c. Meets (children_short c) → Only nine (all_of (to_fields big c))) e (λ l. only_given nine _)
    fields_nine (add i t fs) cs h g =
        let q = first_gave (schema_new_of big t i None) (λ c. schema_children big fs >>= λ r. given (c & r)) cs g in
        let p = first_gave (schema_children big fs) (λ r. given (q.0 & r)) cs q.2 in
        let e : q.0 & p.0 ≡ cs = cc in
        subst (λ c. Meets (children_short c) → Only nine (all_of (to_fields big c))) e
        (λ l. only_chain nine (to_field big q.0) _ (type_nine t i None q.0 h.1.0 h.0 refl q.1 l.0)
        (λ a r. only_chain nine (all_of (to_fields big p.0)) _ (fields_nine fs p.0 h.1.1 p.1 l.1) (λ b w. only_given nine _)))

-- ── the sheet

abbrev pub return_numbers : List ℕ
return_numbers = 1 ∷ 9 ∷ []

module _ (big : Bool) where
  schema_return : (f : Field) (s : Schema) → Meets (field_rule f) → field_levels f ≤ 32 → schema_new big f ≡ given s → Only return_numbers (imported big (write_schema_sheet s))
  unfolding imported
  schema_return f s h l g = pick (leb (length (write_schema_sheet s)) 65535) refl
    where
      pick : (t : Bool) → leb (length (write_schema_sheet s)) 65535 ≡ t → Only return_numbers (imported big (write_schema_sheet s))
      pick false e = rw e (only_refused return_numbers not_sheet refl)
      pick true e =
          let a = export_good big f s h g in
          rw (read_schema_sheet_lem s a.1 a.0 (le-leb (schema_levels s) 32 (omega (arith, a.2))) e)
          (only_chain return_numbers (to_field big s) _ (only_more nine return_numbers (meets (among nine return_numbers) refl) (to_field big s) (type_nine big f.type f.info None s h.1 h.0 refl g (sheet_short s e))) (λ b k. only_given return_numbers _))

  -- import of what export wrote, for any field sheet
  pub return_numbers_lem : (b x : Bytes) → exported big b ≡ given x → Only return_numbers (imported big x)
  unfolding exported
  return_numbers_lem b x h =
      let f = first_gave (read_field_sheet b) _ x h in
      let s = first_gave (schema_new big f.0) _ x f.2 in
      let k = field_read b f.0 f.1 in
      let same : write_schema_sheet s.0 ≡ x = cc in
      subst (λ y. Only return_numbers (imported big y)) same (schema_return f.0 s.0 k.0 (leb-true (field_levels f.0) 32 k.1) s.1)
