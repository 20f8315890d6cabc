-- The plain form is exported as the field is, keeps the rules, and has no more levels. Assumes nothing.
use mathlib.Core.Path.{◌≡◌, refl}
use mathlib.Core.Bool.{Bool, true, false}
use mathlib.Core.List.{List, [], ◌∷◌}
use Rattle.std.specs.Prelude.{Option, None, Some}
use Prim.Native.Nat.{ℕ, ◌^◌, ◌≤◌}
use native.Mathlib.Omega.{arith}
use lib.Dec.{leb}
use borrow.Author.Tests.{leb-true}
use Rattle.sheets.specs.Rule.{Rule, is, ◌and◌, Meets}
use Rattle.sheets.specs.Bytes.{Bytes}
use Rattle.sheets.specs.Answer.{◌>>=◌}
use Rattle.sheets.specs.Schema.{Schemas, end, ◌&◌, Dictionary, absent, present}
use Rattle.sheets.specs.Sheet.{is_some}
use Rattle.sheets.specs.Field.{Pair, Info, Scalar, leaf, timestamp, fixed_size_binary, decimal_type, Grouping, struct, union, ArrowDataType, scalar, nested, grouped, dictionary, extension, Fields, nil, add, Field, count_fields, text_rule, scalar_rule, grouping_rule, metadata_rule, info_rule, type_rule, fields_rule, field_rule, type_levels, fields_levels, field_levels}
use Rattle.sheets.specs.Plain.{plain_zone, plain_pairs, plain_info, plain_scalar, plain_grouping, plain_type, plain_fields, plain}
use Rattle.sheets.specs.Format.{or_empty, scalar_format, nesting_format, grouping_format, index_format}
use Rattle.sheets.specs.Metadata.{Extension, or_none, schema_metadata}
use Rattle.sheets.specs.Export.{flag, sorted_flag, schema_node, values_info, schema_new_of, schema_children, schema_new}
use Rattle.sheets.proofs.Tests.{chain_same}
use Rattle.sheets.proofs.FormatLaws.{up_from_lem}
use Rattle.sheets.proofs.RoundTrip.{index_leaf}

-- ── exported alike

zone_same : (z : Option Bytes) → or_empty (plain_zone z) ≡ or_empty z
zone_same None = refl
zone_same (Some []) = refl
zone_same (Some (b ∷ bs)) = refl

scalar_same : (s : Scalar) → scalar_format (plain_scalar s) ≡ scalar_format s
scalar_same (leaf k u) = refl
scalar_same (timestamp u z) = rw (zone_same z)
scalar_same (fixed_size_binary n) = refl
scalar_same (decimal_type w p s) = refl

grouping_same : (g : Grouping) (n : ℕ) → grouping_format (plain_grouping g n) n ≡ grouping_format g n
grouping_same struct n = refl
grouping_same (union sparse None) n = refl
grouping_same (union sparse (Some ids)) n = refl

pairs_same : (ps : Option (List Pair)) → or_none (plain_pairs ps) ≡ or_none ps
pairs_same None = refl
pairs_same (Some []) = refl
pairs_same (Some (p ∷ ps)) = refl

module _ (big : Bool) where
  metadata_same : (ps : Option (List Pair)) (e : Option Extension) → schema_metadata big (plain_pairs ps) e ≡ schema_metadata big ps e
  metadata_same ps None = rw (pairs_same ps)
  metadata_same ps (Some e) = rw (pairs_same ps)

  node_same : (i : Info) (e : Option Extension) (f : Bytes) (x : ℕ) (cs : Schemas) (d : Dictionary) → schema_node big (plain_info i) e f x cs d ≡ schema_node big i e f x cs d
  node_same i e f x cs d = rw (metadata_same i.pairs e)

pub count_plain : (fs : Fields) → count_fields (plain_fields fs) ≡ count_fields fs
count_plain nil = refl
count_plain (add i t fs) = rw (count_plain fs)

module _ (big : Bool) where
  mutual
    type_same : (t : ArrowDataType) (i : Info) (e : Option Extension) → schema_new_of big (plain_type t (is_some e)) (plain_info i) e ≡ schema_new_of big t i e
    type_same (scalar s) i e =
        chain_same (scalar_format (plain_scalar s)) (scalar_format s) (λ f. schema_node big (plain_info i) e f 0 end absent) (λ f. schema_node big i e f 0 end absent)
        (scalar_same s) (λ f. node_same big i e f 0 end absent)
    type_same (nested n j t) i e =
        chain_same (schema_new_of big (plain_type t false) (plain_info j) None) (schema_new_of big t j None)
        (λ c. schema_node big (plain_info i) e (nesting_format n) (sorted_flag n) (c & end) absent) (λ c. schema_node big i e (nesting_format n) (sorted_flag n) (c & end) absent)
        (type_same t j None) (λ c. node_same big i e (nesting_format n) (sorted_flag n) (c & end) absent)
    type_same (grouped g fs) i e =
        chain_same (grouping_format (plain_grouping g (count_fields fs)) (count_fields (plain_fields fs))) (grouping_format g (count_fields fs))
        (λ f. schema_children big (plain_fields fs) >>= λ cs. schema_node big (plain_info i) e f 0 cs absent) (λ f. schema_children big fs >>= λ cs. schema_node big i e f 0 cs absent)
        (rw (count_plain fs) (grouping_same g (count_fields fs)))
        (λ f. chain_same (schema_children big (plain_fields fs)) (schema_children big fs) (λ cs. schema_node big (plain_info i) e f 0 cs absent) (λ cs. schema_node big i e f 0 cs absent) (fields_same fs) (λ cs. node_same big i e f 0 cs absent))
    type_same (dictionary ix ordered t) i None =
        chain_same (index_format ix) (index_format ix)
        (λ f. schema_new_of big (plain_type t false) values_info None >>= λ d. schema_node big (plain_info i) None f (flag ordered 1) end (present d)) (λ f. schema_new_of big t values_info None >>= λ d. schema_node big i None f (flag ordered 1) end (present d))
        refl
        (λ f. chain_same (schema_new_of big (plain_type t false) values_info None) (schema_new_of big t values_info None) (λ d. schema_node big (plain_info i) None f (flag ordered 1) end (present d)) (λ d. schema_node big i None f (flag ordered 1) end (present d)) (type_same t values_info None) (λ d. node_same big i None f (flag ordered 1) end (present d)))
    type_same (dictionary ix ordered t) i (Some e) =
        chain_same (index_format ix) (index_format ix) (λ f. schema_node big (plain_info i) (Some e) f 0 end absent) (λ f. schema_node big i (Some e) f 0 end absent) refl (λ f. node_same big i (Some e) f 0 end absent)
    type_same (extension n m t) i None = type_same t i (Some (n, m))
    type_same (extension n m t) i (Some e) = type_same t i (Some e)

    fields_same : (fs : Fields) → schema_children big (plain_fields fs) ≡ schema_children big fs
    fields_same nil = refl
    fields_same (add i t fs) = rw (type_same t i None, fields_same fs)

  -- exporting the plain form gives the same
  pub export_plain : (f : Field) → schema_new big (plain f) ≡ schema_new big f
  export_plain f = type_same f.type f.info None

-- ── the rules

zone_rule : (z : Option Bytes) → Meets (text_rule z) → Meets (text_rule (plain_zone z))
zone_rule None h = h
zone_rule (Some []) h = refl
zone_rule (Some (b ∷ bs)) h = h

scalar_rule_lem : (s : Scalar) → Meets (scalar_rule s) → Meets (scalar_rule (plain_scalar s))
scalar_rule_lem (leaf k u) h = h
scalar_rule_lem (timestamp u z) h = zone_rule z h
scalar_rule_lem (fixed_size_binary n) h = h
scalar_rule_lem (decimal_type w p s) h = h

grouping_rule_lem : (g : Grouping) (n : ℕ) → n ≤ 2 ^ 31 → Meets (grouping_rule g) → Meets (grouping_rule (plain_grouping g n))
grouping_rule_lem struct n k h = h
grouping_rule_lem (union sparse None) n k h = up_from_lem 0 n (omega arith)
grouping_rule_lem (union sparse (Some ids)) n k h = h

pairs_rule_lem : (ps : Option (List Pair)) → Meets (metadata_rule ps) → Meets (metadata_rule (plain_pairs ps))
pairs_rule_lem None h = h
pairs_rule_lem (Some []) h = refl
pairs_rule_lem (Some (p ∷ ps)) h = h

info_rule_lem : (i : Info) → Meets (info_rule i) → Meets (info_rule (plain_info i))
info_rule_lem i h = (h.0, pairs_rule_lem i.pairs h.1)

-- a group that export visits has at most 2 ^ 31 fields; the flag says that the type stands directly in an extension
abbrev mutual
  pub type_few : ArrowDataType → Bool → Rule
  type_few (scalar s) b = is true
  type_few (nested n i t) b = type_few t false
  type_few (grouped g fs) b = is (leb (count_fields fs) (2 ^ 31)) and fields_few fs
  type_few (dictionary ix ordered t) true = is true
  type_few (dictionary ix ordered t) false = type_few t false
  type_few (extension n m t) b = type_few t true

  pub fields_few : Fields → Rule
  fields_few nil = is true
  fields_few (add i t fs) = type_few t false and fields_few fs

mutual
  type_rule_lem : (t : ArrowDataType) (b : Bool) → Meets (type_few t b) → Meets (type_rule t) → Meets (type_rule (plain_type t b))
  type_rule_lem (scalar s) b k h = scalar_rule_lem s h
  type_rule_lem (nested n i t) b k h = (h.0, (info_rule_lem i h.1.0, type_rule_lem t false k h.1.1))
  type_rule_lem (grouped g fs) b k h = (grouping_rule_lem g (count_fields fs) (leb-true (count_fields fs) (2 ^ 31) k.0) h.0, fields_rule_lem fs k.1 h.1)
  type_rule_lem (dictionary ix ordered t) true k h = index_leaf ix h.0
  type_rule_lem (dictionary ix ordered t) false k h = (h.0, type_rule_lem t false k h.1)
  type_rule_lem (extension n m t) true k h = type_rule_lem t true k h.1.1
  type_rule_lem (extension n m t) false k h = (h.0, (h.1.0, type_rule_lem t true k h.1.1))

  fields_rule_lem : (fs : Fields) → Meets (fields_few fs) → Meets (fields_rule fs) → Meets (fields_rule (plain_fields fs))
  fields_rule_lem nil k h = h
  fields_rule_lem (add i t fs) k h = (info_rule_lem i h.0, (type_rule_lem t false k.0 h.1.0, fields_rule_lem fs k.1 h.1.1))

pub plain_rule : (f : Field) → Meets (type_few f.type false) → Meets (field_rule f) → Meets (field_rule (plain f))
plain_rule f k h = (info_rule_lem f.info h.0, type_rule_lem f.type false k h.1)

-- ── the levels

mutual
  type_levels_lem : (t : ArrowDataType) (b : Bool) → type_levels (plain_type t b) b ≤ type_levels t b
  type_levels_lem (scalar s) b = omega arith
  type_levels_lem (nested n i t) b = omega (arith, type_levels_lem t false)
  type_levels_lem (grouped g fs) b = omega (arith, fields_levels_lem fs)
  type_levels_lem (dictionary ix ordered t) true = omega arith
  type_levels_lem (dictionary ix ordered t) false = omega (arith, type_levels_lem t false)
  type_levels_lem (extension n m t) true = omega (arith, type_levels_lem t true)
  type_levels_lem (extension n m t) false = type_levels_lem t true

  fields_levels_lem : (fs : Fields) → fields_levels (plain_fields fs) ≤ fields_levels fs
  fields_levels_lem nil = omega arith
  fields_levels_lem (add i t fs) = omega (arith, type_levels_lem t false, fields_levels_lem fs)

pub plain_levels : (f : Field) → field_levels (plain f) ≤ field_levels f
plain_levels f = type_levels_lem f.type false
