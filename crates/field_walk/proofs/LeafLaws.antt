-- A leaf's short line that was written at once is the whole of the type that stands there: what the walk of each call comes to. Assumes nothing.
use mathlib.Core.Path.{◌≡◌, refl, sym, ap, ap₂, subst, ◌∙◌}
use mathlib.Core.Bool.{Bool, true, false, not, ◌&&◌, cond, true≢false}
use mathlib.Core.List.{List, [], ◌∷◌, ◌++◌}
use Rattle.std.specs.Prelude.{Option, None, Some}
use Prim.Native.Nat.{ℕ, ◌+◌, ◌*◌, ◌≤◌}
use native.Mathlib.Omega.{arith}
use lib.Dec.{eqb, ltb}
use lib.ListN.{length, drop}
use borrow.Author.Tests.{ne_eqb}
use Rattle.sheets.specs.Bytes.{Bytes}
use Rattle.sheets.specs.Answer.{Answer, given, ◌>>=◌}
use Rattle.sheets.specs.Sheet.{ended}
use Rattle.sheets.specs.Schema.{Schema, schema, end, absent, schema_lines}
use Rattle.sheets.specs.Kind
use Rattle.sheets.specs.Field.{Info, Scalar, leaf, ArrowDataType, scalar, nested, grouped, dictionary, extension, has_unit, is_leaf}
use Rattle.sheets.specs.FieldSheet.{Entry, Shape, of_scalar, type_lines}
use Rattle.sheets.specs.Plain.{plain}
use Rattle.sheets.specs.Mappings.{leaf_under}
use Rattle.sheets.specs.LineTrees.{Standing}
use Rattle.sheets.specs.FieldTrees.{Head, type_shape, type_below, entry_head, fields}
use Rattle.sheets.specs.Walk.{Step, type_walk, type_visits, type_walked}
use Rattle.sheets.specs.ExportSteps.{schema_step}
use Rattle.sheets.specs.PlainSteps.{plain_step}
use Rattle.sheets.specs.MappingSteps.{storage_change, underlying_change, change_step}
use Rattle.sheets.specs.Page.{page_line}
use Rattle.sheets.specs.PageSteps.{level_of, page_step}
use Rattle.sheets.proofs.Tests.{and_left}
use Rattle.sheets.proofs.FieldTrees.{fields_lawful}
use Rattle.sheets.proofs.TreeWalks.{line_below}
use Rattle.sheets.proofs.WalkLaws.{scalar_visits}
use Rattle.sheets.proofs.ExportSteps.{type_exported}
use Rattle.sheets.proofs.MappingSteps.{type_underlying}
use Rattle.buffer.specs.Over.{PutFirst}
use Rattle.field_leaf.specs.FieldLeaves.{is_short, leaf_info, leaf_field, leaf_head, FieldLeafAt}
use Rattle.put_schema_leaf.specs.Written.{SchemaLeafTold, is_copied, LeafCopyTold}
use Rattle.page_line.specs.PageLeaves.{PageLeafTold}
use Rattle.datatypes.specs.At.{first_at}
use Rattle.datatypes.proofs.AtLaws.{apart}
use Rattle.mapping_line.specs.Changes.{changed_kinds, underlying_kind}
use Rattle.mapping_line.specs.declared.change.LineChange.{LineChange}
use Rattle.mapping_line.specs.declared.change.LineChange.TheVariants.{Stays}
use Rattle.mapping_line.proofs.ChangeLaws.{stays_under}
use Rattle.walks.specs.Places.{own_limit, TypeAt, WroteAs, LeafWrote, one_line}
use Rattle.walks.specs.declared.Subtree.{Subtree}
use Rattle.field_walk.specs.declared.Call.{Call}
use Rattle.field_walk.specs.declared.Call.TheVariants.{Export, Plain, ToStorageRecursive, UnderlyingPhysicalType, Page}
use Rattle.field_walk.specs.declared.LeafLine.TheVariants as L
use Rattle.field_walk.specs.Calls.{leaf_line_of, CallLeafWrote}

-- the type whose line says so
scalar_shape_lem : (t : ArrowDataType) (x : Scalar) → type_shape t ≡ of_scalar x → t ≡ scalar x
scalar_shape_lem (scalar s) x e =
    let same : s ≡ x = cc in
    ap scalar same
scalar_shape_lem (nested n j t) x e = let z : ◌≡◌ {A = ℕ} 0 1 = cc in absurd (omega arith)
scalar_shape_lem (grouped g fs) x e = let z : ◌≡◌ {A = ℕ} 0 1 = cc in absurd (omega arith)
scalar_shape_lem (dictionary ix ordered t) x e = let z : ◌≡◌ {A = ℕ} 0 1 = cc in absurd (omega arith)
scalar_shape_lem (extension n m t) x e = let z : ◌≡◌ {A = ℕ} 0 1 = cc in absurd (omega arith)

-- a leaf without a unit that is no date is its own underlying type
abbrev own : ℕ → Bool
own k = is_short k && is_copied false k

own_stays : (k : ℕ) → own k ≡ true → underlying_kind k 0 ≡ Stays
own_stays k h =
    let n : first_at (λ (w : ℕ × LineChange). w.0) k changed_kinds ≡ None = apart (λ (w : ℕ × LineChange). w.0) own k h changed_kinds refl in
    rw (ne_eqb k Kind.Interval (λ e. true≢false (sym h ∙ ap own e)), ne_eqb k Kind.Dictionary (λ e. true≢false (sym h ∙ ap own e)), n)

short_under : (k : ℕ) → is_short k ≡ true → is_copied false k ≡ true → leaf_under k 0 ≡ given (scalar (leaf k 0))
short_under k s d = stays_under k (and_left (is_leaf k) (not (has_unit k)) s, zero (has_unit k)) (own_stays k (both (is_short k) (is_copied false k) s d))
  where
    zero : (b : Bool) → cond b (ltb 0 4) (eqb 0 0) ≡ true
    zero true = refl
    zero false = refl

    both : (a b : Bool) → a ≡ true → b ≡ true → (a && b) ≡ true
    both a b p q = rw (p, q)

-- the leaf is what stands there, and then es
module _ {s : Bytes} {at kind from e n : ℕ} (k : FieldLeafAt s at kind from e n) (i : Option Info) (t : ArrowDataType) (es : List Entry) (st : Standing fields (drop at s) ((i, t) ∷ es)) where
  below : (entry_head (i, t) ≡ leaf_head kind k.bytes n) × Standing fields (drop (e + 7) s) (type_below t ++ es)
  below = line_below fields_lawful k.line (i, t) es st

  is_type : t ≡ scalar (leaf kind 0)
  is_type = scalar_shape_lem t (leaf kind 0) (ap (λ (h : Head). h.shape) below.0)

  is_info_lem : i ≡ Some (leaf_info k.bytes n)
  is_info_lem = ap (λ (h : Head). h.info) below.0

  rest_stands : (next : ℕ) → next ≡ e + 7 → Standing fields (drop next s) es
  rest_stands next a = subst (λ (p : ℕ). Standing fields (drop p s) es) (sym a) (subst (λ (u : ArrowDataType). Standing fields (drop (e + 7) s) (type_below u ++ es)) is_type below.1)

  -- its line, the one that is visited, is written at once
  leaf_wrote : {S : Type 0} (step : S → Head → Answer (Step S)) (σ : S) (ls : List Bytes) → type_walk step t i σ ≡ given ls
      → (next len : ℕ) (out out' : Bytes) → next ≡ e + 7 → PutFirst (ended ls) len out out' → len + own_limit * at ≤ own_limit * next
      → WroteAs s at es (type_walked step t i σ) out out' (given (next, one_line len))
  leaf_wrote step σ ls is next len out out' after put long =
      let one : type_visits step t i σ ≡ 1 = subst (λ (u : ArrowDataType). type_walk step u i σ ≡ given ls → type_visits step u i σ ≡ 1) (sym is_type) (scalar_visits step (leaf kind 0) i σ ls) is in
      (ls, is, put, rest_stands next after, long, omega (arith, after, k.high), sym one, omega (arith, after, k.begins, k.long))

not_schema : {d : Bool} → L.Same d ≡ L.Schema → ⊥
not_schema e = let z : ◌≡◌ {A = ℕ} 0 1 = cc in omega arith

page_schema : L.Page ≡ L.Schema → ⊥
page_schema e = let z : ◌≡◌ {A = ℕ} 0 1 = cc in omega arith

page_same : {d : Bool} → L.Page ≡ L.Same d → ⊥
page_same e = let z : ◌≡◌ {A = ℕ} 0 1 = cc in omega arith

same_dates : {x y : Bool} → L.Same x ≡ L.Same y → x ≡ y
same_dates e = cc

module _ (s : Bytes) (at levels : ℕ) (inside : Bool) (out out' : Bytes) where
  -- export: the schema line of the leaf
  leaf_exported : (big : Bool) (o : Option (ℕ × ℕ)) → SchemaLeafTold s at out out' o → LeafWrote (schema_step big) s at levels inside None out out' o
  leaf_exported big None w = w.1
  leaf_exported big (Some (next, len)) w =
      λ i t es h.
      let k = w.leaf in
      let ls = schema_lines (schema w.node end absent) in
      let is =
      ap₂ (λ (u : ArrowDataType) (j : Option Info). type_walk (schema_step big) u j None) (is_type k i t es h.stands) (is_info_lem k i t es h.stands)
      ∙ type_exported big (scalar (leaf w.kind 0)) (Some (leaf_info k.bytes w.nullable)) None
      ∙ ap (λ (a : Answer Schema). a >>= λ x. given (schema_lines x)) (w.made big) in
      leaf_wrote k i t es h.stands (schema_step big) None ls is next len out out' w.after w.put (omega (arith, w.short, w.after, k.begins, k.long))

  -- plain form: the line itself
  leaf_plain : (o : Option (ℕ × ℕ)) → LeafCopyTold s at true out out' o → LeafWrote plain_step s at levels inside inside out out' o
  leaf_plain None w = w.1
  leaf_plain (Some (next, len)) w =
      λ i t es h.
      let k = w.leaf in
      let f = plain (leaf_field w.kind k.bytes w.nullable) in
      let ls = type_lines f.type (Some f.info) in
      let is =
      ap₂ (λ (u : ArrowDataType) (j : Option Info). type_walk plain_step u j inside) (is_type k i t es h.stands) (is_info_lem k i t es h.stands) in
      leaf_wrote k i t es h.stands plain_step inside ls is next len out out' w.after w.put (omega (arith, w.short, w.after, k.begins, k.long))

  -- `to_storage_recursive`: the line itself
  leaf_stored : (o : Option (ℕ × ℕ)) → LeafCopyTold s at true out out' o → LeafWrote (change_step storage_change) s at levels inside None out out' o
  leaf_stored None w = w.1
  leaf_stored (Some (next, len)) w =
      λ i t es h.
      let k = w.leaf in
      let f = plain (leaf_field w.kind k.bytes w.nullable) in
      let ls = type_lines f.type (Some f.info) in
      let is =
      ap₂ (λ (u : ArrowDataType) (j : Option Info). type_walk (change_step storage_change) u j None) (is_type k i t es h.stands) (is_info_lem k i t es h.stands) in
      leaf_wrote k i t es h.stands (change_step storage_change) None ls is next len out out' w.after w.put (omega (arith, w.short, w.after, k.begins, k.long))

  -- `underlying_physical_type`: the line itself, of a leaf that is no date's
  leaf_underlying : (o : Option (ℕ × ℕ)) → LeafCopyTold s at false out out' o → LeafWrote (change_step underlying_change) s at levels inside None out out' o
  leaf_underlying None w = w.1
  leaf_underlying (Some (next, len)) w =
      λ i t es h.
      let k = w.leaf in
      let f = plain (leaf_field w.kind k.bytes w.nullable) in
      let ls = type_lines f.type (Some f.info) in
      let is =
      ap₂ (λ (u : ArrowDataType) (j : Option Info). type_walk (change_step underlying_change) u j None) (is_type k i t es h.stands) (is_info_lem k i t es h.stands)
      ∙ type_underlying (scalar (leaf w.kind 0)) (Some (leaf_info k.bytes w.nullable)) None
      ∙ ap (λ (a : Answer ArrowDataType). a >>= λ u. given (type_lines u (Some (leaf_info k.bytes w.nullable)))) (short_under w.kind k.short w.copied) in
      leaf_wrote k i t es h.stands (change_step underlying_change) None ls is next len out out' w.after w.put (omega (arith, w.short, w.after, k.begins, k.long))

-- the page: its line of the leaf
leaf_paged : (s : Bytes) (tree : Subtree) (out out' : Bytes) (o : Option (ℕ × ℕ)) → PageLeafTold s tree out out' o
    → LeafWrote page_step s tree.at tree.levels tree.inside (tree.levels, tree.inside) out out' o
leaf_paged s tree out out' None w = w.1
leaf_paged s tree out out' (Some (next, len)) w =
    λ i t es h.
    let k = w.leaf in
    let ls = page_line (level_of tree.levels tree.inside false) (leaf_head w.kind k.bytes w.nullable) ∷ [] in
    let is =
    ap₂ (λ (u : ArrowDataType) (j : Option Info). type_walk page_step u j (tree.levels, tree.inside)) (is_type k i t es h.stands) (is_info_lem k i t es h.stands) in
    leaf_wrote k i t es h.stands page_step (tree.levels, tree.inside) ls is next len out out' w.after w.put (omega (arith, w.short, w.after, k.begins, k.long))

-- ── by the call

module _ (s : Bytes) (t : Subtree) (out out' : Bytes) (r : Option (ℕ × ℕ)) where
  pub schema_written_lem : (c : Call) → leaf_line_of c ≡ L.Schema → SchemaLeafTold s t.at out out' r → CallLeafWrote c s t out out' r
  schema_written_lem (Export big strict) e w = leaf_exported s t.at t.levels t.inside out out' big r w
  schema_written_lem Plain e w = absurd (not_schema e)
  schema_written_lem ToStorageRecursive e w = absurd (not_schema e)
  schema_written_lem UnderlyingPhysicalType e w = absurd (not_schema e)
  schema_written_lem Page e w = absurd (page_schema e)

  pub same_written_lem : (c : Call) (dates : Bool) → leaf_line_of c ≡ L.Same dates → LeafCopyTold s t.at dates out out' r → CallLeafWrote c s t out out' r
  same_written_lem (Export big strict) d e w = absurd (not_schema (sym e))
  same_written_lem Plain d e w = leaf_plain s t.at t.levels t.inside out out' r (subst (λ (x : Bool). LeafCopyTold s t.at x out out' r) (sym (same_dates e)) w)
  same_written_lem ToStorageRecursive d e w = leaf_stored s t.at t.levels t.inside out out' r (subst (λ (x : Bool). LeafCopyTold s t.at x out out' r) (sym (same_dates e)) w)
  same_written_lem UnderlyingPhysicalType d e w = leaf_underlying s t.at t.levels t.inside out out' r (subst (λ (x : Bool). LeafCopyTold s t.at x out out' r) (sym (same_dates e)) w)
  same_written_lem Page d e w = absurd (page_same e)

  pub page_written : (c : Call) → leaf_line_of c ≡ L.Page → PageLeafTold s t out out' r → CallLeafWrote c s t out out' r
  page_written (Export big strict) e w = absurd (page_schema (sym e))
  page_written Plain e w = absurd (page_same (sym e))
  page_written ToStorageRecursive e w = absurd (page_same (sym e))
  page_written UnderlyingPhysicalType e w = absurd (page_same (sym e))
  page_written Page e w = leaf_paged s t out out' r w
