-- The type that is answered, by the line that was read: for each way out of the functions that look for it, what stands there. By cases of the field's type.
-- Assumes nothing.
use mathlib.Core.Path.{◌≡◌, refl, sym, ap, subst, ◌∙◌}
use mathlib.Core.Bool.{Bool, true, false, cond}
use mathlib.Core.List.{List, [], ◌∷◌, ◌++◌, append_assoc}
use Rattle.std.specs.Prelude.{Option, Some, None}
use Prim.Native.Nat.{ℕ, zero, suc, ◌≤◌, ◌<◌, max}
use native.Mathlib.Omega.{arith}
use lib.Dec.{eqb}
use lib.ListN.{length, drop, drop_of_length-le}
use Rattle.sheets.specs.Refusal.{undefined_mapping, too_deep}
use Rattle.sheets.specs.Bytes.{Bytes}
use Rattle.sheets.specs.Answer.{Answer, refused, given, found}
use Rattle.sheets.specs.Kind
use Rattle.sheets.specs.Sheet.{level_limit}
use Rattle.sheets.specs.Field.{Info, list, large_list, fixed_size_list, map, ArrowDataType, scalar, nested, grouped, dictionary, extension}
use Rattle.sheets.specs.FieldSheet.{Entry}
use Rattle.sheets.specs.LineTrees.{tallest, Standing}
use Rattle.sheets.specs.FieldTrees.{type_below, entry_levels, fields}
use Rattle.sheets.specs.TreeWalks.{HasTree}
use Rattle.sheets.specs.TreeWalks.{HasRow as HasTrees}
use Rattle.sheets.specs.Mappings.{to_storage, inner_dtype, get_child}
use Rattle.sheets.specs.MappingSteps.{child_of}
use Rattle.sheets.proofs.Tests.{never}
use Rattle.sheets.proofs.MappingSteps.{type_child, child_stands, child_absent}
use Rattle.sheets.proofs.FieldTrees.{standing_lines}
use Rattle.sheets.proofs.LineTrees.{tallest_append}
use Rattle.read_field_line.specs.FieldLines.{FieldLineAt}
use Rattle.read_field_line.specs.declared.FieldLine.{FieldLine}
use Rattle.field_sheet.specs.Subtrees.{SkipsRow}
use Rattle.field_sheet.proofs.SkipLaws.{line_row}
use Rattle.nesting.specs.Nestings.{type_nesting, kind_nesting}
use Rattle.nesting.specs.declared.Nesting.{Nesting}
use Rattle.nesting.proofs.NestingLaws.{line_nesting}
use Rattle.line_below.proofs.LineLaws.{line_opened}
use Rattle.line_below.proofs.BelowLaws.{row_below_lem}
use Rattle.walks.specs.Places.{TypeAt, RowAt, HasType}
use Rattle.walks.proofs.RowLaws.{tallest_cons}
use Rattle.storage_line.specs.StorageLines.{StorageTold}
use Rattle.storage_line.specs.declared.StorageLine.{StorageLine}
use Rattle.storage_line.proofs.BelowLaws.{row}
use Rattle.picked_types.specs.Picks.{has_inner, has_fields, PickedAt, PickTold, FieldAt, Picks, NthTold, WholeTold}
use Rattle.picked_types.specs.declared.pick.Choice.TheVariants.{Storage}
use Rattle.picked_types.specs.declared.pick.PickedType.{PickedType}

-- ── where a sheet ends

end_stands : (s : Bytes) → Standing fields (drop (length s) s) []
end_stands s = (standing_lines (drop (length s) s) []).1 (drop_of_length-le s {i = length s} (omega arith), refl)

-- a type of a sheet that has nothing after it
pub last_picked : {s : Bytes} {at levels : ℕ} {inside : Bool} {i : Option Info} {t : ArrowDataType} → TypeAt s at levels inside i t [] → {l : FieldLine} → FieldLineAt s at l
    → PickedAt s (record { at = at; line = l; end = length s }) t
last_picked {s} {at} {levels} {inside} {i} {t} f k = record { info = i; es = []; stands = f.stands; line = k; after = end_stands s; high = omega arith; short = f.short }

-- ── the type in all extensions

pub storage_picked : (s : Bytes) (at : ℕ) (r : StorageLine) → StorageTold s (record { at = at; levels = level_limit; inside = false }) r
    → Picks Storage s at (given (record { at = r.at; line = r.line; end = length s }))
storage_picked s at r told i t f = let w = told i t [] f in (to_storage t, refl, last_picked w.type w.line)

-- ── the type of a list's field

inner_there : (t : ArrowDataType) → has_inner (type_nesting t) ≡ true → (j : Info) × (u : ArrowDataType) × (inner_dtype t ≡ given u) × (type_below t ≡ (Some j, u) ∷ [])
inner_there (scalar s) h = never h
inner_there (nested list j u) h = (j, u, refl, refl)
inner_there (nested large_list j u) h = (j, u, refl, refl)
inner_there (nested (fixed_size_list n) j u) h = (j, u, refl, refl)
inner_there (nested (map sorted) j u) h = never h
inner_there (grouped g fs) h = never h
inner_there (dictionary ix ordered u) h = never h
inner_there (extension n m u) h = never h

inner_absent : (t : ArrowDataType) → has_inner (type_nesting t) ≡ false → inner_dtype t ≡ refused undefined_mapping
inner_absent (scalar s) h = refl
inner_absent (nested list j u) h = never (sym h)
inner_absent (nested large_list j u) h = never (sym h)
inner_absent (nested (fixed_size_list n) j u) h = never (sym h)
inner_absent (nested (map sorted) j u) h = refl
inner_absent (grouped g fs) h = refl
inner_absent (dictionary ix ordered u) h = refl
inner_absent (extension n m u) h = refl

module _ {s : Bytes} {at : ℕ} {i : Option Info} {t : ArrowDataType} (f : FieldAt s at i t) {first : FieldLine} (k : FieldLineAt s at first) {n : Nesting} (e : n ≡ kind_nesting first.kind) {b : Bool} (h : b ≡ has_inner n) where
  inner_is : has_inner (type_nesting t) ≡ b
  inner_is = ap has_inner (sym (line_nesting f.stands k e)) ∙ sym h

  pub inner_undefined : b ≡ false → PickTold s (inner_dtype t) (refused undefined_mapping)
  inner_undefined z = inner_absent t (inner_is ∙ z)

  module _ (z : b ≡ true) where
    field_stands : let w = inner_there t (inner_is ∙ z) in Standing fields (drop first.end s) ((Some w.0, w.1) ∷ [])
    field_stands = let w = inner_there t (inner_is ∙ z) in subst (λ (us : List Entry). Standing fields (drop first.end s) (us ++ [])) w.3 (line_opened f.stands k).1

    pub inner_tree : HasTree fields s first.end
    inner_tree = let w = inner_there t (inner_is ∙ z) in ((Some w.0, w.1), [], field_stands)

    pub inner_picked : {l : FieldLine} → FieldLineAt s first.end l → PickTold s (inner_dtype t) (given (record { at = first.end; line = l; end = length s }))
    inner_picked {l} m =
        let w = inner_there t (inner_is ∙ z) in
        (w.1, w.2, record { info = Some w.0; es = []; stands = field_stands; line = m; after = end_stands s; high = omega arith; short = f.short })

-- ── a type up to its end

module _ {s : Bytes} {at : ℕ} {i : Option Info} {t : ArrowDataType} {es : List Entry} (f : TypeAt s at level_limit false i t es) {l : FieldLine} (k : FieldLineAt s at l) {e : Bool} (ext : e ≡ eqb l.kind Kind.Extension) where
  pub below_there : HasTrees fields s l.end l.children
  below_there = line_row l k ((i, t), es, f.stands)

  module _ (r : Option ℕ) (h : SkipsRow s l.end l.children e level_limit (found too_deep r)) where
    told : (q : Option ℕ) → r ≡ q → SkipsRow s l.end l.children e level_limit (found too_deep q)
    told q z = subst (λ (x : Option ℕ). SkipsRow s l.end l.children e level_limit (found too_deep x)) z h

    pub whole_deep : r ≡ None → ⊥
    whole_deep z =
        let w = row_below_lem f k ext refl in
        omega (arith, (told None z).1 (type_below t) es w.stands w.counted, w.deep)

    pub whole_picked : (end : ℕ) → r ≡ Some end → PickedAt s (record { at = at; line = l; end = end }) t
    whole_picked end z =
        let w = row_below_lem f k ext refl in
        let d = told (Some end) z (type_below t) es w.stands w.counted in
        record { info = i; es = es; stands = f.stands; line = k; after = d.1; high = d.3; short = f.short }

-- ── one of the types of a row

child_there : (k : ℕ) (us : List Entry) → k < length us → (t : ArrowDataType) × (child_of k us ≡ given t)
child_there k [] h = absurd (omega arith)
child_there zero (u ∷ us) h = (u.1, refl)
child_there (suc k) (u ∷ us) h = child_there k us (omega arith)

-- the types before it, the type, and those after it
record Nth (us : List Entry) (index : ℕ) : Type 0 where
  before : List Entry
  info : Option Info
  type : ArrowDataType
  others : List Entry
  split : us ≡ before ++ ((info, type) ∷ others)
  count : length before ≡ index
  is : child_of index us ≡ given type

nth : (us : List Entry) (index : ℕ) → index < length us → Nth us index
nth us index h =
    let c = child_there index us h in
    let d = child_stands index us c.0 c.1 in
    record { before = d.0; info = d.1; type = c.0; others = d.2; split = d.3; count = d.4; is = c.1 }

module _ {s : Bytes} {at count : ℕ} {us es : List Entry} (there : RowAt s at count level_limit false us es) (index : ℕ) (less : index < count) where
  it : Nth us index
  it = nth us index (omega (arith, there.counted))

  split_stands : Standing fields (drop at s) (it.before ++ ((it.info, it.type) ∷ (it.others ++ es)))
  split_stands =
      subst (λ (xs : List Entry). Standing fields (drop at s) xs) (ap (λ (xs : List Entry). xs ++ es) it.split ∙ append_assoc it.before ((it.info, it.type) ∷ it.others) es) there.stands

  split_deep : max (tallest (entry_levels false) it.before) (tallest (entry_levels false) ((it.info, it.type) ∷ it.others)) ≤ level_limit
  split_deep =
      subst (λ (n : ℕ). n ≤ level_limit) (ap (tallest (entry_levels false)) it.split ∙ tallest_append (entry_levels false) it.before ((it.info, it.type) ∷ it.others)) there.deep

  pub before_there : HasTrees fields s at index
  before_there = (it.before, (it.info, it.type) ∷ (it.others ++ es), split_stands, it.count, there.within)

  module _ (r : Option ℕ) (h : SkipsRow s at index false level_limit (found too_deep r)) where
    nth_told : (q : Option ℕ) → r ≡ q → SkipsRow s at index false level_limit (found too_deep q)
    nth_told q z = subst (λ (x : Option ℕ). SkipsRow s at index false level_limit (found too_deep x)) z h

    pub nth_deep : r ≡ None → ⊥
    nth_deep z = omega (arith, (nth_told None z).1 it.before ((it.info, it.type) ∷ (it.others ++ es)) split_stands it.count, split_deep)

    module _ (next : ℕ) (z : r ≡ Some next) where
      nth_at : TypeAt s next level_limit false it.info it.type (it.others ++ es)
      nth_at =
          let d = nth_told (Some next) z it.before ((it.info, it.type) ∷ (it.others ++ es)) split_stands it.count in
          record { stands = d.1; deep = omega (arith, split_deep, tallest_cons false (it.info, it.type) it.others); short = there.short }

      pub nth_there : HasType s next level_limit false
      nth_there = (it.info, it.type, it.others ++ es, nth_at)

      pub nth_picked : (p : Answer PickedType) → WholeTold s next p → PickTold s (child_of index us) p
      nth_picked p w = subst (λ (a : Answer ArrowDataType). PickTold s a p) (sym it.is) (w it.info it.type (it.others ++ es) nth_at)

-- ── the type of a field of the type in all extensions

storage_child : (t : ArrowDataType) (k : ℕ) → get_child k t ≡ cond (has_fields (type_nesting (to_storage t))) (child_of k (type_below (to_storage t))) (refused undefined_mapping)
storage_child (scalar s) k = refl
storage_child (nested list j t) k = type_child (nested list j t) k
storage_child (nested large_list j t) k = type_child (nested large_list j t) k
storage_child (nested (fixed_size_list n) j t) k = type_child (nested (fixed_size_list n) j t) k
storage_child (nested (map sorted) j t) k = type_child (nested (map sorted) j t) k
storage_child (grouped g fs) k = type_child (grouped g fs) k
storage_child (dictionary ix ordered t) k = refl
storage_child (extension n m t) k = storage_child t k

module _ {s : Bytes} {at : ℕ} (r : StorageLine) (told : StorageTold s (record { at = at; levels = level_limit; inside = false }) r) {n : Nesting} (e : n ≡ kind_nesting r.line.kind) {b : Bool} (h : b ≡ has_fields n)
    {i : Option Info} {t : ArrowDataType} (f : FieldAt s at i t) (index : ℕ) where
  fields_is : has_fields (type_nesting (to_storage t)) ≡ b
  fields_is = let w = told i t [] f in ap has_fields (sym (line_nesting w.type.stands w.line e)) ∙ sym h

  child_is : (c : Bool) → b ≡ c → get_child index t ≡ cond c (child_of index (type_below (to_storage t))) (refused undefined_mapping)
  child_is c z = storage_child t index ∙ ap (λ (d : Bool). cond d (child_of index (type_below (to_storage t))) (refused undefined_mapping)) (fields_is ∙ z)

  pub child_undefined : b ≡ false → PickTold s (get_child index t) (refused undefined_mapping)
  child_undefined z = child_is false z

  pub fields_there : RowAt s r.line.end r.line.children level_limit false (type_below (to_storage t)) []
  fields_there =
      let w = row (record { at = at; levels = level_limit; inside = false }) f (told i t [] f) in
      record { stands = w.stands; counted = w.counted; deep = omega (arith, w.deep); within = w.within; short = w.short }

  module _ (z : b ≡ true) where
    pub child_missing : r.line.children ≤ index → PickTold s (get_child index t) (refused undefined_mapping)
    child_missing l = child_is true z ∙ child_absent index (type_below (to_storage t)) (omega (arith, fields_there.counted))

    pub child_picked : (index < r.line.children) → (p : Answer PickedType) → NthTold s r.line.end index p → PickTold s (get_child index t) p
    child_picked l p w = subst (λ (a : Answer ArrowDataType). PickTold s a p) (sym (child_is true z)) (w r.line.children (type_below (to_storage t)) [] fields_there l)
