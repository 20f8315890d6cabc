-- What becomes of a line by its kind is what becomes of its type (sheets/specs/MappingSteps): of a type that its place alone tells, by one test computed for
-- all kinds, of all others by cases. Assumes nothing.
use mathlib.Core.Path.{◌≡◌, refl, sym, ap, subst, ◌∙◌}
use mathlib.Core.Bool.{Bool, true, false, not, ◌&&◌, ◌||◌, cond}
use mathlib.Core.Logic.{inl, inr}
use mathlib.Core.List.{List, [], ◌∷◌}
use Rattle.std.specs.Prelude.{Option, None, Some}
use Prim.Native.Nat.{ℕ, ◌<◌}
use native.Mathlib.Omega.{arith}
use lib.Dec.{eqb, ltb}
use borrow.Author.Tests.{eqb-true, eq-eqb, ne_eqb, ltb-true}
use Rattle.sheets.specs.Refusal.{undefined_mapping}
use Rattle.sheets.specs.Rule.{Meets}
use Rattle.sheets.specs.Answer.{Answer, refused, given, ◌>>=◌, found}
use Rattle.sheets.specs.Kind
use Rattle.sheets.specs.IntervalUnit
use Rattle.sheets.specs.Field.{bits128, bits32, bits64, bits256, Info, Scalar, leaf, timestamp, fixed_size_binary, decimal_type, list, large_list, fixed_size_list, map, struct, union, ArrowDataType, scalar, nested, grouped, dictionary, extension, has_unit, is_leaf, leaf_rule, scalar_rule}
use Rattle.sheets.specs.FieldSheet.{Shape, of_scalar, of_nesting, of_grouping, of_dictionary, of_extension, columns, type_lines}
use Rattle.sheets.specs.FieldTrees.{is_extension, shape_rule, type_shape, type_count, type_below, entry_lines}
use Rattle.sheets.specs.Mappings.{LeafRow, row_at, leaf_rows, interval_under, leaf_under, scalar_under, to_storage}
use Rattle.sheets.specs.Walk.{Below, visit, skip, Step, writes, Walked, extensions_around, line_walked, type_walked, row_walked}
use Rattle.sheets.specs.MappingSteps.{Borne, info_borne, own_written, change_step_of, change_step}
use Rattle.sheets.specs.MappingSteps.{Change as TypeChange}
use Rattle.sheets.proofs.Tests.{never, meets, every, at_each, and_left, and_right}
use Rattle.sheets.proofs.FieldTrees.{leaf_other, leaf_small}
use Rattle.sheets.proofs.WalkLaws.{walked_opened, later, passed_own, later_walked}
use Rattle.datatypes.specs.At.{first_at}
use Rattle.datatypes.proofs.AtLaws.{Rest, nowhere}
use Rattle.storage_line.proofs.BelowLaws.{Leaves, visited, nothing}
use Rattle.mapping_line.specs.Changes.{change_of, storage_kind, interval_change, changed_kinds, row_or, underlying_kind, line_change_of}
use Rattle.mapping_line.specs.declared.change.Change.{Change}
use Rattle.mapping_line.specs.declared.change.Change.TheVariants.{Storage, Underlying}
use Rattle.mapping_line.specs.declared.change.LineChange.{LineChange}
use Rattle.mapping_line.specs.declared.change.LineChange.TheVariants.{Stays, Becomes, Undefined}

-- ── the kinds that no arm lists

abbrev pub underlying_arms : List (List ℕ)
underlying_arms =
    (Kind.Map ∷ Kind.Decimal256 ∷ Kind.Union ∷ [])
    ∷ (Kind.Dictionary ∷ [])
    ∷ (Kind.Interval ∷ [])
    ∷ (Kind.Decimal ∷ [])
    ∷ (Kind.Duration ∷ [])
    ∷ (Kind.Timestamp ∷ Kind.Date64 ∷ Kind.Time64 ∷ Kind.Decimal64 ∷ [])
    ∷ (Kind.Date32 ∷ Kind.Time32 ∷ Kind.Decimal32 ∷ [])
    ∷ []

pub interval_undefined : (u : ℕ) → (u ≡ IntervalUnit.YearMonth → ⊥) → (u ≡ IntervalUnit.DayTime → ⊥) → Undefined ≡ interval_change u
interval_undefined u a b = rw (ne_eqb u IntervalUnit.YearMonth a, ne_eqb u IntervalUnit.DayTime b)

pub storage_stays : (k : ℕ) → Rest ((Kind.Map ∷ Kind.Union ∷ []) ∷ []) k → Stays ≡ storage_kind k
storage_stays k r = rw (ne_eqb k Kind.Map (λ e. r.1 (inl e)), ne_eqb k Kind.Union (λ e. r.1 (inr e)))

pub kind_stays : (k p : ℕ) → Rest underlying_arms k → Stays ≡ underlying_kind k p
kind_stays k p r =
    let n : first_at (λ (w : ℕ × LineChange). w.0) k changed_kinds ≡ None = nowhere (λ (w : ℕ × LineChange). w.0) k underlying_arms r changed_kinds refl in
    rw (ne_eqb k Kind.Interval (λ e. r.0.0.1 e), ne_eqb k Kind.Dictionary (λ e. r.0.1 e), n)

-- ── scalars

-- what becomes of a scalar whose line is changed so
abbrev scalar_to : LineChange → Scalar → Answer ArrowDataType
scalar_to Stays s = given (scalar s)
scalar_to (Becomes k) s = given (scalar (leaf k 0))
scalar_to Undefined s = refused undefined_mapping

-- the row of a kind says what the list of changes says
abbrev agrees : ℕ → Option LeafRow → LineChange → Bool
agrees k None c = false
agrees k (Some r) Stays = eqb r.under k && not (has_unit k)
agrees k (Some r) (Becomes j) = eqb r.under j
agrees k (Some r) Undefined = false

abbrev tested : ℕ → Bool
tested k = not (is_leaf k) || (eqb k Kind.Interval || (eqb k Kind.Unknown || agrees k (row_at k leaf_rows) (row_or (first_at (λ (r : ℕ × LineChange). r.0) k changed_kinds))))

all_tested : Meets (every 42 tested)
unfolding leaf_rows
all_tested = meets (every 42 tested) refl

no_unit_lem : (k u : ℕ) → not (has_unit k) ≡ true → Meets (leaf_rule k u) → u ≡ 0
no_unit_lem k u n h = pick (has_unit k) n h.1
  where
    pick : (b : Bool) → not b ≡ true → cond b (ltb u 4) (eqb u 0) ≡ true → u ≡ 0
    pick true n h = never n
    pick false n h = eqb-true u 0 h

-- a leaf, by its row
leaf_row_lem : (k u : ℕ) (r : Option LeafRow) (c : LineChange) → agrees k r c ≡ true → Meets (leaf_rule k u)
    → (found undefined_mapping r >>= λ w. given (scalar (leaf w.under 0))) ≡ scalar_to c (leaf k u)
leaf_row_lem k u None c a h = never a
leaf_row_lem k u (Some r) Stays a h =
    let same : r.under ≡ k = eqb-true r.under k (and_left (eqb r.under k) (not (has_unit k)) a) in
    let zero : u ≡ 0 = no_unit_lem k u (and_right (eqb r.under k) (not (has_unit k)) a) h in
    λ z. given (scalar (leaf (same z) (sym zero z)))
leaf_row_lem k u (Some r) (Becomes j) a h = ap (λ (n : ℕ). given (scalar (leaf n 0))) (eqb-true r.under j a)
leaf_row_lem k u (Some r) Undefined a h = never a

interval_under_lem : (u : ℕ) (s : Scalar) → interval_under u ≡ scalar_to (interval_change u) s
interval_under_lem u s = go (eqb u 0) (eqb u 1)
  where
    go : (a b : Bool) → cond a (given (scalar (leaf Kind.Int32 0))) (cond b (given (scalar (leaf Kind.Int64 0))) (refused undefined_mapping)) ≡ scalar_to (cond a (Becomes Kind.Int32) (cond b (Becomes Kind.Int64) Undefined)) s
    go true b = refl
    go false true = refl
    go false false = refl

by_row : (a b c d : Bool) → a ≡ true → b ≡ false → c ≡ false → (not a || (b || (c || d))) ≡ true → d ≡ true
by_row true false false d p q r h = h
by_row true false true d p q r h = never (sym r)
by_row true true c d p q r h = never (sym q)
by_row false b c d p q r h = never p

leaf_under_lem : (k u : ℕ) → Meets (leaf_rule k u) → leaf_under k u ≡ scalar_to (underlying_kind k u) (leaf k u)
leaf_under_lem k u h = pick (eqb k Kind.Interval) (eqb k Kind.Unknown) refl refl
  where
    unknown : (u : ℕ) → u ≡ 0 → leaf_under Kind.Unknown u ≡ scalar_to (underlying_kind Kind.Unknown u) (leaf Kind.Unknown u)
    unknown u e = ap (λ (v : ℕ). given (scalar (leaf Kind.Unknown v))) (sym e)

    pick : (a b : Bool) → eqb k Kind.Interval ≡ a → eqb k Kind.Unknown ≡ b → leaf_under k u ≡ scalar_to (underlying_kind k u) (leaf k u)
    pick true b e f = rw e (interval_under_lem u (leaf k u))
    pick false true e f =
        let same : k ≡ Kind.Unknown = eqb-true k Kind.Unknown f in
        subst (λ (n : ℕ). leaf_under n u ≡ scalar_to (underlying_kind n u) (leaf n u)) (sym same) (unknown u (no_unit_lem Kind.Unknown u refl (subst (λ (n : ℕ). Meets (leaf_rule n u)) same h)))
    pick false false e f =
        let c = row_or (first_at (λ (r : ℕ × LineChange). r.0) k changed_kinds) in
        rw (e, f, leaf_other k Kind.Dictionary h.0 refl)
        (leaf_row_lem k u (row_at k leaf_rows) c (by_row (is_leaf k) (eqb k Kind.Interval) (eqb k Kind.Unknown) (agrees k (row_at k leaf_rows) c) h.0 e f (at_each 42 tested all_tested k (omega (arith, leaf_small k h.0)))) h)

-- a leaf that is its own underlying type
pub stays_under : (k : ℕ) → Meets (leaf_rule k 0) → underlying_kind k 0 ≡ Stays → leaf_under k 0 ≡ given (scalar (leaf k 0))
stays_under k h e = leaf_under_lem k 0 h ∙ ap (λ (c : LineChange). scalar_to c (leaf k 0)) e

scalar_under_lem : (s : Scalar) → Meets (scalar_rule s) → scalar_under s ≡ scalar_to (underlying_kind (columns (of_scalar s)).kind (columns (of_scalar s)).p) s
scalar_under_lem (leaf k u) h = leaf_under_lem k u h
scalar_under_lem (timestamp u zone) h = refl
scalar_under_lem (fixed_size_binary n) h = refl
scalar_under_lem (decimal_type bits128 p q) h = refl
scalar_under_lem (decimal_type bits32 p q) h = refl
scalar_under_lem (decimal_type bits64 p q) h = refl
scalar_under_lem (decimal_type bits256 p q) h = refl

scalar_stays : (s : Scalar) → Meets (scalar_rule s) → storage_kind (columns (of_scalar s)).kind ≡ Stays
scalar_stays (leaf k u) h = rw (leaf_other k Kind.Map h.0 refl, leaf_other k Kind.Union h.0 refl)
scalar_stays (timestamp u zone) h = refl
scalar_stays (fixed_size_binary n) h = refl
scalar_stays (decimal_type bits128 p q) h = refl
scalar_stays (decimal_type bits32 p q) h = refl
scalar_stays (decimal_type bits64 p q) h = refl
scalar_stays (decimal_type bits256 p q) h = refl

-- ── the step of a type that is no extension, by what becomes of its line

abbrev step_of : Change → ArrowDataType → Option Info → Answer (Step Borne)
step_of c v i = change_step_of (change_of c) (type_shape v) (type_count v) i

abbrev pub Becoming : Change → ArrowDataType → Option Info → LineChange → Type 0
Becoming c v i Stays = (below : Below Borne) × (step_of c v i ≡ given (writes (own_written (type_shape v) i (type_count v)) below)) × Leaves {S = Borne} None (type_below v) below false
Becoming c v i (Becomes k) = step_of c v i ≡ given (writes (own_written (of_scalar (leaf k 0)) i 0) skip)
Becoming c v i Undefined = step_of c v i ≡ refused undefined_mapping

module _ (i : Option Info) where
  under : (s : Scalar) (c : LineChange) → scalar_under s ≡ scalar_to c s → Becoming Underlying (scalar s) i c
  under s Stays e = (skip, ap (λ (a : Answer ArrowDataType). a >>= λ u. given (writes (given (type_lines u i)) skip)) e, nothing refl refl refl)
  under s (Becomes k) e = ap (λ (a : Answer ArrowDataType). a >>= λ u. given (writes (given (type_lines u i)) skip)) e
  under s Undefined e = ap (λ (a : Answer ArrowDataType). a >>= λ u. given (writes (given (type_lines u i)) skip)) e

  pub becoming : (c : Change) (v : ArrowDataType) → is_extension (type_shape v) ≡ false → Meets (shape_rule (type_shape v)) → Becoming c v i (line_change_of c (columns (type_shape v)).kind (columns (type_shape v)).p)
  becoming Storage (scalar s) e h = subst (Becoming Storage (scalar s) i) (sym (scalar_stays s h)) (skip, refl, nothing refl refl refl)
  becoming Storage (nested list j v) e h = (visit None, refl, visited refl refl)
  becoming Storage (nested large_list j v) e h = (visit None, refl, visited refl refl)
  becoming Storage (nested (fixed_size_list n) j v) e h = (visit None, refl, visited refl refl)
  becoming Storage (nested (map sorted) j v) e h = refl
  becoming Storage (grouped struct fs) e h = (visit None, refl, visited refl refl)
  becoming Storage (grouped (union mode ids) fs) e h = refl
  becoming Storage (dictionary ix ordered v) e h = (visit None, refl, visited refl refl)
  becoming Storage (extension n m v) e h = never (sym e)
  becoming Underlying (scalar s) e h = under s (underlying_kind (columns (of_scalar s)).kind (columns (of_scalar s)).p) (scalar_under_lem s h)
  becoming Underlying (nested list j v) e h = (visit None, refl, visited refl refl)
  becoming Underlying (nested large_list j v) e h = (visit None, refl, visited refl refl)
  becoming Underlying (nested (fixed_size_list n) j v) e h = (visit None, refl, visited refl refl)
  becoming Underlying (nested (map sorted) j v) e h = refl
  becoming Underlying (grouped struct fs) e h = (visit None, refl, visited refl refl)
  becoming Underlying (grouped (union mode ids) fs) e h = refl
  becoming Underlying (dictionary ix ordered v) e h = refl
  becoming Underlying (extension n m v) e h = never (sym e)

-- an index type is one of ten
pub index_small : (sh : Shape) → Meets (shape_rule sh) → (columns sh).kind ≡ Kind.Dictionary → (columns sh).p < 10
index_small (of_scalar (leaf k u)) h e = never (sym (leaf_other k Kind.Dictionary h.0 refl) ∙ eq-eqb k Kind.Dictionary e)
index_small (of_scalar (timestamp u zone)) h e = absurd (omega arith)
index_small (of_scalar (fixed_size_binary n)) h e = absurd (omega arith)
index_small (of_scalar (decimal_type bits128 p q)) h e = absurd (omega arith)
index_small (of_scalar (decimal_type bits32 p q)) h e = absurd (omega arith)
index_small (of_scalar (decimal_type bits64 p q)) h e = absurd (omega arith)
index_small (of_scalar (decimal_type bits256 p q)) h e = absurd (omega arith)
index_small (of_nesting list) h e = absurd (omega arith)
index_small (of_nesting large_list) h e = absurd (omega arith)
index_small (of_nesting (fixed_size_list n)) h e = absurd (omega arith)
index_small (of_nesting (map sorted)) h e = absurd (omega arith)
index_small (of_grouping struct) h e = absurd (omega arith)
index_small (of_grouping (union mode ids)) h e = absurd (omega arith)
index_small (of_dictionary ix ordered) h e = ltb-true ix 10 h
index_small (of_extension a m) h e = absurd (omega arith)

-- ── the walk of a field, the extensions around its type passed

module _ (c : TypeChange) where
  -- a line, after so many extensions, with the row below the type in all of them
  abbrev inside : ArrowDataType → Answer (Step Borne) → Walked
  inside t a = line_walked (extensions_around t) a (λ τ. row_walked (change_step c) (type_below (to_storage t)) τ) (entry_lines (type_below (to_storage t)))

  borne_opened : (t : ArrowDataType) (i : Option Info) (b : Borne) → type_walked (change_step c) t i b ≡ inside t (change_step_of c (type_shape (to_storage t)) (type_count (to_storage t)) (info_borne b i))
  borne_opened (scalar s) i b = walked_opened (change_step c) (scalar s) i b
  borne_opened (nested n j t) i b = walked_opened (change_step c) (nested n j t) i b
  borne_opened (grouped g fs) i b = walked_opened (change_step c) (grouped g fs) i b
  borne_opened (dictionary ix ordered t) i b = walked_opened (change_step c) (dictionary ix ordered t) i b
  borne_opened (extension n m t) i b =
      passed_own (type_walked (change_step c) t None (Some (info_borne b i)))
      ∙ ap later (borne_opened t None (Some (info_borne b i)))
      ∙ later_walked (extensions_around t) (change_step_of c (type_shape (to_storage t)) (type_count (to_storage t)) (info_borne b i)) (λ τ. row_walked (change_step c) (type_below (to_storage t)) τ) (entry_lines (type_below (to_storage t)))

  -- with the columns of the field's first line
  pub change_opened : (t : ArrowDataType) (i : Option Info) (a : Answer (Step Borne)) → change_step_of c (type_shape (to_storage t)) (type_count (to_storage t)) i ≡ a → type_walked (change_step c) t i None ≡ inside t a
  change_opened t i a e = borne_opened t i None ∙ ap (inside t) e
