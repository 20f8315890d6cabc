-- The mappings line by line (specs/MappingSteps) give the lines of their answers, or 15: by cases of the type. Assumes nothing.
use mathlib.Core.Path.{◌≡◌, refl, sym, ◌∙◌, ap}
use mathlib.Core.Bool.{Bool, true, false, cond}
use mathlib.Core.List.{List, [], ◌∷◌, ◌++◌, append-nil}
use Rattle.std.specs.Prelude.{Option, None, Some}
use Prim.Native.Nat.{ℕ, zero, suc, ◌≤◌}
use native.Mathlib.Omega.{arith}
use lib.ListN.{length}
use borrow.Author.Tests.{ne_eqb}
use Rattle.sheets.specs.Refusal.{undefined_mapping}
use Rattle.sheets.specs.Bytes.{Bytes}
use Rattle.sheets.specs.Answer.{Answer, refused, given, ◌>>=◌}
use Rattle.sheets.specs.Sheet.{write_sheet}
use Rattle.sheets.specs.Field.{Info, ArrowDataType, scalar, nested, grouped, dictionary, extension, Fields, nil, add, count_fields}
use Rattle.sheets.specs.FieldSheet.{Entry, of_nesting, of_grouping, of_dictionary, type_lines, fields_lines, field_heading, read_field_sheet, write_bare_sheet}
use Rattle.sheets.specs.FieldTrees.{Head, push_fields}
use Rattle.sheets.specs.Plain.{index_type}
use Rattle.sheets.specs.Mappings.{to_storage, to_storage_recursive, fields_storage, underlying_physical_type, fields_underlying, inner_dtype, get_child, type_at, is_map, is_union, unless}
use Rattle.sheets.specs.Outcome.{mapped, picked}
use Rattle.sheets.specs.Walk.{head_with, head_text, visit, skip, Step, writes, type_walk, fields_walk, sheet_walk}
use Rattle.sheets.specs.Walk.{line_written as step_written}
use Rattle.sheets.specs.MappingSteps.{Borne, info_borne, own_written, to_storage_step, Change, storage_change, underlying_change, dictionary_step, change_step, inner_dtype_step, child_of, children_at}
use Rattle.sheets.proofs.Tests.{chained, chain_same, not_given, same_given}
use Rattle.sheets.proofs.WalkLaws.{nothing_own, sheet_walked}

-- ── `to_storage`

pub type_storage : (t : ArrowDataType) (i : Option Info) (b : Borne) → type_walk to_storage_step t i b ≡ given (type_lines (to_storage t) (info_borne b i))
type_storage (scalar s) i b = refl
type_storage (nested n j t) i b = refl
type_storage (grouped g fs) i b = refl
type_storage (dictionary ix ordered t) i b = refl
type_storage (extension n m t) i b = rw (type_storage t None (Some (info_borne b i)))

-- ── the two that change a type below its first line too

-- by a change: what both are
abbrev mutual
  pub changed : Change → ArrowDataType → Answer ArrowDataType
  changed c (scalar s) = c.of_scalars s
  changed c (nested n i t) = unless (is_map n) (changed c t >>= λ u. given (nested n i u))
  changed c (grouped g fs) = unless (is_union g) (all_changed c fs >>= λ us. given (grouped g us))
  changed c (dictionary ix ordered t) = cond c.values (changed c t >>= λ u. given (dictionary ix ordered u)) (given (index_type ix))
  changed c (extension n m t) = changed c t

  pub all_changed : Change → Fields → Answer Fields
  all_changed c nil = given nil
  all_changed c (add i t fs) = changed c t >>= λ u. all_changed c fs >>= λ us. given (add i u us)

mutual
  pub storage_changed : (t : ArrowDataType) → changed storage_change t ≡ to_storage_recursive t
  storage_changed (scalar s) = refl
  storage_changed (nested n i t) = rw (storage_changed t)
  storage_changed (grouped g fs) = rw (all_storage fs)
  storage_changed (dictionary ix ordered t) = rw (storage_changed t)
  storage_changed (extension n m t) = storage_changed t

  all_storage : (fs : Fields) → all_changed storage_change fs ≡ fields_storage fs
  all_storage nil = refl
  all_storage (add i t fs) = rw (storage_changed t, all_storage fs)

mutual
  pub underlying_changed : (t : ArrowDataType) → changed underlying_change t ≡ underlying_physical_type t
  underlying_changed (scalar s) = refl
  underlying_changed (nested n i t) = rw (underlying_changed t)
  underlying_changed (grouped g fs) = rw (all_underlying fs)
  underlying_changed (dictionary ix ordered t) = refl
  underlying_changed (extension n m t) = underlying_changed t

  all_underlying : (fs : Fields) → all_changed underlying_change fs ≡ fields_underlying fs
  all_underlying nil = refl
  all_underlying (add i t fs) = rw (underlying_changed t, all_underlying fs)

module _ (c : Change) where
  mutual
    -- In every state, at a line with any columns: the lines of the changed type, or 15.
    pub type_changed : (t : ArrowDataType) (i : Option Info) (b : Borne) → type_walk (change_step c) t i b ≡ (changed c t >>= λ u. given (type_lines u (info_borne b i)))
    type_changed (scalar s) i b = go (c.of_scalars s)
      where
        go : (a : Answer ArrowDataType) → step_written {S = Borne} (a >>= λ u. given (writes (given (type_lines u (info_borne b i))) skip)) (λ τ. given []) [] ≡ (a >>= λ u. given (type_lines u (info_borne b i)))
        go (refused r) = refl
        go (given u) = ap given (append-nil (type_lines u (info_borne b i)))
    type_changed (nested n j t) i b = go (is_map n) (type_changed t (Some j) None)
      where
        below : (a : Answer ArrowDataType) → ((a >>= λ u. given (type_lines u (Some j))) >>= λ x. given (head_text (head_with (of_nesting n) (info_borne b i) 1) ∷ x)) ≡ ((a >>= λ u. given (nested n j u)) >>= λ u. given (type_lines u (info_borne b i)))
        below (refused r) = refl
        below (given u) = refl

        go : (m : Bool) → type_walk (change_step c) t (Some j) None ≡ (changed c t >>= λ u. given (type_lines u (Some j)))
            → step_written {S = Borne} (unless m (given (writes (own_written (of_nesting n) (info_borne b i) 1) (visit None)))) (λ τ. type_walk (change_step c) t (Some j) τ) (type_lines t (Some j)) ≡ (unless m (changed c t >>= λ u. given (nested n j u)) >>= λ u. given (type_lines u (info_borne b i)))
        go true next = refl
        go false next = ap (λ (a : Answer (List Bytes)). a >>= λ x. given (head_text (head_with (of_nesting n) (info_borne b i) 1) ∷ x)) next ∙ below (changed c t)
    type_changed (grouped g fs) i b = go (is_union g) (λ h k same. fields_changed fs h k same)
      where
        go : (m : Bool) → ((h : Fields → Answer (List Bytes)) (k : List Bytes → Answer (List Bytes)) → ((us : Fields) → count_fields us ≡ count_fields fs → h us ≡ k (fields_lines us)) → (fields_walk (change_step c) fs None >>= k) ≡ (all_changed c fs >>= h))
            → step_written {S = Borne} (unless m (given (writes (own_written (of_grouping g) (info_borne b i) (count_fields fs)) (visit None)))) (λ τ. fields_walk (change_step c) fs τ) (fields_lines fs) ≡ (unless m (all_changed c fs >>= λ us. given (grouped g us)) >>= λ u. given (type_lines u (info_borne b i)))
        go true next = refl
        go false next =
            next (λ us. given (type_lines (grouped g us) (info_borne b i))) (λ x. given (head_text (head_with (of_grouping g) (info_borne b i) (count_fields fs)) ∷ x))
            (λ us e. ap (λ m. given (head_text (head_with (of_grouping g) (info_borne b i) m) ∷ fields_lines us)) e)
            ∙ sym (chained (all_changed c fs) (λ us. given (grouped g us)) (λ u. given (type_lines u (info_borne b i))))
    type_changed (dictionary ix ordered t) i b = go c.values (type_changed t None None)
      where
        below : (a : Answer ArrowDataType) → ((a >>= λ u. given (type_lines u None)) >>= λ x. given (head_text (head_with (of_dictionary ix ordered) (info_borne b i) 1) ∷ x)) ≡ ((a >>= λ u. given (dictionary ix ordered u)) >>= λ u. given (type_lines u (info_borne b i)))
        below (refused r) = refl
        below (given u) = refl

        go : (v : Bool) → type_walk (change_step c) t None None ≡ (changed c t >>= λ u. given (type_lines u None))
            → step_written {S = Borne} (given (dictionary_step v ix ordered (info_borne b i))) (λ τ. type_walk (change_step c) t None τ) (type_lines t None) ≡ (cond v (changed c t >>= λ u. given (dictionary ix ordered u)) (given (index_type ix)) >>= λ u. given (type_lines u (info_borne b i)))
        go true next = ap (λ (a : Answer (List Bytes)). a >>= λ x. given (head_text (head_with (of_dictionary ix ordered) (info_borne b i) 1) ∷ x)) next ∙ below (changed c t)
        go false next = refl
    type_changed (extension n m t) i b = nothing_own (type_walk (change_step c) t None (Some (info_borne b i))) ∙ type_changed t None (Some (info_borne b i))

    fields_changed : (fs : Fields) (h : Fields → Answer (List Bytes)) (k : List Bytes → Answer (List Bytes)) → ((us : Fields) → count_fields us ≡ count_fields fs → h us ≡ k (fields_lines us))
        → (fields_walk (change_step c) fs None >>= k) ≡ (all_changed c fs >>= h)
    fields_changed nil h k same = sym (same nil refl)
    fields_changed (add i t fs) h k same =
        ap (λ (m : Answer (List Bytes)). (m >>= λ a. fields_walk (change_step c) fs None >>= λ x. given (a ++ x)) >>= k) (type_changed t (Some i) None)
        ∙ first (changed c t) (λ h k same. fields_changed fs h k same)
      where
        first : (a : Answer ArrowDataType) → ((h : Fields → Answer (List Bytes)) (k : List Bytes → Answer (List Bytes)) → ((us : Fields) → count_fields us ≡ count_fields fs → h us ≡ k (fields_lines us)) → (fields_walk (change_step c) fs None >>= k) ≡ (all_changed c fs >>= h))
            → (((a >>= λ u. given (type_lines u (Some i))) >>= λ y. fields_walk (change_step c) fs None >>= λ x. given (y ++ x)) >>= k) ≡ ((a >>= λ u. all_changed c fs >>= λ us. given (add i u us)) >>= h)
        first (refused r) next = refl
        first (given u) next =
            chained (fields_walk (change_step c) fs None) (λ x. given (type_lines u (Some i) ++ x)) k
            ∙ next (λ us. h (add i u us)) (λ x. k (type_lines u (Some i) ++ x)) (λ us e. same (add i u us) (ap suc e))
            ∙ sym (chained (all_changed c fs) (λ us. given (add i u us)) h)

-- `to_storage_recursive`
pub type_recursive : (t : ArrowDataType) (i : Option Info) (b : Borne) → type_walk (change_step storage_change) t i b ≡ (to_storage_recursive t >>= λ u. given (type_lines u (info_borne b i)))
type_recursive t i b = type_changed storage_change t i b ∙ ap (λ (a : Answer ArrowDataType). a >>= λ u. given (type_lines u (info_borne b i))) (storage_changed t)

-- `underlying_physical_type`
pub type_underlying : (t : ArrowDataType) (i : Option Info) (b : Borne) → type_walk (change_step underlying_change) t i b ≡ (underlying_physical_type t >>= λ u. given (type_lines u (info_borne b i)))
type_underlying t i b = type_changed underlying_change t i b ∙ ap (λ (a : Answer ArrowDataType). a >>= λ u. given (type_lines u (info_borne b i))) (underlying_changed t)

-- ── `inner_dtype`

pub inner_bare : (t : ArrowDataType) (i : Option Info) → type_walk inner_dtype_step t i false ≡ given (type_lines t None)
inner_bare (scalar s) i = refl
inner_bare (nested n j t) i = refl
inner_bare (grouped g fs) i = refl
inner_bare (dictionary ix ordered t) i = refl
inner_bare (extension n m t) i = refl

pub type_inner : (t : ArrowDataType) (i : Option Info) → type_walk inner_dtype_step t i true ≡ (inner_dtype t >>= λ u. given (type_lines u None))
type_inner (scalar s) i = refl
type_inner (nested n j t) i = go (is_map n)
  where
    go : (m : Bool) → step_written {S = Bool} (unless m (given (writes (given []) (visit false)))) (λ τ. type_walk inner_dtype_step t (Some j) τ) (type_lines t (Some j)) ≡ (unless m (given t) >>= λ u. given (type_lines u None))
    go true = refl
    go false = ap (λ (a : Answer (List Bytes)). a >>= λ x. given ([] ++ x)) (inner_bare t (Some j))
type_inner (grouped g fs) i = refl
type_inner (dictionary ix ordered t) i = refl
type_inner (extension n m t) i = refl

-- ── `get_child`

child_at : (fs : Fields) (k : ℕ) → type_at fs k ≡ child_of k (push_fields fs [])
child_at nil k = refl
child_at (add i t fs) zero = refl
child_at (add i t fs) (suc k) = child_at fs k

-- the child is the type of one of the subtrees below the first line that is no extension's
pub type_child : (t : ArrowDataType) (k : ℕ) → get_child k t ≡ child_of k (children_at t)
type_child (scalar s) k = refl
type_child (nested n j t) zero = refl
type_child (nested n j t) (suc k) = rw (ne_eqb (suc k) 0 (omega arith))
type_child (grouped g fs) k = child_at fs k
type_child (dictionary ix ordered t) k = refl
type_child (extension n m t) k = type_child t k

-- so many subtrees skipped, it stands next
pub child_stands : (k : ℕ) (us : List Entry) (t : ArrowDataType) → child_of k us ≡ given t → (before : List Entry) × (i : Option Info) × (others : List Entry) × (us ≡ before ++ ((i, t) ∷ others)) × (length before ≡ k)
child_stands k [] t e = not_given e
child_stands zero ((i, u) ∷ us) t e = ([], i, us, ap (λ (v : ArrowDataType). (i, v) ∷ us) (same_given e), refl)
child_stands (suc k) (x ∷ us) t e =
    let r = child_stands k us t e in
    (x ∷ r.0, r.1, r.2, ap (λ (l : List Entry). x ∷ l) r.3, ap suc r.4)

-- "no such child": there are not so many
pub child_absent : (k : ℕ) (us : List Entry) → length us ≤ k → child_of k us ≡ refused undefined_mapping
child_absent k [] h = refl
child_absent zero (x ∷ us) h = absurd (omega arith)
child_absent (suc k) (x ∷ us) h = child_absent k us (omega arith)

-- ── sheets, with the heading

pub sheet_storage : (b : Bytes) → mapped (λ t. given (to_storage t)) b ≡ sheet_walk to_storage_step None field_heading b
sheet_storage b = sheet_walked to_storage_step None field_heading b (λ f. given (type_lines (to_storage f.type) (Some f.info))) (λ f. type_storage f.type (Some f.info) None)

-- what a change answers, and what a choice answers
sheet_mapped : {S : Type 0} (step : S → Head → Answer (Step S)) (σ : S) (change : ArrowDataType → Answer ArrowDataType) → ((t : ArrowDataType) (i : Info) → type_walk step t (Some i) σ ≡ (change t >>= λ u. given (type_lines u (Some i))))
    → (b : Bytes) → mapped change b ≡ sheet_walk step σ field_heading b
sheet_mapped step σ change h b =
    chain_same (read_field_sheet b) (read_field_sheet b) (λ f. change f.type >>= λ t. given (write_sheet field_heading (type_lines t (Some f.info)))) (λ f. (change f.type >>= λ u. given (type_lines u (Some f.info))) >>= λ ls. given (write_sheet field_heading ls)) refl
    (λ f. sym (chained (change f.type) (λ u. given (type_lines u (Some f.info))) (λ ls. given (write_sheet field_heading ls))))
    ∙ sheet_walked step σ field_heading b (λ f. change f.type >>= λ u. given (type_lines u (Some f.info))) (λ f. h f.type f.info)

pub sheet_recursive : (b : Bytes) → mapped to_storage_recursive b ≡ sheet_walk (change_step storage_change) None field_heading b
sheet_recursive = sheet_mapped (change_step storage_change) None to_storage_recursive (λ t i. type_recursive t (Some i) None)

pub sheet_underlying : (b : Bytes) → mapped underlying_physical_type b ≡ sheet_walk (change_step underlying_change) None field_heading b
sheet_underlying = sheet_mapped (change_step underlying_change) None underlying_physical_type (λ t i. type_underlying t (Some i) None)

picked_lines : (pick : ArrowDataType → Answer ArrowDataType) (b : Bytes) → picked pick b ≡ (read_field_sheet b >>= λ f. (pick f.type >>= λ u. given (type_lines u None)) >>= λ ls. given (write_sheet field_heading ls))
picked_lines pick b =
    chain_same (read_field_sheet b) (read_field_sheet b) (λ f. pick f.type >>= λ t. given (write_sheet field_heading (type_lines t None))) (λ f. (pick f.type >>= λ u. given (type_lines u None)) >>= λ ls. given (write_sheet field_heading ls)) refl
    (λ f. sym (chained (pick f.type) (λ u. given (type_lines u None)) (λ ls. given (write_sheet field_heading ls))))

pub sheet_inner : (b : Bytes) → picked inner_dtype b ≡ sheet_walk inner_dtype_step true field_heading b
sheet_inner b = picked_lines inner_dtype b ∙ sheet_walked inner_dtype_step true field_heading b (λ f. inner_dtype f.type >>= λ u. given (type_lines u None)) (λ f. type_inner f.type (Some f.info))

pub sheet_child : (k : ℕ) (b : Bytes) → picked (get_child k) b ≡ (read_field_sheet b >>= λ f. child_of k (children_at f.type) >>= λ t. given (write_bare_sheet t))
sheet_child k b =
    chain_same (read_field_sheet b) (read_field_sheet b) (λ f. get_child k f.type >>= λ t. given (write_bare_sheet t)) (λ f. child_of k (children_at f.type) >>= λ t. given (write_bare_sheet t)) refl
    (λ f. ap (λ (m : Answer ArrowDataType). m >>= λ t. given (write_bare_sheet t)) (type_child f.type k))
