-- The walk of a field sheet (specs/Walk) by one line and the row of subtrees below it, for code that walks the lines of entries that stand at a place
-- (FieldTrees): the lines, what a walk writes, the levels, and the number that falls at each call. By cases of the type; each law holds for every step
-- and state. Assumes nothing.
use mathlib.Core.Path.{◌≡◌, refl, sym, ◌∙◌, ap}
use mathlib.Core.Bool.{Bool, true, false}
use mathlib.Core.List.{List, [], ◌∷◌, ◌++◌, append-nil, append_assoc}
use Rattle.std.specs.Prelude.{Option, None, Some}
use Prim.Native.Nat.{ℕ, suc, ◌+◌, ◌-◌, ◌≤◌, ◌<◌}
use native.Mathlib.Omega.{arith}
use lib.ListN.{drop}
use Rattle.sheets.specs.Bytes.{Bytes}
use Rattle.sheets.specs.Answer.{Answer, refused, given, ◌>>=◌}
use Rattle.sheets.specs.Sheet.{ended, write_sheet}
use Rattle.sheets.specs.Field.{Info, Scalar, ArrowDataType, scalar, nested, grouped, dictionary, extension, Fields, nil, add, Field, type_levels}
use Rattle.sheets.specs.FieldSheet.{Entry, Shape, of_scalar, field_line, columns_of, own_of, children_of, read_shape, read_info, type_lines, fields_lines, read_field_sheet}
use Rattle.sheets.specs.LineTrees.{tallest, Standing}
use Rattle.sheets.specs.FieldTrees.{Head, read_head, is_extension, line_cost, push_fields, type_shape, type_below, entry_head, entry_levels, entry_lines, fields}
use Rattle.sheets.specs.Walk.{head_with, head_text, levels_below, line_measure, row_measure, Below, visit, copy, skip, Step, below_written, line_written, type_walk, fields_walk, row_walk, sheet_walk}
use Rattle.sheets.specs.Walk.{Walked, below_visits, line_visits, line_walked, type_visits, fields_visits, row_visits, type_walked, row_walked}
use Rattle.sheets.proofs.Tests.{first_gave, same_given, chain_same, not_given}
use Rattle.sheets.proofs.SheetLaws.{ended_append}
use Rattle.sheets.proofs.FieldSheetLaws.{fields_lines_lem, field_line_read, line_parts, shape_read, info_read}
use Rattle.sheets.proofs.FieldTrees.{fields_lawful, standing_lines}

-- ── lines

fields_row : (fs : Fields) → entry_lines (push_fields fs []) ≡ fields_lines fs
fields_row fs = fields_lines_lem fs [] ∙ append-nil (fields_lines fs)

-- a type's lines: its first, then those of the row below
pub lines_opened : (t : ArrowDataType) (i : Option Info) → type_lines t i ≡ head_text (entry_head (i, t)) ∷ entry_lines (type_below t)
lines_opened (scalar s) i = refl
lines_opened (nested n j t) i = ap (λ l. head_text (entry_head (i, nested n j t)) ∷ l) (sym (append-nil (type_lines t (Some j))))
lines_opened (grouped g fs) i = ap (λ l. head_text (entry_head (i, grouped g fs)) ∷ l) (sym (fields_row fs))
lines_opened (dictionary ix ordered t) i = ap (λ l. head_text (entry_head (i, dictionary ix ordered t)) ∷ l) (sym (append-nil (type_lines t None)))
lines_opened (extension n m t) i = ap (λ l. head_text (entry_head (i, extension n m t)) ∷ l) (sym (append-nil (type_lines t None)))

-- a line that reads has one text
pub head_text_lem : (b : Bytes) (x : Head) → read_head b ≡ given x → head_text x ≡ b
head_text_lem b x e =
    let l = first_gave (field_line.read b) (λ l. read_shape (columns_of l) >>= λ s. read_info (own_of l) >>= λ i. given (record { shape = s; info = i; children = children_of l })) x e in
    let s = first_gave (read_shape (columns_of l.0)) (λ s. read_info (own_of l.0) >>= λ i. given (record { shape = s; info = i; children = children_of l.0 })) x l.2 in
    let i = first_gave (read_info (own_of l.0)) (λ i. given (record { shape = s.0; info = i; children = children_of l.0 })) x s.2 in
    ap head_text (sym (same_given i.2))
    ∙ ap field_line.write (line_parts l.0 s.0 i.0 (shape_read (columns_of l.0) s.0 s.1) (info_read (own_of l.0) i.0 i.1))
    ∙ field_line_read b l.0 l.1

append_lines : (us es : List Entry) → entry_lines (us ++ es) ≡ entry_lines us ++ entry_lines es
append_lines [] es = refl
append_lines (u ∷ us) es = rw (append_lines us es) (sym (append_assoc (type_lines u.1 u.0) (entry_lines us) (entry_lines es)))

-- a row as it stands: its bytes are those of its lines
pub row_bytes : (s : Bytes) (from next : ℕ) (us es : List Entry) → Standing fields (drop from s) (us ++ es) → Standing fields (drop next s) es → drop from s ≡ ended (entry_lines us) ++ drop next s
row_bytes s from next us es h k =
    ((standing_lines (drop from s) (us ++ es)).0 h).0 ∙ ap ended (append_lines us es) ∙ ended_append (entry_lines us) (entry_lines es)
    ∙ ap (λ (b : Bytes). ended (entry_lines us) ++ b) (sym ((standing_lines (drop next s) es).0 k).0)

-- ── what is written

-- what is visited alike, and copied alike, is written alike
written_same : {S : Type 0} (a : Answer (Step S)) (v w : S → Answer (List Bytes)) (ls ks : List Bytes) → ((σ : S) → v σ ≡ w σ) → ls ≡ ks → line_written a v ls ≡ line_written a w ks
written_same (refused r) v w ls ks h e = refl
written_same {S} (given p) v w ls ks h e = ap (λ (m : Answer (List Bytes)). m >>= λ b. p.own >>= λ o. given (o ++ b)) (go p.below)
  where
    go : (x : Below S) → below_written x v ls ≡ below_written x w ks
    go (visit σ) = h σ
    go copy = ap given e
    go skip = refl

visits_same : {S : Type 0} (a : Answer (Step S)) (v w : S → ℕ) → ((σ : S) → v σ ≡ w σ) → line_visits a v ≡ line_visits a w
visits_same (refused r) v w h = refl
visits_same {S} (given p) v w h = ap suc (go p.below)
  where
    go : (x : Below S) → below_visits x v ≡ below_visits x w
    go (visit σ) = h σ
    go copy = refl
    go skip = refl

-- a line that writes nothing of its own
pub nothing_own : (a : Answer (List Bytes)) → (a >>= λ b. given ([] ++ b)) ≡ a
nothing_own (refused r) = refl
nothing_own (given b) = refl

-- a line that writes nothing of its own, and counts
abbrev pub later : Walked → Walked
later w = (w.0, suc w.1)

pub passed_own : (w : Walked) → ◌≡◌ {A = Walked} (w.0 >>= λ b. given ([] ++ b), suc w.1) (later w)
passed_own w = λ x. (nothing_own w.0 x, suc w.1)

pub later_walked : {S : Type 0} (n : ℕ) (a : Answer (Step S)) (visited : S → Walked) (ls : List Bytes) → later (line_walked n a visited ls) ≡ line_walked (suc n) a visited ls
later_walked n a visited ls =
    let many : suc (line_visits a (λ τ. (visited τ).1) + n) ≡ line_visits a (λ τ. (visited τ).1) + suc n = omega arith in
    λ x. (line_written a (λ τ. (visited τ).0) ls, many x)

one_written : (a : Answer (List Bytes)) → a ≡ (a >>= λ x. given (x ++ []))
one_written (refused r) = refl
one_written (given x) = ap given (sym (append-nil x))

module _ {S : Type 0} (step : S → Head → Answer (Step S)) where
  fields_written : (fs : Fields) (σ : S) → fields_walk step fs σ ≡ row_walk step (push_fields fs []) σ
  fields_written nil σ = refl
  fields_written (add i t fs) σ = ap (λ (m : Answer (List Bytes)). type_walk step t (Some i) σ >>= λ a. m >>= λ b. given (a ++ b)) (fields_written fs σ)

  one_below : (a : Answer (Step S)) (t : ArrowDataType) (i : Option Info) → line_written a (λ τ. type_walk step t i τ) (type_lines t i) ≡ line_written a (λ τ. row_walk step ((i, t) ∷ []) τ) (entry_lines ((i, t) ∷ []))
  one_below a t i = written_same a (λ τ. type_walk step t i τ) (λ τ. row_walk step ((i, t) ∷ []) τ) (type_lines t i) (type_lines t i ++ []) (λ τ. one_written (type_walk step t i τ)) (sym (append-nil (type_lines t i)))

  -- The walk of a type: its line's own, then the row below it, visited, copied or skipped, then what was pending.
  pub walk_opened : (t : ArrowDataType) (i : Option Info) (σ : S) → type_walk step t i σ ≡ line_written (step σ (entry_head (i, t))) (λ τ. row_walk step (type_below t) τ) (entry_lines (type_below t))
  walk_opened (scalar s) i σ = refl
  walk_opened (nested n j t) i σ = one_below (step σ (entry_head (i, nested n j t))) t (Some j)
  walk_opened (grouped g fs) i σ =
      written_same (step σ (entry_head (i, grouped g fs))) (λ τ. fields_walk step fs τ) (λ τ. row_walk step (push_fields fs []) τ) (fields_lines fs) (entry_lines (push_fields fs [])) (λ τ. fields_written fs τ) (sym (fields_row fs))
  walk_opened (dictionary ix ordered t) i σ = one_below (step σ (entry_head (i, dictionary ix ordered t))) t None
  walk_opened (extension n m t) i σ = one_below (step σ (entry_head (i, extension n m t))) t None

  -- the lines that are visited, in the same way
  fields_visited : (fs : Fields) (σ : S) → fields_visits step fs σ ≡ row_visits step (push_fields fs []) σ
  fields_visited nil σ = refl
  fields_visited (add i t fs) σ = ap (λ (n : ℕ). type_visits step t (Some i) σ + n) (fields_visited fs σ)

  one_visited : (a : Answer (Step S)) (t : ArrowDataType) (i : Option Info) → line_visits a (λ τ. type_visits step t i τ) ≡ line_visits a (λ τ. row_visits step ((i, t) ∷ []) τ)
  one_visited a t i = visits_same a (λ τ. type_visits step t i τ) (λ τ. row_visits step ((i, t) ∷ []) τ) (λ τ. omega arith)

  visits_opened : (t : ArrowDataType) (i : Option Info) (σ : S) → type_visits step t i σ ≡ line_visits (step σ (entry_head (i, t))) (λ τ. row_visits step (type_below t) τ)
  visits_opened (scalar s) i σ = refl
  visits_opened (nested n j t) i σ = one_visited (step σ (entry_head (i, nested n j t))) t (Some j)
  visits_opened (grouped g fs) i σ = visits_same (step σ (entry_head (i, grouped g fs))) (λ τ. fields_visits step fs τ) (λ τ. row_visits step (push_fields fs []) τ) (λ τ. fields_visited fs τ)
  visits_opened (dictionary ix ordered t) i σ = one_visited (step σ (entry_head (i, dictionary ix ordered t))) t None
  visits_opened (extension n m t) i σ = one_visited (step σ (entry_head (i, extension n m t))) t None

  -- both, where no line was passed before
  pub walked_opened : (t : ArrowDataType) (i : Option Info) (σ : S) → type_walked step t i σ ≡ line_walked 0 (step σ (entry_head (i, t))) (λ τ. row_walked step (type_below t) τ) (entry_lines (type_below t))
  walked_opened t i σ =
      let many : type_visits step t i σ ≡ line_visits (step σ (entry_head (i, t))) (λ τ. row_visits step (type_below t) τ) + 0 = omega (arith, visits_opened t i σ) in
      λ x. (walk_opened t i σ x, many x)

  -- a type of one line that is not refused
  pub scalar_visits : (c : Scalar) (i : Option Info) (σ : S) (ls : List Bytes) → type_walk step (scalar c) i σ ≡ given ls → type_visits step (scalar c) i σ ≡ 1
  scalar_visits c i σ ls = go (step σ (head_with (of_scalar c) i 0))
    where
      go : (a : Answer (Step S)) → line_written a (λ τ. given []) [] ≡ given ls → line_visits a (λ τ. 0) ≡ 1
      go (refused r) e = not_given e
      go (given p) e = below p.below
        where
          below : (x : Below S) → suc (below_visits x (λ τ. 0)) ≡ 1
          below (visit τ) = refl
          below copy = refl
          below skip = refl

  -- a sheet, with the heading: what is written for each field that is read
  pub sheet_walked : (σ : S) (heading b : Bytes) (write : Field → Answer (List Bytes)) → ((f : Field) → type_walk step f.type (Some f.info) σ ≡ write f)
      → (read_field_sheet b >>= λ f. write f >>= λ ls. given (write_sheet heading ls)) ≡ sheet_walk step σ heading b
  sheet_walked σ heading b write h =
      chain_same (read_field_sheet b) (read_field_sheet b) (λ f. write f >>= λ ls. given (write_sheet heading ls)) (λ f. type_walk step f.type (Some f.info) σ >>= λ ls. given (write_sheet heading ls)) refl
      (λ f. ap (λ (m : Answer (List Bytes)). m >>= λ ls. given (write_sheet heading ls)) (sym (h f)))

-- ── levels

-- what is below has the levels that are left for it, and stands directly in an extension if the line is one
pub levels_below_lem : (t : ArrowDataType) (inside : Bool) (levels : ℕ) → type_levels t inside ≤ levels
    → tallest (entry_levels (is_extension (type_shape t))) (type_below t) ≤ levels_below (type_shape t) inside levels
levels_below_lem t inside levels h = omega (arith, h, fields_lawful.tall inside (None, t))

-- the levels left and what the line costs
pub levels_left : (t : ArrowDataType) (inside : Bool) (levels : ℕ) → type_levels t inside ≤ levels → levels ≡ line_cost inside (is_extension (type_shape t)) + levels_below (type_shape t) inside levels
levels_left t inside levels h = omega (arith, h, fields_lawful.tall inside (None, t))

-- ── what falls

-- from a line to the row below it, and from a row to each of its lines
pub row_falls : (s : Shape) (inside : Bool) (levels : ℕ) → 1 ≤ levels → row_measure (levels_below s inside levels) (is_extension s) < line_measure levels inside
row_falls s inside levels h = go (is_extension s) inside
  where
    go : (e b : Bool) → row_measure (levels - line_cost b e) e < line_measure levels b
    go true true = omega arith
    go true false = omega arith
    go false true = omega arith
    go false false = omega arith

pub line_falls : (inside : Bool) (levels : ℕ) → line_measure levels inside < row_measure levels inside
line_falls inside levels = omega arith
