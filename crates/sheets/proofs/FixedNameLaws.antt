-- The fixed names of formats by length and first byte: a name is found among those of its length and first byte, since every other differs from it; and the
-- theorem of document 02, #103, by counting: a name stands in the cell as often as in the table, which is once. What the table holds is one computed test.
-- Assumes nothing.
use mathlib.Core.Path.{◌≡◌, refl, sym, ap, ◌∙◌}
use mathlib.Core.Bool.{Bool, true, false, not, ◌&&◌, ◌||◌, cond}
use mathlib.Core.List.{List, [], ◌∷◌, ◌++◌}
use Rattle.std.specs.Prelude.{Option, None, Some}
use Prim.Native.Nat.{ℕ, ◌+◌}
use native.Mathlib.Omega.{arith}
use lib.Dec.{eqb, ltb}
use lib.ListN.{length, take}
use borrow.Author.Tests.{eqb-true, ltb-true, not-true}
use Rattle.sheets.specs.Rule.{Rule, is, ◌and◌, each, Meets}
use Rattle.sheets.specs.Bytes.{Bytes, ascii, same}
use Rattle.sheets.specs.Answer.{Answer, given}
use Rattle.sheets.specs.Kind
use Rattle.sheets.specs.Field.{leaf, list, large_list, map, struct}
use Rattle.sheets.specs.Format.{FormatRow, rows, row_named, Format, of_scalar, of_nesting, of_grouping, cut, read_other, read_format}
use Rattle.sheets.specs.FixedNames.{nested_rows, fixed_rows, is_nested, named_format, starts_alike, in_cell, cell_of, chosen, has_length, compared_with, times, is_fixed, once_if_alike}
use Rattle.sheets.proofs.Tests.{never, not_some, same_some, and_left, meets, same_number}
use Rattle.sheets.proofs.BytesLaws.{same_refl, same_eq}

-- ── a name is in its own cell

own_cell : (b : Bytes) → ltb 0 (length b) ≡ true → in_cell (length b) b b ≡ true
own_cell [] h = absurd (omega (arith, ltb-true 0 0 h))
own_cell (x ∷ b) h = rw (same_number (length (x ∷ b)), same_number x)

-- names are not empty
abbrev nonempty : FormatRow → Rule
nonempty r = is (ltb 0 (length r.name))

nonempty_rows : Meets (each nonempty fixed_rows)
unfolding fixed_rows
nonempty_rows = meets (each nonempty fixed_rows) refl

found_among : (b : Bytes) (l : List FormatRow) → Meets (each nonempty l) → row_named b l ≡ row_named b (cell_of (length b) b l)
found_among b [] h = refl
found_among b (r ∷ l) h = pick (in_cell (length b) b r.name) refl (found_among b l h.1)
  where
    other : (t : Bool) → same b r.name ≡ t → in_cell (length b) b r.name ≡ false → t ≡ false
    other true s e =
        let same_name : b ≡ r.name = same_eq b r.name s in
        sym (ap (λ (x : Bytes). in_cell (length x) x r.name) same_name ∙ own_cell r.name h.0) ∙ e
    other false s e = refl

    pick : (t : Bool) → in_cell (length b) b r.name ≡ t → row_named b l ≡ row_named b (cell_of (length b) b l)
        → cond (same b r.name) (Some r) (row_named b l) ≡ row_named b (cond t (r ∷ cell_of (length b) b l) (cell_of (length b) b l))
    pick true e next = ap (λ (o : Option FormatRow). cond (same b r.name) (Some r) o) next
    pick false e next = rw (other (same b r.name) refl e) next

-- a format finds its row among the names that it is compared with
pub found_compared : (f : Bytes) → row_named f fixed_rows ≡ row_named f (compared_with f)
found_compared f = found_among f fixed_rows nonempty_rows

-- ── what a name says

-- of a type without children
pub leaf_format_lem : (sorted : Bool) (k u : ℕ) → is_nested k ≡ false → named_format sorted k u ≡ of_scalar (leaf k u)
leaf_format_lem sorted k u h = go (eqb k Kind.List) (eqb k Kind.LargeList) (eqb k Kind.Map) (eqb k Kind.Struct) h
  where
    go : (a b c d : Bool) → (a || (b || (c || d))) ≡ false
        → cond a (of_nesting list) (cond b (of_nesting large_list) (cond c (of_nesting (map sorted)) (cond d (of_grouping struct) (of_scalar (leaf k u))))) ≡ of_scalar (leaf k u)
    go true b c d e = never (sym e)
    go false true c d e = never (sym e)
    go false false true d e = never (sym e)
    go false false false true e = never (sym e)
    go false false false false e = refl

abbrev leaf_row : FormatRow → Rule
leaf_row r = is (not (is_nested r.kind))

leaf_rows_lem : Meets (each leaf_row rows)
unfolding rows
leaf_rows_lem = meets (each leaf_row rows) refl

row_rule_lem : (f : Bytes) (l : List FormatRow) → Meets (each leaf_row l) → (r : FormatRow) → row_named f l ≡ Some r → is_nested r.kind ≡ false
row_rule_lem f [] m r e = not_some e
row_rule_lem f (x ∷ l) m r e = pick (same f x.name) e (row_rule_lem f l m.1 r)
  where
    pick : (t : Bool) → cond t (Some x) (row_named f l) ≡ Some r → (row_named f l ≡ Some r → is_nested r.kind ≡ false) → is_nested r.kind ≡ false
    pick true g next = ap (λ (y : FormatRow). is_nested y.kind) (sym (same_some g)) ∙ not-true (is_nested x.kind) m.0
    pick false g next = next g

-- a name is looked for in one list after the other
first_list : (f : Bytes) (l m : List FormatRow) (r : FormatRow) → row_named f l ≡ Some r → row_named f (l ++ m) ≡ Some r
first_list f [] m r e = not_some e
first_list f (x ∷ l) m r e = pick (same f x.name) e (first_list f l m r)
  where
    pick : (t : Bool) → cond t (Some x) (row_named f l) ≡ Some r → (row_named f l ≡ Some r → row_named f (l ++ m) ≡ Some r) → cond t (Some x) (row_named f (l ++ m)) ≡ Some r
    pick true g next = g
    pick false g next = next g

second_list : (f : Bytes) (l m : List FormatRow) → row_named f l ≡ None → row_named f (l ++ m) ≡ row_named f m
second_list f [] m e = refl
second_list f (x ∷ l) m e = pick (same f x.name) e (second_list f l m)
  where
    pick : (t : Bool) → cond t (Some x) (row_named f l) ≡ None → (row_named f l ≡ None → row_named f (l ++ m) ≡ row_named f m) → cond t (Some x) (row_named f (l ++ m)) ≡ row_named f m
    pick true g next = not_some (sym g)
    pick false g next = next g

abbrev pub read_fixed : Bool → Option FormatRow → Answer Format → Answer Format
read_fixed sorted None other = other
read_fixed sorted (Some r) other = given (named_format sorted r.kind r.unit)

-- what a format says is what its fixed name says, and if it has none, what its parts say
pub read_fixed_lem : (sorted : Bool) (f : Bytes) → read_fixed sorted (row_named f fixed_rows) (read_other (cut f)) ≡ read_format sorted f
unfolding fixed_rows nested_rows
read_fixed_lem sorted f = go (row_named f rows) refl
  where
    other : Answer Format
    other = read_other (cut f)

    nested :
        (a b c d : Bool)
        → read_fixed sorted
        (cond a (Some (record { name = ascii "+l"; kind = Kind.List; unit = 0 }))
        (cond b (Some (record { name = ascii "+L"; kind = Kind.LargeList; unit = 0 }))
        (cond c (Some (record { name = ascii "+m"; kind = Kind.Map; unit = 0 })) (cond d (Some (record { name = ascii "+s"; kind = Kind.Struct; unit = 0 })) None)))) other
        ≡ cond a (given (of_nesting list)) (cond b (given (of_nesting large_list)) (cond c (given (of_nesting (map sorted))) (cond d (given (of_grouping struct)) other)))
    nested true b c d = refl
    nested false true c d = refl
    nested false false true d = refl
    nested false false false true = refl
    nested false false false false = refl

    go : (o : Option FormatRow) → row_named f rows ≡ o → read_fixed sorted (row_named f (rows ++ nested_rows)) other ≡ read_format sorted f
    go (Some r) e = rw (first_list f rows nested_rows r e, e) (ap given (leaf_format_lem sorted r.kind r.unit (row_rule_lem f rows leaf_rows_lem r e)))
    go None e = rw (second_list f rows nested_rows e, e) (nested (same f (ascii "+l")) (same f (ascii "+L")) (same f (ascii "+m")) (same f (ascii "+s")))

-- ── what a cell holds

-- a cell is chosen by the first byte alone
first_alike : (f name : Bytes) → starts_alike (take 1 f) name ≡ starts_alike f name
first_alike [] name = refl
first_alike (b ∷ f) [] = refl
first_alike (b ∷ f) (c ∷ name) = refl

first_cell : (n : ℕ) (f : Bytes) (l : List FormatRow) → cell_of n (take 1 f) l ≡ cell_of n f l
first_cell n f [] = refl
first_cell n f (r ∷ l) = rw (first_alike f r.name, first_cell n f l)

pub chosen_first : (n : ℕ) (f : Bytes) → chosen n (take 1 f) ≡ chosen n f
chosen_first n f = first_cell n f fixed_rows

-- every name of a cell has its length
cell_length : (n : ℕ) (f : Bytes) (l : List FormatRow) → Meets (each (has_length n) (cell_of n f l))
cell_length n f [] = refl
cell_length n f (r ∷ l) = pick (in_cell n f r.name) refl (cell_length n f l)
  where
    pick : (t : Bool) → in_cell n f r.name ≡ t → Meets (each (has_length n) (cell_of n f l)) → Meets (each (has_length n) (cond t (r ∷ cell_of n f l) (cell_of n f l)))
    pick true e next = (and_left (eqb (length r.name) n) (starts_alike f r.name) e, next)
    pick false e next = next

pub chosen_length : (n : ℕ) (f : Bytes) → Meets (each (has_length n) (chosen n f))
chosen_length n f = cell_length n f fixed_rows

-- ── how often a name stands in a cell

times_cell : (n : ℕ) (f name : Bytes) (l : List FormatRow) → times name (cell_of n f l) ≡ cond (in_cell n f name) (times name l) 0
times_cell n f name [] = pick (in_cell n f name)
  where
    pick : (t : Bool) → ◌≡◌ {A = ℕ} 0 (cond t 0 0)
    pick true = refl
    pick false = refl
times_cell n f name (r ∷ l) = pick (same name r.name) refl (times_cell n f name l)
  where
    -- the row is counted exactly if the name is in the cell
    here : (t : Bool) → in_cell n f r.name ≡ t → in_cell n f name ≡ t → same name r.name ≡ true → times name (cell_of n f l) ≡ cond (in_cell n f name) (times name l) 0
        → times name (cond t (r ∷ cell_of n f l) (cell_of n f l)) ≡ cond (in_cell n f name) (1 + times name l) 0
    here true e d s next = rw (s, d) (ap (λ (k : ℕ). 1 + k) (next ∙ ap (λ (u : Bool). cond u (times name l) 0) d))
    here false e d s next = rw d (next ∙ ap (λ (u : Bool). cond u (times name l) 0) d)

    there : (t : Bool) → same name r.name ≡ false → times name (cell_of n f l) ≡ cond (in_cell n f name) (times name l) 0
        → times name (cond t (r ∷ cell_of n f l) (cell_of n f l)) ≡ cond (in_cell n f name) (times name l) 0
    there true s next = rw s next
    there false s next = next

    pick : (t : Bool) → same name r.name ≡ t → times name (cell_of n f l) ≡ cond (in_cell n f name) (times name l) 0
        → times name (cond (in_cell n f r.name) (r ∷ cell_of n f l) (cell_of n f l)) ≡ cond (in_cell n f name) (cond t (1 + times name l) (times name l)) 0
    pick true s next = here (in_cell n f r.name) refl (ap (in_cell n f) (same_eq name r.name s)) s next
    pick false s next = there (in_cell n f r.name) s next

-- ── each name stands in the table once

-- no later row has the name
abbrev distinct : List FormatRow → Rule
distinct [] = is true
distinct (r ∷ l) = is (eqb (times r.name l) 0) and distinct l

distinct_rows : Meets (distinct fixed_rows)
unfolding fixed_rows
distinct_rows = meets (distinct fixed_rows) refl

times_distinct : (name : Bytes) (l : List FormatRow) → Meets (distinct l) → times name l ≡ cond (is_fixed name l) 1 0
times_distinct name [] h = refl
times_distinct name (r ∷ l) h = pick (same name r.name) refl (times_distinct name l h.1)
  where
    pick : (t : Bool) → same name r.name ≡ t → times name l ≡ cond (is_fixed name l) 1 0 → cond t (1 + times name l) (times name l) ≡ cond (t || is_fixed name l) 1 0
    pick true s next =
        let later : times name l ≡ 0 = ap (λ (x : Bytes). times x l) (same_eq name r.name s) ∙ eqb-true (times r.name l) 0 h.0 in
        omega (arith, later)
    pick false s next = next

-- ── document 02, #103

-- "exactly the fixed ones of that length and first byte, each once": how often any bytes stand among the names that a format is compared with
pub compared_once : (f name : Bytes) → times name (compared_with f) ≡ once_if_alike f name
compared_once f name = times_cell (length f) f name fixed_rows ∙ ap (λ (k : ℕ). cond (in_cell (length f) f name) k 0) (times_distinct name fixed_rows distinct_rows) ∙ both (is_fixed name fixed_rows) (in_cell (length f) f name)
  where
    both : (s t : Bool) → ◌≡◌ {A = ℕ} (cond t (cond s 1 0) 0) (cond (s && t) 1 0)
    both true true = refl
    both true false = refl
    both false true = refl
    both false false = refl

-- "and none for an empty format"
pub compared_none : compared_with [] ≡ []
unfolding fixed_rows
compared_none = refl

-- 38 names in all
pub names_38 : length fixed_rows ≡ 38
unfolding fixed_rows
names_38 = refl
