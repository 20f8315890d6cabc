-- Reading a tree by its line and its row of subtrees, and a row by one tree after the other (`TreeWalks`), for the line that `read_line` shows and the
-- answers of `read_tree` and `read_row`; and two rows that adjoin are one (`reads_both`). Assumes nothing.
use Rattle.std.specs.Prelude.{Ok, Err}
use mathlib.Core.Path.{◌≡◌, refl, sym, subst, ◌∙◌}
use mathlib.Core.Logic.{inl, inr}
use mathlib.Core.List.{List, [], ◌∷◌, ◌++◌, append_assoc}
use Prim.Native.Nat.{ℕ, ◌+◌, ◌-◌, ◌^◌, ◌≤◌, ◌<◌}
use native.Mathlib.Omega.{arith}
use lib.ListN.{length, take, drop, take-append-drop, length-append, length-take, length-drop}
use Rattle.sheets.specs.Refusal.{Refusal, bad_lines, too_deep}
use Rattle.sheets.specs.Bytes.{Bytes}
use Rattle.sheets.specs.Answer.{refused, given}
use Rattle.sheets.specs.Schema.{Schema, schema, schema_levels}
use Rattle.sheets.specs.SchemaTrees.{schemas, Standing}
use Rattle.sheets.specs.LineTrees.{tallest}
use Rattle.sheets.specs.TreeWalks.{TreeTo, TreeDeep, RowTo, RowDeep, RowEnds, RowBad}
use Rattle.sheets.proofs.LineTrees.{tallest_append}
use Rattle.sheets.proofs.FormLaws.{schemas_lawful, standing_row}
use Rattle.sheets.proofs.TreeWalks.{counted, below_to, below_deep, below_ends, below_bad, below_none}
use Rattle.sheets.proofs.TreeWalks as Walks
use Rattle.schema_line.specs.declared.SchemaLine.{SchemaLine}
use Rattle.schema_line.specs.Lines.{read_line, LineAt}
use Rattle.schema_line.proofs.LineLaws.{line_walks}
use Rattle.schema_line.proofs.KnownLaws.{line_refused}
use Rattle.leaf_line.specs.Short.{short_line}
use Rattle.leaf_line.specs.Leaf.{LeafAt}
use Rattle.refusal.specs.declared.Refusal.{Refusal as Code}
use Rattle.refusal.specs.Refusals.{Refusing, answer_of}
use Rattle.schema_sheet.specs.Trees.{ReadsTree, ReadsRow}

-- ── a tree

-- no tree has no level
no_level : (s : Bytes) (at most : ℕ) → most ≡ 0 → TreeDeep schemas s at tt most
no_level s at most h (schema n cs d) ts w = omega arith

pub tree_deep : (s : Bytes) (at levels : ℕ) → levels ≡ 0 → ReadsTree s at levels (refused too_deep)
tree_deep s at levels h = inl (refl, no_level s at levels h)

-- no line stands here
pub tree_none : (s : Bytes) (at levels : ℕ) → length s < 2 ^ 64 → read_line s at ≡ refused bad_lines → ReadsTree s at levels (refused bad_lines)
tree_none s at levels fits e = inr (refl, line_refused s at e fits)

module _ {s : Bytes} {at : ℕ} (l : SchemaLine) (k : LineAt s at l) where
  pub line_count : schemas.count k.line ≡ l.children + l.dictionary
  line_count = omega (arith, k.shows.children, k.shows.dictionary)

  module _ (most : ℕ) (some : 0 < most) (n : ℕ) (many : n ≡ l.children + l.dictionary) where
    row_to : (next : ℕ) → RowTo schemas s l.end tt (most - 1) n next → TreeTo schemas s at tt most next
    row_to next g = below_to schemas_lawful (line_walks k) tt most (most - 1) next (omega arith) (subst (λ (c : ℕ). RowTo schemas s l.end tt (most - 1) c next) (many ∙ sym line_count) g)

    row_deep : RowDeep schemas s l.end tt (most - 1) n → TreeDeep schemas s at tt most
    row_deep g = below_deep schemas_lawful (line_walks k) tt most (most - 1) (omega arith) (subst (RowDeep schemas s l.end tt (most - 1)) (many ∙ sym line_count) g)

  pub tree_many : length s - l.end < l.children → (levels : ℕ) → ReadsTree s at levels (refused bad_lines)
  tree_many h levels = inr (refl, below_none schemas_lawful (line_walks k) (omega (arith, line_count)))

  pub tree_read : (levels : ℕ) → 0 < levels → (n : ℕ) → n ≡ l.dictionary + l.children → (r : Refusing ℕ) → ReadsRow s l.end n (levels - 1) (answer_of r) → ReadsTree s at levels (answer_of r)
  tree_read levels some n many (Ok next) g = (
    below_ends schemas_lawful (line_walks k) next (subst (λ (c : ℕ). RowEnds schemas s l.end tt c next) (omega (arith, line_count)) g.0),
    row_to levels some n (omega arith) next g.1,
  )
  tree_read levels some n many (Err q) (inl g) = inl (g.0, row_deep levels some n (omega arith) g.1)
  tree_read levels some n many (Err q) (inr g) = inr (g.0, below_bad schemas_lawful (line_walks k) (subst (RowBad schemas s l.end tt) (omega (arith, line_count)) g.1))

-- ── a row

-- of the row, so many trees are left at here
abbrev pub Reading : Bytes → ℕ → ℕ → ℕ → ℕ → ℕ → Type 0
Reading s at count levels here due = Walks.Reading schemas_lawful s at tt tt count levels here tt due

pub reading_none : (s : Bytes) (at count levels : ℕ) → at ≤ length s → Reading s at count levels at count
reading_none s at count levels h = Walks.reading_none schemas_lawful s at tt tt count levels h (inl refl)

module _ {s : Bytes} {at count levels here due : ℕ} (g : Reading s at count levels here due) (some : 0 < due) where
  pub reading_refused : {r : Refusal} → ReadsTree s here levels (refused r) → ReadsRow s at count levels (refused r)
  reading_refused (inl h) = inl (h.0, Walks.reading_deep schemas_lawful g some h.1)
  reading_refused (inr h) = inr (h.0, Walks.reading_bad schemas_lawful g some h.1)

  pub reading_more : {next : ℕ} → ReadsTree s here levels (given next) → Reading s at count levels next (due - 1)
  reading_more {next} t = Walks.reading_more schemas_lawful g some next t.0 t.1

pub reading_all : {s : Bytes} {at count levels here due : ℕ} → Reading s at count levels here due → due ≤ 0 → ReadsRow s at count levels (given here)
reading_all g none = (Walks.reading_ends schemas_lawful g none, Walks.reading_to schemas_lawful g none)

tallest_one : (t : Schema) → tallest schema_levels (t ∷ []) ≡ schema_levels t
unfolding tallest
tallest_one t = omega arith

-- a row of one is a tree, if something was read
pub row_one : (s : Bytes) (at levels next : ℕ) → at < next → ReadsRow s at 1 levels (given next) → ReadsTree s at levels (given next)
row_one s at levels next past (ends, to) =
    ((past, ends.1, λ q. (λ r. (ends.2 q).0 (counted (omega arith) r), λ r. counted (omega arith) ((ends.2 q).1 r))), λ t ts d. let k = to (t ∷ []) ts d refl in (omega (arith, k.0, tallest_one t), k.1, past, k.3))

-- trees that stand are read
pub reads_standing : (s : Bytes) (at count levels : ℕ) (us ts : List Schema) → Standing (drop at s) (us ++ ts) → length us ≡ count → tallest schema_levels us ≤ levels
    → (r : Refusing ℕ) → ReadsRow s at count levels (answer_of r) → (next : ℕ) × (r ≡ Ok next)
reads_standing s at count levels us ts d n low (Ok next) h = (next, refl)
reads_standing s at count levels us ts d n low (Err q) (inl h) = absurd (omega (arith, low, h.1 us ts d n))
reads_standing s at count levels us ts d n low (Err q) (inr h) = absurd (h.1 (length ts) (counted (omega (arith, length-append us ts)) (standing_row d)))

-- what is read is not refused
pub read_good : {r : Refusing ℕ} {q : Code} → (next : ℕ) × (r ≡ Ok next) → r ≡ Err q → ⊥
read_good (next, e) d = let z : ◌≡◌ {A = ℕ} 0 1 = cc in omega arith

-- two rows that adjoin are one
module _ (s : Bytes) (at a mid b next levels : ℕ) (first : ReadsRow s at a levels (given mid)) (second : ReadsRow s mid b levels (given next)) where
  both_end : RowEnds schemas s at tt (a + b) next
  both_end =
      let (low, _, f) = first.0 in
      let (more, high, g) = second.0 in
      (omega (arith, low, more), high, λ q. (λ r. (g q).0 ((f (b + q)).0 (counted (omega arith) r)), λ r. counted (omega arith) ((f (b + q)).1 ((g q).1 r))))

  both_to : RowTo schemas s at tt levels (a + b) next
  both_to us ts d n =
      let front = take a us in
      let back = drop a us in
      let whole : front ++ back ≡ us = take-append-drop a us in
      let (low, there, up, _) = first.1 front (back ++ ts) (subst (Standing (drop at s)) (subst (λ (l : List Schema). l ++ ts ≡ front ++ (back ++ ts)) whole (append_assoc front back ts)) d) (omega (arith, length-take a us)) in
      let (low', after, more, high) = second.1 back ts there (omega (arith, length-drop a us)) in
      (subst (λ (l : List Schema). tallest schema_levels l ≤ levels) whole (omega (arith, tallest_append schema_levels front back, low, low')), after, omega (arith, up, more), high)

  pub reads_both : ReadsRow s at (a + b) levels (given next)
  reads_both = (both_end, both_to)

-- ── a leaf

-- a leaf's line is a tree
pub leaf_read : {s : Bytes} {at kind e flags : ℕ} → LeafAt s at kind e flags → (levels : ℕ) → 0 < levels → ReadsTree s at levels (given (e + 9))
leaf_read {s} {at} {kind} {e} {flags} k levels some =
    tree_read (short_line 2 at e flags 0) k.line levels some 0 refl (Ok (e + 9)) (reading_all (reading_none s (e + 9) 0 (levels - 1) k.high) (omega arith))
