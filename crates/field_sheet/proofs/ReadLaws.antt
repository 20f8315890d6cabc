-- Reading a tree by its line and the row below it, and a row by one tree after the other (`TreeWalks`), for the line that `read_field_line` shows and the
-- answers of `read_tree` and `read_row`. Assumes nothing.
use Rattle.std.specs.Prelude.{Result, Ok, Err}
use mathlib.Core.Path.{◌≡◌, refl, sym, subst, ◌∙◌}
use mathlib.Core.Bool.{Bool, true, false, not, beq, true≢false}
use mathlib.Core.Logic.{inl}
use Prim.Native.Nat.{ℕ, ◌+◌, ◌-◌, ◌≤◌, ◌<◌}
use native.Mathlib.Omega.{arith}
use lib.Dec.{eqb}
use lib.ListN.{length}
use Rattle.sheets.specs.Refusal.{bad_lines}
use Rattle.sheets.specs.Bytes.{Bytes}
use Rattle.sheets.specs.Answer.{Answer, refused, given}
use Rattle.sheets.specs.Kind
use Rattle.sheets.specs.FieldTrees.{is_bare, bare_below, kind_bare, line_cost, fields}
use Rattle.sheets.specs.Strict.{line_returns}
use Rattle.sheets.specs.TreeWalks.{TreeTo, TreeEnds, TreeBad, RowEnds, RowBad}
use Rattle.sheets.proofs.FieldTrees.{fields_lawful}
use Rattle.sheets.proofs.TreeWalks.{other_form, below_none, below_ends, below_bad}
use Rattle.sheets.proofs.TreeWalks as Walks
use Rattle.read_field_line.specs.FieldLines.{FieldLineAt, ReadsLine}
use Rattle.field_leaf.specs.FieldLeaves.{FieldLeafAt}
use Rattle.read_field_line.specs.declared.FieldLine.{FieldLine}
use Rattle.refusal.specs.Refusals.{refusal_of}
use Rattle.refusal.specs.declared.Refusal.{Refusal as Reason}
use Rattle.field_sheet.specs.Strict.{TreeTold, RowTold}
use Rattle.field_sheet.specs.Trees.{Alone, ReadsTree, ReadsRow}
use Rattle.field_sheet.specs.declared.trees.NoTree.TheVariants as Read
use Rattle.field_sheet.proofs.LevelLaws.{no_level, bare_is_lem}
use Rattle.field_sheet.proofs.SkipLaws.{row_deep, row_to}
use Rattle.field_sheet.specs.declared.trees.NoTree.{NoTree}
use Rattle.field_sheet.proofs.StrictLaws.{tree_held, tree_told, none_told, Clearing, clearing_none, clearing_more, clearing_held, clearing_all}

beq_same : (a b : Bool) → not (beq a b) ≡ false → a ≡ b
beq_same true true h = refl
beq_same true false h = absurd (true≢false h)
beq_same false true h = absurd (true≢false h)
beq_same false false h = refl

beq_other : (a b : Bool) → not (beq a b) ≡ true → a ≡ b → ⊥
beq_other true true h e = true≢false (sym h)
beq_other true false h e = true≢false e
beq_other false true h e = true≢false (sym e)
beq_other false false h e = true≢false (sym h)

-- ── a tree

pub tree_deep : (s : Bytes) (at : ℕ) (bare inside : Bool) (levels : ℕ) (strict : Bool) → levels ≡ 0 → ReadsTree s at bare inside levels strict (Err Read.Deep)
tree_deep s at bare inside levels strict h = no_level s at inside levels h

-- no line stands here
pub tree_none : (s : Bytes) (at : ℕ) (bare inside : Bool) (levels : ℕ) (strict : Bool) → ReadsLine s at (refused bad_lines) → ReadsTree s at bare inside levels strict (Err Read.Bad)
tree_none s at bare inside levels strict h = h.1 bare

module _ {s : Bytes} {at : ℕ} (l : FieldLine) (k : FieldLineAt s at l) where
  -- the line is bare where it is not to be, or the other way round
  pub line_other : (bare : Bool) → not (beq l.bare bare) ≡ true → TreeBad fields s at bare
  line_other bare h = other_form fields_lawful k.there (λ e. beq_other l.bare bare h (k.shows.bare ∙ e))

  -- a strict export refuses it
  pub line_held : (bare inside : Bool) (levels : ℕ) {strict : Bool} (q : Reason) → (strict ≡ true) × (line_returns k.line ≡ refused (refusal_of q)) → ReadsTree s at bare inside levels strict (Err (Read.Held q))
  line_held bare inside levels q h = (h.0, tree_held k.there (refusal_of q) h.1)

  module _ (bare : Bool) (same : not (beq l.bare bare) ≡ false) where
    pub form_is : is_bare k.line.info ≡ bare
    form_is = sym k.shows.bare ∙ beq_same l.bare bare same

    -- no more trees below than bytes
    pub tree_many : length s - l.end < l.children → TreeBad fields s at bare
    tree_many h = subst (TreeBad fields s at) form_is (below_none fields_lawful k.there (omega (arith, k.shows.children)))

    module _ (inside : Bool) {e : Bool} {cost : ℕ} (levels : ℕ) (some : 0 < levels) (ext : e ≡ eqb l.kind Kind.Extension) (is : cost ≡ line_cost inside e) {b : Bool} (eb : b ≡ kind_bare l.kind) (strict : Bool) (clear : strict ≡ true → line_returns k.line ≡ given tt) where
      form_below_lem : b ≡ bare_below k.line.shape
      form_below_lem = eb ∙ sym (bare_is_lem l k)

      ends : (next : ℕ) → RowEnds fields s l.end b l.children next → TreeEnds fields s at bare next
      ends next h =
          let below = subst (λ (c : ℕ). RowEnds fields s l.end (bare_below k.line.shape) c next) k.shows.children (subst (λ (y : Bool). RowEnds fields s l.end y l.children next) form_below_lem h) in
          subst (λ (y : Bool). TreeEnds fields s at y next) form_is (below_ends fields_lawful k.there next below)

      bad : RowBad fields s l.end b l.children → TreeBad fields s at bare
      bad h =
          let below = subst (RowBad fields s l.end (bare_below k.line.shape)) k.shows.children (subst (λ (y : Bool). RowBad fields s l.end y l.children) form_below_lem h) in
          subst (TreeBad fields s at) form_is (below_bad fields_lawful k.there below)

      told : {a : Answer (Unit {0})} → strict ≡ true → RowTold s l.end l.children a → TreeTold s at a
      told {a} x h = tree_told k.there a (clear x) (subst (λ (c : ℕ). RowTold s l.end c a) k.shows.children h)

      pub tree_read : (r : Result ℕ NoTree) → ReadsRow s l.end l.children b e (levels - cost) strict r → ReadsTree s at bare inside levels strict r
      tree_read (Ok next) h = (ends next h.0, row_to l k inside levels some ext is next h.1, λ x. told x (h.2 x))
      tree_read (Err Read.Deep) h = row_deep l k inside levels some ext is h
      tree_read (Err Read.Bad) h = bad h
      tree_read (Err (Read.Held q)) h = (h.0, told h.0 h.1)

-- ── a row

-- of the row, so many trees are left at here, the next of them bare or not; and nothing was found before if the reading is strict
abbrev pub Reading : Bytes → ℕ → ℕ → Bool → Bool → ℕ → Bool → ℕ → ℕ → Bool → Type 0
Reading s at count bare inside levels strict here due next = Walks.Reading fields_lawful s at bare inside count levels here next due × (strict ≡ true → Clearing s at count here due)

pub reading_none : (s : Bytes) (at count : ℕ) (bare inside : Bool) (levels : ℕ) (strict : Bool) → at ≤ length s → Alone bare count → Reading s at count bare inside levels strict at count bare
reading_none s at count bare inside levels strict h o = (Walks.reading_none fields_lawful s at bare inside count levels h o, λ x. clearing_none s at count)

module _ {s : Bytes} {at count : ℕ} {bare inside : Bool} {levels : ℕ} {strict : Bool} {here due : ℕ} {next : Bool} (g : Reading s at count bare inside levels strict here due next) (some : 0 < due) (r : Result ℕ NoTree) (h : ReadsTree s here next inside levels strict r) where
  told_of : (q : Result ℕ NoTree) → r ≡ q → ReadsTree s here next inside levels strict q
  told_of q e = subst (λ (x : Result ℕ NoTree). ReadsTree s here next inside levels strict x) e h

  reading_deep : r ≡ (Err Read.Deep) → ReadsRow s at count bare inside levels strict (Err Read.Deep)
  reading_deep e = Walks.reading_deep fields_lawful g.0 some (told_of (Err Read.Deep) e)

  reading_bad : r ≡ (Err Read.Bad) → ReadsRow s at count bare inside levels strict (Err Read.Bad)
  reading_bad e = Walks.reading_bad fields_lawful g.0 some (told_of (Err Read.Bad) e)

  reading_held : (q : Reason) → r ≡ Err (Read.Held q) → ReadsRow s at count bare inside levels strict (Err (Read.Held q))
  reading_held q e = let t = told_of (Err (Read.Held q)) e in (t.0, clearing_held (g.1 t.0) some (refusal_of q) t.1)

  -- whatever stopped the reading of the tree stops that of the row
  pub reading_stopped : (q : NoTree) → r ≡ Err q → ReadsRow s at count bare inside levels strict (Err q)
  reading_stopped Read.Deep e = reading_deep e
  reading_stopped Read.Bad e = reading_bad e
  reading_stopped (Read.Held q) e = reading_held q e

  pub reading_more : (end : ℕ) → r ≡ Ok end → Reading s at count bare inside levels strict end (due - 1) false
  reading_more end e = let t = told_of (Ok end) e in (Walks.reading_more fields_lawful g.0 some end t.0 t.1, λ x. clearing_more (g.1 x) some end t.1 (t.2 x))

pub reading_all : {s : Bytes} {at count : ℕ} {bare inside : Bool} {levels : ℕ} {strict : Bool} {here due : ℕ} {next : Bool} → Reading s at count bare inside levels strict here due next → due ≤ 0 → ReadsRow s at count bare inside levels strict (Ok here)
reading_all g none = (Walks.reading_ends fields_lawful g.0 none, Walks.reading_to fields_lawful g.0 none, λ x. clearing_all (g.1 x) none)

-- ── a leaf

-- a leaf's line is a tree that is not bare, of one level, without pairs
module _ {s : Bytes} {at kind from e n : ℕ} (k : FieldLeafAt s at kind from e n) where
  -- no tree stands below it
  none_below : (inside : Bool) (levels : ℕ) → Walks.Reading fields_lawful s (e + 7) false inside 0 levels (e + 7) false 0
  none_below inside levels = Walks.reading_none fields_lawful s (e + 7) false inside 0 levels k.high (inl refl)

  pub leaf_to_lem : (inside : Bool) (levels : ℕ) → 0 < levels → TreeTo fields s at inside levels (e + 7)
  leaf_to_lem inside levels some = Walks.below_to fields_lawful k.line inside levels (levels - 1) (e + 7) (omega arith) (Walks.reading_to fields_lawful (none_below false (levels - 1)) (omega arith))

  pub leaf_read : (bare : Bool) → bare ≡ false → (inside : Bool) (levels : ℕ) (strict : Bool) → 0 < levels → ReadsTree s at bare inside levels strict (Ok (e + 7))
  leaf_read bare is inside levels strict some = (
    subst (λ (b : Bool). TreeEnds fields s at b (e + 7)) (sym is) (below_ends fields_lawful k.line (e + 7) (Walks.reading_ends fields_lawful (none_below false levels) (omega arith))),
    leaf_to_lem inside levels some,
    λ x. tree_told k.line (given tt) refl (none_told s (e + 7)),
  )
