-- Skipping trees of a field sheet: the laws of walks over trees of lines (`TreeWalks`) for the line that `field_line_at` shows and the answer that `skip` gives.
-- Assumes nothing.
use Rattle.std.specs.Prelude.{Option, Some, None}
use mathlib.Core.Path.{◌≡◌, refl, sym, ap, subst, ◌∙◌}
use mathlib.Core.Bool.{Bool}
use mathlib.Core.List.{List}
use Prim.Native.Nat.{ℕ, ◌+◌, ◌-◌, ◌≤◌, ◌<◌}
use native.Mathlib.Omega.{arith}
use lib.Dec.{eqb}
use lib.ListN.{length}
use Rattle.sheets.specs.Bytes.{Bytes}
use Rattle.sheets.specs.Kind
use Rattle.sheets.specs.FieldSheet.{Entry}
use Rattle.sheets.specs.LineTrees.{tallest}
use Rattle.sheets.specs.FieldTrees.{is_extension, line_cost, entry_levels, fields}
use Rattle.sheets.specs.TreeWalks.{HasTree, HasRow, TreeTo, TreeDeep, RowTo, RowDeep}
use Rattle.sheets.proofs.FieldTrees.{fields_lawful}
use Rattle.sheets.proofs.TreeWalks.{below_to, below_deep, below_row}
use Rattle.sheets.proofs.TreeWalks as Walks
use Rattle.read_field_line.specs.FieldLines.{FieldLineAt}
use Rattle.read_field_line.specs.declared.FieldLine.{FieldLine}
use Rattle.field_sheet.specs.Subtrees.{SkipsTree, SkipsRow}
use Rattle.sheets.specs.Answer.{found}
use Rattle.sheets.specs.Refusal.{too_deep}
use Rattle.field_sheet.proofs.LevelLaws.{cost_low, extension_is}

-- ── a tree

module _ {s : Bytes} {at : ℕ} (l : FieldLine) (k : FieldLineAt s at l) where
  pub line_row : HasTree fields s at → HasRow fields s l.end l.children
  line_row h = subst (HasRow fields s l.end) (sym k.shows.children) (below_row fields_lawful k.there h)

  -- the levels that are left below the line, where it is an extension or not (e) and costs so much
  module _ (inside : Bool) {e : Bool} {cost : ℕ} (levels : ℕ) (some : 0 < levels) (ext : e ≡ eqb l.kind Kind.Extension) (is : cost ≡ line_cost inside e) where
    below_is : e ≡ is_extension k.line.shape
    below_is = ext ∙ sym (extension_is l k)

    left_is : levels ≡ line_cost inside (is_extension k.line.shape) + (levels - cost)
    left_is = omega (arith, is, cost_low inside e, ap (line_cost inside) below_is)

    pub row_deep : RowDeep fields s l.end e (levels - cost) l.children → TreeDeep fields s at inside levels
    row_deep h =
        below_deep fields_lawful k.there inside levels (levels - cost) left_is
        (subst (RowDeep fields s l.end (is_extension k.line.shape) (levels - cost)) k.shows.children (subst (λ (y : Bool). RowDeep fields s l.end y (levels - cost) l.children) below_is h))

    pub row_to : (next : ℕ) → RowTo fields s l.end e (levels - cost) l.children next → TreeTo fields s at inside levels next
    row_to next h =
        below_to fields_lawful k.there inside levels (levels - cost) next left_is
        (subst (λ (c : ℕ). RowTo fields s l.end (is_extension k.line.shape) (levels - cost) c next) k.shows.children (subst (λ (y : Bool). RowTo fields s l.end y (levels - cost) l.children next) below_is h))

    pub tree_skipped : (r : Option ℕ) → SkipsRow s l.end l.children e (levels - cost) (found too_deep r) → SkipsTree s at inside levels (found too_deep r)
    tree_skipped (Some next) h = row_to next h
    tree_skipped None h = (refl, row_deep h.1)

-- ── a row, with the answer for its next tree

abbrev pub Going : Bytes → Bool → ℕ → ℕ → ℕ → List Entry → List Entry → Type 0
Going s inside most here left us ts = Walks.Going fields_lawful s inside most here left us ts

module _ {s : Bytes} {inside : Bool} {most here left : ℕ} {us ts : List Entry} (g : Going s inside most here left us ts) (l : 0 < left) (r : Option ℕ) (f : SkipsTree s here inside most (found too_deep r)) where
  told : (q : Option ℕ) → r ≡ q → SkipsTree s here inside most (found too_deep q)
  told q e = subst (λ (x : Option ℕ). SkipsTree s here inside most (found too_deep x)) e f

  pub going_next : (next : ℕ) → r ≡ Some next → (here < next) × (next ≤ length s)
  going_next next e = Walks.going_next fields_lawful g l next (told (Some next) e)

  pub going_more : (next : ℕ) → r ≡ Some next → Going s inside most next (left - 1) us ts
  going_more next e = Walks.going_more fields_lawful g l next (told (Some next) e)

  pub going_deep : r ≡ None → most < tallest (entry_levels inside) us
  going_deep e = Walks.going_deep fields_lawful g l (told None e).1
