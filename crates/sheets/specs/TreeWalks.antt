-- What code that walks over trees of lines (`LineTrees`), from place to place of a sheet, can tell of a tree or of a row of trees. In what follows p is
-- what the place stands in, f the form that the line above asks for, and most the number of levels that are left.
--     LineAt      a line that keeps its rules stands here: what a reader of lines has to tell
--     TreeTo, TreeDeep, RowTo, RowDeep       skipping what stands
--     TreeEnds, TreeBad, RowEnds, RowBad     reading what may not stand
-- Assumes nothing.
use Rattle.std.specs.Prelude.{◌≡◌, ◌↔◌, List, ◌∷◌, ◌++◌, ℕ, suc, ◌+◌, ◌≤◌, ◌<◌, length, drop}
use Rattle.sheets.specs.Rule.{Meets}
use Rattle.sheets.specs.Bytes.{Bytes, lacks}
use Rattle.sheets.specs.Answer.{given}
use Rattle.sheets.specs.LineTrees.{Grammar, Standing, Row, tallest}

-- the line x with its byte 10 stands here, keeps its rules, and ends there
pub record LineAt (g : Grammar) (s : Bytes) (at : ℕ) (x : g.Line) (end : ℕ) : Type 0 where
  pub bytes : Bytes
  pub is : drop at s ≡ bytes ++ (10 ∷ drop end s)
  pub free : Meets (lacks 10 bytes)
  pub reads : g.read bytes ≡ given x
  pub counts : Meets (g.counts x)
  pub own : Meets (g.own x)
  pub low : at < end
  pub high : end ≤ length s

module _ (g : Grammar) (s : Bytes) (at : ℕ) where
  -- a tree stands here, and others after it
  abbrev pub HasTree : Type 0
  HasTree = (t : g.Tree) × (ts : List g.Tree) × Standing g (drop at s) (t ∷ ts)

  -- so many trees stand here, and others after them
  abbrev pub HasRow : ℕ → Type 0
  HasRow count = (us : List g.Tree) × (ts : List g.Tree) × Standing g (drop at s) (us ++ ts) × (length us ≡ count) × (at ≤ length s)

  module _ (p : g.Context) (most : ℕ) where
    -- the tree that stands here has no more levels than that and ends there; it has more
    abbrev pub TreeTo : ℕ → Type 0
    TreeTo next = (t : g.Tree) (ts : List g.Tree) → Standing g (drop at s) (t ∷ ts) → (g.levels p t ≤ most) × Standing g (drop next s) ts × (at < next) × (next ≤ length s)

    abbrev pub TreeDeep : Type 0
    TreeDeep = (t : g.Tree) (ts : List g.Tree) → Standing g (drop at s) (t ∷ ts) → most < g.levels p t

    -- so do the trees that stand here, count of them
    module _ (count : ℕ) where
      abbrev pub RowTo : ℕ → Type 0
      RowTo next = (us ts : List g.Tree) → Standing g (drop at s) (us ++ ts) → length us ≡ count → (tallest (g.levels p) us ≤ most) × Standing g (drop next s) ts × (at ≤ next) × (next ≤ length s)

      abbrev pub RowDeep : Type 0
      RowDeep = (us ts : List g.Tree) → Standing g (drop at s) (us ++ ts) → length us ≡ count → most < tallest (g.levels p) us

  module _ (f : g.Form) where
    -- a row of trees stands here exactly if what is left of it after one tree, or after so many, stands there; none stands here
    abbrev pub TreeEnds : ℕ → Type 0
    TreeEnds next = (at < next) × (next ≤ length s) × ((q : ℕ) → Row g (suc q) f (drop at s) ↔ Row g q g.usual (drop next s))

    abbrev pub TreeBad : Type 0
    TreeBad = (q : ℕ) → Row g (suc q) f (drop at s) → ⊥

    abbrev pub RowEnds : ℕ → ℕ → Type 0
    RowEnds count next = (at ≤ next) × (next ≤ length s) × ((q : ℕ) → Row g (count + q) f (drop at s) ↔ Row g q g.usual (drop next s))

    abbrev pub RowBad : ℕ → Type 0
    RowBad count = (q : ℕ) → Row g (count + q) f (drop at s) → ⊥
