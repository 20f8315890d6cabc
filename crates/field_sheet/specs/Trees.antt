-- Trees of a field sheet one after the other: what reading them tells (`TreeWalks`). `bare` is what the line above asks of the first line, `inside` says
-- that it stands directly in an extension. Assumes nothing.
use Rattle.std.specs.Prelude.{◌≡◌, Bool, true, false, ◌⊎◌, ℕ, drop, Result, Ok, Err}
use Rattle.sheets.specs.Bytes.{Bytes}
use Rattle.sheets.specs.Answer.{refused, given}
use Rattle.sheets.specs.LineTrees.{Row}
use Rattle.sheets.specs.FieldTrees.{fields}
use Rattle.sheets.specs.TreeWalks.{TreeTo, TreeDeep, TreeEnds, TreeBad, RowTo, RowDeep, RowEnds, RowBad}
use Rattle.refusal.specs.Refusals.{refusal_of}
use Rattle.field_sheet.specs.Strict.{TreeTold, RowTold}
use Rattle.field_sheet.specs.declared.trees.NoTree.{NoTree}
use Rattle.field_sheet.specs.declared.trees.NoTree.TheVariants.{Deep, Bad, Held}

-- "`children` is 1 for .. dictionary and extension": only a single tree can be bare
abbrev pub Alone : Bool → ℕ → Type 0
Alone bare count = (bare ≡ false) ⊎ (count ≡ 1)

-- whether one tree that is not bare stands here, and nothing after it
abbrev pub Forms : Bytes → ℕ → Bool → Type 0
Forms s at true = Row fields 1 false (drop at s)
Forms s at false = Row fields 1 false (drop at s) → ⊥

-- A tree stands here exactly if what is left of the row stands at its end, and then it has no more levels than `most`, and nothing that a strict export
-- refuses if that is asked; or it has more levels, should it stand here; or none stands here; or a strict export refuses it, should it stand here.
abbrev pub ReadsTree : Bytes → ℕ → Bool → Bool → ℕ → Bool → Result ℕ NoTree → Type 0
ReadsTree s at bare inside most strict (Ok next) = TreeEnds fields s at bare next × TreeTo fields s at inside most next × (strict ≡ true → TreeTold s at (given tt))
ReadsTree s at bare inside most strict (Err Deep) = TreeDeep fields s at inside most
ReadsTree s at bare inside most strict (Err Bad) = TreeBad fields s at bare
ReadsTree s at bare inside most strict (Err (Held q)) = (strict ≡ true) × TreeTold s at (refused (refusal_of q))

-- the same of so many trees
abbrev pub ReadsRow : Bytes → ℕ → ℕ → Bool → Bool → ℕ → Bool → Result ℕ NoTree → Type 0
ReadsRow s at count bare inside most strict (Ok next) = RowEnds fields s at bare count next × RowTo fields s at inside most count next × (strict ≡ true → RowTold s at count (given tt))
ReadsRow s at count bare inside most strict (Err Deep) = RowDeep fields s at inside most count
ReadsRow s at count bare inside most strict (Err Bad) = RowBad fields s at bare count
ReadsRow s at count bare inside most strict (Err (Held q)) = (strict ≡ true) × RowTold s at count (refused (refusal_of q))
