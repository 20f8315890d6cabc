-- Trees of a field sheet that are known to stand one after the other: what skipping them tells (`TreeWalks`). `inside` says that they stand directly in an
-- extension. Assumes nothing.
use Rattle.std.specs.Prelude.{◌≡◌, Bool, ℕ, Option, Some, None}
use Rattle.sheets.specs.Refusal.{too_deep}
use Rattle.sheets.specs.Bytes.{Bytes}
use Rattle.sheets.specs.Answer.{Answer, refused, given}
use Rattle.sheets.specs.FieldTrees.{fields}
use Rattle.sheets.specs.TreeWalks.{TreeTo, TreeDeep, RowTo, RowDeep}

-- the end of the tree that stands here; or it has more levels than `most`
abbrev pub SkipsTree : Bytes → ℕ → Bool → ℕ → Answer ℕ → Type 0
SkipsTree s at inside most (given next) = TreeTo fields s at inside most next
SkipsTree s at inside most (refused r) = (r ≡ too_deep) × TreeDeep fields s at inside most

-- the end of the trees that stand here, so many of them; or one of them has more levels than `most`
abbrev pub SkipsRow : Bytes → ℕ → ℕ → Bool → ℕ → Answer ℕ → Type 0
SkipsRow s at count inside most (given next) = RowTo fields s at inside most count next
SkipsRow s at count inside most (refused r) = (r ≡ too_deep) × RowDeep fields s at inside most count
