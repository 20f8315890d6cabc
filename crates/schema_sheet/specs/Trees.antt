-- Trees of a schema sheet one after the other: what reading them tells (`TreeWalks`). Assumes nothing.
use Rattle.std.specs.Prelude.{◌≡◌, Bool, true, false, ◌⊎◌, ℕ, drop}
use Rattle.sheets.specs.Refusal.{bad_lines, too_deep}
use Rattle.sheets.specs.Bytes.{Bytes}
use Rattle.sheets.specs.Answer.{Answer, refused, given}
use Rattle.sheets.specs.SchemaTrees.{schemas, Row}
use Rattle.sheets.specs.TreeWalks.{TreeTo, TreeDeep, TreeEnds, TreeBad, RowTo, RowDeep, RowEnds, RowBad}

-- whether one tree stands here, and nothing after it
abbrev pub Forms : Bytes → ℕ → Bool → Type 0
Forms s at true = Row 1 (drop at s)
Forms s at false = Row 1 (drop at s) → ⊥

-- A tree stands here exactly if what is left of the row stands at its end, and then it has no more levels than `most`; or it has more, should it stand here; or
-- none stands here.
abbrev pub ReadsTree : Bytes → ℕ → ℕ → Answer ℕ → Type 0
ReadsTree s at most (given next) = TreeEnds schemas s at tt next × TreeTo schemas s at tt most next
ReadsTree s at most (refused r) = ((r ≡ too_deep) × TreeDeep schemas s at tt most) ⊎ ((r ≡ bad_lines) × TreeBad schemas s at tt)

-- the same of so many trees
abbrev pub ReadsRow : Bytes → ℕ → ℕ → ℕ → Answer ℕ → Type 0
ReadsRow s at count most (given next) = RowEnds schemas s at tt count next × RowTo schemas s at tt most count next
ReadsRow s at count most (refused r) = ((r ≡ too_deep) × RowDeep schemas s at tt most count) ⊎ ((r ≡ bad_lines) × RowBad schemas s at tt count)
