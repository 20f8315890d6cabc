-- The page line by line (`Walk`), as code does it that recurses on the levels left. It refuses nothing. Assumes nothing.
use Rattle.std.specs.Prelude.{Bool, ◌&&◌, [], ◌∷◌, ℕ, suc, ◌+◌, ◌-◌}
use Rattle.sheets.specs.Answer.{Answer, given}
use Rattle.sheets.specs.Sheet.{level_limit}
use Rattle.sheets.specs.FieldSheet.{to_nat}
use Rattle.sheets.specs.FieldTrees.{Head, is_extension}
use Rattle.sheets.specs.Walk.{levels_below, visit, Step, writes}
use Rattle.sheets.specs.Page.{page_line}

-- the level of a line that has so many levels left, its own among them: the first line has all 32. An extension directly in another is one level deeper.
abbrev pub level_of : ℕ → Bool → Bool → ℕ
level_of levels inside extension = suc level_limit - levels + to_nat (inside && extension)

-- the state: the levels left, and whether the line stands directly in an extension
abbrev pub page_step : ℕ × Bool → Head → Answer (Step (ℕ × Bool))
page_step (levels, inside) x =
    let extension = is_extension x.shape in
    given (writes (given (page_line (level_of levels inside extension) x ∷ [])) (visit (levels_below x.shape inside levels, extension)))
