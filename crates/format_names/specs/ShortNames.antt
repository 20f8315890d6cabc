-- The fixed names of one byte as a short line is recognised by them: by their two digits. Assumes nothing.
use Rattle.std.specs.Prelude.{cond, List, [], ◌∷◌, ℕ, eqb, length, Option, None, Some}
use Rattle.sheets.specs.Bytes.{Bytes, same}
use Rattle.sheets.specs.Text.{hex}
use Rattle.sheets.specs.Format.{FormatRow}
use Rattle.sheets.specs.FixedNames.{fixed_rows}

abbrev pub of_one_byte : List FormatRow → List FormatRow
of_one_byte [] = []
of_one_byte (r ∷ rs) = cond (eqb (length r.name) 1) (r ∷ of_one_byte rs) (of_one_byte rs)

-- the rows whose names have one byte
unfoldable pub short_rows : List FormatRow
unfolding fixed_rows
short_rows = of_one_byte fixed_rows

-- the kind of the row whose name the digits t say
abbrev pub kind_among : Bytes → List FormatRow → Option ℕ
kind_among t [] = None
kind_among t (r ∷ rs) = cond (same t (hex r.name)) (Some r.kind) (kind_among t rs)

-- the kind and the unit: no name of one byte tells a unit
abbrev pub without_unit : Option ℕ → Option (ℕ × ℕ)
without_unit None = None
without_unit (Some kind) = Some (kind, 0)
