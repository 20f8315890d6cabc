-- The parts between separators, by places: a format's parts, a union's ids and a field's pairs are joined by commas, a pair's sides by `=`. Assumes nothing.
use Rattle.std.specs.Prelude.{cond, List, [], ◌∷◌, ℕ, suc, eqb, leb, length, drop}
use Rattle.sheets.specs.Bytes.{Bytes, comma, split}

-- how many bytes stand before the first that is x
abbrev pub bytes_before : ℕ → Bytes → ℕ
bytes_before x [] = 0
bytes_before x (b ∷ bs) = cond (eqb b x) 0 (suc (bytes_before x bs))

-- the parts between commas from `from` on; none past the end
abbrev pub parts_from : Bytes → ℕ → List Bytes
parts_from b from = cond (leb from (length b)) (split comma (drop from b)) []
