-- A column of a line: the bytes of a sheet from a place up to the byte that ends the column. "Values are split by one space", and byte 10 ends a
-- line. Assumes nothing.
use Rattle.std.specs.Prelude.{◌≡◌, Bool, false, ◌&&◌, ◌||◌, cond, [], ◌∷◌, ◌++◌, ℕ, suc, ◌+◌, ◌-◌, ◌≤◌, ◌<◌, eqb, ltb, length, get_or, take, drop, Option, None, Some}
use Rattle.sheets.specs.Rule.{passes, Meets}
use Rattle.sheets.specs.Bytes.{Bytes, line_end, space, all, lacks}
use Rattle.columns.specs.declared.Part.{Part}

-- the bytes from a to b
abbrev pub part : Bytes → ℕ → ℕ → Bytes
part s a b = take (b - a) (drop a s)

abbrev pub part_of : ℕ → ℕ → Part
part_of a b = record { start = a; end = b }

-- a byte that ends a column: the space between two columns, the end of a line
abbrev pub is_stop : ℕ → Bool
is_stop b = eqb b space || eqb b line_end

-- how many bytes stand before the first that ends a column
unfoldable pub column_length : Bytes → ℕ
column_length [] = 0
column_length (b ∷ bs) = cond (is_stop b) 0 (suc (column_length bs))

-- the first place from a on whose byte ends a column, or the end of the sheet
abbrev pub stop_from : Bytes → ℕ → ℕ
stop_from s a = a + column_length (drop a s)

-- where the column from a on ends, if the byte stop ends it
unfoldable pub column_end : ℕ → Bytes → ℕ → Option ℕ
column_end stop s a = cond (ltb (stop_from s a) (length s) && eqb (get_or s (stop_from s a) 0) stop) (Some (stop_from s a)) None

-- a column stands from a to e, and the byte stop ends it
pub record ColumnAt (s : Bytes) (a e stop : ℕ) : Type 0 where
  pub low : a ≤ e
  pub high : e < length s
  pub is : drop a s ≡ part s a e ++ (stop ∷ drop (e + 1) s)
  pub spaces : Meets (lacks space (part s a e))
  pub ends : Meets (lacks line_end (part s a e))

-- a place at which the test holds
abbrev pub keep : (ℕ → Bool) → Option ℕ → Option ℕ
keep f None = None
keep f (Some e) = cond (f e) (Some e) None

-- where the column from a on ends, if the byte stop ends it and f holds of it
unfoldable pub column_of : (Bytes → Bool) → ℕ → Bytes → ℕ → Option ℕ
column_of f stop s a = keep (λ e. f (part s a e)) (column_end stop s a)

-- the column that these bytes begin with is one byte, of which f holds, and the byte stop ends it
unfoldable pub one_of : (ℕ → Bool) → ℕ → Bytes → Bool
one_of f stop [] = false
one_of f stop (b ∷ []) = false
one_of f stop (b ∷ c ∷ bs) = f b && eqb c stop

-- so are all bytes of columns that keep their rules, and no byte that ends a column is
abbrev pub past_space : ℕ → Bool
past_space b = ltb space b

-- ── blocks, which are tested at once

abbrev pub block_size : ℕ
block_size = 32

-- no column ends from a on before e, and no block past the space stands from e on
pub record Passes (s : Bytes) (a e : ℕ) : Type 0 where
  pub within : e ≤ length s
  pub same : stop_from s a ≡ stop_from s e
  pub last : e + block_size ≤ length s → passes (all past_space (part s e (e + block_size))) ≡ false
