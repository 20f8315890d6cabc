-- Columns and lines, each with its writer and its reader, so that a line's columns are listed once: "Values are split by one space." Assumes nothing.
use Rattle.std.specs.Prelude.{List, [], ◌∷◌, ℕ, ℤ, Option}
use Rattle.sheets.specs.Refusal.{bad_lines}
use Rattle.sheets.specs.Bytes.{Bytes, space, split, join}
use Rattle.sheets.specs.Answer.{Answer, refused, given, ◌>>=◌}
use Rattle.sheets.specs.Number.{decimal, read_number, write_signed, read_signed}
use Rattle.sheets.specs.Text.{write_text, read_text}

infixr 30 ◌▸◌
-- a value in one column or one line
pub record Codec (A : Type 0) : Type 0 where
  pub write : A → Bytes
  pub read : Bytes → Answer A

-- a number
abbrev pub number : Codec ℕ
number = record { write = decimal; read = read_number }

-- a signed number
abbrev pub signed : Codec ℤ
signed = record { write = write_signed; read = read_signed }

-- a text, or none
abbrev pub text : Codec (Option Bytes)
text = record { write = write_text; read = read_text }

-- the column's own bytes
abbrev pub raw : Codec Bytes
raw = record { write = λ b. b; read = λ b. given b }

-- values in columns one after the other
pub record ColumnsCodec (A : Type 0) : Type 0 where
  pub writes : A → List Bytes
  pub reads : List Bytes → Answer A

abbrev pub no_columns : List Bytes → Answer (Unit {0})
no_columns [] = given tt
no_columns (c ∷ cs) = refused bad_lines

-- no more columns
abbrev pub done : ColumnsCodec (Unit {0})
done = record { writes = λ u. []; reads = no_columns }

-- the first column and the others
abbrev pub read_column : {A B : Type 0} → (Bytes → Answer A) → (List Bytes → Answer B) → List Bytes → Answer (A × B)
read_column read reads [] = refused bad_lines
read_column read reads (c ∷ cs) = read c >>= λ a. reads cs >>= λ b. given (a, b)

-- one column, then the others
abbrev pub ◌▸◌ : {A B : Type 0} → Codec A → ColumnsCodec B → ColumnsCodec (A × B)
◌▸◌ c r = record { writes = λ x. c.write x.0 ∷ r.writes x.1; reads = read_column c.read r.reads }

-- a line: the columns split by one space
abbrev pub line : {A : Type 0} → ColumnsCodec A → Codec A
line r = record { write = λ a. join space (r.writes a); read = λ b. r.reads (split space b) }
