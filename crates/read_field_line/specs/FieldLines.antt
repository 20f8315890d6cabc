-- A line of a field sheet at a place of the sheet: what `FieldLine` shows of it, and what reading it tells. Assumes nothing.
use Rattle.std.specs.Prelude.{◌≡◌, Bool, false, ℕ, ◌+◌, ◌≤◌, ◌<◌, length, Option, None, Some}
use Rattle.sheets.specs.Refusal.{bad_lines}
use Rattle.sheets.specs.Bytes.{Bytes}
use Rattle.sheets.specs.Answer.{Answer, refused, given}
use Rattle.sheets.specs.Number.{decimal}
use Rattle.sheets.specs.Field.{Info}
use Rattle.sheets.specs.FieldSheet.{columns, info_columns}
use Rattle.sheets.specs.FieldTrees.{Head, is_bare, fields}
use Rattle.sheets.specs.TreeWalks.{LineAt, TreeBad}
use Rattle.columns.specs.Columns.{part}
use Rattle.columns.specs.declared.Part.{Part}
use Rattle.read_field_line.specs.declared.FieldLine.{FieldLine}

-- the bytes from the part's start to its end are the column c, which is not empty
pub record PartAt (s : Bytes) (p : Part) (c : Bytes) : Type 0 where
  pub some : p.start < p.end
  pub within : p.end ≤ length s
  pub is : part s p.start p.end ≡ c

-- `nullable`; 0 where the line is bare
abbrev pub flag_of : Option Info → Bool
flag_of None = false
flag_of (Some i) = i.nullable

-- the struct shows the line: its numbers as they are, its texts and lists as parts of the sheet, each as its type and its field are written
pub record Shows (s : Bytes) (l : FieldLine) (h : Head) : Type 0 where
  pub kind : l.kind ≡ (columns h.shape).kind
  pub p : l.p ≡ (columns h.shape).p
  pub q : l.q ≡ (columns h.shape).q
  pub text : PartAt s l.text (columns h.shape).text
  pub more : PartAt s l.more (columns h.shape).more
  pub name : PartAt s l.name (info_columns h.info).0
  pub bare : l.bare ≡ is_bare h.info
  pub nullable : l.nullable ≡ flag_of h.info
  pub pairs : PartAt s l.pairs (info_columns h.info).1.1
  pub children : l.children ≡ h.children
  -- where they stand: `nullable`, one byte, between name and pairs, and `children` after pairs, up to the line's byte 10
  pub flag : l.pairs.start ≡ l.name.end + 3
  pub last : l.end ≡ l.pairs.end + length (decimal h.children) + 2

-- a line that keeps its rules stands here, and the struct shows it
pub record FieldLineAt (s : Bytes) (at : ℕ) (l : FieldLine) : Type 0 where
  pub line : Head
  pub there : LineAt fields s at line l.end
  pub shows : Shows s l line

-- a line that keeps its rules; or no tree begins here, bare or not
abbrev pub ReadsLine : Bytes → ℕ → Answer FieldLine → Type 0
ReadsLine s at (given l) = FieldLineAt s at l
ReadsLine s at (refused r) = (r ≡ bad_lines) × ((bare : Bool) → TreeBad fields s at bare)
