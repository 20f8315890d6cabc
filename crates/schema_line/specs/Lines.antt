-- A line of a schema sheet at a place of the sheet: what it says, and what `SchemaLine` shows of it. Assumes nothing.
use Rattle.std.specs.Prelude.{◌≡◌, List, [], ◌∷◌, ◌++◌, ℕ, ◌+◌, ◌^◌, ◌≤◌, ◌<◌, ltb, length, drop, Option, Some, None}
use Rattle.sheets.specs.Refusal.{bad_lines}
use Rattle.sheets.specs.Rule.{Rule, is, ◌and◌, Meets}
use Rattle.sheets.specs.Bytes.{Bytes, line_end, lacks, split}
use Rattle.sheets.specs.Answer.{Answer, refused, given, ◌>>=◌, when}
use Rattle.sheets.specs.Number.{decimal, write_signed}
use Rattle.sheets.specs.Text.{write_text, read_text}
use Rattle.sheets.specs.Schema.{Line, node_of, children_of, dictionary_of, schema_line, node_rule}
use Rattle.columns.specs.Columns.{part, part_of}
use Rattle.schema_line.specs.declared.SchemaLine.{SchemaLine}

-- ── the line that stands at a place

-- `format name flags metadata children dictionary`: the line from place `at` on, its texts as parts of the sheet. Each column is as long as what is written in it,
-- and one byte stands after each
unfoldable pub shown_at : ℕ → Line → SchemaLine
shown_at at x =
    let format = at + length (write_text x.0) in
    let name = format + 1 + length (write_text x.1.0) in
    let flags = name + 1 + length (write_signed x.1.1.0) in
    let metadata = flags + 1 + length (write_text x.1.1.1.0) in
    let children = metadata + 1 + length (decimal (children_of x)) in
    let dictionary = children + 1 + length (decimal (dictionary_of x)) in
    record {
      format = part_of at format;
      name = part_of (format + 1) name;
      flags = x.1.1.0;
      metadata = part_of (flags + 1) metadata;
      children = children_of x;
      dictionary = dictionary_of x;
      end = dictionary + 1;
    }

-- the first of the parts between bytes 10, if a byte 10 ends it
abbrev pub first_line : List Bytes → Answer Bytes
first_line [] = refused bad_lines
first_line (p ∷ []) = refused bad_lines
first_line (p ∷ q ∷ ps) = given p

-- What a line has to keep by itself. "`dictionary` is 0 or 1"; `children` has 64 bits, since a larger count is past the lines that are there.
abbrev pub line_rule : Line → Rule
line_rule x = node_rule (node_of x) and (is (ltb (children_of x) (2 ^ 64)) and is (ltb (dictionary_of x) 2))

unfoldable pub read_line : Bytes → ℕ → Answer SchemaLine
read_line s at = do
  b ← first_line (split line_end (drop at s))
  x ← schema_line.read b
  when bad_lines (line_rule x) (shown_at at x)

-- ── what is known of a line that stands

-- the bytes from a to b are a text's column
pub record TextAt (s : Bytes) (a b : ℕ) (t : Option Bytes) : Type 0 where
  pub some : a < b
  pub within : b ≤ length s
  pub reads : read_text (part s a b) ≡ given t

-- the struct shows the line: its texts as parts of the sheet, its numbers as they are
pub record Shows (s : Bytes) (l : SchemaLine) (x : Line) : Type 0 where
  pub format : TextAt s l.format.start l.format.end x.0
  pub name : TextAt s l.name.start l.name.end x.1.0
  pub flags : l.flags ≡ x.1.1.0
  pub metadata : TextAt s l.metadata.start l.metadata.end x.1.1.1.0
  pub children : l.children ≡ children_of x
  pub dictionary : l.dictionary ≡ dictionary_of x

-- the line x with its byte 10 stands here, and then rest
pub record Stands (s : Bytes) (at : ℕ) (x : Line) (rest : Bytes) : Type 0 where
  pub bytes : Bytes
  pub is : drop at s ≡ bytes ++ (10 ∷ rest)
  pub free : Meets (lacks 10 bytes)
  pub reads : schema_line.read bytes ≡ given x

-- a line that keeps its rules stands here, the struct shows it, and the sheet goes on at its end
pub record LineAt (s : Bytes) (at : ℕ) (l : SchemaLine) : Type 0 where
  pub line : Line
  pub stands : Stands s at line (drop l.end s)
  pub rule : Meets (node_rule (node_of line))
  pub one : dictionary_of line < 2
  pub shows : Shows s l line
  pub low : at < l.end
  pub high : l.end ≤ length s
