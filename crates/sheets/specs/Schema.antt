-- Document 01, 'Schema sheet': the tree of the Arrow C data interface's `struct ArrowSchema`, its lines, and reading them. Assumes nothing.
use Rattle.std.specs.Prelude.{true, List, [], ◌∷◌, ◌++◌, ℕ, zero, suc, ◌^◌, max, leb, ltb, ℤ, Option, None, Some}
use Rattle.std.specs.Int.Signed.{mag}
use Rattle.sheets.specs.Refusal.{bad_lines, too_deep}
use Rattle.sheets.specs.Bytes.{Bytes, ascii, lacks}
use Rattle.sheets.specs.Rule.{Rule, is, ◌and◌}
use Rattle.sheets.specs.Answer.{Answer, refused, given, ◌>>=◌, when}
use Rattle.sheets.specs.Codec.{Codec, number, signed, text, done, ◌▸◌, line}
use Rattle.sheets.specs.Sheet.{level_limit, read_sheet, write_sheet, single}

-- what a node says of itself; a text that is none is a null pointer, and `flags` is signed 64-bit
pub record Node : Type 0 where
  pub format : Option Bytes
  pub name : Option Bytes
  pub flags : ℤ
  pub metadata : Option Bytes

-- a node, its children, its dictionary
mutual
  pub data Schema : Type 0 where
    schema : Node → Schemas → Dictionary → Schema

  pub data Schemas : Type 0 where
    end : Schemas
    ◌&◌ : Schema → Schemas → Schemas

  pub data Dictionary : Type 0 where
    absent : Dictionary
    present : Schema → Dictionary

infixr 67 ◌&◌
abbrev pub count_schemas : Schemas → ℕ
count_schemas end = 0
count_schemas (s & ss) = suc (count_schemas ss)

abbrev pub count_dictionary : Dictionary → ℕ
count_dictionary absent = 0
count_dictionary (present s) = 1

-- "`format name flags metadata children dictionary`"
abbrev pub Line : Type 0
Line = Option Bytes × (Option Bytes × (ℤ × (Option Bytes × (ℕ × (ℕ × Unit {0})))))

abbrev pub schema_line : Codec Line
schema_line = line (text ▸ text ▸ signed ▸ text ▸ number ▸ number ▸ done)

abbrev pub line_of : Node → ℕ → ℕ → Line
line_of n children dictionary = (n.format, (n.name, (n.flags, (n.metadata, (children, (dictionary, tt))))))

abbrev pub node_of : Line → Node
node_of l = record { format = l.0; name = l.1.0; flags = l.1.1.0; metadata = l.1.1.1.0 }

abbrev pub children_of : Line → ℕ
children_of l = l.1.1.1.1.0

abbrev pub dictionary_of : Line → ℕ
dictionary_of l = l.1.1.1.1.1.0

-- "A node is followed by its children's subtrees, then its dictionary's"
abbrev mutual
  pub schema_lines : Schema → List Bytes
  schema_lines (schema n cs d) = schema_line.write (line_of n (count_schemas cs) (count_dictionary d)) ∷ (children_lines cs ++ dictionary_lines d)

  pub children_lines : Schemas → List Bytes
  children_lines end = []
  children_lines (s & ss) = schema_lines s ++ children_lines ss

  pub dictionary_lines : Dictionary → List Bytes
  dictionary_lines absent = []
  dictionary_lines (present s) = schema_lines s

-- the first n of the trees, and the others; else "lines are missing"
abbrev pub take_children : ℕ → List Schema → Answer (Schemas × List Schema)
take_children zero ts = given (end, ts)
take_children (suc n) [] = refused bad_lines
take_children (suc n) (t ∷ ts) = take_children n ts >>= λ (cs, rest). given (t & cs, rest)

-- "`dictionary` is 0 or 1"
abbrev pub take_dictionary : ℕ → List Schema → Answer (Dictionary × List Schema)
take_dictionary zero ts = given (absent, ts)
take_dictionary (suc zero) [] = refused bad_lines
take_dictionary (suc zero) (t ∷ ts) = given (present t, ts)
take_dictionary (suc (suc n)) ts = refused bad_lines

-- a line takes its subtrees off the trees of the lines after it
abbrev pub place_schema : Line → List Schema → Answer (List Schema)
place_schema l ts = do
  (cs, ts) ← take_children (children_of l) ts
  (d, ts) ← take_dictionary (dictionary_of l) ts
  given (schema (node_of l) cs d ∷ ts)

-- The trees whose lines these are, one after the other, from the last line to the first. "`children` is 0 to 2^63 - 1": a larger count, like
-- any that is past the lines that are there, is refused where the children are taken.
abbrev pub schema_trees : List Bytes → Answer (List Schema)
schema_trees [] = given []
schema_trees (b ∷ bs) = schema_trees bs >>= λ ts. schema_line.read b >>= λ l. place_schema l ts

-- ── rules

-- "Byte 00 may not stand in a format or name"
abbrev pub lacks_zero : Option Bytes → Rule
lacks_zero None = is true
lacks_zero (Some bs) = lacks 0 bs

-- "`flags` is signed 64-bit": `mag` is n of n and of -(n + 1)
abbrev pub node_rule : Node → Rule
node_rule n = lacks_zero n.format and lacks_zero n.name and is (ltb (mag n.flags) (2 ^ 63))

-- a rule at each node of a tree
abbrev mutual
  pub each_node : (Node → Rule) → Schema → Rule
  each_node rule (schema n cs d) = rule n and each_child rule cs and each_values rule d

  pub each_child : (Node → Rule) → Schemas → Rule
  each_child rule end = is true
  each_child rule (s & ss) = each_node rule s and each_child rule ss

  pub each_values : (Node → Rule) → Dictionary → Rule
  each_values rule absent = is true
  each_values rule (present s) = each_node rule s

abbrev pub schema_rule : Schema → Rule
schema_rule s = each_node node_rule s

-- the levels of a tree, "the first line being level 1"
abbrev mutual
  pub schema_levels : Schema → ℕ
  schema_levels (schema n cs d) = suc (max (children_levels cs) (dictionary_levels d))

  pub children_levels : Schemas → ℕ
  children_levels end = 0
  children_levels (s & ss) = max (schema_levels s) (children_levels ss)

  pub dictionary_levels : Dictionary → ℕ
  dictionary_levels absent = 0
  dictionary_levels (present s) = schema_levels s

abbrev pub schema_heading : Bytes
schema_heading = ascii "format name flags metadata children dictionary"

abbrev pub write_schema_sheet : Schema → Bytes
write_schema_sheet s = write_sheet schema_heading (schema_lines s)

-- 1, 2 and 3 "over the whole sheet in that order"
abbrev pub read_schema_sheet : Bytes → Answer Schema
read_schema_sheet b = do
  ls ← read_sheet schema_heading b
  ts ← schema_trees ls
  t ← single ts
  t ← when bad_lines (schema_rule t) t
  when too_deep (is (leb (schema_levels t) level_limit)) t
