-- Field sheets as trees of lines (`LineTrees`): a line tells its type, its field and how many lines are below; only a dictionary's and an extension's
-- line below is bare; a line is a level, but for an extension that does not stand directly in another. Assumes nothing.
use Rattle.std.specs.Prelude.{Bool, true, false, ◌||◌, List, [], ◌∷◌, ◌++◌, ℕ, eqb, ltb, Option, None, Some}
use Rattle.sheets.specs.Rule.{Rule, is, ◌and◌}
use Rattle.sheets.specs.Bytes.{Bytes}
use Rattle.sheets.specs.Answer.{Answer, given, ◌>>=◌}
use Rattle.sheets.specs.Utf8.{is_utf8}
use Rattle.sheets.specs.Kind
use Rattle.sheets.specs.Field.{Info, ArrowDataType, scalar, nested, grouped, dictionary, extension, Fields, nil, add, Field, count_fields, scalar_rule, nesting_rule, grouping_rule, text_rule, info_rule, type_rule, type_levels}
use Rattle.sheets.specs.FieldSheet.{Shape, of_scalar, of_nesting, of_grouping, of_dictionary, of_extension, field_line, columns_of, own_of, children_of, read_shape, read_info, Entry, place_type, entries, type_lines}
use Rattle.sheets.specs.LineTrees.{Grammar}

-- ── what a line says

-- its type without the lines below, its field or, for a bare line, none, and how many lines are directly below
pub record Head : Type 0 where
  pub shape : Shape
  pub info : Option Info
  pub children : ℕ

abbrev pub read_head : Bytes → Answer Head
read_head b = do
  l ← field_line.read b
  s ← read_shape (columns_of l)
  i ← read_info (own_of l)
  given (record { shape = s; info = i; children = children_of l })

-- a line takes the entries below it off those of the lines after it
abbrev pub place_head : Head → List Entry → Answer (List Entry)
place_head h ts = place_type h.shape h.children ts >>= λ y. given ((h.info, y.0) ∷ y.1)

-- the rules of a type's own columns, and of its field's
abbrev pub shape_rule : Shape → Rule
shape_rule (of_scalar s) = scalar_rule s
shape_rule (of_nesting n) = nesting_rule n
shape_rule (of_grouping g) = grouping_rule g
shape_rule (of_dictionary ix ordered) = is (ltb ix 10)
shape_rule (of_extension n m) = is (is_utf8 n) and text_rule m

abbrev pub own_rule : Option Info → Rule
own_rule None = is true
own_rule (Some i) = info_rule i

-- "`children` is 1 for lists, map, dictionary and extension, free for struct and union, else 0"
abbrev pub children_rule : Shape → ℕ → Rule
children_rule (of_scalar s) n = is (eqb n 0)
children_rule (of_nesting g) n = is (eqb n 1)
children_rule (of_grouping g) n = is true
children_rule (of_dictionary ix ordered) n = is (eqb n 1)
children_rule (of_extension a m) n = is (eqb n 1)

-- a bare line says nothing of its field
abbrev pub is_bare : Option Info → Bool
is_bare None = true
is_bare (Some i) = false

-- "A dictionary's values and an extension's inner type are bare lines"
abbrev pub bare_below : Shape → Bool
bare_below (of_scalar s) = false
bare_below (of_nesting g) = false
bare_below (of_grouping g) = false
bare_below (of_dictionary ix ordered) = true
bare_below (of_extension a m) = true

-- the same by the column `kind`: a dictionary or an extension
abbrev pub kind_bare : ℕ → Bool
kind_bare k = eqb k Kind.Dictionary || eqb k Kind.Extension

abbrev pub is_extension : Shape → Bool
is_extension (of_scalar s) = false
is_extension (of_nesting g) = false
is_extension (of_grouping g) = false
is_extension (of_dictionary ix ordered) = false
is_extension (of_extension a m) = true

-- "An extension's inner line is on its extension's level, unless it is an extension too: then one level deeper": so an extension that does not
-- stand directly in another costs nothing, and every other line costs one
abbrev pub line_cost : Bool → Bool → ℕ
line_cost inside false = 1
line_cost true true = 1
line_cost false true = 0

-- ── an entry is a line and the entries below it

-- the fields in front of other entries
abbrev pub push_fields : Fields → List Entry → List Entry
push_fields nil ts = ts
push_fields (add i t fs) ts = (Some i, t) ∷ push_fields fs ts

abbrev pub type_shape : ArrowDataType → Shape
type_shape (scalar s) = of_scalar s
type_shape (nested n j t) = of_nesting n
type_shape (grouped g fs) = of_grouping g
type_shape (dictionary ix ordered t) = of_dictionary ix ordered
type_shape (extension n m t) = of_extension n m

abbrev pub type_below : ArrowDataType → List Entry
type_below (scalar s) = []
type_below (nested n j t) = (Some j, t) ∷ []
type_below (grouped g fs) = push_fields fs []
type_below (dictionary ix ordered t) = (None, t) ∷ []
type_below (extension n m t) = (None, t) ∷ []

abbrev pub type_count : ArrowDataType → ℕ
type_count (scalar s) = 0
type_count (nested n j t) = 1
type_count (grouped g fs) = count_fields fs
type_count (dictionary ix ordered t) = 1
type_count (extension n m t) = 1

abbrev pub entry_head : Entry → Head
entry_head e = record { shape = type_shape e.1; info = e.0; children = type_count e.1 }

abbrev pub entry_rule : Entry → Rule
entry_rule e = own_rule e.0 and type_rule e.1

abbrev pub entry_levels : Bool → Entry → ℕ
entry_levels inside e = type_levels e.1 inside

-- the lines of entries one after the other
abbrev pub entry_lines : List Entry → List Bytes
entry_lines [] = []
entry_lines (t ∷ ts) = type_lines t.1 t.0 ++ entry_lines ts

-- the field of an entry that is not bare
abbrev pub field_at : Entry → Field
field_at e = record { info = elim e.0 [ None ↦ record { name = []; nullable = false; pairs = None } | Some i ↦ i ]; type = e.1 }

-- a line's form: bare or not. Where levels are counted: directly inside an extension or not
abbrev pub fields : Grammar
fields =
    record {
      Line = Head;
      Tree = Entry;
      Form = Bool;
      Context = Bool;
      read = read_head;
      place = place_head;
      trees = entries;
      rule = entry_rule;
      levels = entry_levels;
      head = entry_head;
      below = λ e. type_below e.1;
      counts = λ h. children_rule h.shape h.children;
      own = λ h. own_rule h.info and shape_rule h.shape;
      form = λ h. is_bare h.info;
      count = λ h. h.children;
      form_below = λ h. bare_below h.shape;
      context_below = λ h. is_extension h.shape;
      cost = λ inside h. line_cost inside (is_extension h.shape);
      usual = false;
    }
