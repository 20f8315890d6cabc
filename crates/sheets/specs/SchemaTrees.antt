-- Schema sheets as trees of lines (`LineTrees`): "A node is followed by its children's subtrees, then its dictionary's". So the trees below a line are
-- its children and its dictionary; all are of one form, and each line is a level. Assumes nothing.
use Rattle.std.specs.Prelude.{List, [], ◌∷◌, ◌++◌, ℕ, ◌+◌, ltb}
use Rattle.sheets.specs.Rule.{is}
use Rattle.sheets.specs.Bytes.{Bytes}
use Rattle.sheets.specs.Answer.{Answer}
use Rattle.sheets.specs.Schema.{Schema, schema, Schemas, end, ◌&◌, Dictionary, absent, present, Line, line_of, node_of, children_of, dictionary_of, count_schemas, count_dictionary, schema_line, schema_lines, place_schema, schema_trees, node_rule, schema_rule, schema_levels}
use Rattle.sheets.specs.LineTrees.{Grammar}
use Rattle.sheets.specs.LineTrees as T

-- the children, the dictionary, in front of other trees
abbrev pub push_children : Schemas → List Schema → List Schema
push_children end ts = ts
push_children (s & ss) ts = s ∷ push_children ss ts

abbrev pub push_dictionary : Dictionary → List Schema → List Schema
push_dictionary absent ts = ts
push_dictionary (present s) ts = s ∷ ts

-- a schema is a line and the schemas below it
abbrev pub schema_head : Schema → Line
schema_head (schema n cs d) = line_of n (count_schemas cs) (count_dictionary d)

abbrev pub subtrees : Schemas → Dictionary → List Schema
subtrees cs d = push_children cs (push_dictionary d [])

abbrev pub schema_below : Schema → List Schema
schema_below (schema n cs d) = subtrees cs d

-- the lines of trees one after the other
abbrev pub all_lines : List Schema → List Bytes
all_lines [] = []
all_lines (t ∷ ts) = schema_lines t ++ all_lines ts

-- "`dictionary` is 0 or 1"; every line is one level
abbrev pub schemas : Grammar
schemas =
    record {
      Line = Line;
      Tree = Schema;
      Form = Unit {0};
      Context = Unit {0};
      read = λ b. schema_line.read b;
      place = place_schema;
      trees = schema_trees;
      rule = schema_rule;
      levels = λ u t. schema_levels t;
      head = schema_head;
      below = schema_below;
      counts = λ x. is (ltb (dictionary_of x) 2);
      own = λ x. node_rule (node_of x);
      form = λ x. tt;
      count = λ x. children_of x + dictionary_of x;
      form_below = λ x. tt;
      context_below = λ x. tt;
      cost = λ u x. 1;
      usual = tt;
    }

-- ── `LineTrees` for schemas, with a count and no form

abbrev pub trees_of : Bytes → Answer (List Schema)
trees_of b = T.trees_of schemas b

-- p trees that keep the rules stand here, and nothing after them
abbrev pub Row : ℕ → Bytes → Type 0
Row p b = T.Row schemas p tt b

-- the bytes are the lines of these trees, which keep the rules
abbrev pub Standing : Bytes → List Schema → Type 0
Standing b ts = T.Standing schemas b ts
