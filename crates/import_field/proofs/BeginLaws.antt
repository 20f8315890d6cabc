-- What is known at each place of `begin_type`: the type's line is written, the first subtrees are read, and those that the type visits stand next. The
-- lines of a type are its own, then those of what it visits, by `type_written_lem`. Assumes nothing.
use mathlib.Core.Path.{◌≡◌, refl, sym, ap, ap₂, subst, ◌∙◌}
use mathlib.Core.Bool.{Bool}
use mathlib.Core.List.{List, [], ◌∷◌, ◌++◌}
use Rattle.std.specs.Prelude.{Option, Ok, Err}
use Prim.Native.Nat.{ℕ, ◌+◌, ◌<◌}
use native.Mathlib.Omega.{arith}
use lib.ListN.{length, drop}
use Rattle.sheets.specs.Bytes.{Bytes}
use Rattle.sheets.specs.Answer.{Answer, refused, given, ◌>>=◌}
use Rattle.sheets.specs.Sheet.{ended}
use Rattle.sheets.specs.Schema.{Line, node_of, children_of, dictionary_of, Schema, schema, Schemas, Dictionary, absent, present, count_schemas, count_dictionary}
use Rattle.sheets.specs.Field.{Info}
use Rattle.sheets.specs.FieldSheet.{Shape, field_line, line_of}
use Rattle.sheets.specs.Import.{format_text}
use Rattle.sheets.specs.ImportLines.{node_shape, below, type_written, row_written, visited, is_bare}
use Rattle.sheets.specs.Visits.{below_lines, row_lines}
use Rattle.sheets.specs.SchemaTrees.{push_children, Standing}
use Rattle.sheets.proofs.Tests.{first_gave}
use Rattle.sheets.proofs.ImportLaws.{type_written_lem}
use Rattle.sheets.proofs.ImportVisits.{visited_below}
use Rattle.buffer.specs.Over.{PutFirst}
use Rattle.buffer.proofs.OverLaws.{put_over}
use Rattle.schema_line.specs.declared.SchemaLine.{SchemaLine}
use Rattle.schema_sheet.specs.Trees.{ReadsRow}
use Rattle.schema_sheet.proofs.ReadLaws.{reads_standing}
use Rattle.import_type.specs.TypeColumns.{below_of}
use Rattle.import_type.specs.declared.Below.{Below}
use Rattle.refusal.specs.declared.Refusal.{Refusal as Reason}
use Rattle.refusal.specs.Refusals.{refusal_of, Refusing, answer_of}
use Rattle.node.specs.declared.lines.Shown.{Shown}
use Rattle.node.specs.Pieces.{info_piece}
use Rattle.node.specs.Nodes.{column_in, shown_in, NodeIn, line_type, type_text, LineTold, TypeLinePuts}
use Rattle.node.proofs.LineLaws.{line_text_lem}
use Rattle.import_field.specs.declared.Visit.{Visit}
use Rattle.import_field.specs.Recursion.{TypeAt, HasLine, HasFirst, type_length, visit_of, LineBegins, FirstRead}
use Rattle.import_field.proofs.PlanLaws.{fits_first, Fits, shape_fits, visit_bare, visit_count, Cut, cut}

-- a chain of three steps
chained : {A B C : Type 0} (m : Answer A) (f : A → Answer B) (g : B → Answer C) → (m >>= λ a. f a >>= g) ≡ (m >>= f >>= g)
chained (refused r) f g = refl
chained (given a) f g = refl

one_dictionary : (d : Dictionary) → count_dictionary d < 2
one_dictionary absent = omega arith
one_dictionary (present s) = omega arith

-- the node whose line was found
pub node_of_lem : {s : Bytes} {l : SchemaLine} {w : Shown} {es : List ℕ} → HasLine s l w es → NodeIn s l
node_of_lem h = record { line = h.line; shows = h.shows; short = h.short }

-- ── what is told of its line, whatever stands below it

-- the counts on the line are those that its type asks for
line_fits : (x : Line) → dictionary_of x < 2 → (sh : Shape) → line_type x ≡ given sh → Fits sh (children_of x) (dictionary_of x)
unfolding line_type
line_fits x one sh e =
    let (f, is, told) = first_gave (format_text (node_of x).format) (λ f. node_shape f (node_of x).flags (children_of x) (dictionary_of x)) sh e in
    shape_fits f (node_of x).flags (children_of x) (dictionary_of x) sh one told

module _ (s : Bytes) (l : SchemaLine) (w : Shown) (es : List ℕ) (h : HasLine s l w es) (out mid : Bytes) (r : Refusing (ℕ × Below)) (puts : TypeLinePuts s l w es out mid r) (len : ℕ) (b : Below) (e : r ≡ Ok (len, b)) where
  line_told : LineTold (line_type h.line) (children_of h.line) (length (column_in s l.format)) (shown_in s l es w) out mid (given (len, b))
  line_told = subst (λ (y : Refusing (ℕ × Below)). TypeLinePuts s l w es out mid y) e puts h.line h.shows

  line_asks : Fits line_told.0 l.children l.dictionary
  line_asks =
      let f = line_fits h.line h.one line_told.0 line_told.1 in
      subst (λ (n : ℕ). Fits line_told.0 n l.dictionary) (sym h.shows.children) (subst (λ (n : ℕ). Fits line_told.0 (children_of h.line) n) (sym h.shows.dictionary) f)

  -- a child that is needed is there
  pub first_child_lem : HasFirst b l.children
  first_child_lem = subst (λ (y : Below). HasFirst y l.children) (sym line_told.3) (fits_first line_told.0 l.children l.dictionary line_asks)

  -- the first subtrees were read
  pub first_read : (v : Visit) → v ≡ visit_of b l.children → (levels next : ℕ) → ReadsRow s l.end v.first levels (given next) → FirstRead s l levels (type_length s l w es) (given (next, (len, v)))
  first_read v is_visit levels next k =
      let is : v ≡ visit_of (below_of line_told.0) l.children = is_visit ∙ ap (λ (y : Below). visit_of y l.children) line_told.3 in
      (k, subst (λ (y : Visit). y.first + y.count + y.last ≡ l.dictionary + l.children) (sym is) (visit_count line_told.0 l.children l.dictionary line_asks), line_told.4)

module _ {s : Bytes} {l : SchemaLine} {levels : ℕ} {x : Line} {cs : Schemas} {d : Dictionary} {ts : List Schema} (h : TypeAt s l levels x cs d ts) where
  -- ── the lines of the type

  module _ (big : Bool) (j : Option Info) where
    abbrev first_line : Shape → Bytes
    first_line sh = field_line.write (line_of sh j (below sh (children_of x)))

    abbrev rest : Shape → Answer (List Bytes)
    rest sh = row_written big (is_bare sh) (visited sh cs d) >>= λ ls. given (first_line sh ∷ ls)

    -- the lines of the type, by its line
    becomes : type_written big j (schema (node_of x) cs d) ≡ (line_type x >>= rest)
    unfolding line_type
    becomes =
        type_written_lem big j (node_of x) cs d
        ∙ chained (format_text (node_of x).format) (λ f. node_shape f (node_of x).flags (count_schemas cs) (count_dictionary d)) (step (count_schemas cs))
        ∙ ap₂ (λ (k m : ℕ). format_text (node_of x).format >>= (λ f. node_shape f (node_of x).flags k m) >>= step k) h.children h.dictionary
      where
        step : ℕ → Shape → Answer (List Bytes)
        step k sh = row_written big (is_bare sh) (visited sh cs d) >>= λ ls. given (field_line.write (line_of sh j (below sh k)) ∷ ls)

  module _ (sh : Shape) (e : line_type x ≡ given sh) where
    -- the type over the node's children
    shaped : (f : Bytes) × (format_text (node_of x).format ≡ given f) × (node_shape f (node_of x).flags (count_schemas cs) (count_dictionary d) ≡ given sh)
    unfolding line_type
    shaped =
        let (f, is, told) = first_gave (format_text (node_of x).format) (λ f. node_shape f (node_of x).flags (children_of x) (dictionary_of x)) sh e in
        (f, is, ap₂ (λ (k m : ℕ). node_shape f (node_of x).flags k m) h.children h.dictionary ∙ told)

    fits : Fits sh (count_schemas cs) (count_dictionary d)
    fits = shape_fits shaped.0 (node_of x).flags (count_schemas cs) (count_dictionary d) sh (one_dictionary d) shaped.2

    visits : below_lines (schema (node_of x) cs d) ≡ row_lines (visited sh cs d)
    visits = visited_below (node_of x) shaped.0 shaped.1 cs sh d shaped.2

    -- what it visits
    module _ (v : Visit) (visit : visit_of (below_of sh) (count_schemas cs) ≡ v) where
      parts : Cut cs d ts (visited sh cs d) v
      parts = subst (Cut cs d ts (visited sh cs d)) visit (cut sh cs d ts fits)

      abbrev next_trees : List Schema
      next_trees = push_children (visited sh cs d) (parts.last ++ ts)

      stands : Standing (drop l.end s) (parts.first ++ next_trees)
      stands = subst (Standing (drop l.end s)) parts.are h.stands

      passed : (k : Refusing ℕ) → ReadsRow s l.end v.first levels (answer_of k) → (next : ℕ) × (k ≡ Ok next)
      passed k reads = reads_standing s l.end v.first levels parts.first next_trees stands parts.first_count (omega (arith, h.deep, parts.first_deep)) k reads

      -- its line is written, and what it passes is read
      pub begins_with : (big : Bool) (j : Option Info) (next len : ℕ) (out mid : Bytes) → ReadsRow s l.end v.first levels (given next) → PutFirst (ended (first_line big j sh ∷ [])) len out mid
          → LineBegins big s levels (type_written big j (schema (node_of x) cs d)) (below_lines (schema (node_of x) cs d)) ts out mid next len v
      begins_with big j next len out mid reads put =
          let m = reads.1 parts.first next_trees stands parts.first_count in
          record {
            us = visited sh cs d;
            vs = parts.last;
            line = first_line big j sh;
            visited = record {
              stands = m.1;
              counted = parts.count;
              deep = omega (arith, h.deep, parts.deep);
              within = m.3;
              short = h.short;
            };
            others = parts.last_count;
            low = omega (arith, h.deep, parts.last_deep);
            becomes =
                becomes big j
                ∙ ap (λ (a : Answer Shape). a >>= rest big j) e
                ∙ ap (λ (y : Bool). row_written big y (visited sh cs d) >>= λ ls. given (first_line big j sh ∷ ls)) (sym (visit_bare sh (count_schemas cs) (count_dictionary d) fits) ∙ ap (λ (y : Visit). y.bare) visit);
            lines = visits;
            put = put;
          }

  pub counted : count_schemas cs ≡ l.children
  counted = h.children ∙ sym h.shows.children

  -- ── what is told of its line

  module _ (w : Shown) (es : List ℕ) (out mid : Bytes) (r : Refusing (ℕ × Below)) (puts : TypeLinePuts s l w es out mid r) where
    -- the type is refused
    pub type_refused : (q : Reason) → r ≡ Err q → (j : Option Info) → type_written w.big j (schema (node_of x) cs d) ≡ refused (refusal_of q)
    type_refused q e j =
        let told : line_type x ≡ refused (refusal_of q) = subst (λ (y : Refusing (ℕ × Below)). TypeLinePuts s l w es out mid y) e puts x h.shows in
        becomes w.big j ∙ ap (λ (a : Answer Shape). a >>= rest w.big j) told

    module _ (len : ℕ) (b : Below) (e : r ≡ Ok (len, b)) where
      abbrev own : Bytes
      own = shown_in s l es w

      told : LineTold (line_type x) (children_of x) (length (column_in s l.format)) own out mid (given (len, b))
      told = subst (λ (y : Refusing (ℕ × Below)). TypeLinePuts s l w es out mid y) e puts x h.shows

      abbrev sh : Shape
      sh = told.0

      module _ (v : Visit) (is_visit : v ≡ visit_of b l.children) where
        visit : visit_of (below_of sh) (count_schemas cs) ≡ v
        visit = ap (visit_of (below_of sh)) counted ∙ ap (λ (y : Below). visit_of y l.children) (sym told.3) ∙ sym is_visit

        module _ (k : Refusing ℕ) (reads : ReadsRow s l.end v.first levels (answer_of k)) where
          -- the trees before those that are visited are read
          pub first_to : (next : ℕ) × (k ≡ Ok next)
          first_to = passed sh told.1 v visit k reads

          -- the visited trees stand next
          pub begins : (next : ℕ) → k ≡ Ok next → (j : Option Info) → own ≡ info_piece j
              → LineBegins w.big s levels (type_written w.big j (schema (node_of x) cs d)) (below_lines (schema (node_of x) cs d)) ts out mid next len v
          begins next e j shows =
              let m = subst (λ (y : Refusing ℕ). ReadsRow s l.end v.first levels (answer_of y)) e reads in
              let line_is : type_text sh own (below sh (children_of x)) ≡ ended (first_line w.big j sh ∷ []) = line_text_lem sh j (below sh (children_of x)) own shows in
              begins_with sh told.1 v visit w.big j next len out mid m
              (subst (λ (y : Bytes). PutFirst y len out mid) line_is (put_over (type_text sh own (below sh (children_of x))) out told.2))
