-- The line of a list, a large list or a struct that was written at once is the own line of the node that stands there: by the laws on a type's line
-- (`BeginLaws`), since such a line has no metadata, and its name is UTF-8. Assumes nothing.
use mathlib.Core.Path.{◌≡◌, refl, sym, ap, subst, ◌∙◌}
use mathlib.Core.Bool.{Bool, false}
use mathlib.Core.List.{List, [], ◌∷◌}
use Rattle.std.specs.Prelude.{None, Some, Option, Ok}
use Prim.Native.Nat.{ℕ, ◌+◌, ◌*◌, ◌-◌, ◌/◌, ◌%◌, ◌≤◌, ◌<◌}
use native.Mathlib.Omega.{arith}
use lib.IntN.{pos}
use Rattle.sheets.specs.Bytes.{Bytes}
use Rattle.sheets.specs.Answer.{Answer, given, ◌>>=◌}
use Rattle.sheets.specs.Sheet.{ended}
use Rattle.sheets.specs.Schema.{Line, node_of, children_of, Schema, schema}
use Rattle.sheets.specs.Import.{format_text}
use Rattle.sheets.specs.ImportLines.{below, node_shape, own_of, written, type_written, row_written}
use Rattle.sheets.specs.FieldSheet.{field_line, line_of}
use Rattle.sheets.specs.Visits.{import_lines}
use Rattle.sheets.proofs.ImportLaws.{own_plain}
use Rattle.sheets.proofs.ImportVisits.{own_line}
use Rattle.buffer.specs.Over.{PutFirst}
use Rattle.schema_line.specs.declared.SchemaLine.{SchemaLine}
use Rattle.schema_line.specs.Lines.{LineAt}
use Rattle.schema_sheet.specs.Trees.{ReadsRow}
use Rattle.schema_sheet.proofs.ReadLaws.{reading_none, reading_all}
use Rattle.import_type.specs.TypeColumns.{below_of}
use Rattle.leaf_line.specs.Short.{short_line}
use Rattle.leaf_line.specs.Nested.{NestedType, list_type, large_list_type, struct_type, nested_shape, nested_kind}
use Rattle.leaf_line.proofs.ShortLaws.{short_says}
use Rattle.node.specs.Nodes.{line_type}
use Rattle.put_leaf.specs.declared.NestedPut.{NestedPut}
use Rattle.put_leaf.specs.Written.{NestedWritten, is_nested_put, NestedPuts}
use Rattle.put_leaf.proofs.LineLaws.{short_length, nested_info, nested_text, nested_shape_lem}
use Rattle.import_field.specs.declared.Tree.{Tree}
use Rattle.import_field.specs.declared.Visit.{Visit}
use Rattle.import_field.specs.declared.NodeBegun.{NodeBegun}
use Rattle.import_field.specs.Recursion.{FieldAt, visit_of, NodeBegins, NodeTold}
use Rattle.import_field.proofs.BeginLaws.{counted, begins_with}
use Rattle.refusal.specs.Refusals.{Refusing}
use Rattle.import_field.proofs.OwnLaws.{opened, type_at}

-- the type visits so many of its children, and leaves the last ones
visit_same : (t : NestedType) (c n m : ℕ) → n ≡ below (nested_shape t) c → n + m ≡ c → visit_of (below_of (nested_shape t)) c ≡ record { first = 0; count = n; bare = false; last = m }
visit_same list_type c n m e q = let r : c - 1 ≡ m = omega (arith, e, q) in λ i. record { first = 0; count = sym e i; bare = false; last = r i }
visit_same large_list_type c n m e q = let r : c - 1 ≡ m = omega (arith, e, q) in λ i. record { first = 0; count = sym e i; bare = false; last = r i }
visit_same struct_type c n m e q = let r : 0 ≡ m = omega (arith, e, q) in λ i. record { first = 0; count = sym e i; bare = false; last = r i }

module _ {s : Bytes} {at : ℕ} {out mid : Bytes} {next len count last : ℕ} (w : NestedWritten s at out mid next len count last) where
  abbrev line : SchemaLine
  line = short_line 4 at w.e w.flags w.children

  abbrev p : LineAt s at line
  p = w.nested.short.line

  abbrev visit : Visit
  visit = record { first = 0; count = count; bare = false; last = last }

  -- ── what is read, whatever stands below the line

  kind_small_lem : (t : NestedType) → nested_kind t < 100
  kind_small_lem list_type = omega arith
  kind_small_lem large_list_type = omega arith
  kind_small_lem struct_type = omega arith

  -- the line is not much longer than the schema's
  text_short : len + 32 * at ≤ 32 * next
  text_short =
      let k = w.nested.short in
      omega (arith, short_length k (nested_kind w.type) (w.flags / 2 % 2) count (kind_small_lem w.type), w.put.0, w.after, k.some)

  -- no subtree stands before those that are visited
  none_first : (levels : ℕ) → ReadsRow s line.end 0 levels (given next)
  none_first levels =
      let k = w.nested.short in
      subst (λ (i : ℕ). ReadsRow s (w.e + 9) 0 levels (given i)) (sym w.after) (reading_all (reading_none s (w.e + 9) 0 levels k.high) (omega arith))

  -- ── what is written for the tree that stands there

  line_type_lem : line_type p.line ≡ given (nested_shape w.type)
  unfolding line_type
  line_type_lem =
      let k = w.nested.short in
      let text : format_text (Some k.format) ≡ given k.format = rw k.names.utf8 in
      ap (λ (x : Line). format_text (node_of x).format >>= λ f. node_shape f (node_of x).flags (children_of x) x.1.1.1.1.1.0) (short_says k)
      ∙ ap (λ (a : Answer Bytes). a >>= λ f. node_shape f (pos w.flags) w.children 0) text
      ∙ nested_shape_lem w

  own : (big : Bool) → own_of big (node_of p.line) ≡ given (nested_info w, None)
  own big = let k = w.nested.short in ap (λ (x : Line). own_of big (node_of x)) (short_says k) ∙ rw k.utf8

  own_put : PutFirst (ended (field_line.write (line_of (nested_shape w.type) (Some (nested_info w)) (below (nested_shape w.type) (children_of p.line))) ∷ [])) len out mid
  own_put =
      let same : count ≡ below (nested_shape w.type) (children_of p.line) = w.visited ∙ ap (below (nested_shape w.type)) p.shows.children in
      subst (λ (n : ℕ). PutFirst (ended (field_line.write (line_of (nested_shape w.type) (Some (nested_info w)) n) ∷ [])) len out mid) same (subst (λ (b : Bytes). PutFirst b len out mid) (nested_text w) w.put)

-- ── at the places of `begin_node`

module _ (s : Bytes) (t : Tree) (out mid : Bytes) (r : Option NestedPut) (h : NestedPuts s t.at t.bare out mid r) where
  pub nested_other : r ≡ None → (last : Bytes) (b : Refusing NodeBegun) → NodeTold s t mid last b → NodeTold s t out last b
  nested_other e last b f =
      let p : (is_nested_put s t.at t.bare out ≡ false) × (mid ≡ out) = subst (NestedPuts s t.at t.bare out mid) e h in
      subst (λ (y : Bytes). NodeTold s t y last b) p.1 f

  module _ (next len count last : ℕ) (e : r ≡ Some (record { next = next; len = len; count = count; last = last })) where
    there : (t.bare ≡ false) × NestedWritten s t.at out mid next len count last
    there = subst (NestedPuts s t.at t.bare out mid) e h

    w : NestedWritten s t.at out mid next len count last
    w = there.1

    given_same : {A : Type 0} (x y : A) → given x ≡ given y → x ≡ y
    given_same x y q = cc

    -- the line is the node's own, and what its type visits stands next
    begun : (u : Schema) (ts : List Schema) → FieldAt s t.at t.levels u ts → NodeBegins s t u ts out mid next len (visit w) (given tt)
    begun u ts f =
        let p = w.nested.short.line in
        let o = opened p f in
        let sh = nested_shape w.type in
        let k = type_at p f in
        let v = ap (visit_of (below_of sh)) (counted k) ∙ visit_same w.type w.children count last w.visited w.all in
        let g = begins_with k sh (line_type_lem w) (visit w) v t.big (Some (nested_info w)) next len out mid (none_first w (t.levels - 1)) (own_put w) in
        let plain : written t.big false u ≡ type_written t.big (Some (nested_info w)) (schema (node_of p.line) o.children o.dictionary) =
        ap (written t.big false) o.is_node ∙ own_plain t.big false (node_of p.line) o.children o.dictionary (nested_info w) (own w t.big) in
        record {
          us = g.us;
          vs = g.vs;
          own = given (g.line ∷ []);
          visited = g.visited;
          others = g.others;
          low = g.low;
          becomes = subst (λ (b : Bool). written t.big b u ≡ (row_written t.big false g.us >>= λ ls. given (g.line ∷ ls))) (sym there.0) (plain ∙ g.becomes);
          lines = omega (arith, g.lines, own_line (node_of p.line) o.children o.dictionary, ap import_lines o.is_node);
          pends = refl;
          put = λ a q. subst (λ (y : List Bytes). PutFirst (ended y) len out mid) (given_same (g.line ∷ []) a q) g.put;
        }

    pub nested_told : NodeTold s t out mid (Ok (record { from = next; len = len; visit = record { first = 0; count = count; bare = false; last = last }; pending = Ok tt }))
    nested_told = (
      record { line = line w; there = w.nested.short.line; first = none_first w (t.levels - 1); all = omega (arith, w.all); long = text_short w },
      begun,
    )
