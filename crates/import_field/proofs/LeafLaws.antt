-- The line of a leaf that was written at once is what import makes of the tree that stands there. Assumes nothing.
use mathlib.Core.Path.{◌≡◌, sym, ap, subst, ◌∙◌}
use mathlib.Core.Bool.{Bool, true, false}
use mathlib.Core.List.{List, [], ◌∷◌}
use Rattle.std.specs.Prelude.{None, Some, Option, Ok}
use Prim.Native.Nat.{ℕ, ◌+◌, ◌*◌, ◌/◌, ◌%◌, ◌≤◌, ◌<◌}
use native.Mathlib.Omega.{arith}
use lib.IntN.{pos}
use lib.ListN.{drop}
use Rattle.sheets.specs.Bytes.{Bytes}
use Rattle.sheets.specs.Answer.{given}
use Rattle.sheets.specs.Sheet.{ended}
use Rattle.sheets.specs.Flags.{is_sorted, nullable}
use Rattle.sheets.specs.Utf8.{is_utf8}
use Rattle.sheets.specs.Field.{Info, leaf}
use Rattle.sheets.specs.Format.{of_scalar, read_format}
use Rattle.sheets.specs.Schema.{Line, node_of, Schema, schema, Schemas, end, ◌&◌, Dictionary, absent, present, count_schemas, count_dictionary}
use Rattle.sheets.specs.FieldSheet.{field_line, line_of, of_scalar as scalar_shape}
use Rattle.sheets.specs.SchemaTrees.{push_children, push_dictionary, Standing}
use Rattle.sheets.proofs.FormLaws.{standing_on}
use Rattle.sheets.specs.ImportLines.{written}
use Rattle.sheets.specs.Visits.{import_lines}
use Rattle.sheets.proofs.ImportVisits.{own_line, no_line_below}
use Rattle.buffer.specs.Over.{PutFirst}
use Rattle.columns.specs.Columns.{part}
use Rattle.leaf_line.proofs.ShortLaws.{name_some, short_says}
use Rattle.field_leaf.specs.LeafText.{short_text}
use Rattle.field_leaf.proofs.LeafLaws.{line_text_lem}
use Rattle.outcome.specs.declared.Size.{Size}
use Rattle.put_leaf.proofs.LineLaws.{short_length}
use Rattle.put_leaf.specs.Written.{LeafWritten, is_put, LeafPuts}
use Rattle.schema_sheet.specs.Trees.{ReadsTree}
use Rattle.schema_sheet.proofs.ReadLaws.{leaf_read}
use Rattle.import_field.specs.Recursion.{FieldWrote, Wrote, FieldRead, FieldTold}
use Rattle.import_field.specs.declared.Tree.{Tree}
use Rattle.refusal.specs.Refusals.{Refusing}
use Rattle.import_field.proofs.FieldsLaws.{tree_at}

-- the field that a leaf becomes
abbrev info : Bytes → ℕ → Info
info name flags = record { name = name; nullable = nullable (pos flags); pairs = None }

abbrev field_text : ℕ → Bytes → ℕ → Bytes
field_text kind name flags = field_line.write (line_of (scalar_shape (leaf kind 0)) (Some (info name flags)) 0)

-- what import makes of the node
leaf_becomes : (big : Bool) (f n : Bytes) (kind flags : ℕ) → is_utf8 f ≡ true → is_utf8 n ≡ true → ((sorted : Bool) → read_format sorted f ≡ given (of_scalar (leaf kind 0)))
    → written big false (schema (record { format = Some f; name = Some n; flags = pos flags; metadata = None }) end absent) ≡ given (field_text kind n flags ∷ [])
leaf_becomes big f n kind flags hf hn means = rw (hf, means (is_sorted (pos flags)), hn)

-- one line is visited
abbrev pub size_of : ℕ → Size
size_of len = record { len = len; lines = 1 }

-- ── the tree that stands there

module _ {s : Bytes} {at : ℕ} {out out' : Bytes} {next len : ℕ} (big : Bool) (w : LeafWritten s at out out' next len) where
  text : short_text w.kind (part s (at + 3) w.e) (w.flags / 2 % 2) 0 ≡ ended (field_text w.kind w.leaf.bytes w.flags ∷ [])
  text =
      ap (λ (b : Bytes). short_text w.kind b (w.flags / 2 % 2) 0) w.leaf.name
      ∙ line_text_lem w.kind w.leaf.bytes (w.flags / 2 % 2) (name_some w.leaf) (omega arith)

  -- the line is not much longer than the schema's
  text_short : len + 32 * at ≤ 32 * next
  text_short =
      let k = w.leaf in
      omega (arith, short_length k w.kind (w.flags / 2 % 2) 0 (omega (arith, k.names.known)), w.put.0, w.after, k.some)

  module _ (t : Schema) (ts : List Schema) where
    abbrev node : Line → Schema
    node x = schema (node_of x) end absent

    opened : (cs : Schemas) (d : Dictionary) → count_schemas cs ≡ 0 → count_dictionary d ≡ 0 → t ≡ schema (node_of w.leaf.line.line) cs d
        → Standing (drop (w.e + 9) s) (push_children cs (push_dictionary d ts)) → Wrote s ts (written big false t) (import_lines t) out out' (Ok (next, size_of len))
    opened (c & cs) d n m e h = absurd (omega arith)
    opened end (present c) n m e h = absurd (omega arith)
    opened end absent n m e h =
        let k = w.leaf in (
          field_text w.kind k.bytes w.flags ∷ [],
          ap (written big false) (e ∙ ap node (short_says k))
              ∙ leaf_becomes big k.format k.bytes w.kind w.flags k.names.utf8 k.utf8 k.names.means,
          subst (λ (b : Bytes). PutFirst b len out out') text w.put,
          subst (λ (i : ℕ). Standing (drop i s) ts) (sym w.after) h,
          omega (arith, w.after, k.high),
          omega (arith, ap import_lines e, own_line (node_of k.line.line) end absent, no_line_below (node_of k.line.line)),
        )

  -- all that `to_field` tells
  pub leaf_field_lem : (levels : ℕ) → FieldWrote s (tree_at at levels false big) out out' (Ok (next, size_of len))
  leaf_field_lem levels t ts f =
      let p = w.leaf.line in
      let q = p.stands in
      let o = standing_on q.bytes (drop (w.e + 9) s) q.free p.line q.reads t ts (subst (λ (b : Bytes). Standing b (t ∷ ts)) q.is f.stands) in
      opened t ts o.children o.dictionary (o.counted ∙ sym p.shows.children) (o.one ∙ sym p.shows.dictionary) o.is_node o.stands

  -- and the tree is read
  pub leaf_tree : (levels : ℕ) → 0 < levels → FieldRead s at levels (given (next, size_of len))
  leaf_tree levels l =
      (subst (λ (i : ℕ). ReadsTree s at levels (given i)) (sym w.after) (leaf_read w.leaf levels l), text_short, omega (arith, w.after, w.leaf.some))

-- ── at the places of `next_field`

module _ (s : Bytes) (t : Tree) (out mid : Bytes) (r : Option (ℕ × ℕ)) (h : LeafPuts s t.at t.bare out mid r) where
  pub leaf_done : (next len : ℕ) → r ≡ Some (next, len) → 0 < t.levels → FieldTold s t out mid (Ok (next, size_of len))
  leaf_done next len e l =
      let p : (t.bare ≡ false) × LeafWritten s t.at out mid next len = subst (LeafPuts s t.at t.bare out mid) e h in (
        leaf_tree t.big p.1 t.levels l,
        subst (λ (b : Bool). FieldWrote s (tree_at t.at t.levels b t.big) out mid (Ok (next, size_of len))) (sym p.0) (leaf_field_lem t.big p.1 t.levels),
      )

  pub leaf_other : r ≡ None → (last : Bytes) (z : Refusing (ℕ × Size)) → FieldTold s t mid last z → FieldTold s t out last z
  leaf_other e last z f =
      let p : (is_put s t.at t.bare out ≡ false) × (mid ≡ out) = subst (LeafPuts s t.at t.bare out mid) e h in
      subst (λ (b : Bytes). FieldTold s t b last z) p.1 f
