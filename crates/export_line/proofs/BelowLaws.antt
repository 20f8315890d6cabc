-- From the field's first line, the line of its type in all extensions and what was written for it, to what is left of the field's walk (`export_opened`).
-- Assumes nothing.
use mathlib.Core.Path.{◌≡◌, refl, sym, ap, ap₂, subst, ◌∙◌}
use mathlib.Core.Bool.{Bool, true, false, not, ◌&&◌, ◌||◌, cond}
use mathlib.Core.List.{List, [], ◌∷◌, ◌++◌}
use Rattle.std.specs.Prelude.{Option, None, Some}
use Prim.Native.Nat.{ℕ, ◌+◌, ◌-◌, ◌≤◌, ◌<◌, ◌^◌}
use native.Mathlib.Omega.{arith}
use lib.Dec.{eqb}
use lib.IntN.{pos}
use lib.ListN.{length, length-append, length-drop}
use Rattle.sheets.specs.Rule.{passes, Meets}
use Rattle.sheets.specs.Bytes.{Bytes, lacks, line_end}
use Rattle.sheets.specs.Answer.{Answer, refused, given, ◌>>=◌}
use Rattle.sheets.specs.Sheet.{ended, is_some}
use Rattle.sheets.specs.Text.{write_text}
use Rattle.sheets.specs.Flags.{NULLABLE}
use Rattle.sheets.specs.Kind
use Rattle.sheets.specs.Field.{Info, ArrowDataType}
use Rattle.sheets.specs.FieldSheet.{Entry, Shape, columns, info_columns}
use Rattle.sheets.specs.FieldTrees.{Head, is_extension, shape_rule, own_rule, type_shape, type_count, type_below, entry_head, entry_lines, fields}
use Rattle.sheets.specs.Mappings.{to_storage}
use Rattle.sheets.specs.Metadata.{Extension, schema_metadata}
use Rattle.sheets.specs.Schema.{schema_line, line_of}
use Rattle.sheets.specs.Export.{flag}
use Rattle.sheets.specs.Walk.{Step, Walked, extensions_around, writes, line_walked, type_walked, row_walked}
use Rattle.sheets.specs.ExportSteps.{Bearer, or_values, extension_in, schema_own, schema_step}
use Rattle.sheets.proofs.Tests.{never}
use Rattle.sheets.proofs.FieldTrees.{fields_lawful, is_dictionary, dictionary_kind}
use Rattle.sheets.proofs.LineTrees.{standing_many}
use Rattle.sheets.proofs.ExportSteps.{export_opened}
use Rattle.buffer.specs.Over.{over}
use Rattle.field_pairs.proofs.ReservedLaws.{pairs_column_lem}
use Rattle.column_text.specs.ColumnText.{has_zero}
use Rattle.put_format.specs.LineFormat.{shape_format, line_format, CanFormat}
use Rattle.put_schema_line.specs.Lines.{node_name, line_text, PutsLine, PutsColumns, column_at, LinePut, CanPutColumns, CanPutLine}
use Rattle.put_schema_line.specs.declared.LineColumns.{LineColumns}
use Rattle.put_schema_line.specs.declared.LineNumbers.{LineNumbers}
use Rattle.put_schema_line.proofs.LineLaws.{moved, shape_flags, shape_flags_lem, other_small, line_size}
use Rattle.read_field_line.specs.FieldLines.{PartAt, Shows, FieldLineAt}
use Rattle.read_field_line.specs.declared.FieldLine.{FieldLine}
use Rattle.walks.specs.Places.{own_limit, TypeAt, RowAt, Owns, Begins, BeginsAs}
use Rattle.walks.specs.Answers.{begun_answer}
use Rattle.walks.specs.declared.Subtree.{Subtree}
use Rattle.walks.specs.declared.Subtrees.{Subtrees}
use Rattle.storage_line.specs.StorageLines.{StorageAt}
use Rattle.storage_line.specs.Below.{RowLeft}
use Rattle.storage_line.specs.declared.StorageLine.{StorageLine}
use Rattle.line_below.proofs.LineLaws.{line_opened, line_rule_lem, line_kind, line_p, line_count, line_extension}
use Rattle.storage_line.proofs.BelowLaws as Storage
use Rattle.export_line.specs.Begins.{is_alone, columns_from, numbers_of, zero_pending, begun_with}
use Rattle.export_line.proofs.ColumnLaws.{is_part, part_short, part_text_lem, name_column_lem, nullable_is, name_is_lem, extension_name, extension_more, extension_said, extension_rules, more_said, name_said, can_format, line_format_lem, line_said}
use Rattle.refusal.specs.Refusals.{Refusing, answer_of}
use Rattle.export_line.proofs.StepLaws.{index_small, extended, WrittenType, written, own_put}
use Rattle.walks.specs.declared.LineBegun.{LineBegun}

-- ── a field

-- a field at `tree`: its first line, and the line of its type in all extensions
module _ (big : Bool) {s : Bytes} (tree : Subtree) {i : Option Info} {t : ArrowDataType} {es : List Entry} (f : TypeAt s tree.at tree.levels tree.inside i t es)
    (first : FieldLine) (a : FieldLineAt s tree.at first) {v : StorageLine} (g : StorageAt s tree t es v) (alone : Bool) (is : alone ≡ is_alone first.kind v.line.kind) where
  abbrev l : FieldLine
  l = v.line

  abbrev inner : Shape
  inner = type_shape (to_storage t)

  abbrev info : Info
  info = or_values i

  abbrev around : Option Extension
  around = extension_in (type_shape t)

  abbrev below : List Entry
  below = type_below (to_storage t)

  -- ── what the lines say

  head : entry_head (i, t) ≡ a.line
  head = (line_opened f.stands a).0

  shown : Shows s first (entry_head (i, t))
  shown = subst (Shows s first) (sym head) a.shows

  own_rules : Meets (own_rule i) × Meets (shape_rule (type_shape t))
  own_rules = let o = subst (λ (h : Head). Meets (fields.own h)) (sym head) a.there.own in (o.0, o.1)

  inner_rule : Meets (shape_rule inner)
  inner_rule = line_rule_lem g.type.stands g.line

  shape_is : inner ≡ g.line.line.shape
  shape_is = ap (λ (h : Head). h.shape) (line_opened g.type.stands g.line).0

  kind_is_lem : l.kind ≡ (columns inner).kind
  kind_is_lem = line_kind g.type.stands g.line

  p_is_lem : l.p ≡ (columns inner).p
  p_is_lem = line_p g.type.stands g.line

  q_is_lem : l.q ≡ (columns inner).q
  q_is_lem = g.line.shows.q ∙ ap (λ (h : Shape). (columns h).q) (sym shape_is)

  count_is : l.children ≡ type_count (to_storage t)
  count_is = line_count g.type.stands g.line

  outer_is : eqb first.kind Kind.Extension ≡ is_extension (type_shape t)
  outer_is = line_extension f.stands a

  inner_is : eqb l.kind Kind.Dictionary ≡ is_dictionary inner
  inner_is = ap (λ (k : ℕ). eqb k Kind.Dictionary) kind_is_lem ∙ dictionary_kind inner inner_rule

  alone_is : alone ≡ (is_dictionary inner && is_some around)
  alone_is = is ∙ ap₂ ◌&&◌ inner_is (outer_is ∙ extended (type_shape t))

  -- an index type is one of ten
  pub index_fits : alone ≡ true → l.p < 10
  index_fits e = pick (eqb l.kind Kind.Dictionary) refl (sym is ∙ e)
    where
      pick : (b : Bool) → eqb l.kind Kind.Dictionary ≡ b → (b && eqb first.kind Kind.Extension) ≡ true → l.p < 10
      pick true d h = omega (arith, p_is_lem, index_small inner inner_rule (sym inner_is ∙ d))
      pick false d h = never h

  -- ── what stands below

  row : RowAt s l.end l.children (tree.levels - 1) false below es
  row = Storage.row tree f g

  few_below : type_count (to_storage t) < 65536
  few_below = omega (arith, f.short, standing_many fields_lawful row.stands, length-append below es, row.counted, count_is, length-drop l.end s)

  -- ── the columns

  abbrev numbers : LineNumbers
  numbers = numbers_of info.nullable (is_dictionary inner && is_some around) (columns inner).kind (columns inner).p (columns inner).q (type_count (to_storage t)) big

  numbers_are : numbers_of (first.bare || first.nullable) alone l.kind l.p l.q l.children big ≡ numbers
  numbers_are =
      let b : (first.bare || first.nullable) ≡ info.nullable = ap₂ ◌||◌ shown.bare shown.nullable ∙ nullable_is i in
      λ j. numbers_of (b j) (alone_is j) (kind_is_lem j) (p_is_lem j) (q_is_lem j) (count_is j) big

  abbrev wrote : WrittenType big (to_storage t) info around numbers
  wrote = written big info (to_storage t) (Storage.storage_plain t) inner_rule around

  text_at : PartAt s l.text (columns inner).text
  text_at = subst (λ (h : Shape). PartAt s l.text (columns h).text) (sym shape_is) g.line.shows.text

  more_at : PartAt s first.more (write_text (extension_more (type_shape t)))
  more_at = subst (PartAt s first.more) (more_said (type_shape t)) shown.more

  extension_at : PartAt s (cond (eqb first.kind Kind.Extension) first.text first.more) (write_text (extension_name (type_shape t)))
  extension_at =
      subst (λ (b : Bool). PartAt s (cond b first.text first.more) (write_text (extension_name (type_shape t)))) (sym outer_is)
      (subst (PartAt s (cond (is_extension (type_shape t)) first.text first.more)) (name_said (type_shape t)) (pick (is_extension (type_shape t))))
    where
      pick : (b : Bool) → PartAt s (cond b first.text first.more) (cond b (columns (type_shape t)).text (columns (type_shape t)).more)
      pick true = shown.text
      pick false = shown.more

  text_short : length (columns wrote.shape).text < 65536
  text_short = omega (arith, ap length wrote.text, part_short f.short text_at)

  children_few : wrote.children < 65536
  children_few = omega (arith, wrote.few, few_below)

  -- the columns of this field as they were written
  abbrev At : (Bytes → Bytes → Bytes → Bytes → Bytes → Type 0) → Type 0
  At P = P (columns inner).text (info_columns i).0 (info_columns i).1.1 (write_text (extension_name (type_shape t))) (write_text (extension_more (type_shape t)))

  abbrev InSheet : (Bytes → Bytes → Bytes → Bytes → Bytes → Type 0) → LineColumns → Type 0
  InSheet P c = P (column_at s c.text) (column_at s c.name) (column_at s c.pairs) (column_at s c.extension) (column_at s c.more)

  format_fits_lem : CanFormat numbers.kind numbers.p numbers.q (columns inner).text numbers.children 0
  format_fits_lem =
      let w = wrote.shape in
      subst (λ (k : LineNumbers). CanFormat k.kind k.p k.q (columns inner).text k.children 0) (sym wrote.is)
      (subst (λ (y : Bytes). CanFormat (columns w).kind (columns w).p (columns w).q y wrote.children 0) wrote.text (can_format w wrote.plain wrote.rule text_short wrote.children children_few))

  columns_fit : At (CanPutColumns numbers)
  columns_fit =
      let r = extension_rules (type_shape t) own_rules.1 in
      record {
        format = format_fits_lem;
        named = name_column_lem f.short i own_rules.0 shown.name;
        column = pairs_column_lem i own_rules.0;
        short = part_short f.short shown.pairs;
        extended = part_text_lem f.short (extension_name (type_shape t)) extension_at r.0;
        metadata = part_text_lem f.short (extension_more (type_shape t)) more_at r.1;
      }

  pub can_put : (c : LineColumns) (n : LineNumbers) → c ≡ columns_from first l → n ≡ numbers_of (first.bare || first.nullable) alone l.kind l.p l.q l.children big
      → CanPutLine s c n
  can_put c n e d =
      subst (λ (y : LineColumns). CanPutLine s y n) (sym e) (subst (λ (y : LineNumbers). CanPutLine s (columns_from first l) y) (sym (d ∙ numbers_are))
      (record {
        text = is_part text_at;
        name = is_part shown.name;
        pairs = is_part shown.pairs;
        extension = is_part extension_at;
        more = is_part more_at;
        columns = moved (CanPutColumns numbers) (sym text_at.is) (sym shown.name.is) (sym shown.pairs.is) (sym extension_at.is) (sym more_at.is) columns_fit;
      }))

  -- ── the line

  abbrev own_line : Bytes → Bytes
  own_line h =
      schema_line.write (line_of (record { format = Some h; name = Some info.name; flags = pos (flag info.nullable NULLABLE + shape_flags wrote.shape); metadata = schema_metadata big info.pairs around }) wrote.children wrote.values)

  abbrev line_out : Bytes → Bytes
  line_out = line_text numbers (info_columns i).0 (info_columns i).1.1 (write_text (extension_name (type_shape t))) (write_text (extension_more (type_shape t)))

  flags_are : numbers.flags ≡ flag info.nullable NULLABLE + shape_flags wrote.shape
  flags_are =
      ap (λ (k : LineNumbers). k.flags) wrote.is
      ∙ ap (λ (x : ℕ). flag info.nullable NULLABLE + x) (shape_flags_lem wrote.shape wrote.rule)

  flags_low : numbers.flags < 2 ^ 64
  flags_low = omega (arith, ap (λ (k : LineNumbers). k.flags) wrote.is, other_small (columns wrote.shape).kind (columns wrote.shape).p (columns wrote.shape).q, nullable_low info.nullable)
    where
      nullable_low : (b : Bool) → flag b NULLABLE ≤ 2
      nullable_low true = omega arith
      nullable_low false = omega arith

  values_low : numbers.dictionary < 2 ^ 64
  values_low = omega (arith, ap (λ (k : LineNumbers). k.dictionary) wrote.is, wrote.one)

  line_low : (h : Bytes) → line_format numbers.kind numbers.p numbers.q (columns inner).text numbers.children ≡ given h → length (line_out h) ≤ own_limit
  line_low h e =
      let k = columns_fit in
      omega (
        arith,
        line_size numbers (columns inner).text (info_columns i).0 (info_columns i).1.1 (write_text (extension_name (type_shape t))) (write_text (extension_more (type_shape t))) k h e flags_low values_low,
        k.format.short,
        k.format.few,
        k.named.short,
        k.short,
        k.extended.short,
        k.metadata.short,
      )

  line_is : (h : Bytes) → line_out h ≡ ended (own_line h ∷ [])
  line_is h =
      let r = extension_rules (type_shape t) own_rules.1 in
      line_said i own_rules.0 (extension_name (type_shape t)) (extension_more (type_shape t)) r.0 r.1 numbers h
      ∙ λ j. schema_line.write (line_of (record { format = Some h; name = Some info.name; flags = pos (flags_are j); metadata = schema_metadata (wrote.is j).big info.pairs (extension_said (type_shape t) j) }) (wrote.is j).children (wrote.is j).dictionary) ++ (line_end ∷ [])

  -- ── the walk

  abbrev format : Answer Bytes
  format = line_format numbers.kind numbers.p numbers.q (columns inner).text numbers.children

  abbrev step_of : Bytes → Step (Option Bearer)
  step_of h = writes (schema_own big info around h (shape_flags wrote.shape) wrote.children wrote.values) wrote.below

  format_is : shape_format wrote.shape wrote.children ≡ format
  format_is =
      let w = wrote.shape in
      sym (line_format_lem w wrote.plain wrote.rule text_short wrote.children children_few)
      ∙ ap (λ (y : Bytes). line_format (columns w).kind (columns w).p (columns w).q y wrote.children) wrote.text
      ∙ ap (λ (k : LineNumbers). line_format k.kind k.p k.q (columns inner).text k.children) (sym wrote.is)

  opened : (y : Answer Bytes) → format ≡ y → type_walked (schema_step big) t i None ≡ line_walked (extensions_around t) (y >>= λ h. given (step_of h)) (λ τ. row_walked (schema_step big) below τ) (entry_lines below)
  opened y e =
      export_opened big t i
      ∙ ap (λ (x : Answer (Step (Option Bearer))). line_walked (extensions_around t) x (λ τ. row_walked (schema_step big) below τ) (entry_lines below)) (wrote.step ∙ ap (λ (x : Answer Bytes). x >>= λ h. given (step_of h)) (format_is ∙ e))

  module _ (w : Subtrees) (left : RowLeft s tree l alone w) (old out : Bytes) where
    -- the line is written
    begun : (h : Bytes) → format ≡ given h → (len : ℕ) (pending : Answer (Unit {0})) → Owns (step_of h).own pending len old out → len ≤ own_limit
        → Begins (schema_step big) s tree.at tree.levels tree.inside (type_walked (schema_step big) t i None) es old out
        (record { from = w.at; count = w.count; levels = w.levels; inside = w.inside; state = None; size = record { len = len; lines = v.passed + 1 }; pending = pending })
    begun h e len pending owns short =
        Storage.begun tree f g (schema_step big) None (type_walked (schema_step big) t i None) (step_of h) (opened (given h) e) (is_dictionary inner && is_some around) w (subst (λ (b : Bool). RowLeft s tree l b w) alone_is left) old out len pending owns short wrote.left

    -- what was written, or why nothing was
    told : (r : Refusing (ℕ × Bool)) → At (λ text name pairs extension more. PutsColumns numbers text name pairs extension more r old out)
        → BeginsAs (schema_step big) s tree.at tree.levels tree.inside (type_walked (schema_step big) t i None) es old out (begun_with w v.passed (answer_of r))
    told r p = go format refl p
      where
        go : (y : Answer Bytes) → format ≡ y → PutsLine y (info_columns i).0 line_out r old out
            → BeginsAs (schema_step big) s tree.at tree.levels tree.inside (type_walked (schema_step big) t i None) es old out (begun_with w v.passed (answer_of r))
        go (refused q) e k =
            subst (λ (z : Answer (ℕ × Bool)). BeginsAs (schema_step big) s tree.at tree.levels tree.inside (type_walked (schema_step big) t i None) es old out (begun_with w v.passed z)) (sym k.0) (ap (λ (y : Walked). y.0) (opened (refused q) e))
        go (given h) e k =
            let zeros : (has_zero h || has_zero (node_name (info_columns i).0)) ≡ (not (passes (lacks 0 h)) || not (passes (lacks 0 info.name))) =
            ap (λ (y : Bytes). has_zero h || has_zero y) (name_is_lem i own_rules.0) in
            let own : Owns (step_of h).own (zero_pending (has_zero h || has_zero (node_name (info_columns i).0))) (length (line_out h)) old out =
            subst (λ (z : Bool). Owns (step_of h).own (zero_pending z) (length (line_out h)) old out) (sym zeros)
            (own_put (passes (lacks 0 info.name)) (passes (lacks 0 h)) (own_line h) (length (line_out h)) old out (ap length (line_is h), k.1 ∙ ap (λ (y : Bytes). over y old) (line_is h))) in
            subst (λ (z : Answer (ℕ × Bool)). BeginsAs (schema_step big) s tree.at tree.levels tree.inside (type_walked (schema_step big) t i None) es old out (begun_with w v.passed z)) (sym k.0)
            (begun h e (length (line_out h)) (zero_pending (has_zero h || has_zero (node_name (info_columns i).0))) own (line_low h e))

    -- the same by the parts of the sheet and by what is answered
    pub begins : (c : LineColumns) (n : LineNumbers) → c ≡ columns_from first l → n ≡ numbers_of (first.bare || first.nullable) alone l.kind l.p l.q l.children big
        → (r : Refusing (ℕ × Bool)) → LinePut s c n r old out → (z : Refusing LineBegun) → begun_answer (λ (levels : ℕ) (inside : Bool). None) z ≡ begun_with w v.passed (answer_of r)
        → BeginsAs (schema_step big) s tree.at tree.levels tree.inside (type_walked (schema_step big) t i None) es old out (begun_answer (λ (levels : ℕ) (inside : Bool). None) z)
    begins c n e d r p z k =
        subst (BeginsAs (schema_step big) s tree.at tree.levels tree.inside (type_walked (schema_step big) t i None) es old out) (sym k)
        (told r
        (moved (λ text name pairs extension more. PutsColumns numbers text name pairs extension more r old out) text_at.is shown.name.is shown.pairs.is extension_at.is more_at.is
        (subst (λ (y : LineNumbers). LinePut s (columns_from first l) y r old out) (d ∙ numbers_are) (subst (λ (y : LineColumns). LinePut s y n r old out) e p))))
