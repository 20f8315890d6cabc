-- The columns of a field's lines are columns that a schema line is written from, and the line that they give is that of the field's node. Assumes nothing.
use mathlib.Core.Path.{◌≡◌, refl, sym, ap, ◌∙◌}
use mathlib.Core.Bool.{false, ◌||◌, cond, true≢false}
use mathlib.Core.List.{[], ◌∷◌, ◌++◌}
use Rattle.std.specs.Prelude.{Option, None, Some}
use Prim.Native.Nat.{ℕ, ◌-◌, ◌≤◌, ◌<◌}
use native.Mathlib.Omega.{arith}
use lib.Dec.{eqb}
use lib.IntN.{pos}
use lib.ListN.{length, drop, length-take, length-drop}
use Rattle.sheets.specs.Refusal.{bad_lines}
use Rattle.sheets.specs.Rule.{is, Meets}
use Rattle.sheets.specs.Bytes.{Bytes, line_end}
use Rattle.sheets.specs.Answer.{given, when}
use Rattle.sheets.specs.Text.{write_text}
use Rattle.sheets.specs.Kind
use Rattle.sheets.specs.Field.{Info, leaf, timestamp, fixed_size_binary, decimal_type, list, large_list, fixed_size_list, map, struct, union, text_rule}
use Rattle.sheets.specs.FieldSheet.{Shape, of_scalar, of_nesting, of_grouping, of_dictionary, of_extension, no_text, columns, info_columns, shape_at, same_columns}
use Rattle.sheets.specs.Format.{or_empty}
use Rattle.sheets.specs.Metadata.{Extension, extension_of, schema_metadata}
use Rattle.sheets.specs.Schema.{schema_line, line_of}
use Rattle.sheets.specs.FieldTrees.{is_extension, is_bare, shape_rule, own_rule}
use Rattle.sheets.specs.ExportSteps.{or_values, extension_in}
use Rattle.sheets.proofs.Tests.{first_gave, met_when}
use Rattle.sheets.proofs.FieldSheetLaws.{read_shape_lem}
use Rattle.sheets.proofs.FieldTrees.{below_kind}
use Rattle.columns.specs.declared.Part.{Part}
use Rattle.column_text.specs.ColumnText.{TextColumn}
use Rattle.column_text.proofs.ColumnTextLaws.{column_says}
use Rattle.put_format.specs.LineFormat.{shape_format, line_shape, line_format, CanFormat}
use Rattle.put_format.proofs.ArmLaws.{is_format_lem}
use Rattle.put_schema_line.specs.Lines.{node_name, line_text, IsPart}
use Rattle.put_schema_line.specs.declared.LineNumbers.{LineNumbers}
use Rattle.put_schema_line.proofs.LineLaws.{node_line, bare_line}
use Rattle.read_field_line.specs.FieldLines.{PartAt, flag_of}

-- ── parts of a sheet

pub is_part : {s : Bytes} {p : Part} {c : Bytes} → PartAt s p c → IsPart s p
is_part h = record { low = omega (arith, h.some); high = h.within }

module _ {s : Bytes} (short : length s ≤ 65535) where
  pub part_short : {p : Part} {c : Bytes} → PartAt s p c → length c < 65536
  part_short {p} {c} h = omega (arith, short, ap length (sym h.is), length-take (p.end - p.start) (drop p.start s), length-drop p.start s)

  pub part_text_lem : {p : Part} (o : Option Bytes) → PartAt s p (write_text o) → Meets (text_rule o) → TextColumn (write_text o)
  part_text_lem o h k = record { text = o; is = refl; rule = k; short = part_short h }

  -- the field's name
  pub name_column_lem : {p : Part} (i : Option Info) → Meets (own_rule i) → PartAt s p (info_columns i).0 → TextColumn (info_columns i).0
  name_column_lem None h k = part_text_lem None k refl
  name_column_lem (Some i) h k = part_text_lem (Some i.name) k h.0

-- a bare line is that of a dictionary's values, which are nullable
pub nullable_is : (i : Option Info) → (is_bare i || flag_of i) ≡ (or_values i).nullable
nullable_is None = refl
nullable_is (Some i) = refl

pub name_is_lem : (i : Option Info) → Meets (own_rule i) → node_name (info_columns i).0 ≡ (or_values i).name
name_is_lem None h = ap or_empty (column_says None refl)
name_is_lem (Some i) h = ap or_empty (column_says (Some i.name) h.0)

-- ── the extension that a line says

abbrev pub extension_name : Shape → Option Bytes
extension_name (of_scalar s) = None
extension_name (of_nesting g) = None
extension_name (of_grouping g) = None
extension_name (of_dictionary ix ordered) = None
extension_name (of_extension a m) = Some a

abbrev pub extension_more : Shape → Option Bytes
extension_more (of_scalar s) = None
extension_more (of_nesting g) = None
extension_more (of_grouping g) = None
extension_more (of_dictionary ix ordered) = None
extension_more (of_extension a m) = m

pub extension_said : (s : Shape) → extension_of (extension_name s) (extension_more s) ≡ extension_in s
extension_said (of_scalar s) = refl
extension_said (of_nesting g) = refl
extension_said (of_grouping g) = refl
extension_said (of_dictionary ix ordered) = refl
extension_said (of_extension a m) = refl

pub extension_rules : (s : Shape) → Meets (shape_rule s) → Meets (text_rule (extension_name s)) × Meets (text_rule (extension_more s))
extension_rules (of_scalar s) h = (refl, refl)
extension_rules (of_nesting g) h = (refl, refl)
extension_rules (of_grouping g) h = (refl, refl)
extension_rules (of_dictionary ix ordered) h = (refl, refl)
extension_rules (of_extension a m) h = (h.0, h.1)

-- "unused texts `~`"
pub more_said : (s : Shape) → (columns s).more ≡ write_text (extension_more s)
more_said (of_scalar (leaf k u)) = refl
more_said (of_scalar (timestamp u z)) = refl
more_said (of_scalar (fixed_size_binary n)) = refl
more_said (of_scalar (decimal_type w p q)) = refl
more_said (of_nesting list) = refl
more_said (of_nesting large_list) = refl
more_said (of_nesting (fixed_size_list n)) = refl
more_said (of_nesting (map b)) = refl
more_said (of_grouping struct) = refl
more_said (of_grouping (union m ids)) = refl
more_said (of_dictionary ix ordered) = refl
more_said (of_extension a m) = refl

-- the column `text` of an extension's line, and `more` of every other, is its name
pub name_said : (s : Shape) → cond (is_extension s) (columns s).text (columns s).more ≡ write_text (extension_name s)
name_said (of_scalar s) = more_said (of_scalar s)
name_said (of_nesting g) = more_said (of_nesting g)
name_said (of_grouping g) = more_said (of_grouping g)
name_said (of_dictionary ix ordered) = refl
name_said (of_extension a m) = refl

-- ── the format of a type that is no extension, by its columns

module _ (w : Shape) (plain : is_extension w ≡ false) (rule : Meets (shape_rule w)) (short : length (columns w).text < 65536) (children : ℕ) (few : children < 65536) where
  no_more : (columns w).more ≡ no_text
  no_more = more_said w ∙ go w plain
    where
      go : (s : Shape) → is_extension s ≡ false → write_text (extension_more s) ≡ no_text
      go (of_scalar s) e = refl
      go (of_nesting g) e = refl
      go (of_grouping g) e = refl
      go (of_dictionary ix ordered) e = refl
      go (of_extension a m) e = absurd (true≢false e)

  reads : shape_at (columns w) ≡ given w
  reads =
      let q = first_gave (shape_at (columns w)) (λ t. when bad_lines (is (same_columns (columns t) (columns w))) t) w (read_shape_lem w rule) in
      q.1 ∙ ap given (met_when bad_lines (is (same_columns (columns q.0) (columns w))) q.0 w q.2).1

  pub can_format : CanFormat (columns w).kind (columns w).p (columns w).q (columns w).text children 0
  unfolding line_shape
  can_format =
      record {
        shape = w;
        read = ap (λ (m : Bytes). shape_at (record { kind = (columns w).kind; p = (columns w).p; q = (columns w).q; text = (columns w).text; more = m })) (sym no_more) ∙ reads;
        is = refl;
        rule = rule;
        plain = λ e. true≢false (sym (ap (λ (k : ℕ). eqb k Kind.Extension) e) ∙ sym (below_kind w rule).0 ∙ plain);
        short = short;
        few = few;
        low = omega arith;
      }

  pub line_format_lem : line_format (columns w).kind (columns w).p (columns w).q (columns w).text children ≡ shape_format w children
  unfolding can_format
  line_format_lem = sym (is_format_lem (columns w).kind (columns w).p (columns w).q (columns w).text children 0 can_format)

-- ── the line

-- of a field's node, with its byte 10
pub line_said : (i : Option Info) → Meets (own_rule i) → (x m : Option Bytes) → Meets (text_rule x) → Meets (text_rule m) → (n : LineNumbers) (f : Bytes)
    → line_text n (info_columns i).0 (info_columns i).1.1 (write_text x) (write_text m) f
    ≡ schema_line.write (line_of (record { format = Some f; name = Some (or_values i).name; flags = pos n.flags; metadata = schema_metadata n.big (or_values i).pairs (extension_of x m) }) n.children n.dictionary) ++ (line_end ∷ [])
line_said None h x m k l n f = bare_line x m n f k l
line_said (Some i) h x m k l n f = node_line x m n f k l i h
