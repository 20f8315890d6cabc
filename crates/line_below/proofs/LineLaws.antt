-- What a line that was read says of the type that stands there: the line is the type's first, by `line_below` (sheets/proofs/TreeWalks). Assumes nothing.
use mathlib.Core.Path.{◌≡◌, sym, ap, subst, ◌∙◌}
use mathlib.Core.List.{List, ◌∷◌, ◌++◌}
use Rattle.std.specs.Prelude.{Option}
use Prim.Native.Nat.{ℕ, ◌≤◌}
use native.Mathlib.Omega.{arith}
use lib.Dec.{eqb}
use lib.ListN.{drop}
use Rattle.sheets.specs.Rule.{Meets}
use Rattle.sheets.specs.Bytes.{Bytes}
use Rattle.sheets.specs.Kind
use Rattle.sheets.specs.Field.{Info, ArrowDataType}
use Rattle.sheets.specs.FieldSheet.{Entry, Shape, columns}
use Rattle.sheets.specs.LineTrees.{Standing}
use Rattle.sheets.specs.FieldTrees.{Head, is_extension, bare_below, kind_bare, shape_rule, type_shape, type_below, type_count, entry_head, fields}
use Rattle.sheets.proofs.FieldTrees.{fields_lawful, kind_small_lem}
use Rattle.sheets.proofs.TreeWalks.{line_below}
use Rattle.read_field_line.specs.FieldLines.{FieldLineAt}
use Rattle.read_field_line.specs.declared.FieldLine.{FieldLine}
use Rattle.field_sheet.proofs.LevelLaws.{extension_is, bare_is_lem}

module _ {s : Bytes} {at : ℕ} {i : Option Info} {t : ArrowDataType} {es : List Entry} (st : Standing fields (drop at s) ((i, t) ∷ es)) {l : FieldLine} (k : FieldLineAt s at l) where
  pub line_opened : (entry_head (i, t) ≡ k.line) × Standing fields (drop l.end s) (type_below t ++ es)
  line_opened = line_below fields_lawful k.there (i, t) es st

  shape_is : k.line.shape ≡ type_shape t
  shape_is = ap (λ (x : Head). x.shape) (sym line_opened.0)

  pub line_rule_lem : Meets (shape_rule (type_shape t))
  line_rule_lem = subst (λ (x : Shape). Meets (shape_rule x)) shape_is k.there.own.1

  pub line_kind : l.kind ≡ (columns (type_shape t)).kind
  line_kind = k.shows.kind ∙ ap (λ (x : Shape). (columns x).kind) shape_is

  pub line_small : l.kind ≤ Kind.Union
  line_small = omega (arith, line_kind, kind_small_lem (type_shape t) line_rule_lem)

  pub line_p : l.p ≡ (columns (type_shape t)).p
  line_p = k.shows.p ∙ ap (λ (x : Shape). (columns x).p) shape_is

  pub line_count : l.children ≡ type_count t
  line_count = k.shows.children ∙ ap (λ (x : Head). x.children) (sym line_opened.0)

  -- an extension, and what has a bare line below it
  pub line_extension : eqb l.kind Kind.Extension ≡ is_extension (type_shape t)
  line_extension = sym (extension_is l k) ∙ ap is_extension shape_is

  pub line_bare : kind_bare l.kind ≡ bare_below (type_shape t)
  line_bare = sym (bare_is_lem l k) ∙ ap bare_below shape_is
