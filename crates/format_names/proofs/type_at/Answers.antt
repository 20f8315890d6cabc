-- `type_at` meets its contract: the rows of types with children are the last. Assumes nothing.
use mathlib.Core.Path.{◌∙◌, ap, ap₂}
use Rattle.std.specs.Prelude.{Some}
use Prim.Native.Nat.{ℕ}
use Rattle.sheets.specs.FixedNames.{is_nested}
use Rattle.format_names.proofs.NameLaws.{leaf_row_lem, nested_row_lem, nested_unit}
use Rattle.format_names.proofs.type_at.Goals as goal

pub returns-then-i-ge-LIST : goal.returns-then-i-ge-LIST
returns-then-i-ge-LIST c =
    let low = c.if-i-ge-LIST.true in
    (ap₂ (λ (k u : ℕ). Some (k, u)) c.row_at-r.ensures.kind (nested_unit c.args.i low c.requires), ap is_nested c.row_at-r.ensures.kind ∙ nested_row_lem c.args.i low c.requires)

pub returns : goal.returns
returns c = (ap₂ (λ (k u : ℕ). Some (k, u)) c.row_at-r.ensures.kind c.row_at-r.ensures.unit, ap is_nested c.row_at-r.ensures.kind ∙ leaf_row_lem c.args.i c.if-i-ge-LIST.false)
