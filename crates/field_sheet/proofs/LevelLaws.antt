-- Levels of a field sheet: those left, and whether a line stands directly inside an extension, fall together, so that a recursion over trees ends. And
-- what the column `kind` of a line tells of the lines below it. Assumes nothing.
use mathlib.Core.Path.{◌≡◌, sym, ap, ◌∙◌}
use mathlib.Core.Bool.{Bool, true, false}
use mathlib.Core.Logic.{◌⊎◌, inl, inr}
use Prim.Native.Nat.{ℕ, ◌+◌, ◌-◌, ◌*◌, ◌≤◌, ◌<◌}
use native.Mathlib.Omega.{arith}
use lib.Dec.{eqb}
use Rattle.sheets.specs.Bytes.{Bytes}
use Rattle.sheets.specs.Kind
use Rattle.sheets.specs.FieldTrees.{bare_below, kind_bare, is_extension, line_cost, fields}
use Rattle.sheets.specs.TreeWalks.{TreeDeep}
use Rattle.sheets.proofs.FieldTrees.{fields_lawful, below_kind, levels_some}
use Rattle.read_field_line.specs.FieldLines.{FieldLineAt}
use Rattle.read_field_line.specs.declared.FieldLine.{FieldLine}
use Rattle.field_sheet.specs.Trees.{Alone}

pub cost_low : (inside extension : Bool) → line_cost inside extension ≤ 1
cost_low true true = omega arith
cost_low false true = omega arith
cost_low true false = omega arith
cost_low false false = omega arith

-- outside an extension a line that costs nothing may still follow
abbrev pub spare : Bool → ℕ
spare true = 0
spare false = 2

pub levels_fall : (inside extension : Bool) (levels : ℕ) → 0 < levels → 4 * (levels - line_cost inside extension) + spare extension + 1 < 4 * levels + spare inside
levels_fall true true levels h = omega arith
levels_fall false true levels h = omega arith
levels_fall true false levels h = omega arith
levels_fall false false levels h = omega arith

-- no tree has no level
pub no_level : (s : Bytes) (at : ℕ) (inside : Bool) (most : ℕ) → most ≡ 0 → TreeDeep fields s at inside most
no_level s at inside most h e es w = omega (arith, levels_some inside e.1)

-- ── by the column `kind`

module _ {s : Bytes} {at : ℕ} (l : FieldLine) (k : FieldLineAt s at l) where
  pub extension_is : is_extension k.line.shape ≡ eqb l.kind Kind.Extension
  extension_is = (below_kind k.line.shape k.there.own.1).0 ∙ ap (λ (n : ℕ). eqb n Kind.Extension) (sym k.shows.kind)

  pub bare_is_lem : bare_below k.line.shape ≡ kind_bare l.kind
  bare_is_lem = (below_kind k.line.shape k.there.own.1).1 ∙ ap kind_bare (sym k.shows.kind)

  -- a bare line below is the only one
  pub line_alone : {b : Bool} → b ≡ kind_bare l.kind → Alone b l.children
  line_alone {b} e = pick (fields_lawful.one k.line k.there.counts)
    where
      pick : (bare_below k.line.shape ≡ false) ⊎ (k.line.children ≡ 1) → Alone b l.children
      pick (inl h) = inl (e ∙ sym bare_is_lem ∙ h)
      pick (inr h) = inr (k.shows.children ∙ h)
