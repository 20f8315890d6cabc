-- The walk over the lines with a count of the trees still to come and whether the next is bare (`TreeWalks`), for the line that `read_field_line` shows. Assumes
-- nothing.
use mathlib.Core.Path.{◌≡◌, sym, subst, ◌∙◌}
use mathlib.Core.Bool.{Bool, true, false, not, beq}
use mathlib.Core.Logic.{◌↔◌}
use Prim.Native.Nat.{ℕ, suc, ◌+◌, ◌-◌, ◌≤◌, ◌<◌}
use native.Mathlib.Omega.{arith}
use lib.Dec.{leb}
use lib.ListN.{length, drop}
use borrow.Author.Tests.{leb-true, leb-false}
use Rattle.sheets.specs.Bytes.{Bytes}
use Rattle.sheets.specs.LineTrees.{Row}
use Rattle.sheets.specs.FieldTrees.{bare_below, kind_bare, fields}
use Rattle.sheets.proofs.FieldTrees.{fields_lawful}
use Rattle.sheets.proofs.TreeWalks.{counted}
use Rattle.sheets.proofs.TreeWalks as Walks
use Rattle.read_field_line.specs.FieldLines.{FieldLineAt}
use Rattle.read_field_line.specs.declared.FieldLine.{FieldLine}
use Rattle.field_sheet.specs.Trees.{Forms}
use Rattle.field_sheet.proofs.LevelLaws.{bare_is_lem}
use Rattle.field_sheet.proofs.ReadLaws.{form_is}

module _ {s : Bytes} {at : ℕ} (l : FieldLine) (k : FieldLineAt s at l) (bare : Bool) (same : not (beq l.bare bare) ≡ false) (left : ℕ) (some : 0 < left) where
  -- the same row, in the form of the line
  here : Row fields left bare (drop at s) ↔ Row fields (suc (left - 1)) (fields.form k.line) (drop at s)
  here =
      let f = form_is l k bare same in
      (λ r. subst (λ (y : Bool). Row fields (suc (left - 1)) y (drop at s)) (sym f) (counted (omega arith) r), λ r. counted (omega arith) (subst (λ (y : Bool). Row fields (suc (left - 1)) y (drop at s)) f r))

  -- after the line the trees below it are to come, and then those that were to come after it
  pub walk_on : {b : Bool} → b ≡ kind_bare l.kind → Row fields left bare (drop at s) ↔ Row fields (left - 1 + l.children) b (drop l.end s)
  walk_on {b} e =
      let on = Walks.walk_on fields_lawful k.there (left - 1) in
      let f : bare_below k.line.shape ≡ b = bare_is_lem l k ∙ sym e in (
        λ r. counted (omega (arith, k.shows.children)) (subst (λ (y : Bool). Row fields (k.line.children + (left - 1)) y (drop l.end s)) f (on.0 (here.0 r))),
        λ r. here.1 (on.1 (subst (λ (y : Bool). Row fields (k.line.children + (left - 1)) y (drop l.end s)) (sym f) (counted (omega (arith, k.shows.children)) r))),
      )

  -- no more trees than bytes
  pub walk_many : length s - l.end < left - 1 + l.children → Row fields left bare (drop at s) → ⊥
  walk_many h r = Walks.walk_many fields_lawful k.there (left - 1) (omega (arith, k.shows.children)) (here.0 r)

-- nothing is to come: the sheet has one tree exactly if it ends here
pub walk_end : (s : Bytes) (at here left : ℕ) (bare : Bool) → Row fields 1 false (drop at s) ↔ Row fields left bare (drop here s) → left ≤ 0 → (t : Bool) → leb (length s) here ≡ t → Forms s at t
walk_end s at here left bare i none true e = Walks.walk_end fields_lawful s at false here left bare i none (leb-true (length s) here e)
walk_end s at here left bare i none false e = Walks.walk_left fields_lawful s at false here left bare i none (leb-false (length s) here e)
