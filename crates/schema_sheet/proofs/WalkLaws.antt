-- The walk over the lines with a count of the subtrees still to come (`TreeWalks`), for the line that `read_line` shows. Assumes nothing.
use mathlib.Core.Path.{◌≡◌}
use mathlib.Core.Bool.{Bool, true, false}
use mathlib.Core.Logic.{◌↔◌}
use Prim.Native.Nat.{ℕ, ◌+◌, ◌-◌, ◌≤◌, ◌<◌}
use native.Mathlib.Omega.{arith}
use lib.Dec.{leb}
use lib.ListN.{length, drop}
use borrow.Author.Tests.{leb-true, leb-false}
use Rattle.sheets.specs.Bytes.{Bytes}
use Rattle.sheets.specs.SchemaTrees.{Row}
use Rattle.sheets.proofs.FormLaws.{schemas_lawful}
use Rattle.sheets.proofs.TreeWalks.{counted}
use Rattle.sheets.proofs.TreeWalks as Walks
use Rattle.schema_line.specs.declared.SchemaLine.{SchemaLine}
use Rattle.schema_line.specs.Lines.{LineAt}
use Rattle.schema_line.proofs.LineLaws.{line_walks}
use Rattle.schema_sheet.proofs.ReadLaws.{line_count}
use Rattle.schema_sheet.specs.Trees.{Forms}

module _ {s : Bytes} {here : ℕ} {l : SchemaLine} (k : LineAt s here l) (left : ℕ) (some : 0 < left) where
  -- after the line its subtrees are to come, and then those that were to come after it
  pub walk_on : Row left (drop here s) ↔ Row (left - 1 + l.dictionary + l.children) (drop l.end s)
  walk_on =
      let on = Walks.walk_on schemas_lawful (line_walks k) (left - 1) in
      (λ r. counted (omega (arith, line_count l k)) (on.0 (counted (omega arith) r)), λ r. counted (omega arith) (on.1 (counted (omega (arith, line_count l k)) r)))

  -- no more subtrees than bytes
  pub walk_many : length s - l.end < left - 1 + l.dictionary + l.children → Row left (drop here s) → ⊥
  walk_many h r = Walks.walk_many schemas_lawful (line_walks k) (left - 1) (omega (arith, line_count l k)) (counted (omega arith) r)

-- nothing is to come: the sheet has one tree exactly if it ends here
pub walk_end : (s : Bytes) (at here left : ℕ) → Row 1 (drop at s) ↔ Row left (drop here s) → left ≤ 0 → (t : Bool) → leb (length s) here ≡ t → Forms s at t
walk_end s at here left i none true e = Walks.walk_end schemas_lawful s at tt here left tt i none (leb-true (length s) here e)
walk_end s at here left i none false e = Walks.walk_left schemas_lawful s at tt here left tt i none (leb-false (length s) here e)
