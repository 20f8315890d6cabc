-- What stands inside all extensions around a type, `to_storage`, at its place of a field sheet. Assumes nothing.
use Rattle.std.specs.Prelude.{false, List, ◌≡◌, ◌+◌, ◌≤◌, Option}
use Rattle.sheets.specs.Bytes.{Bytes}
use Rattle.sheets.specs.Field.{Info, ArrowDataType}
use Rattle.sheets.specs.FieldSheet.{Entry}
use Rattle.sheets.specs.Mappings.{to_storage}
use Rattle.sheets.specs.Walk.{extensions_around}
use Rattle.read_field_line.specs.FieldLines.{FieldLineAt}
use Rattle.walks.specs.Places.{TypeAt}
use Rattle.walks.specs.declared.Subtree.{Subtree}
use Rattle.storage_line.specs.declared.StorageLine.{StorageLine}

-- of the type t at `tree`, with es after it: the type in all extensions, which has no more levels, its line, and how many
-- extensions were passed; es stand after it as well
pub record StorageAt (s : Bytes) (tree : Subtree) (t : ArrowDataType) (es : List Entry) (r : StorageLine) : Type 0 where
  pub info : Option Info
  pub type : TypeAt s r.at tree.levels false info (to_storage t) es
  pub line : FieldLineAt s r.at r.line
  pub passed : r.passed ≡ extensions_around t
  pub low : tree.at + r.passed ≤ r.at

-- whatever type stands there
abbrev pub StorageTold : Bytes → Subtree → StorageLine → Type 0
StorageTold s tree r = (i : Option Info) (t : ArrowDataType) (es : List Entry) → TypeAt s tree.at tree.levels tree.inside i t es → StorageAt s tree t es r
