-- What is known where the line of a leaf was written at once, and where it was not. Assumes nothing.
use Rattle.std.specs.Prelude.{◌≡◌, false, [], ◌∷◌, ℕ, ◌+◌, ◌≤◌, Option, None, Some}
use Rattle.sheets.specs.Bytes.{Bytes}
use Rattle.sheets.specs.Sheet.{ended}
use Rattle.sheets.specs.Page.{page_line}
use Rattle.sheets.specs.PageSteps.{level_of}
use Rattle.buffer.specs.Over.{PutFirst}
use Rattle.field_leaf.specs.FieldLeaves.{field_leaf_in, leaf_head, FieldLeafAt}
use Rattle.walks.specs.declared.Subtree.{Subtree}

-- a leaf's field line stands at the tree's place, and its line of the page is written
pub record PageLeafWritten (s : Bytes) (tree : Subtree) (out out' : Bytes) (next len : ℕ) : Type 0 where
  pub kind : ℕ
  pub from : ℕ
  pub e : ℕ
  pub nullable : ℕ
  pub leaf : FieldLeafAt s tree.at kind from e nullable
  pub after : next ≡ e + 7
  pub put : PutFirst (ended (page_line (level_of tree.levels tree.inside false) (leaf_head kind leaf.bytes nullable) ∷ [])) len out out'
  pub short : len ≤ 73

abbrev pub PageLeafTold : Bytes → Subtree → Bytes → Bytes → Option (ℕ × ℕ) → Type 0
PageLeafTold s tree out out' (Some (next, len)) = PageLeafWritten s tree out out' next len
PageLeafTold s tree out out' None = (field_leaf_in s tree.at ≡ None) × (out' ≡ out)

-- what `put_page_leaf` tells
abbrev pub PageLeafPuts : Bytes → Subtree → Bytes → Bytes → Option (ℕ × ℕ) → Type 0
PageLeafPuts s tree out out' r = PageLeafTold s tree out out' r
