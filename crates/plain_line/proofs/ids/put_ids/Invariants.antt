-- `put_ids` meets its contract: the laws of the listing at each place. Assumes nothing.
use mathlib.Core.List.{[], ◌∷◌}
use Rattle.sheets.specs.Bytes.{Bytes}
use Rattle.buffer.specs.Over.{PutAt}
use Rattle.plain_line.proofs.IdsLaws.{Listing}
use Rattle.plain_line.proofs.ids.put_ids.Given as goal

abbrev pub invariant-loop-i : goal.invariant-loop-i
invariant-loop-i l = (old : Bytes) → PutAt l.at (48 ∷ []) l.initial.end old l.initial.out → Listing l.count l.at old l.out l.end l.i
