-- `is_reserved` meets its contract: a key of 40 digits can be the name's, one of 48 the metadata's, any other is neither. Assumes nothing.
use lib.Seq.{length-take-le}
use mathlib.Core.Path.{sym, ◌∙◌}
use native.Mathlib.Omega.{arith}
use Rattle.field_pairs.proofs.ReservedLaws.{name_told, metadata_told, other_length}
use Rattle.field_pairs.proofs.is_reserved.Goals as goal

pub returns-then-n-eq40 : goal.returns-then-n-eq40
returns-then-n-eq40 c = c.same.ensures ∙ name_told c.args.key.now (omega (arith, c.if-n-eq40.true))

pub returns-then-n-eq48 : goal.returns-then-n-eq48
returns-then-n-eq48 c = c.same-then-n-eq48.ensures ∙ metadata_told c.args.key.now (omega (arith, c.if-n-eq48.true))

pub returns : goal.returns
returns c = other_length c.args.key.now c.if-n-eq40.false c.if-n-eq48.false

pub slice_bounds-same-end : goal.slice_bounds-same-end
slice_bounds-same-end c = sym (length-take-le 40 c.args.key.now (omega (arith, c.if-n-eq40.true)))

pub slice_bounds-same-end-then-n-eq48 : goal.slice_bounds-same-end-then-n-eq48
slice_bounds-same-end-then-n-eq48 c = sym (length-take-le 48 c.args.key.now (omega (arith, c.if-n-eq48.true)))
