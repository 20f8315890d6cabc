-- `put_byte` meets its contract: a byte stored is a byte written over, and past the end nothing is written. Assumes nothing.
use mathlib.Core.Path.{refl, sym}
use mathlib.Core.List.{[], ◌∷◌}
use Rattle.buffer.proofs.OverLaws.{over_at_past, stored}
use Rattle.buffer.proofs.put_byte.Goals as goal

pub returns-then-at-out : goal.returns-then-at-out
returns-then-at-out c =
    let a = c.args in
    (refl, stored a.at a.b a.out.now c.if-at-out.true)

pub returns-else-at-out : goal.returns-else-at-out
returns-else-at-out c =
    let a = c.args in
    (refl, sym (over_at_past a.at (a.b ∷ []) a.out.now c.if-at-out.false))
