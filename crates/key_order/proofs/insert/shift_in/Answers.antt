-- `shift_in` meets its contract. The invariant: the first are those of v and then part, and `w` is the next of them. Assumes nothing.
use mathlib.Core.Path.{◌≡◌, refl, ◌∙◌}
use mathlib.Core.List.{◌∷◌, append-nil}
use Prim.Native.Nat.{◌≤◌, ◌<◌}
use native.Mathlib.Omega.{arith}
use native.Mathlib.Numerals.{add-one}
use lib.ListN.{length, drop_of_length-le}
use Rattle.key_order.proofs.InsertLaws.{store, next_of}
use Rattle.key_order.proofs.insert.shift_in.Goals as goal

pub loop-e-init : goal.loop-e-init
loop-e-init c = (refl, refl)

pub loop-e-preserved : goal.loop-e-preserved
loop-e-preserved c =
    let d = c.args.part.now in
    let src = c.args.v ∷ d in
    let k = c.loop-e.e-index in
    let inv = c.loop-e.invariant in
    let n : k ≤ length src = omega arith in
    let m : k < length d = omega arith in
    (c.replace-w.ensures.value ∙ rw (inv.1, add-one) (next_of src d k n m), rw (inv.1, c.replace-w.ensures.after, inv.0) (store src d k (omega arith) m))

pub returns : goal.returns
returns c =
    let d = c.args.part.now in
    let e : c.loop-e.e-index ≡ length d = omega arith in
    c.loop-e.invariant.1 ∙ rw (e, drop_of_length-le d {i = length d} (omega arith), append-nil)
