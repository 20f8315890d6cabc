-- `put_digits` meets its contract: what is lent to `put_at` is the number's digits. Assumes nothing.
use Rattle.sheets.specs.Number.{decimal}
use lib.Seq.{take_all}
use lib.ListN.{take, drop, length-drop}
use native.Mathlib.Omega.{arith}
use Prim.Native.Nat.{◌-◌}
use mathlib.Core.Path.{◌≡◌, ◌∙◌}
use Rattle.decimal.proofs.put.put_digits.Goals as goal

pub returns : goal.returns
returns c =
    let d = c.digits_of-d in
    let bytes = d.result.bytes in
    let i = d.result.start in
    let e : take (20 - i) (drop i bytes) ≡ decimal c.args.n = take_all (20 - i) (drop i bytes) (simp length-drop (omega arith)) ∙ d.ensures.2 in
    (rw e at c.put_at.ensures.0, rw e at c.put_at.ensures.1)
