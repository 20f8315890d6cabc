-- `negated` meets its contract: -1 less m - 1 is -m. Assumes nothing.
use Rattle.decimal.proofs.SignLaws.{one_less, minus_fits}
use Rattle.sheets.specs.Format.{minus}
use mir.Facts.{to_z-of_z, to_z_pos}
use mir.Val.{to_z}
use mir.Syntax.{w64}
use lib.IntN.{negsuc, ◌-ℤ◌}
use native.Mathlib.Omega.{arith}
use Prim.Native.Nat.{◌-◌}
use mathlib.Core.Path.{◌≡◌, sym, ap}
use Rattle.decimal.proofs.negated.Goals as goal

pub returns-then-m-eq0 : goal.returns-then-m-eq0
returns-then-m-eq0 c = ap minus (sym c.if-m-eq0.true)

pub overflow_sub-result-2 : goal.overflow_sub-result-2
overflow_sub-result-2 c =
    let m = c.args.m in
    let e : negsuc 0 -ℤ to_z w64 (m - 1) ≡ minus m = rw (to_z_pos w64 {n = m - 1} (omega arith)) (one_less m c.if-m-eq0.false) in
    rw e (minus_fits w64 m c.requires)

pub returns : goal.returns
returns c =
    let m = c.args.m in
    let e : negsuc 0 -ℤ to_z w64 (m - 1) ≡ minus m = rw (to_z_pos w64 {n = m - 1} (omega arith)) (one_less m c.if-m-eq0.false) in
    rw e (to_z-of_z (minus_fits w64 m c.requires))
