-- `value_of` meets its contract, by `value_by_bits`. Assumes nothing.
use mathlib.Core.Path.{sym}
use native.Mathlib.Omega.{arith}
use Rattle.hexadecimal.proofs.DigitLaws.{value_by_bits, value_below}
use Rattle.hexadecimal.proofs.value_of.Goals as goal

pub returns : goal.returns
returns c =
    let e = value_by_bits c.args.b c.requires in
    (sym e, omega (arith, value_below c.args.b c.requires))
