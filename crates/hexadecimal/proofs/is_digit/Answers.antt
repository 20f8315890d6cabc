-- `is_digit` meets its contract, by the ranges of `DigitLaws`. Assumes nothing.
use mathlib.Core.Path.{sym}
use native.Mathlib.Omega.{arith}
use Rattle.hexadecimal.proofs.DigitLaws.{before_0, to_9, before_a, from_a}
use Rattle.hexadecimal.proofs.is_digit.Goals as goal

pub returns-then-b-lt48 : goal.returns-then-b-lt48
returns-then-b-lt48 c = sym (before_0 c.args.b c.if-b-lt48.true)

pub returns-then-b-le57 : goal.returns-then-b-le57
returns-then-b-le57 c = sym (to_9 c.args.b (omega arith) (omega arith)).0

pub returns-then-b-lt97 : goal.returns-then-b-lt97
returns-then-b-lt97 c = sym (before_a c.args.b (omega arith) (omega arith))

pub returns : goal.returns
returns c = from_a c.args.b (omega arith)
