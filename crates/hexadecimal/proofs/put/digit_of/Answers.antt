-- `digit_of` meets its contract, by `digit_by_tens`. Assumes nothing.
use mathlib.Core.Path.{sym}
use Rattle.hexadecimal.proofs.DigitLaws.{digit_by_tens}
use Rattle.hexadecimal.proofs.put.digit_of.Goals as goal

pub returns : goal.returns
returns c = sym (digit_by_tens c.args.n c.requires)
