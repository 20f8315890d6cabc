-- `is_hex` meets its contract. The loop's invariant: the whole text is pairs of digits exactly if `ok` is true and the bytes that are left are digits.
-- Assumes nothing.
use mathlib.Core.Path.{◌≡◌}
use mathlib.Core.Bool.{◌&&◌}
use lib.ListN.{drop}
use Rattle.hexadecimal.specs.Hex.{is_hex}
use Rattle.hexadecimal.proofs.HexLaws.{all_digits}
use Rattle.hexadecimal.proofs.is_hex.Given as goal

abbrev pub invariant-loop-b : goal.invariant-loop-b
invariant-loop-b l = is_hex l.s ≡ (l.ok && all_digits (drop l.b-index l.s))
