-- `byte_at` meets its contract: both bytes of the pair are digits (`digit_at`), and their values make the byte (`byte_of_pair`). Assumes nothing.
use Prim.Native.Nat.{◌+◌, ◌*◌}
use native.Mathlib.Omega.{arith}
use Rattle.hexadecimal.proofs.HexLaws.{digit_at, byte_of_pair}
use Rattle.hexadecimal.proofs.byte_at.Goals as goal

pub value_of-requires : goal.value_of-requires
value_of-requires c = digit_at c.args.s.now c.requires.0 (2 * c.args.k) (omega arith)

pub value_of-requires-2 : goal.value_of-requires-2
value_of-requires-2 c = digit_at c.args.s.now c.requires.0 (2 * c.args.k + 1) (omega arith)

pub returns : goal.returns
returns c = omega (arith, byte_of_pair c.args.s.now c.requires.0 c.args.k c.requires.1, c.value_of.ensures.0, c.value_of-2.ensures.0)
