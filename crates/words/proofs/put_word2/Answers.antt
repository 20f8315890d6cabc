-- `put_word2` meets its contract: two bytes stored (`put_two`). Assumes nothing.
use Prim.Native.Nat.{◌%◌}
use Rattle.words.proofs.WordLaws.{put_two}
use lib.ListN.{length-set}
use native.Mathlib.Omega.{arith}
use Rattle.words.proofs.put_word2.Goals as goal

pub bounds-out-at-2 : goal.bounds-out-at-2
bounds-out-at-2 c = omega (arith, length-set c.args.out.now c.args.at (c.args.w % 256))

pub returns : goal.returns
returns c = put_two c.args.at c.args.w c.args.out.now c.requires
