-- `put_left` meets its contract: every key stands before `~`; the count is that of all pairs. Assumes nothing.
use Rattle.put_metadata.proofs.ColumnLaws.{left_put}
use native.Mathlib.Omega.{arith}
use Rattle.put_metadata.proofs.put_left.Goals as goal

pub put_word-after-requires : goal.put_word-after-requires
put_word-after-requires c = omega (arith, c.requires.room)

pub returns : goal.returns
returns c =
    let a = c.args in
    left_put a.big a.pairs.now a.w c.put_until-a.result c.requires.walk a.out.now c.put_until-a.new.out c.put_until-a.ensures a.at c.put_word-after.new.out c.put_word-after.ensures.1
