-- `put_word8` meets its contract: the lower bytes, then the higher (`put_both`). Assumes nothing.
use Rattle.words.proofs.WordLaws.{put_both}
use Rattle.words.proofs.put_word8.Goals as goal

pub returns : goal.returns
returns c =
    put_both 4 4 c.args.at c.args.w c.args.out.now c.put_word4.new.out _
    c.put_word4.ensures
    c.put_word4-2.ensures
