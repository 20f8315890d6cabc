-- `put_word4` meets its contract: the lower bytes, then the higher (`put_both`). Assumes nothing.
use Rattle.words.proofs.WordLaws.{put_both}
use Rattle.words.proofs.put_word4.Goals as goal

pub returns : goal.returns
returns c =
    put_both 2 2 c.args.at c.args.w c.args.out.now c.put_word2.new.out _
    c.put_word2.ensures
    c.put_word2-2.ensures
