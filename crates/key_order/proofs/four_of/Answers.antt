-- `four_of` meets its contract: the word is read where the rest of the key starts (`rest_word`). Assumes nothing.
use native.Mathlib.Omega.{arith}
use Rattle.key_order.proofs.KeyLaws.{rest_word}
use Rattle.key_order.proofs.four_of.Goals as goal

pub returns : goal.returns
returns c = rest_word c.args.text.now c.args.shared c.args.e c.requires _ c.word_at.result (omega (arith, c.start_of.ensures)) c.word_at.ensures
