-- `names::is_word` meets its contract: the length, then the room. Assumes nothing.
use native.Mathlib.Omega.{arith}
use Rattle.put_format.proofs.LeafLaws.{no_word, word_fits}
use Rattle.put_format.proofs.names.is_word.Goals as goal

pub returns-then-name_length-ne2 : goal.returns-then-name_length-ne2
returns-then-name_length-ne2 c = no_word c.args.room c.args.at c.args.i _ c.name_length.ensures c.if-name_length-ne2.true

pub overflow_add-result : goal.overflow_add-result
overflow_add-result c = omega (arith, c.requires.low)

pub returns : goal.returns
returns c = word_fits c.args.room c.args.at c.args.i _ c.name_length.ensures c.if-name_length-ne2.false
