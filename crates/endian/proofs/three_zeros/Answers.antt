-- `three_zeros` meets its contract: equal words are equal digits (`three_there`). Assumes nothing.
use borrow.Author.Tests.{eqb-true}
use Rattle.endian.proofs.WordLaws.{three_there}
use Rattle.endian.proofs.three_zeros.Goals as goal

pub returns : goal.returns
returns c e = three_there c.args.s.now c.args.k c.word6_at.result c.three_pairs.result c.requires c.word6_at.ensures c.three_pairs.ensures (eqb-true _ _ e)
