-- `count_of` meets its contract: a negative count gives no pairs. Assumes nothing.
use native.Mathlib.Omega.{arith}
use Rattle.metadata.proofs.MeaningLaws.{some_pairs_lem, no_pairs}
use Rattle.metadata.proofs.count_of.Goals as goal

pub returns-then-n-lt2147483648 : goal.returns-then-n-lt2147483648
returns-then-n-lt2147483648 c = some_pairs_lem c.args.big c.args.m.now c.word_at-n.result c.word_at-n.ensures (omega (arith, c.if-n-lt2147483648.true))

pub returns : goal.returns
returns c = no_pairs c.args.big c.args.m.now c.word_at-n.result c.word_at-n.ensures (omega (arith, c.if-n-lt2147483648.false))
