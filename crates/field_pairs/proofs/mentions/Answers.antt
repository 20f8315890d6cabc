-- `mentions` meets its contract: `found` tells of the places before i. The measure is the places that are left. Assumes nothing.
use mathlib.Core.Bool.{false}
use native.Mathlib.Omega.{arith}
use Rattle.field_pairs.proofs.MentionLaws.{mention_none, mention_next, mention_all}
use Rattle.field_pairs.proofs.mentions.Goals as goal

pub returns-then-pairs-lt-LEAST : goal.returns-then-pairs-lt-LEAST
returns-then-pairs-lt-LEAST c = mention_all c.args.pairs.now 0 false (omega (arith, c.if-pairs-lt-LEAST.true)) (mention_none c.args.pairs.now)

pub loop-i-init : goal.loop-i-init
loop-i-init c = (omega arith, mention_none c.args.pairs.now)

pub loop-i-preserved : goal.loop-i-preserved
loop-i-preserved c =
    let l = c.loop-i in
    (omega (arith, c.loop-i-test.true), mention_next c.args.pairs.now l.i l.found l.invariant.1)

pub returns : goal.returns
returns c =
    let l = c.loop-i in
    mention_all c.args.pairs.now l.i l.found (omega (arith, l.invariant.0, c.loop-i-test.false)) l.invariant.1
