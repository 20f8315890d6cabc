-- `compare` meets its contract. The invariant: the comparison of the whole is that from `i` on, and then from `k` on; two words or two bytes that
-- differ decide it, or else the lengths. Assumes nothing.
use mathlib.Core.Path.{refl, sym, ap, ◌∙◌}
use borrow.Author.Rules.{rules}
use Rattle.byte_order.specs.Compare.{ordering_answer}
use Rattle.byte_order.proofs.CompareLaws as Laws
use Rattle.byte_order.proofs.compare.Goals as goal

pub loop-i-init : goal.loop-i-init
loop-i-init c = (search rules, refl)

pub returns-then-x-y : goal.returns-then-x-y
returns-then-x-y c =
    let law = Laws.words_decide c.args.a.now c.args.b.now c.loop-i.i _ _ (search rules) (search rules) c.word_at-x.ensures c.word_at-y.ensures c.if-x-y.true in
    ap ordering_answer c.cmp.ensures ∙ sym (c.loop-i.invariant.1 ∙ law)

pub loop-i-preserved : goal.loop-i-preserved
loop-i-preserved c =
    let law = Laws.words_same c.args.a.now c.args.b.now c.loop-i.i _ _ (search rules) (search rules) c.word_at-x.ensures c.word_at-y.ensures in
    (search rules, c.loop-i.invariant.1 ∙ law (search rules))

pub loop-k-init : goal.loop-k-init
loop-k-init c = c.loop-i.invariant.1

pub returns-then-a-k : goal.returns-then-a-k
returns-then-a-k c =
    let law = Laws.bytes_decide c.args.a.now c.args.b.now c.loop-k.k (search rules) (search rules) c.if-a-k.true in
    ap ordering_answer c.cmp-then-a-k.ensures ∙ sym (c.loop-k.invariant ∙ law)

pub loop-k-preserved : goal.loop-k-preserved
loop-k-preserved c =
    c.loop-k.invariant ∙ Laws.next c.args.a.now c.args.b.now c.loop-k.k (search rules) (search rules) (search rules) (search rules)

pub returns : goal.returns
returns c =
    ap ordering_answer c.cmp-2.ensures ∙ sym (c.loop-k.invariant ∙ Laws.lengths_decide c.args.a.now c.args.b.now c.loop-k.k (search rules))
