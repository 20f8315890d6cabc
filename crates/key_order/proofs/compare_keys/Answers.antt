-- `compare_keys` meets its contract: words that differ decide, as in `byte_order::compare`; what is left is compared by `compare_rests`. Assumes nothing.
use mathlib.Core.Path.{sym, ap, ◌∙◌}
use Rattle.sheets.proofs.Tests.{and_left, and_right}
use Rattle.byte_order.proofs.CompareLaws.{words_decide}
use Rattle.byte_order.specs.Compare.{ordering_answer}
use Rattle.key_order.specs.Entry.{rest_at}
use Rattle.key_order.proofs.KeyLaws.{rest_long}
use Rattle.key_order.proofs.compare_keys.Goals as goal

pub four_of-x-requires : goal.four_of-x-requires
four_of-x-requires c = c.has_four.ensures (and_left _ _ c.if-has_four.true)

pub four_of-y-requires : goal.four_of-y-requires
four_of-y-requires c = c.has_four-2.ensures (and_right c.has_four.result _ c.if-has_four.true)

pub returns-then-x-y : goal.returns-then-x-y
returns-then-x-y c =
    let a = c.args in
    let both = c.if-has_four.true in
    let long = rest_long a.text.now a.shared a.p (c.has_four.ensures (and_left _ _ both)) in
    let long' = rest_long a.text.now a.shared a.q (c.has_four-2.ensures (and_right c.has_four.result _ both)) in
    ap ordering_answer c.cmp.ensures ∙ sym (words_decide (rest_at a.text.now a.shared a.p) (rest_at a.text.now a.shared a.q) 0 _ _ long long' c.four_of-x.ensures c.four_of-y.ensures c.if-x-y.true)
