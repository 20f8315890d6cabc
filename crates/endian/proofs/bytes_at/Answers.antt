-- `bytes_at` meets its contract: the number of the four bytes, read from the one end or from the other (`word_four`). Assumes nothing.
use mathlib.Core.Path.{sym, ap, ◌∙◌}
use mathlib.Core.Bool.{Bool}
use Rattle.endian.specs.Word.{word_value, four_at}
use Rattle.endian.proofs.WordLaws.{word_four, four_sum}
use Rattle.endian.proofs.bytes_at.Goals as goal

pub returns-then-big : goal.returns-then-big
returns-then-big c =
    rw (c.joined.ensures, c.wide_at-a.ensures.0, c.wide_at-b.ensures.0, c.wide_at-c.ensures.0, c.wide_at-d.ensures.0)
    (sym (ap (λ (b : Bool). word_value b (four_at c.args.s.now c.args.k)) c.if-big.true ∙ word_four _ c.args.s.now c.args.k c.requires ∙ four_sum _ _ _ _))

pub returns : goal.returns
returns c =
    rw (c.joined-2.ensures, c.wide_at-a.ensures.0, c.wide_at-b.ensures.0, c.wide_at-c.ensures.0, c.wide_at-d.ensures.0)
    (sym (ap (λ (b : Bool). word_value b (four_at c.args.s.now c.args.k)) c.if-big.false ∙ word_four _ c.args.s.now c.args.k c.requires ∙ four_sum _ _ _ _))
