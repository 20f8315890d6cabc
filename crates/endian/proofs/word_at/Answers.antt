-- `word_at` meets its contract: where three of the four bytes are 0 the number is the fourth (`last_alone`, `first_alone`). Assumes nothing.
use mathlib.Core.Path.{sym, ap, ◌∙◌}
use mathlib.Core.Bool.{Bool}
use Rattle.endian.specs.Word.{word_value, four_at}
use Rattle.endian.proofs.WordLaws.{last_alone, first_alone}
use Rattle.endian.proofs.word_at.Goals as goal

pub returns-then-three_zeros : goal.returns-then-three_zeros
returns-then-three_zeros c =
    c.wide_at.ensures.0
    ∙ sym (ap (λ (b : Bool). word_value b (four_at c.args.s.now c.args.k)) c.if-big.true
    ∙ last_alone c.args.s.now c.args.k c.requires (c.three_zeros.ensures c.if-three_zeros.true))

pub returns-then-three_zeros-2 : goal.returns-then-three_zeros-2
returns-then-three_zeros-2 c =
    c.wide_at-then-three_zeros-2.ensures.0
    ∙ sym (ap (λ (b : Bool). word_value b (four_at c.args.s.now c.args.k)) c.if-big.false
    ∙ first_alone c.args.s.now c.args.k c.requires (c.three_zeros-2.ensures c.if-three_zeros-2.true))
