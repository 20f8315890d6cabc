-- `small_text` meets its contract: the digits after six zeros, or before them. Assumes nothing.
use mathlib.Core.Path.{refl, sym, ap, ◌∙◌}
use mathlib.Core.Bool.{Bool}
use Rattle.sheets.specs.Text.{hex}
use Rattle.endian.specs.Word.{word_bytes}
use Rattle.endian.proofs.WordLaws.{small_big, small_little}
use Rattle.endian.proofs.small_text.Goals as goal

pub returns-then-big : goal.returns-then-big
returns-then-big c =
    let x = c.wide_digit-high in
    let y = c.wide_digit-low in
    small_big c.args.n x.result y.result _ c.requires x.ensures.0 y.ensures.0 x.ensures.1 y.ensures.1 refl
    ∙ sym (ap (λ (b : Bool). hex (word_bytes b c.args.n)) c.if-big.true)

pub returns : goal.returns
returns c =
    let x = c.wide_digit-high in
    let y = c.wide_digit-low in
    small_little c.args.n x.result y.result _ c.requires x.ensures.0 y.ensures.0 x.ensures.1 y.ensures.1 refl
    ∙ sym (ap (λ (b : Bool). hex (word_bytes b c.args.n)) c.if-big.false)
