-- `put_small` meets its contract: the word is the text of the number's bytes. Assumes nothing.
use mathlib.Core.Path.{ap, ◌∙◌}
use native.Mathlib.Omega.{arith}
use Rattle.sheets.specs.Bytes.{Bytes}
use Rattle.buffer.specs.Over.{over_at}
use Rattle.endian.proofs.WordLaws.{length_word_text}
use Rattle.endian.proofs.put_small.Goals as goal

pub overflow_add-end : goal.overflow_add-end
overflow_add-end c = omega (arith, c.requires.0)

pub returns : goal.returns
returns c =
    let a = c.args in (
      omega (arith, length_word_text a.big a.n),
      c.put_word8.ensures ∙ ap (λ (t : Bytes). over_at a.at t a.out.now) c.small_text.ensures,
    )
