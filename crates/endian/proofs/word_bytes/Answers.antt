-- `word_bytes` meets its contract: the four bytes, from the one end or from the other. Assumes nothing.
use mathlib.Core.Path.{sym, ap, ◌∙◌}
use mathlib.Core.Bool.{Bool}
use Rattle.endian.specs.Word.{word_bytes}
use Rattle.endian.proofs.WordLaws.{bytes_one_by_one}
use Rattle.endian.proofs.word_bytes.Goals as goal

pub returns-then-big : goal.returns-then-big
returns-then-big c = sym (ap (λ (b : Bool). word_bytes b c.args.n) c.if-big.true ∙ bytes_one_by_one _ c.args.n)

pub returns : goal.returns
returns c = sym (ap (λ (b : Bool). word_bytes b c.args.n) c.if-big.false ∙ bytes_one_by_one _ c.args.n)
