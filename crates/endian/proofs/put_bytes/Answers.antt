-- `put_bytes` meets its contract: `put_hex` writes the text of the word's bytes. Assumes nothing.
use mathlib.Core.Path.{ap, ◌∙◌}
use mathlib.Core.List.{List}
use Prim.Native.Nat.{ℕ, ◌+◌}
use lib.ListN.{length}
use native.Mathlib.Omega.{arith}
use Rattle.sheets.specs.Text.{hex}
use Rattle.buffer.specs.Over.{over_at}
use Rattle.endian.proofs.WordLaws.{length_word_text}
use Rattle.endian.proofs.put_bytes.Goals as goal

pub put_hex-requires : goal.put_hex-requires
put_hex-requires c = omega (arith, c.requires, ap (λ (l : List ℕ). length (hex l)) c.word_bytes-b.ensures, length_word_text c.args.big c.args.n)

pub returns : goal.returns
returns c =
    let e = c.word_bytes-b.ensures in
    (c.put_hex.ensures.0 ∙ ap (λ (l : List ℕ). c.args.at + length (hex l)) e, c.put_hex.ensures.1 ∙ ap (λ (l : List ℕ). over_at c.args.at (hex l) c.args.out.now) e)
