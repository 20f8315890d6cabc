-- `named` meets its contract: the definition asks what the code asks, in that order. Assumes nothing.
use Rattle.std.specs.Prelude.{Some, None}
use mathlib.Core.Path.{◌≡◌, refl, sym, ◌∙◌}
use mathlib.Core.Bool.{true, false}
use Rattle.sheets.specs.Bytes.{Bytes, ascii, same}
use Rattle.endian_word.specs.Words.{order_named}
use Rattle.endian_word.proofs.named.Goals as goal

is_little : (w : Bytes) → same w (ascii "little") ≡ true → Some false ≡ order_named w
is_little w h = rw h refl

is_big : (w : Bytes) → same w (ascii "little") ≡ false → same w (ascii "big") ≡ true → Some true ≡ order_named w
is_big w h k = rw h (rw k refl)

is_neither : (w : Bytes) → same w (ascii "little") ≡ false → same w (ascii "big") ≡ false → None ≡ order_named w
is_neither w h k = rw h (rw k refl)

pub returns-then-same : goal.returns-then-same
returns-then-same c = is_little c.args.word.now (sym c.same.ensures ∙ c.if-same.true)

pub returns-then-same-2 : goal.returns-then-same-2
returns-then-same-2 c = is_big c.args.word.now (sym c.same.ensures ∙ c.if-same.false) (sym c.same-2.ensures ∙ c.if-same-2.true)

pub returns : goal.returns
returns c = is_neither c.args.word.now (sym c.same.ensures ∙ c.if-same.false) (sym c.same-2.ensures ∙ c.if-same-2.false)
