-- `put_text` meets its contract: the length, then the text. Assumes nothing.
use Prim.Native.Nat.{◌/◌}
use lib.ListN.{length}
use native.Mathlib.Omega.{arith}
use Rattle.sheets.specs.Text.{hex}
use Rattle.buffer.proofs.OverLaws.{none_yet, and_then}
use Rattle.endian.specs.Word.{word_bytes}
use Rattle.endian.proofs.WordLaws.{length_word_text}
use Rattle.put_metadata.specs.Block.{sized_text}
use Rattle.put_metadata.proofs.put_text.Goals as goal

pub put_word-after-requires : goal.put_word-after-requires
put_word-after-requires c = omega (arith, c.requires.room)

pub put_at-requires : goal.put_at-requires
put_at-requires c = omega (arith, c.requires.room, c.put_word-after.ensures.0, length_word_text c.args.big (length c.args.text.now / 2))

pub returns : goal.returns
unfolding sized_text
returns c =
    let a = c.args in
    let w = and_then a.text.now (and_then (hex (word_bytes a.big (length a.text.now / 2))) (none_yet a.at a.out.now) c.put_word-after.ensures) c.put_at.ensures in
    (w.place, w.holds)
