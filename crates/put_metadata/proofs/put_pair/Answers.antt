-- `put_pair` meets its contract: two texts, one after the other. Assumes nothing.
use native.Mathlib.Omega.{arith}
use Rattle.buffer.proofs.OverLaws.{none_yet, and_then}
use Rattle.put_metadata.proofs.BlockLaws.{sized_length}
use Rattle.put_metadata.specs.Block.{sized_text, pair_pieces}
use Rattle.put_metadata.proofs.put_pair.Goals as goal

pub put_text-requires : goal.put_text-requires
put_text-requires c = record { short = c.requires.short_value; room = omega (arith, c.requires.room, c.put_text-after.ensures.0, sized_length c.args.big c.args.key.now) }

pub returns : goal.returns
unfolding pair_pieces
returns c =
    let a = c.args in
    let w = and_then (sized_text a.big a.value.now) (and_then (sized_text a.big a.key.now) (none_yet a.at a.out.now) c.put_text-after.ensures) c.put_text.ensures in
    (w.place, w.holds)
