-- `put_front` meets its contract: a chain of writes (`front_put`). Assumes nothing.
use mathlib.Core.Path.{ap, ◌∙◌}
use native.Mathlib.Omega.{arith}
use lib.ListN.{length, set, length-set}
use Rattle.sheets.specs.Bytes.{space}
use Rattle.page_line.specs.PageLines.{front_text}
use Rattle.buffer.proofs.OverLaws.{length_over}
use Rattle.words.specs.Words.{low_bytes}
use Rattle.page_line.proofs.PutLaws.{front_put}
use Rattle.page_line.proofs.put.put_front.Goals as goal

pub bounds-out-21 : goal.bounds-out-21
bounds-out-21 c = omega (arith, length-set c.put_word8-2.new.out 20 space)

pub bounds-out-22 : goal.bounds-out-22
bounds-out-22 c = omega (arith, length-set c.put_word8-2.new.out 20 space, length-set (set c.put_word8-2.new.out 20 space) 21 c.args.mark)

pub shape_of-out : goal.shape_of-out
shape_of-out c =
    ap length (front_put c.args.level c.args.kind c.args.mark _ _ c.args.out.now _ _ c.put_word8-2.new.out c.name_of-name.ensures c.requires.1
    c.put_word4.ensures c.put_word8.ensures c.put_word8-2.ensures) ∙ length_over (front_text (low_bytes 4 c.args.level) c.args.kind c.args.mark) c.args.out.now

pub returns : goal.returns
returns c =
    front_put c.args.level c.args.kind c.args.mark _ _ c.args.out.now _ _ c.put_word8-2.new.out c.name_of-name.ensures c.requires.1
    c.put_word4.ensures c.put_word8.ensures c.put_word8-2.ensures
