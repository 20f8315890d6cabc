-- `copy_three` meets its contract. Assumes nothing.
use native.Mathlib.Omega.{arith}
use Rattle.copy_part.proofs.CopyLaws.{copying_none, copying_more, copying_rest}
use Rattle.copy_part.proofs.copy_three.Goals as goal

pub returns-then-end-from-ge2 : goal.returns-then-end-from-ge2
returns-then-end-from-ge2 c =
    let word = c.word2_at in
    let put = c.put_word2 in
    let g = copying_more (copying_none c.requires.0) 2 word.result put.new.out (omega (arith, c.if-end-from-ge2.true)) word.ensures put.ensures in
    copying_rest g c.copy_one.result c.copy_one.new.out c.copy_one.ensures
