-- `copy_seven` meets its contract. Assumes nothing.
use native.Mathlib.Omega.{arith}
use Rattle.copy_part.proofs.CopyLaws.{copying_none, copying_more, copying_rest}
use Rattle.copy_part.proofs.copy_seven.Goals as goal

pub returns-then-end-from-ge4 : goal.returns-then-end-from-ge4
returns-then-end-from-ge4 c =
    let word = c.word4_at in
    let put = c.put_word4 in
    let g = copying_more (copying_none c.requires.0) 4 word.result put.new.out (omega (arith, c.if-end-from-ge4.true)) word.ensures put.ensures in
    copying_rest g c.copy_three.result c.copy_three.new.out c.copy_three.ensures
