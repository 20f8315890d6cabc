-- `comes_later` meets its contract: the byte at the place is the key's first digit, or the sign after an empty key. Assumes nothing.
use lib.ListN.{get_or}
use Rattle.field_pairs.proofs.PairsLaws.{later_told}
use borrow.Author.Tests.{eq-eqb, ne_eqb}
use Rattle.field_pairs.proofs.comes_later.Goals as goal

pub returns-then-b-eq61 : goal.returns-then-b-eq61
returns-then-b-eq61 c =
    let a = c.args in
    rw (later_told a.pairs.now a.place c.requires.0 a.key.now, eq-eqb (get_or a.pairs.now a.place 0) 61 c.if-b-eq61.true)

pub returns : goal.returns
returns c =
    let a = c.args in
    rw (later_told a.pairs.now a.place c.requires.0 a.key.now, ne_eqb (get_or a.pairs.now a.place 0) 61 c.if-b-eq61.false)
