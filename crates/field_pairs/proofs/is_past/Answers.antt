-- `is_past` meets its contract: the two bytes at the place are the digits of the key's first byte, or the sign after an empty key comes first. Assumes nothing.
use native.Mathlib.Omega.{arith}
use lib.ListN.{get_or}
use Rattle.field_pairs.proofs.PairsLaws.{past_told, byte_after}
use borrow.Author.Tests.{eq-eqb, ne_eqb}
use Rattle.field_pairs.proofs.is_past.Goals as goal

pub bounds-pairs-place-then-b-eq52 : goal.bounds-pairs-place-then-b-eq52
bounds-pairs-place-then-b-eq52 c =
    let a = c.args in
    byte_after a.pairs.now a.place c.requires (λ e. omega (arith, e, c.if-b-eq52.true))

pub returns-then-b-eq52 : goal.returns-then-b-eq52
returns-then-b-eq52 c =
    let a = c.args in
    rw (past_told a.pairs.now a.place c.requires, eq-eqb (get_or a.pairs.now a.place 0) 52 c.if-b-eq52.true)

pub returns-then-b-eq61 : goal.returns-then-b-eq61
returns-then-b-eq61 c =
    let a = c.args in
    rw (past_told a.pairs.now a.place c.requires, ne_eqb (get_or a.pairs.now a.place 0) 52 c.if-b-eq52.false, eq-eqb (get_or a.pairs.now a.place 0) 61 c.if-b-eq61.true)

pub returns : goal.returns
returns c =
    let a = c.args in
    rw (past_told a.pairs.now a.place c.requires, ne_eqb (get_or a.pairs.now a.place 0) 52 c.if-b-eq52.false, ne_eqb (get_or a.pairs.now a.place 0) 61 c.if-b-eq61.false)
