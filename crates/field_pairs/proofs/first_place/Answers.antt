-- `first_place` meets its contract: `~` and `-` have no pair, and every other column begins with one. Assumes nothing.
use lib.ListN.{get_or}
use Rattle.field_pairs.proofs.PairsLaws.{column_some}
use borrow.Author.Tests.{eq-eqb, ne_eqb}
use Rattle.field_pairs.proofs.first_place.Goals as goal

pub bounds-pairs-0 : goal.bounds-pairs-0
bounds-pairs-0 c = column_some c.args.pairs.now c.requires

pub returns-then-pairs-eq126 : goal.returns-then-pairs-eq126
returns-then-pairs-eq126 c = rw (eq-eqb (get_or c.args.pairs.now 0 0) 126 c.if-pairs-eq126.true)

pub bounds-pairs-0-2 : goal.bounds-pairs-0-2
bounds-pairs-0-2 c = column_some c.args.pairs.now c.requires

pub returns-then-pairs-eq45 : goal.returns-then-pairs-eq45
returns-then-pairs-eq45 c = rw (ne_eqb (get_or c.args.pairs.now 0 0) 126 c.if-pairs-eq126.false, eq-eqb (get_or c.args.pairs.now 0 0) 45 c.if-pairs-eq45.true)

pub returns : goal.returns
returns c = rw (ne_eqb (get_or c.args.pairs.now 0 0) 126 c.if-pairs-eq126.false, ne_eqb (get_or c.args.pairs.now 0 0) 45 c.if-pairs-eq45.false)
