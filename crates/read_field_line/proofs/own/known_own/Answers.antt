-- `own::known_own` meets its contract: `~` is all that a bare line says, and any other line has its columns' ends where they are found, `nullable`
-- being one byte. Assumes nothing.
use mathlib.Core.Path.{sym, subst}
use native.Mathlib.Omega.{arith}
use borrow.Author.Tests.{eq-eqb, ne_eqb}
use Rattle.read_field_line.specs.Stages.{OwnAt}
use Rattle.read_field_line.specs.declared.own.OwnColumns.{OwnColumns}
use Rattle.read_field_line.proofs.KnownLaws.{first_there, name_there, bare_there, flag_within, named_there}
use Rattle.read_field_line.proofs.own.known_own.Goals as goal

pub bounds-s-at : goal.bounds-s-at
bounds-s-at c = first_there c.requires.2

pub bare_own-requires : goal.bare_own-requires
bare_own-requires c = omega (arith, c.ranges, (bare_there c.requires.2 (eq-eqb _ 126 c.if-s-at-eq126.true)).pairs_at.high)

pub returns-then-s-at-eq126 : goal.returns-then-s-at-eq126
returns-then-s-at-eq126 c =
    let a = c.args in
    subst (λ (o : OwnColumns). OwnAt a.s.now a.at o) (sym c.bare_own.ensures) (bare_there c.requires.2 (eq-eqb _ 126 c.if-s-at-eq126.true))

pub known_text_end-name-requires : goal.known_text_end-name-requires
known_text_end-name-requires c = name_there c.requires.2

pub overflow_add-start : goal.overflow_add-start
overflow_add-start c = omega (arith, c.ranges, flag_within c.requires.2 (ne_eqb _ 126 c.if-s-at-eq126.false) c.known_text_end-name.ensures)

pub overflow_add-pairs : goal.overflow_add-pairs
overflow_add-pairs c = omega (arith, c.ranges, flag_within c.requires.2 (ne_eqb _ 126 c.if-s-at-eq126.false) c.known_text_end-name.ensures)

pub bounds-s-start : goal.bounds-s-start
bounds-s-start c = omega (arith, flag_within c.requires.2 (ne_eqb _ 126 c.if-s-at-eq126.false) c.known_text_end-name.ensures)

pub returns : goal.returns
returns c =
    rw (c.between.ensures, c.between-2.ensures)
    (named_there c.requires.2 (ne_eqb _ 126 c.if-s-at-eq126.false) c.known_text_end-name.ensures c.text_end-end.ensures)
