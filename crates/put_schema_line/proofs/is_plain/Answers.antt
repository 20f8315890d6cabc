-- `is_plain` meets its contract: test after test. Assumes nothing.
use mathlib.Core.Path.{refl, sym, ◌∙◌}
use mathlib.Core.Bool.{true, false}
use lib.Dec.{ltb}
use lib.ListN.{length}
use native.Mathlib.Omega.{arith}
use borrow.Author.Tests.{lt-leb, le-leb}
use Rattle.field_pairs.specs.Pairs.{first_place}
use Rattle.put_schema_line.proofs.LineLaws.{plain_as}
use Rattle.put_schema_line.proofs.is_plain.Goals as goal

pub returns-then-first_place-pairs : goal.returns-then-first_place-pairs
returns-then-first_place-pairs c =
    let a = c.args in
    sym (plain_as a.n a.pairs.now a.extension.now false _ _ _ _ (lt-leb (length a.pairs.now) (first_place a.pairs.now) (omega (arith, c.if-first_place-pairs.true, c.first_place.ensures))) refl refl refl refl)

pub returns-then-not-same : goal.returns-then-not-same
returns-then-not-same c =
    let a = c.args in
    sym (plain_as a.n a.pairs.now a.extension.now true false _ _ _ (le-leb (length a.pairs.now) (first_place a.pairs.now) (omega (arith, c.if-first_place-pairs.false, c.first_place.ensures))) (sym c.same.ensures ∙ c.if-not-same.true) refl refl refl)

pub returns-then-n-gt9 : goal.returns-then-n-gt9
returns-then-n-gt9 c =
    let a = c.args in
    sym (plain_as a.n a.pairs.now a.extension.now true true false _ _ (le-leb (length a.pairs.now) (first_place a.pairs.now) (omega (arith, c.if-first_place-pairs.false, c.first_place.ensures))) (sym c.same.ensures ∙ c.if-not-same.false) (lt-leb a.n.flags 9 c.if-n-gt9.true) refl refl)

pub returns-then-n-gt9-2 : goal.returns-then-n-gt9-2
returns-then-n-gt9-2 c =
    let a = c.args in
    sym (plain_as a.n a.pairs.now a.extension.now true true true false _ (le-leb (length a.pairs.now) (first_place a.pairs.now) (omega (arith, c.if-first_place-pairs.false, c.first_place.ensures))) (sym c.same.ensures ∙ c.if-not-same.false) (le-leb a.n.flags 9 c.if-n-gt9.false) (lt-leb a.n.children 9 c.if-n-gt9-2.true) refl)

pub returns : goal.returns
returns c =
    let a = c.args in
    sym (plain_as a.n a.pairs.now a.extension.now true true true true (ltb a.n.dictionary 10) (le-leb (length a.pairs.now) (first_place a.pairs.now) (omega (arith, c.if-first_place-pairs.false, c.first_place.ensures))) (sym c.same.ensures ∙ c.if-not-same.false) (le-leb a.n.flags 9 c.if-n-gt9.false) (le-leb a.n.children 9 c.if-n-gt9-2.false) refl)
