-- `put_until` meets its contract: the pairs before the key are those that were written and those that are left. The measure is what is left of the column. Assumes nothing.
use mathlib.Core.Path.{refl, sym, ◌∙◌}
use Prim.Native.Nat.{◌-◌}
use borrow.Author.Rules.{rules}
use Rattle.put_metadata.proofs.WalkLaws.{until_start, until_end, until_later, until_stop, until_more, walk_on}
use Rattle.put_metadata.proofs.put_until.Goals as goal

pub loop-walk-init : goal.loop-walk-init
loop-walk-init c =
    let a = c.args in
    (refl, until_start a.big a.pairs.now a.key.now a.w a.out.now c.requires.0.stands)

pub comes_later-requires : goal.comes_later-requires
comes_later-requires c = ((c.loop-walk.invariant.1.moves.stands, c.loop-walk-test.true), c.requires.1)

pub returns-then-comes_later : goal.returns-then-comes_later
returns-then-comes_later c =
    let a = c.args in
    let l = c.loop-walk in
    until_later a.big a.pairs.now a.key.now a.w a.out.now l.out l.walk l.invariant.1 (sym c.comes_later.ensures ∙ c.if-comes_later.true)

pub pair_at-p-requires : goal.pair_at-p-requires
pair_at-p-requires c = (c.loop-walk.invariant.1.moves.stands, c.loop-walk-test.true)

pub returns-then-not-is_before : goal.returns-then-not-is_before
returns-then-not-is_before c =
    let a = c.args in
    let l = c.loop-walk in
    until_stop a.big a.pairs.now a.key.now a.w a.out.now l.out l.walk l.invariant.1 c.pair_at-p.result c.pair_at-p.ensures (sym c.is_before.ensures ∙ c.if-not-is_before.true)

pub put_found-walk-requires : goal.put_found-walk-requires
put_found-walk-requires c =
    let a = c.args in
    let l = c.loop-walk in
    (walk_on a.pairs.now a.w l.walk _ _ 0 0 _ a.out.now l.out l.invariant.1.moves c.requires.0, c.pair_at-p.ensures)

pub loop-walk-preserved : goal.loop-walk-preserved
loop-walk-preserved c =
    let a = c.args in
    let l = c.loop-walk in
    (search rules, until_more a.big a.pairs.now a.key.now a.w a.out.now l.out l.walk l.invariant.1 c.pair_at-p.result c.pair_at-p.ensures (sym c.is_before.ensures ∙ c.if-not-is_before.false) c.put_found-walk.result c.put_found-walk.new.out c.put_found-walk.ensures)

pub returns : goal.returns
returns c =
    let a = c.args in
    let l = c.loop-walk in
    until_end a.big a.pairs.now a.key.now a.w a.out.now l.out l.walk l.invariant.1 c.loop-walk-test.false
