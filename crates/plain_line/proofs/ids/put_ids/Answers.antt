-- `put_ids` meets its contract: the laws of the listing at each place. Assumes nothing.
use mathlib.Core.Path.{subst}
use Prim.Native.Nat.{◌<◌}
use native.Mathlib.Omega.{arith}
use Rattle.sheets.specs.Bytes.{Bytes}
use Rattle.buffer.specs.Over.{PutAt}
use Rattle.plain_line.proofs.IdsLaws.{counted_none, listing_first, listing_room, listing_more, listing_all}
use borrow.Author.Rules.{rules}
use Rattle.plain_line.proofs.ids.put_ids.Goals as goal

pub put_byte-requires : goal.put_byte-requires
put_byte-requires c = omega (arith, c.requires)

pub returns-then-count-eq0 : goal.returns-then-count-eq0
returns-then-count-eq0 c =
    let a = c.args in
    let p = c.put_byte in
    subst (λ (t : Bytes). PutAt a.at t p.result a.out.now p.new.out) (counted_none a.count c.if-count-eq0.true) p.ensures

pub put_byte-end-requires : goal.put_byte-end-requires
put_byte-end-requires c = omega (arith, c.requires)

pub loop-i-init : goal.loop-i-init
loop-i-init c =
    let a = c.args in
    let z : 0 < a.count = search rules in
    λ old h. listing_first z h

pub put_byte-start-requires : goal.put_byte-start-requires
put_byte-start-requires c =
    let l = c.loop-i in
    let p = c.put_byte-end in
    omega (arith, c.requires, listing_room (l.invariant c.args.out.now p.ensures) c.loop-i-test.true)

pub put_u64-end-requires : goal.put_u64-end-requires
put_u64-end-requires c =
    let l = c.loop-i in
    let p = c.put_byte-end in
    omega (arith, c.requires, c.put_byte-start.ensures.0, listing_room (l.invariant c.args.out.now p.ensures) c.loop-i-test.true)

pub loop-i-preserved : goal.loop-i-preserved
loop-i-preserved c =
    let l = c.loop-i in
    λ old h. listing_more (l.invariant old h) c.loop-i-test.true c.ranges.count.fits c.put_byte-start.ensures c.put_u64-end.ensures

pub returns : goal.returns
returns c =
    let l = c.loop-i in
    listing_all (l.invariant c.args.out.now c.put_byte-end.ensures) c.loop-i-test.false
