-- `walk` meets its contract: the laws of the walk at each place. Assumes nothing.
use mathlib.Core.Path.{sym}
use native.Mathlib.Omega.{arith}
use Rattle.hexadecimal.specs.Hex.{bytes_of}
use Rattle.metadata.proofs.TextLaws.{pair_between}
use Rattle.metadata.proofs.WalkLaws.{walk_start, walk_refused, walk_end, walk_next, is_entry_lem, room_for}
use Rattle.refusal.proofs.ErrLaws.{passed}
use Rattle.metadata.proofs.walk.Goals as goal

pub loop-init : goal.loop-init
loop-init c = walk_start c.args.big c.args.m.now c.args.n c.args.entries.now c.requires.1

pub read_pair-requires : goal.read_pair-requires
read_pair-requires c = record { block = c.requires.0; within = c.loop.invariant.place }

pub shape_of-entries-in_err-size : goal.shape_of-entries-in_err-size
shape_of-entries-in_err-size c = c.loop.invariant.room

pub returns-in_err-size : goal.returns-in_err-size
returns-in_err-size c =
    let l = c.loop in
    let a = c.args in
    rw (passed c.from_residual.result _ c.from_residual.ensures.1) record { result_after = walk_refused a.big a.m.now a.n _ l.entries l.f l.k l.counter l.invariant c.loop-test.true _ (sym c.in_err-size.ensures); metadata_stands = tt }

pub overflow_add-k : goal.overflow_add-k
overflow_add-k c = omega (arith, c.loop.invariant.place, c.requires.0.short)

pub overflow_mul-k : goal.overflow_mul-k
overflow_mul-k c = omega (arith, c.loop.invariant.place, c.requires.0.short)

pub overflow_mul-size : goal.overflow_mul-size
overflow_mul-size c =
    let l = c.loop in
    let a = c.args in
    let p = pair_between a.big (bytes_of a.m.now) l.k _ _ (sym c.in_ok-size.ensures) in
    omega (arith, is_entry_lem a.big a.m.now a.n _ l.entries l.f l.k l.counter l.invariant c.loop-test.true c.requires.0 _ _ p)

pub entry_of-requires : goal.entry_of-requires
entry_of-requires c =
    let l = c.loop in
    let a = c.args in
    let p = pair_between a.big (bytes_of a.m.now) l.k _ _ (sym c.in_ok-size.ensures) in
    is_entry_lem a.big a.m.now a.n _ l.entries l.f l.k l.counter l.invariant c.loop-test.true c.requires.0 _ _ p

pub keep-f-requires : goal.keep-f-requires
keep-f-requires c =
    let l = c.loop in
    let a = c.args in
    let h = c.requires in
    let p = pair_between a.big (bytes_of a.m.now) l.k _ _ (sym c.in_ok-size.ensures) in
    (a.big, room_for a.big a.m.now a.n _ l.entries l.f l.k l.counter l.invariant c.loop-test.true h.0 _ _ p _ c.entry_of.ensures h.2)

pub loop-preserved : goal.loop-preserved
loop-preserved c =
    let l = c.loop in
    let a = c.args in
    let p = pair_between a.big (bytes_of a.m.now) l.k _ _ (sym c.in_ok-size.ensures) in
    let k = c.keep-f in
    walk_next a.big a.m.now a.n _ l.entries l.f l.k l.counter l.invariant c.loop-test.true c.requires.0 _ _ p _ c.entry_of.ensures c.requires.2 k.new.entries k.result k.auto.entries k.ensures

pub shape_of-entries : goal.shape_of-entries
shape_of-entries c = c.loop.invariant.room

pub returns : goal.returns
returns c =
    let l = c.loop in
    let a = c.args in
    record { result_after = walk_end a.big a.m.now a.n _ l.entries l.f l.k l.counter l.invariant c.loop-test.false; metadata_stands = l.invariant.standing }
