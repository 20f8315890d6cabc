-- `put_pairs` meets its contract: the laws of the writing at each place. Assumes nothing.
use mathlib.Core.Path.{ap, subst}
use Prim.Native.Nat.{◌+◌, ◌<◌}
use native.Mathlib.Omega.{arith}
use lib.ListN.{length}
use Rattle.sheets.specs.Bytes.{Bytes}
use Rattle.buffer.specs.Over.{PutAt}
use Rattle.hexadecimal.specs.Hex.{bytes_of}
use Rattle.metadata.proofs.PutLaws.{column_none, entry_at, later, first_fits, first_put, next_fits, next_put, put_finished}
use borrow.Author.Rules.{rules}
use Rattle.metadata.proofs.put.put_pairs.Goals as goal

pub put_byte-requires : goal.put_byte-requires
put_byte-requires c =
    let a = c.args in
    omega (arith, c.requires.fits, ap length (column_none a.big (bytes_of a.m.now) a.entries.now a.count c.if-count-eq0.true))

pub returns-then-count-eq0 : goal.returns-then-count-eq0
returns-then-count-eq0 c =
    let a = c.args in
    let e = column_none a.big (bytes_of a.m.now) a.entries.now a.count c.if-count-eq0.true in
    let p = c.put_byte in
    subst (λ (t : Bytes). PutAt a.at t p.result a.out.now p.new.out) e p.ensures

pub bounds-entries-0 : goal.bounds-entries-0
bounds-entries-0 c = omega (arith, c.requires.entries.count, c.if-count-eq0.false)

pub put_entry-end-requires : goal.put_entry-end-requires
put_entry-end-requires c =
    let a = c.args in
    let h = c.requires in
    let l : 0 < a.count = search rules in
    ((h.is_text, entry_at a.big a.m.now a.entries.now a.count a.at h 0 l), first_fits a.big a.m.now a.entries.now a.count a.at h l)

pub loop-e-init : goal.loop-e-init
loop-e-init c =
    let a = c.args in
    let z : 0 < a.count = search rules in
    let p = c.put_entry-end in
    first_put a.big a.m.now a.entries.now a.count a.at c.requires z p.result a.out.now p.new.out p.ensures

pub put_byte-start-requires : goal.put_byte-start-requires
put_byte-start-requires c =
    let l = c.loop-e in
    let a = c.args in
    let more : l.e-index + 1 < a.count = omega (arith, c.requires.entries.count) in
    let h = c.requires in
    let p = c.put_entry-end in
    let z : 0 < a.count = search rules in
    omega (arith, next_fits a.big a.m.now a.entries.now a.count a.at h z p.result a.out.now p.new.out p.ensures l.out l.end (l.e-index + 1) l.invariant more)

pub put_entry-end-requires-in-loop-e : goal.put_entry-end-requires-in-loop-e
put_entry-end-requires-in-loop-e c =
    let l = c.loop-e in
    let a = c.args in
    let more : l.e-index + 1 < a.count = omega (arith, c.requires.entries.count) in
    let h = c.requires in
    let p = c.put_entry-end in
    let z : 0 < a.count = search rules in
    rw (later a.entries.now a.count l.e-index more)
    ((h.is_text, entry_at a.big a.m.now a.entries.now a.count a.at h (l.e-index + 1) more), omega (arith, c.put_byte-start.ensures.0, next_fits a.big a.m.now a.entries.now a.count a.at h z p.result a.out.now p.new.out p.ensures l.out l.end (l.e-index + 1) l.invariant more))

pub loop-e-preserved : goal.loop-e-preserved
loop-e-preserved c =
    let l = c.loop-e in
    let a = c.args in
    let more : l.e-index + 1 < a.count = omega (arith, c.requires.entries.count) in
    let h = c.requires in
    let p = c.put_entry-end in
    let z : 0 < a.count = search rules in
    next_put a.big a.m.now a.entries.now a.count a.at h z p.result a.out.now p.new.out p.ensures l.out l.end (l.e-index + 1) l.invariant more c.put_byte-start.result c.put_byte-start.new.out c.put_byte-start.ensures c.put_entry-end-in-loop-e.result c.put_entry-end-in-loop-e.new.out (rw (later a.entries.now a.count l.e-index more) at c.put_entry-end-in-loop-e.ensures)

pub returns : goal.returns
returns c =
    let l = c.loop-e in
    let a = c.args in
    let h = c.requires in
    let p = c.put_entry-end in
    let z : 0 < a.count = search rules in
    put_finished a.big a.m.now a.entries.now a.count a.at h z p.result a.out.now p.new.out p.ensures l.out l.end (l.e-index + 1) l.invariant (omega (arith, c.requires.entries.count))
