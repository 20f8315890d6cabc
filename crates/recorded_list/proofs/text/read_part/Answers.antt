-- `text::read_part` meets its contract. The loop's invariant: the first bytes are read, and the text goes on at i. A part that stood there would go on
-- as the text does (`PartLaws`). Assumes nothing.
use mathlib.Core.List.{◌++◌}
use Prim.Native.Nat.{ℕ}
use native.Mathlib.Omega.{arith}
use borrow.Author.Rules.{rules}
use lib.ListN.{drop, length-append}
use lib.Seq.{length-take-le}
use Rattle.recorded_list.proofs.PartLaws.{none_yet, one_more, read_before, whole, stuck, ends_early, no_end}
use Rattle.recorded_list.proofs.text.read_part.Goals as goal

pub returns-then-out-n : goal.returns-then-out-n
returns-then-out-n c =
    let a = c.args in
    λ x part rest e. omega (arith, part.fits)

pub loop-b-init : goal.loop-b-init
loop-b-init c =
    let a = c.args in
    (length-take-le a.count a.out.now (omega arith), none_yet a.s.now a.at _)

pub returns-in_err-byte : goal.returns-in_err-byte
returns-in_err-byte c =
    let a = c.args in
    let l = c.loop-b in
    rw c.from_residual.ensures (stuck a.s.now a.at l.part l.b-index l.i l.invariant.1 (omega arith) a.count _ (omega arith) c.in_err-byte.ensures)

pub loop-b-preserved : goal.loop-b-preserved
loop-b-preserved c =
    let a = c.args in
    let l = c.loop-b in
    (search rules, one_more a.s.now a.at l.part l.b-index l.i l.invariant.1 _ _ (omega arith) c.in_ok-byte.ensures)

pub returns-then-s-i : goal.returns-then-s-i
returns-then-s-i c =
    let a = c.args in
    let l = c.loop-b in
    ends_early a.s.now a.at l.part l.b-index l.i l.invariant.1 (omega arith) a.count _ (omega arith) c.if-s-i.true

pub returns-then-s-i-ne10 : goal.returns-then-s-i-ne10
returns-then-s-i-ne10 c =
    let a = c.args in
    let l = c.loop-b in
    no_end a.s.now a.at l.part l.b-index l.i l.invariant.1 (omega arith) a.count _ (omega arith) c.if-s-i.false c.if-s-i-ne10.true

pub returns : goal.returns
returns c =
    let a = c.args in
    let l = c.loop-b in
    let more = drop a.count a.out.now in
    let h = read_before a.s.now a.at l.part l.b-index l.i l.invariant.1 more (omega arith) in
    whole a.s.now a.at (l.part ++ more) l.b-index l.i h a.count (omega arith) (omega (arith, length-append {A = ℕ})) c.if-s-i.false c.if-s-i-ne10.false
