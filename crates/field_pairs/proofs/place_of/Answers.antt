-- `place_of` meets its contract: the first bytes hold the byte or are passed, then digits are passed, then it is looked for. Assumes nothing.
use Prim.Native.Nat.{◌+◌, ◌≤◌}
use lib.ListN.{length}
use native.Mathlib.Omega.{arith}
use Rattle.field_pairs.proofs.PairsLaws.{near_short, near_found, near_passed}
use Rattle.field_pairs.proofs.place_of.Goals as goal

pub overflow_add-here : goal.overflow_add-here
overflow_add-here c =
    let a = c.args in
    let h = c.requires in
    let w = c.within in
    let n = a.from + w.result in
    let l : n ≤ length a.s.now = omega (arith, w.ensures, h.0) in
    omega (arith, c.scan.ensures, near_short a.s.now a.from n (omega arith) l a.b, w.ensures, h.0)

pub returns-then-here-near : goal.returns-then-here-near
returns-then-here-near c =
    let a = c.args in
    let h = c.requires in
    let w = c.within in
    let n = a.from + w.result in
    let l : n ≤ length a.s.now = omega (arith, w.ensures, h.0) in
    omega (arith, c.scan.ensures, near_found a.s.now a.from n (omega arith) l a.b (omega (arith, c.scan.ensures, c.if-here-near.true)))

pub returns : goal.returns
returns c =
    let a = c.args in
    let h = c.requires in
    let w = c.within in
    let n = a.from + w.result in
    let l : n ≤ length a.s.now = omega (arith, w.ensures, h.0) in
    omega (arith, c.scan-2.ensures, c.pass_digits.ensures.same a.b h.1, near_passed a.s.now a.from n (omega arith) l a.b (omega (arith, c.scan.ensures, c.if-here-near.false)))
