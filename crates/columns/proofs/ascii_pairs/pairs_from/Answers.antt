-- `pairs_from` meets its contract: a look at the first bytes finds where the pairs end, or passes them; then blocks are passed, and then the end is looked
-- for. Assumes nothing.
use mathlib.Core.Path.{◌≡◌, sym, ap, ◌∙◌}
use Prim.Native.Nat.{◌+◌}
use native.Mathlib.Omega.{arith}
use Rattle.sheets.specs.Bytes.{Bytes}
use Rattle.columns.specs.Pairs.{pairs_length, pairs_from}
use Rattle.columns.proofs.PairsLaws.{part_end, pairs_below, pairs_near, pairs_passed}
use Rattle.columns.proofs.ascii_pairs.pairs_from.Goals as goal

pub returns-then-s-at-lt-BLOCK : goal.returns-then-s-at-lt-BLOCK
returns-then-s-at-lt-BLOCK c =
    let a = c.args in
    c.pairs_before.ensures ∙ ap (λ (b : Bytes). a.at + pairs_length b) (part_end a.s.now a.at)

pub returns-then-e-near : goal.returns-then-e-near
returns-then-e-near c =
    let a = c.args in
    let p = c.pairs_before-e.ensures in
    p ∙ pairs_near a.s.now a.at (a.at + 16) (omega arith) (omega arith) (omega arith) (omega (arith, p))

pub blocks_from-requires : goal.blocks_from-requires
blocks_from-requires c =
    let a = c.args in
    omega (arith, c.pairs_before-e.ensures, pairs_below a.s.now a.at (a.at + 16) (omega arith) (omega arith))

pub returns : goal.returns
returns c =
    let a = c.args in
    let s = a.s.now in
    let near = a.at + 16 in
    let p = c.pairs_before-e.ensures in
    let r = c.blocks_from.result in
    let e : c.pairs_before-e.result ≡ near = omega (arith, p, pairs_below s a.at near (omega arith) (omega arith), c.if-e-near.false) in
    c.pairs_before-2.ensures ∙ ap (λ (b : Bytes). r + pairs_length b) (part_end s r) ∙ sym c.blocks_from.ensures.same ∙ ap (pairs_from s) e
    ∙ sym (pairs_passed s a.at near (omega arith) (omega arith) (omega arith) (omega (arith, p, c.if-e-near.false)))
