-- `has_four` meets its contract: its two tests are the two bounds. Assumes nothing.
use Prim.Native.Nat.{◌+◌}
use native.Mathlib.Omega.{arith}
use lib.Dec.{leb}
use lib.ListN.{length}
use borrow.Author.Tests.{leb-true}
use Rattle.sheets.proofs.Tests.{and_left, and_right}
use Rattle.key_order.proofs.has_four.Goals as goal

pub returns : goal.returns
returns c e =
    let a = c.args in
    let size = leb-true (a.shared + 4) c.size_of.result (and_left _ _ e) in
    let end = leb-true (c.start_of.result + (a.shared + 4)) (length a.text.now) (and_right (leb (a.shared + 4) c.size_of.result) _ e) in
    (omega (arith, size, c.size_of.ensures), omega (arith, end, c.start_of.ensures))
