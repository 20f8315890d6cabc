-- `word2_at` meets its contract: two words of one byte next to each other (`joined`). Assumes nothing.
use lib.ListN.{length, get_or}
use native.Mathlib.Nat.{mul_comm}
use Prim.Native.Nat.{ℕ, ◌+◌, ◌≤◌}
use Rattle.words.specs.Words.{WordAt}
use Rattle.words.proofs.WordLaws.{joined, one_byte}
use mathlib.Core.Path.{subst}
use native.Mathlib.Omega.{arith}
use Rattle.words.proofs.word2_at.Goals as goal

pub returns : goal.returns
returns c =
    let s = c.args.s.now in
    let at = c.args.at in
    let h : at + 2 ≤ length s = c.requires in
    let g = c.shared_slice_known-1.given in
    rw (c.wide.ensures.0, c.wide-2.ensures.0)
    (subst (λ (w : ℕ). WordAt 2 s at (get_or s at 0 + w)) (mul_comm 256 (get_or s (at + 1) 0))
    (joined 1 1 h (one_byte s at (omega arith) (g at).fits) (one_byte s (at + 1) (omega arith) (g (at + 1)).fits)))
