-- `word4_at` meets its contract: two words next to each other (`joined`). Assumes nothing.
use lib.ListN.{length}
use native.Mathlib.Nat.{mul_comm}
use Prim.Native.Nat.{ℕ, ◌+◌, ◌≤◌}
use Rattle.words.specs.Words.{WordAt}
use Rattle.words.proofs.WordLaws.{joined}
use mathlib.Core.Path.{subst}
use native.Mathlib.Omega.{arith}
use Rattle.words.proofs.word4_at.Goals as goal

pub overflow_mul-result : goal.overflow_mul-result
overflow_mul-result c = omega (arith, c.word2_at-2.ensures.below)

pub overflow_add-result : goal.overflow_add-result
overflow_add-result c = omega (arith, c.word2_at.ensures.below, c.word2_at-2.ensures.below)

pub returns : goal.returns
returns c =
    let h : c.args.at + 4 ≤ length c.args.s.now = c.requires in
    subst (λ (w : ℕ). WordAt 4 c.args.s.now c.args.at (c.word2_at.result + w)) (mul_comm 65536 c.word2_at-2.result)
    (joined 2 2 h c.word2_at.ensures c.word2_at-2.ensures)
