-- `flags_at` meets its contract: the end of the line is a number that is at most 9 more than that of no flags, or the rule of these bytes fails. Assumes nothing.
use mathlib.Core.Path.{◌≡◌}
use Prim.Native.Nat.{◌+◌, ◌-◌}
use native.Mathlib.Omega.{arith}
use Rattle.leaf_line.proofs.ShortLaws.{no_flags, tail_word, tail_digit, flags_some, flags_none}
use Rattle.leaf_line.proofs.flags_at.Goals as goal

pub returns-then-w-none : goal.returns-then-w-none
returns-then-w-none c =
    let a = c.args in
    flags_none a.s.now a.e a.children (λ m. omega (arith, tail_word m c.word8_at-w.ensures, c.if-w-none.true))

pub returns-then-flags-gt9 : goal.returns-then-flags-gt9
returns-then-flags-gt9 c =
    let a = c.args in
    flags_none a.s.now a.e a.children (λ m. omega (arith, tail_word m c.word8_at-w.ensures, tail_digit m, c.if-flags-gt9.true))

pub returns : goal.returns
returns c =
    let a = c.args in
    let w = c.word8_at-w.result in
    let none = no_flags a.children in
    let plus : w ≡ none + (w - none) = omega (arith, c.if-w-none.false) in
    flags_some a.s.now a.e a.children w (w - none) c.requires.0 c.requires.1 c.word8_at-w.ensures plus c.if-flags-gt9.false
