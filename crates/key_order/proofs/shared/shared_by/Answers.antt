-- `shared_by` meets its contract. The invariant: the keys of the entries passed begin with the first `r` bytes of the first key. Assumes nothing.
use mathlib.Core.Path.{ap, subst, ◌∙◌}
use mathlib.Core.List.{List}
use Prim.Native.Nat.{ℕ, ◌+◌, ◌<◌}
use native.Mathlib.Omega.{arith}
use lib.ListN.{length, get_or, take}
use lib.Seq.{take_all}
use borrow.Author.Rules.{rules}
use Rattle.sheets.specs.Bytes.{Bytes}
use Rattle.key_order.specs.Entry.{key_at, Each, Begins}
use Rattle.key_order.proofs.KeyLaws.{key_short}
use Rattle.key_order.proofs.SharedLaws.{nothing, later, one_more}
use Rattle.key_order.proofs.shared.shared_by.Goals as goal

pub returns-then-entries-lt9 : goal.returns-then-entries-lt9
returns-then-entries-lt9 c =
    let a = c.args in nothing a.text.now (key_at a.text.now (get_or a.entries.now 0 0)) a.entries.now

pub loop-e-init : goal.loop-e-init
loop-e-init c =
    let a = c.args in
    let first = c.key_of-first.result.now in
    let all = length first in
    (search rules, one_more a.text.now first all all 0 a.entries.now (omega arith) (search rules) _ (ap (take all) c.key_of-first.ensures))

pub returns-then-r-lt4 : goal.returns-then-r-lt4
returns-then-r-lt4 c =
    let a = c.args in
    nothing a.text.now (key_at a.text.now (get_or a.entries.now 0 0)) a.entries.now

pub loop-e-preserved : goal.loop-e-preserved
loop-e-preserved c =
    let a = c.args in
    let k = c.loop-e.e-index in
    let inv = c.loop-e.invariant in
    let same = c.common-r.ensures in
    let h : k + 1 < length a.entries.now = omega arith in (
      omega (arith, same.0, inv.0),
      one_more a.text.now _ c.common-r.result c.loop-e.r (k + 1) a.entries.now same.0 h inv.1 (same.1 ∙ ap (take c.common-r.result) (c.key_of.ensures ∙ ap (key_at a.text.now) (later a.entries.now k h))),
    )

pub overflow_cast-result : goal.overflow_cast-result
overflow_cast-result c =
    let a = c.args in
    omega (arith, c.loop-e.invariant.0, ap length c.key_of-first.ensures, key_short a.text.now (get_or a.entries.now 0 0))

pub returns : goal.returns
returns c =
    let a = c.args in
    let all = take_all (c.loop-e.e-index + 1) a.entries.now (search rules) in
    subst (λ (s : Bytes). Each (Begins a.text.now s c.loop-e.r) a.entries.now) c.key_of-first.ensures
    (subst (λ (m : List ℕ). Each (Begins a.text.now c.key_of-first.result.now c.loop-e.r) m) all c.loop-e.invariant.1)
