-- `put_at` meets its contract. The invariant: the first `i` of s are pasted over out from `at` on. Assumes nothing.
use mathlib.Core.List.{◌++◌}
use mathlib.Core.Path.{◌≡◌, refl, ap, ◌∙◌}
use Prim.Native.Nat.{◌+◌, ◌<◌}
use native.Mathlib.Numerals.{add-one}
use borrow.Author.Rules.{rules}
use lib.Seq.{paste-zero, paste-suc, take-paste, take_all}
use lib.ListN.{length, take}
use Rattle.key_order.proofs.merge.put_at.Goals as goal

pub loop-i-init : goal.loop-i-init
loop-i-init c = paste-zero c.args.out.now c.args.at c.args.s.now

pub loop-i-preserved : goal.loop-i-preserved
loop-i-preserved c =
    let fits : c.args.at + c.loop-i.i < length c.args.out.now = search rules in
    rw (c.loop-i.invariant, add-one) (paste-suc c.args.out.now c.args.at c.args.s.now c.loop-i.i 0 fits (search rules))

pub returns : goal.returns
returns c =
    let e : c.loop-i.i ≡ length c.args.s.now = search rules in
    (refl, rw (c.loop-i.invariant, e) (take-paste c.args.out.now c.args.at c.args.s.now (length c.args.s.now) (search rules) (search rules) ∙ ap (λ t. take c.args.at c.args.out.now ++ t) (take_all (length c.args.s.now) c.args.s.now (search rules))))
