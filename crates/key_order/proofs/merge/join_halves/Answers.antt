-- `join_halves` meets its contract: the parts lent are those that `Halves` speaks of. Assumes nothing.
use mathlib.Core.Path.{◌≡◌, sym, subst}
use Prim.Native.Nat.{ℕ, ◌+◌, ◌-◌}
use native.Mathlib.Omega.{arith}
use lib.Seq.{length-take-le}
use lib.ListN.{take, drop}
use Rattle.key_order.specs.Merge.{Mergeable, Merges}
use Rattle.key_order.specs.Entry.{rest_at}
use Rattle.key_order.proofs.merge.join_halves.Goals as goal

pub slice_bounds-join-end : goal.slice_bounds-join-end
slice_bounds-join-end c = sym (length-take-le c.args.a c.args.from.now (omega (arith, c.requires.first, c.requires.second)))

pub join-requires : goal.join-requires
join-requires c =
    let e : c.args.half + c.args.b - c.args.half ≡ c.args.b = omega arith in
    subst (λ (n : ℕ). Mergeable (rest_at c.args.text.now c.args.shared) (take c.args.a c.args.from.now) (take n (drop c.args.half c.args.from.now)) c.args.out.now) (sym e) c.requires.parts

pub returns : goal.returns
returns c =
    let e : c.args.half + c.args.b - c.args.half ≡ c.args.b = omega arith in
    subst (λ (n : ℕ). Merges (rest_at c.args.text.now c.args.shared) (take c.args.a c.args.from.now) (take n (drop c.args.half c.args.from.now)) c.join.new.out c.join.result) e c.join.ensures
