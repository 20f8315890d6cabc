-- `sort_few` meets its contract. The invariant: the first `r` of `to` are those of `from` after what is left of it, in order. Assumes nothing.
use mathlib.Core.Path.{◌≡◌, ap, ◌∙◌}
use native.Mathlib.Omega.{arith}
use lib.ListN.{length, drop}
use Rattle.key_order.specs.Entry.{rest_at}
use Rattle.key_order.specs.Order.{insert_entry, ordered}
use Rattle.key_order.proofs.InsertLaws.{none_yet, length-push, one_before, one_more}
use Rattle.key_order.proofs.insert.sort_few.Goals as goal

pub loop-p-init : goal.loop-p-init
loop-p-init c =
    let e : c.into_iter-p-iterator.result.iter.rest.now ≡ c.args.from.now = rw (c.into_iter-p-iterator.ensures.into_iter_gives, c.rev-p-items.ensures.source) c.iter.ensures.rest in
    none_yet (rest_at c.args.text.now c.args.shared) c.args.from.now _ e

pub insert_entry-r-requires : goal.insert_entry-r-requires
insert_entry-r-requires c = omega (arith, c.requires, c.loop-p.auto.to, c.loop-p.invariant.0, ap length c.in-Some.ensures.steps, length-push c.next.new.self.iter.rest.now c.in-Some.field-0.now)

pub loop-p-preserved : goal.loop-p-preserved
loop-p-preserved c =
    let key = rest_at c.args.text.now c.args.shared in
    let rest = c.next.new.self.iter.rest.now in
    let p = c.in-Some.field-0.now in
    let put = c.insert_entry-r in
    let taken = one_before c.args.from.now c.loop-p.p-iterator.iter.rest.now rest p c.loop-p.invariant.1 c.in-Some.ensures.steps in (
      omega (arith, put.ensures.0, c.loop-p.invariant.0, ap length c.in-Some.ensures.steps, length-push rest p),
      taken.1,
      put.ensures.1 ∙ ap (insert_entry key p) c.loop-p.invariant.2 ∙ one_more key _ p _ taken.0,
    )

pub returns : goal.returns
returns c =
    let e = c.in-None.ensures.steps.0 in
    record { within = omega arith; entries = c.loop-p.invariant.2 ∙ ap (λ k. ordered (rest_at c.args.text.now c.args.shared) (drop k c.args.from.now)) e }
