-- `sort_keys` meets its contract: `spare` holds a copy of the entries, as `sort_into` asks, and the order after what all keys share is that of the keys
-- (`ordered_rests`). Assumes nothing.
use mathlib.Core.Path.{◌≡◌, sym, subst, ◌∙◌}
use Prim.Native.Nat.{ℕ}
use native.Mathlib.Omega.{arith}
use lib.Seq.{length-take-le, length_front, take-append-le}
use lib.ListN.{take}
use Rattle.key_order.proofs.SharedLaws.{ordered_rests}
use Rattle.key_order.proofs.sort.sort_keys.Goals as goal

pub slice_bounds-shared_by-end-2 : goal.slice_bounds-shared_by-end-2
slice_bounds-shared_by-end-2 c = sym (length-take-le c.args.n c.args.entries.now c.requires.0)

pub slice_bounds-put_at-end-2 : goal.slice_bounds-put_at-end-2
slice_bounds-put_at-end-2 c = sym (length-take-le c.args.n c.args.entries.now c.requires.0)

pub put_at-requires : goal.put_at-requires
put_at-requires c =
    let len = length-take-le c.args.n c.args.entries.now c.requires.0 in
    omega (arith, len, c.requires.1)

pub slice_bounds-sort_into-end-2 : goal.slice_bounds-sort_into-end-2
slice_bounds-sort_into-end-2 c =
    let len = length-take-le c.args.n c.args.entries.now c.requires.0 in
    let put = c.put_at in
    sym (length-take-le c.args.n put.new.out (omega (arith, c.requires.1, put.auto.out)))

pub slice_bounds-sort_into-end-4 : goal.slice_bounds-sort_into-end-4
slice_bounds-sort_into-end-4 c = sym (length-take-le c.args.n c.args.entries.now c.requires.0)

pub sort_into-requires : goal.sort_into-requires
sort_into-requires c =
    let len = length-take-le c.args.n c.args.entries.now c.requires.0 in
    let put = c.put_at in
    let e : put.result ≡ c.args.n = omega (arith, put.ensures.0, len) in
    subst (λ (k : ℕ). take k put.new.out ≡ take c.args.n c.args.entries.now) e put.ensures.1

pub returns : goal.returns
returns c =
    let len = length-take-le c.args.n c.args.entries.now c.requires.0 in
    let put = c.put_at in
    let shared = c.shared_by-shared in
    let sorted = c.sort_into in
    let front = length_front c.args.entries.now sorted.new.to c.args.n sorted.auto.to in record {
      upper_bound = (omega (arith, sorted.ensures.within, len), take-append-le sorted.result sorted.new.to _ (omega (arith, sorted.ensures.within, sorted.auto.to)) ∙ sorted.ensures.entries ∙ ordered_rests c.args.text.now (take c.args.n c.args.entries.now) shared.result shared.ensures);
      entries_len_unchanged = (front, length_front put.new.out sorted.new.from c.args.n sorted.auto.from ∙ put.auto.out);
    }
