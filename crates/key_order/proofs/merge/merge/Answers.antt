-- `merge` meets its contract. The invariant: a and b merged are what is written, and then what is left of a merged with what is left of b.
-- The first entries that are left decide what is written next. Assumes nothing.
use mathlib.Core.List.{◌++◌}
use mathlib.Core.Path.{refl, ap, ◌∙◌}
use native.Mathlib.Omega.{arith}
use borrow.Author.Rules.{rules}
use lib.ListN.{get_or, take, drop}
use Rattle.key_order.specs.Merge.{merged}
use Rattle.key_order.specs.Entry.{rest_at}
use Rattle.key_order.proofs.MergeLaws.{rest_left, rest_right, step_less, step_equal, step_greater, wrote, finished, rest_length}
use Rattle.byte_order.proofs.CompareLaws.{is_less, is_equal, is_greater}
use Rattle.key_order.proofs.merge.merge.Goals as goal

pub loop-i-init : goal.loop-i-init
loop-i-init c = (search rules, search rules, search rules, refl, refl)

pub put_at-requires : goal.put_at-requires
put_at-requires c = omega (arith, c.loop-i.invariant, c.requires.room, rest_length c.args.a.now c.loop-i.i)

pub returns-then-b-j : goal.returns-then-b-j
returns-then-b-j c =
    let key = rest_at c.args.text.now c.args.shared in
    let a = c.args.a.now in
    let b = c.args.b.now in
    let i = c.loop-i.i in
    let j = c.loop-i.j in
    let put = c.put_at in
    let all = c.loop-i.invariant.4 ∙ ap (λ t. take c.loop-i.k c.loop-i.out ++ t) (rest_left key a b i j c.requires.left c.requires.right (search rules)) in
    record { within = omega (arith, put.ensures.0, rest_length a i); entries = finished (merged key a b) c.loop-i.out put.new.out a c.loop-i.k i put.result all put.ensures.1 }

pub loop-i-preserved-in-Less : goal.loop-i-preserved-in-Less
loop-i-preserved-in-Less c =
    let key = rest_at c.args.text.now c.args.shared in
    let a = c.args.a.now in
    let b = c.args.b.now in
    let i = c.loop-i.i in
    let j = c.loop-i.j in
    let p = get_or a i 0 in
    let q = get_or b j 0 in
    let found = is_less (key p) (key q) c.compare_keys.result c.compare_keys.ensures c.in-Less.is in
    let next = step_less key a b i j c.requires.left c.requires.right (search rules) (search rules) found in
    (search rules, search rules, search rules, search rules, wrote (merged key a b) c.loop-i.out (merged key (drop i a) (drop j b)) _ c.loop-i.k p (search rules) c.loop-i.invariant.4 next)

pub loop-i-preserved-in-Equal : goal.loop-i-preserved-in-Equal
loop-i-preserved-in-Equal c =
    let key = rest_at c.args.text.now c.args.shared in
    let a = c.args.a.now in
    let b = c.args.b.now in
    let i = c.loop-i.i in
    let j = c.loop-i.j in
    let p = get_or a i 0 in
    let q = get_or b j 0 in
    let found = is_equal (key p) (key q) c.compare_keys.result c.compare_keys.ensures c.in-Equal.is in
    let next = step_equal key a b i j c.requires.left c.requires.right (search rules) (search rules) found in
    (search rules, search rules, search rules, search rules, wrote (merged key a b) c.loop-i.out (merged key (drop i a) (drop j b)) _ c.loop-i.k q (search rules) c.loop-i.invariant.4 next)

pub loop-i-preserved : goal.loop-i-preserved
loop-i-preserved c =
    let key = rest_at c.args.text.now c.args.shared in
    let a = c.args.a.now in
    let b = c.args.b.now in
    let i = c.loop-i.i in
    let j = c.loop-i.j in
    let p = get_or a i 0 in
    let q = get_or b j 0 in
    let found = is_greater (key p) (key q) c.compare_keys.result c.compare_keys.ensures c.in-Greater.is in
    let next = step_greater key a b i j c.requires.left c.requires.right (search rules) (search rules) found in
    (search rules, search rules, search rules, search rules, wrote (merged key a b) c.loop-i.out (merged key (drop i a) (drop j b)) _ c.loop-i.k q (search rules) c.loop-i.invariant.4 next)

pub put_at-requires-2 : goal.put_at-requires-2
put_at-requires-2 c = omega (arith, c.loop-i.invariant, c.requires.room, rest_length c.args.b.now c.loop-i.j)

pub returns : goal.returns
returns c =
    let key = rest_at c.args.text.now c.args.shared in
    let a = c.args.a.now in
    let b = c.args.b.now in
    let i = c.loop-i.i in
    let j = c.loop-i.j in
    let put = c.put_at-2 in
    let all = c.loop-i.invariant.4 ∙ ap (λ t. take c.loop-i.k c.loop-i.out ++ t) (rest_right key a b i j (search rules)) in
    record { within = omega (arith, put.ensures.0, rest_length b j); entries = finished (merged key a b) c.loop-i.out put.new.out b c.loop-i.k j put.result all put.ensures.1 }
