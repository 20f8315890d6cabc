-- `put_nested` meets its contract: as `put_leaf`, and of the children as many are visited as the type visits (`nested_written`). Assumes nothing.
use mathlib.Core.Path.{refl}
use Prim.Native.Nat.{◌+◌}
use native.Mathlib.Omega.{arith}
use Rattle.leaf_line.specs.Nested.{nested_in}
use Rattle.put_leaf.proofs.PutLaws.{nested_there, count_few, nested_written, bare_other, none_other, no_room_other, name_can, tail_room, line_put, line_measured}
use Rattle.put_leaf.proofs.put_nested.Goals as goal

pub returns-then-bare : goal.returns-then-bare
returns-then-bare c =
    let a = c.args in (bare_other a.bare a.out.now (a.at + 5) (nested_in a.s.now a.at) c.if-bare.true, refl)

pub returns-in_err-kind : goal.returns-in_err-kind
returns-in_err-kind c =
    let a = c.args in
    rw c.from_residual.ensures (none_other a.bare a.out.now (a.at + 5) _ c.in_err-kind.ensures, refl)

pub overflow_add-from : goal.overflow_add-from
overflow_add-from c =
    let a = c.args in
    let k = nested_there a.s.now a.at c.in_ok-kind.ensures in
    omega (arith, k.nested.short.high, k.nested.short.some)

pub overflow_sub-e : goal.overflow_sub-e
overflow_sub-e c =
    let a = c.args in
    let k = nested_there a.s.now a.at c.in_ok-kind.ensures in
    omega (arith, k.nested.short.some)

pub overflow_add-e : goal.overflow_add-e
overflow_add-e c =
    let a = c.args in
    let k = nested_there a.s.now a.at c.in_ok-kind.ensures in
    omega (arith, k.nested.short.high)

pub head_length-requires : goal.head_length-requires
head_length-requires c =
    let a = c.args in
    let k = nested_there a.s.now a.at c.in_ok-kind.ensures in
    omega (arith, k.is_kind, k.nested.short.names.known)

pub overflow_sub-len : goal.overflow_sub-len
overflow_sub-len c =
    let a = c.args in
    let k = nested_there a.s.now a.at c.in_ok-kind.ensures in
    omega (arith, k.nested.short.some)

pub overflow_add-len : goal.overflow_add-len
overflow_add-len c =
    let a = c.args in
    let k = nested_there a.s.now a.at c.in_ok-kind.ensures in
    omega (arith, k.nested.short.high, c.head_length.ensures.1)

pub overflow_add-len-then-out-eq0 : goal.overflow_add-len-then-out-eq0
overflow_add-len-then-out-eq0 c =
    let a = c.args in
    let k = nested_there a.s.now a.at c.in_ok-kind.ensures in
    omega (arith, k.nested.short.high, c.head_length.ensures.1)

pub overflow_add-result : goal.overflow_add-result
overflow_add-result c =
    let a = c.args in
    let k = nested_there a.s.now a.at c.in_ok-kind.ensures in
    omega (arith, k.nested.short.high)

pub overflow_sub-result : goal.overflow_sub-result
overflow_sub-result c =
    let a = c.args in
    let k = nested_there a.s.now a.at c.in_ok-kind.ensures in
    count_few k c.count_of-count.ensures

pub returns-then-out-eq0 : goal.returns-then-out-eq0
returns-then-out-eq0 c =
    let a = c.args in
    let k = nested_there a.s.now a.at c.in_ok-kind.ensures in
    (c.if-bare.false, nested_written k c.count_of-count.ensures (line_measured k.nested.short _ _ _ a.out.now c.head_length.result c.if-out-eq0.true c.head_length.ensures.0))

pub returns-then-out-e : goal.returns-then-out-e
returns-then-out-e c =
    let a = c.args in
    (no_room_other a.bare a.out.now (a.at + 5) _ c.in_ok-kind.ensures c.if-out-e.true c.if-out-eq0.false, refl)

pub put_head-head-requires : goal.put_head-head-requires
put_head-head-requires c =
    let a = c.args in
    let k = nested_there a.s.now a.at c.in_ok-kind.ensures in
    (omega (arith, k.is_kind, k.nested.short.names.known), omega arith)

pub copy_part-name-requires : goal.copy_part-name-requires
copy_part-name-requires c =
    let a = c.args in
    let k = nested_there a.s.now a.at c.in_ok-kind.ensures in
    let h = c.put_head-head in
    name_can k.nested.short _ a.out.now h.new.out h.result c.if-out-e.false h.ensures.1 h.ensures.0.1

pub put_tail-len-requires : goal.put_tail-len-requires
put_tail-len-requires c =
    let a = c.args in
    let k = nested_there a.s.now a.at c.in_ok-kind.ensures in
    let h = c.put_head-head in
    let n = c.copy_part-name in (
      omega arith,
      omega (arith, count_few k c.count_of-count-2.ensures, k.nested.digit),
      tail_room k.nested.short _ a.out.now h.new.out n.new.out h.result n.result c.if-out-e.false h.ensures.1 h.ensures.0.1 n.ensures,
    )

pub overflow_add-result-2 : goal.overflow_add-result-2
overflow_add-result-2 c =
    let a = c.args in
    let k = nested_there a.s.now a.at c.in_ok-kind.ensures in
    omega (arith, k.nested.short.high)

pub overflow_sub-result-2 : goal.overflow_sub-result-2
overflow_sub-result-2 c =
    let a = c.args in
    let k = nested_there a.s.now a.at c.in_ok-kind.ensures in
    count_few k c.count_of-count-2.ensures

pub returns : goal.returns
returns c =
    let a = c.args in
    let k = nested_there a.s.now a.at c.in_ok-kind.ensures in
    let h = c.put_head-head in
    let n = c.copy_part-name in
    let t = c.put_tail-len in (
      c.if-bare.false,
      nested_written k c.count_of-count-2.ensures
          (line_put k.nested.short _ _ _ a.out.now h.new.out n.new.out t.new.out h.result n.result t.result h.ensures.0 n.ensures t.ensures),
    )
