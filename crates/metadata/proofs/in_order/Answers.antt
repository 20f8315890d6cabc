-- `in_order` meets its contract: keys in hexadecimal stand as the keys do. Assumes nothing.
use native.Mathlib.Omega.{arith}
use Rattle.metadata.proofs.MeaningLaws.{order_means, order_stands}
use Rattle.metadata.proofs.in_order.Goals as goal

pub returns : goal.returns
returns c =
    λ big h.
    let a = c.args in
    let s = c.sort_keys-count in
    let few = s.ensures.upper_bound in (
      order_means big a.m.now h.is_text a.entries.now a.f h.standing s.result s.new.entries few.1 h.free,
      order_stands big a.m.now h.is_text a.entries.now a.f h.standing s.result s.new.entries few.1 (omega (arith, few.0, s.ensures.entries_len_unchanged.0, h.standing.entries.count)),
    )
