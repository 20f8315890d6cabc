-- `put_both` meets its contract: b is put where a ends. Assumes nothing.
use mathlib.Core.List.{◌++◌}
use mathlib.Core.Path.{◌∙◌, ap}
use native.Mathlib.Omega.{arith}
use Rattle.key_order.proofs.merge.put_both.Goals as goal

pub returns : goal.returns
returns c =
    let first = c.put_at-k in
    let second = c.put_at in
    (omega (arith, first.ensures.0, second.ensures.0), second.ensures.1 ∙ ap (λ l. l ++ c.args.b.now) first.ensures.1)
