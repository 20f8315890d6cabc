-- `columns::are_past_space` meets its contract. The loop's invariant: all bytes are past the space exactly if `ok` is true and those from `i` on are.
-- The measure is what is left of the length. Assumes nothing.
use mathlib.Core.Path.{refl, sym, ◌∙◌}
use Prim.Native.Nat.{◌-◌}
use Rattle.columns.proofs.ColumnLaws.{past_next, past_end}
use borrow.Author.Rules.{rules}
use Rattle.columns.proofs.are_past_space.Goals as goal

pub loop-i-init : goal.loop-i-init
loop-i-init c = (search rules, refl)

pub loop-i-preserved : goal.loop-i-preserved
loop-i-preserved c =
    let b = c.args.b.now in
    (search rules, c.loop-i.invariant.1 ∙ past_next c.loop-i.ok b c.loop-i.i (search rules))

pub returns : goal.returns
returns c =
    let b = c.args.b.now in
    sym (c.loop-i.invariant.1 ∙ past_end c.loop-i.ok b c.loop-i.i (search rules))
