-- `kind_at` meets its contract: one digit, or two. Assumes nothing.
use mathlib.Core.Path.{◌∙◌}
use Rattle.field_leaf.proofs.KindLaws.{one_here, two_here}
use Rattle.field_leaf.proofs.kind_at.Goals as goal

pub returns-then-s-at-eq32 : goal.returns-then-s-at-eq32
returns-then-s-at-eq32 c =
    let a = c.args in c.one_digit.ensures ∙ one_here a.s.now a.at c.requires c.if-s-at-eq32.true

pub returns : goal.returns
returns c =
    let a = c.args in c.two_digits.ensures ∙ two_here a.s.now a.at c.requires c.if-s-at-eq32.false
