-- `after_same` meets its contract: a pair that has the key is left out. Assumes nothing.
use mathlib.Core.Path.{sym, ◌∙◌}
use Rattle.put_metadata.proofs.WalkLaws.{after_end, after_later, after_same, after_other}
use Rattle.put_metadata.proofs.after_same.Goals as goal

pub returns-then-pairs-place : goal.returns-then-pairs-place
returns-then-pairs-place c =
    let a = c.args in
    after_end a.pairs.now a.key.now a.place c.requires.0 c.if-pairs-place.true

pub returns-then-comes_later : goal.returns-then-comes_later
returns-then-comes_later c =
    let a = c.args in
    after_later a.pairs.now a.key.now a.place c.requires.0 (sym c.comes_later.ensures ∙ c.if-comes_later.true)

pub returns-then-same : goal.returns-then-same
returns-then-same c =
    let a = c.args in
    after_same a.pairs.now a.key.now a.place c.requires.0 c.pair_at-p.result c.pair_at-p.ensures (sym c.same.ensures ∙ c.if-same.true)

pub returns : goal.returns
returns c =
    let a = c.args in
    after_other a.pairs.now a.key.now a.place c.requires.0 c.pair_at-p.result c.pair_at-p.ensures (sym c.same.ensures ∙ c.if-same.false)
