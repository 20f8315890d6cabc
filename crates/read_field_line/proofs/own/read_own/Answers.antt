-- `own::read_own` meets its contract: a bare line's columns are told by their bytes, and any other are read as before. Assumes nothing.
use mathlib.Core.Path.{sym, subst, ◌∙◌}
use native.Mathlib.Omega.{arith}
use Rattle.read_field_line.specs.Stages.{OwnAt}
use Rattle.read_field_line.specs.declared.own.OwnColumns.{OwnColumns}
use Rattle.read_field_line.proofs.BareLaws.{bare_own_lem}
use Rattle.read_field_line.proofs.own.read_own.Goals as goal

pub bare_own-requires : goal.bare_own-requires
bare_own-requires c =
    let a = c.args in
    omega (arith, c.ranges, (bare_own_lem a.s.now a.at (sym c.is_bare.ensures ∙ c.if-is_bare.true)).pairs_at.high)

pub returns-then-is_bare : goal.returns-then-is_bare
returns-then-is_bare c =
    let a = c.args in
    subst (λ (o : OwnColumns). OwnAt a.s.now a.at o) (sym c.bare_own.ensures) (bare_own_lem a.s.now a.at (sym c.is_bare.ensures ∙ c.if-is_bare.true))
