-- `is_alone` meets its contract: by the test of the inner kind. Assumes nothing.
use mathlib.Core.Path.{sym, ap}
use mathlib.Core.Bool.{Bool, ◌&&◌}
use lib.Dec.{eqb}
use borrow.Author.Tests.{eq-eqb, ne_eqb}
use Rattle.sheets.specs.Kind
use Rattle.export_line.proofs.is_alone.Goals as goal

pub returns-then-inner-eq-DICTIONARY : goal.returns-then-inner-eq-DICTIONARY
returns-then-inner-eq-DICTIONARY c =
    let a = c.args in ap (λ (b : Bool). b && eqb a.outer Kind.Extension) (sym (eq-eqb a.inner Kind.Dictionary c.if-inner-eq-DICTIONARY.true))

pub returns : goal.returns
returns c =
    let a = c.args in ap (λ (b : Bool). b && eqb a.outer Kind.Extension) (sym (ne_eqb a.inner Kind.Dictionary c.if-inner-eq-DICTIONARY.false))
