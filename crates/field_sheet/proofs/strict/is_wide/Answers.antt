-- `is_wide` meets its contract: by the test of the kind. Assumes nothing.
use mathlib.Core.Path.{sym, ap}
use mathlib.Core.Bool.{Bool, ◌&&◌, ◌||◌}
use lib.Dec.{eqb}
use borrow.Author.Tests.{eq-eqb, ne_eqb}
use Rattle.sheets.specs.Kind
use Rattle.sheets.specs.IntegerType
use Rattle.field_sheet.proofs.strict.is_wide.Goals as goal

pub returns-then-kind-ne-DICTIONARY : goal.returns-then-kind-ne-DICTIONARY
returns-then-kind-ne-DICTIONARY c =
    let a = c.args in ap (λ (b : Bool). b && (eqb a.p IntegerType.Int128 || eqb a.p IntegerType.UInt128)) (sym (ne_eqb a.kind Kind.Dictionary c.if-kind-ne-DICTIONARY.true))

pub returns : goal.returns
returns c =
    let a = c.args in ap (λ (b : Bool). b && (eqb a.p IntegerType.Int128 || eqb a.p IntegerType.UInt128)) (sym (eq-eqb a.kind Kind.Dictionary c.if-kind-ne-DICTIONARY.false))
