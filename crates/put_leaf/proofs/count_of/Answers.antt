-- `count_of` meets its contract: the kind is that of a struct or is not. Assumes nothing.
use borrow.Author.Tests.{eq-eqb, ne_eqb}
use Rattle.sheets.specs.Kind
use Rattle.put_leaf.proofs.count_of.Goals as goal

pub returns-then-kind-eq-STRUCT : goal.returns-then-kind-eq-STRUCT
returns-then-kind-eq-STRUCT c = rw (eq-eqb c.args.kind Kind.Struct c.if-kind-eq-STRUCT.true)

pub returns : goal.returns
returns c = rw (ne_eqb c.args.kind Kind.Struct c.if-kind-eq-STRUCT.false)
