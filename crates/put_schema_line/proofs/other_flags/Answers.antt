-- `other_flags` meets its contract: by the tests of the kind and of the number. Assumes nothing.
use borrow.Author.Tests.{eq-eqb, ne_eqb}
use Rattle.sheets.specs.Kind
use Rattle.put_schema_line.proofs.other_flags.Goals as goal

pub returns-then-p-eq1 : goal.returns-then-p-eq1
returns-then-p-eq1 c = rw (eq-eqb c.args.kind Kind.Map c.if-kind-eq-MAP.true, eq-eqb c.args.p 1 c.if-p-eq1.true)

pub returns-then-kind-eq-MAP : goal.returns-then-kind-eq-MAP
returns-then-kind-eq-MAP c = rw (eq-eqb c.args.kind Kind.Map c.if-kind-eq-MAP.true, ne_eqb c.args.p 1 c.if-p-eq1.false)

pub returns-then-q-eq1 : goal.returns-then-q-eq1
returns-then-q-eq1 c = rw (ne_eqb c.args.kind Kind.Map c.if-kind-eq-MAP.false, eq-eqb c.args.kind Kind.Dictionary c.if-kind-eq-DICTIONARY.true, eq-eqb c.args.q 1 c.if-q-eq1.true)

pub returns-else-q-eq1 : goal.returns-else-q-eq1
returns-else-q-eq1 c = rw (ne_eqb c.args.kind Kind.Map c.if-kind-eq-MAP.false, eq-eqb c.args.kind Kind.Dictionary c.if-kind-eq-DICTIONARY.true, ne_eqb c.args.q 1 c.if-q-eq1.false)

pub returns-else-kind-eq-DICTIONARY : goal.returns-else-kind-eq-DICTIONARY
returns-else-kind-eq-DICTIONARY c = rw (ne_eqb c.args.kind Kind.Map c.if-kind-eq-MAP.false, ne_eqb c.args.kind Kind.Dictionary c.if-kind-eq-DICTIONARY.false)
