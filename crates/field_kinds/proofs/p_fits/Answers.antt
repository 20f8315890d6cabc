-- `p_fits` meets its contract, test by test. Assumes nothing.
use mathlib.Core.Path.{sym, ◌∙◌}
use native.Mathlib.Omega.{arith}
use Prim.Native.Nat.{◌^◌}
use borrow.Author.Tests.{eq-eqb, le-leb, lt-leb, lt-ltb, ne_eqb}
use Rattle.field_kinds.proofs.p_fits.Goals as goal

pub returns-then-is_leaf : goal.returns-then-is_leaf
returns-then-is_leaf c = rw (sym c.is_leaf.ensures ∙ c.if-is_leaf.true) c.unit_fits.ensures

pub returns-then-kind-eq-TIMESTAMP : goal.returns-then-kind-eq-TIMESTAMP
returns-then-kind-eq-TIMESTAMP c = rw (sym c.is_leaf.ensures ∙ c.if-is_leaf.false, eq-eqb _ 15 c.if-kind-eq-TIMESTAMP.true)

pub returns-then-is_sized : goal.returns-then-is_sized
returns-then-is_sized c = rw (sym c.is_leaf.ensures ∙ c.if-is_leaf.false, ne_eqb _ 15 c.if-kind-eq-TIMESTAMP.false, sym c.is_sized.ensures ∙ c.if-is_sized.true) (sym (lt-ltb c.args.p (2 ^ 64) (omega arith)))

pub returns-then-kind-eq-MAP : goal.returns-then-kind-eq-MAP
returns-then-kind-eq-MAP c = rw (sym c.is_leaf.ensures ∙ c.if-is_leaf.false, ne_eqb _ 15 c.if-kind-eq-TIMESTAMP.false, sym c.is_sized.ensures ∙ c.if-is_sized.false, eq-eqb _ 31 c.if-kind-eq-MAP.true)

pub returns-then-kind-eq-DICTIONARY : goal.returns-then-kind-eq-DICTIONARY
returns-then-kind-eq-DICTIONARY c = rw (sym c.is_leaf.ensures ∙ c.if-is_leaf.false, ne_eqb _ 15 c.if-kind-eq-TIMESTAMP.false, sym c.is_sized.ensures ∙ c.if-is_sized.false, ne_eqb _ 31 c.if-kind-eq-MAP.false, eq-eqb _ 32 c.if-kind-eq-DICTIONARY.true)

pub returns-then-kind-eq-UNION : goal.returns-then-kind-eq-UNION
returns-then-kind-eq-UNION c = rw (sym c.is_leaf.ensures ∙ c.if-is_leaf.false, ne_eqb _ 15 c.if-kind-eq-TIMESTAMP.false, sym c.is_sized.ensures ∙ c.if-is_sized.false, ne_eqb _ 31 c.if-kind-eq-MAP.false, ne_eqb _ 32 c.if-kind-eq-DICTIONARY.false, eq-eqb _ 41 c.if-kind-eq-UNION.true)

pub returns-then-kind-gt-UNION : goal.returns-then-kind-gt-UNION
returns-then-kind-gt-UNION c = rw (sym c.is_leaf.ensures ∙ c.if-is_leaf.false, ne_eqb _ 15 c.if-kind-eq-TIMESTAMP.false, sym c.is_sized.ensures ∙ c.if-is_sized.false, ne_eqb _ 31 c.if-kind-eq-MAP.false, ne_eqb _ 32 c.if-kind-eq-DICTIONARY.false, ne_eqb _ 41 c.if-kind-eq-UNION.false, lt-leb _ 41 c.if-kind-gt-UNION.true)

pub returns : goal.returns
returns c = rw (sym c.is_leaf.ensures ∙ c.if-is_leaf.false, ne_eqb _ 15 c.if-kind-eq-TIMESTAMP.false, sym c.is_sized.ensures ∙ c.if-is_sized.false, ne_eqb _ 31 c.if-kind-eq-MAP.false, ne_eqb _ 32 c.if-kind-eq-DICTIONARY.false, ne_eqb _ 41 c.if-kind-eq-UNION.false, le-leb _ 41 c.if-kind-gt-UNION.false)
