-- `q_fits` meets its contract, test by test. Assumes nothing.
use mathlib.Core.Path.{sym, ◌∙◌}
use native.Mathlib.Omega.{arith}
use Prim.Native.Nat.{◌^◌}
use borrow.Author.Tests.{eq-eqb, lt-ltb, ne_eqb}
use Rattle.field_kinds.proofs.q_fits.Goals as goal

pub returns-then-is_decimal : goal.returns-then-is_decimal
returns-then-is_decimal c = rw (sym c.is_decimal.ensures ∙ c.if-is_decimal.true) (sym (lt-ltb c.args.q (2 ^ 64) (omega arith)))

pub returns-then-kind-eq-DICTIONARY : goal.returns-then-kind-eq-DICTIONARY
returns-then-kind-eq-DICTIONARY c = rw (sym c.is_decimal.ensures ∙ c.if-is_decimal.false, eq-eqb _ 32 c.if-kind-eq-DICTIONARY.true)

pub returns : goal.returns
returns c = rw (sym c.is_decimal.ensures ∙ c.if-is_decimal.false, ne_eqb _ 32 c.if-kind-eq-DICTIONARY.false)
