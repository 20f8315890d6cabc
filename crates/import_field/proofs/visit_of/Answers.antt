-- `visit_of` meets its contract: by the cases of what a type visits. Assumes nothing.
use mathlib.Core.Path.{sym, ap, subst}
use Rattle.import_type.specs.declared.Below.{Below}
use Rattle.import_field.specs.Recursion.{HasFirst, visit_of}
use Rattle.import_field.proofs.visit_of.Goals as goal

pub overflow_sub-result : goal.overflow_sub-result
overflow_sub-result c = subst (λ (b : Below). HasFirst b c.args.children) c.in-First.is c.requires

pub returns-in-Nothing : goal.returns-in-Nothing
returns-in-Nothing c = ap (λ (b : Below). visit_of b c.args.children) (sym c.in-Nothing.is)

pub returns-in-First : goal.returns-in-First
returns-in-First c = ap (λ (b : Below). visit_of b c.args.children) (sym c.in-First.is)

pub returns-in-All : goal.returns-in-All
returns-in-All c = ap (λ (b : Below). visit_of b c.args.children) (sym c.in-All.is)

pub returns-in-Values : goal.returns-in-Values
returns-in-Values c = ap (λ (b : Below). visit_of b c.args.children) (sym c.in-Values.is)
