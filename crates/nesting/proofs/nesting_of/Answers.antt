-- `nesting_of` meets its contract: in each arm the kind is the pattern, and the definition computes there. Assumes nothing.
use mathlib.Core.Path.{sym, ap}
use Rattle.nesting.specs.Nestings.{kind_nesting}
use Rattle.nesting.proofs.NestingLaws.{other_kind}
use Rattle.nesting.proofs.nesting_of.Goals as goal

pub returns-in-27 : goal.returns-in-27
returns-in-27 c = sym (ap kind_nesting c.in-27.is)

pub returns-in-28 : goal.returns-in-28
returns-in-28 c = sym (ap kind_nesting c.in-28.is)

pub returns-in-29 : goal.returns-in-29
returns-in-29 c = sym (ap kind_nesting c.in-29.is)

pub returns-in-30 : goal.returns-in-30
returns-in-30 c = sym (ap kind_nesting c.in-30.is)

pub returns-in-31 : goal.returns-in-31
returns-in-31 c = sym (ap kind_nesting c.in-31.is)

pub returns-in-32 : goal.returns-in-32
returns-in-32 c = sym (ap kind_nesting c.in-32.is)

pub returns-in-37 : goal.returns-in-37
returns-in-37 c = sym (ap kind_nesting c.in-37.is)

pub returns-in-41 : goal.returns-in-41
returns-in-41 c = sym (ap kind_nesting c.in-41.is)

pub returns-in_default : goal.returns-in_default
returns-in_default c = other_kind c.args.kind c.in_default.in_default-own.rest
