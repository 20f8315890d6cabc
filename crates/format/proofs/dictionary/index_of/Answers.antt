-- `index_of` meets its contract: in each arm the definition computes. Assumes nothing.
use mathlib.Core.Path.{sym, ap}
use Rattle.format.specs.Dictionary.{index_of}
use Rattle.format.proofs.IndexLaws.{other_kind}
use Rattle.format.proofs.dictionary.index_of.Goals as goal

pub returns-in-2 : goal.returns-in-2
returns-in-2 c = sym (ap index_of c.in-2.is)

pub returns-in-3 : goal.returns-in-3
returns-in-3 c = sym (ap index_of c.in-3.is)

pub returns-in-4 : goal.returns-in-4
returns-in-4 c = sym (ap index_of c.in-4.is)

pub returns-in-5 : goal.returns-in-5
returns-in-5 c = sym (ap index_of c.in-5.is)

pub returns-in-7 : goal.returns-in-7
returns-in-7 c = sym (ap index_of c.in-7.is)

pub returns-in-8 : goal.returns-in-8
returns-in-8 c = sym (ap index_of c.in-8.is)

pub returns-in-9 : goal.returns-in-9
returns-in-9 c = sym (ap index_of c.in-9.is)

pub returns-in-10 : goal.returns-in-10
returns-in-10 c = sym (ap index_of c.in-10.is)

pub returns-in_default : goal.returns-in_default
returns-in_default c =
    let no = c.in_default.in_default-own.rest in
    other_kind c.args.kind no.0.0.0.0.0.0.0.1 no.0.0.0.0.0.0.1 no.0.0.0.0.0.1 no.0.0.0.0.1 no.0.0.0.1 no.0.0.1 no.0.1 no.1
