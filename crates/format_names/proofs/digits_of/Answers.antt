-- `digits_of` meets its contract: the words as they stand, and what is not read is not there. Assumes nothing.
use mathlib.Core.Path.{◌∙◌}
use native.Mathlib.Omega.{arith}
use Rattle.format_names.proofs.NameLaws.{all_low, none_high, all_high, even, longest}
use Rattle.format_names.proofs.digits_of.Goals as goal

pub word4_at-requires : goal.word4_at-requires
word4_at-requires c = omega (arith, even c.args.f.now c.requires 2 c.in-2.is)

pub word6_at-requires : goal.word6_at-requires
word6_at-requires c = omega (arith, even c.args.f.now c.requires 3 c.in-3.is)

pub word8_at-requires : goal.word8_at-requires
word8_at-requires c =
    let f = c.args.f.now in omega (arith, longest f c.requires c.in_default.in_default-own.rest.0.1 c.in_default.in_default-own.rest.1)

pub word6_at-requires-in_default : goal.word6_at-requires-in_default
word6_at-requires-in_default c =
    let f = c.args.f.now in omega (arith, longest f c.requires c.in_default.in_default-own.rest.0.1 c.in_default.in_default-own.rest.1)

pub returns-in-2 : goal.returns-in-2
returns-in-2 c =
    let f = c.args.f.now in
    let size = even f c.requires 2 c.in-2.is in
    record { low = c.word4_at.ensures.is ∙ all_low f 4 size (omega arith); high = none_high f 4 size (omega arith) }

pub returns-in-3 : goal.returns-in-3
returns-in-3 c =
    let f = c.args.f.now in
    let size = even f c.requires 3 c.in-3.is in
    record { low = c.word6_at.ensures.is ∙ all_low f 6 size (omega arith); high = none_high f 6 size (omega arith) }

pub returns-in_default : goal.returns-in_default
returns-in_default c =
    let f = c.args.f.now in
    record { low = c.word8_at.ensures.is; high = c.word6_at-in_default.ensures.is ∙ all_high f 6 (longest f c.requires c.in_default.in_default-own.rest.0.1 c.in_default.in_default-own.rest.1) }
