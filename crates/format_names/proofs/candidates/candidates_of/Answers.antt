-- `candidates_of` meets its contract: by the length, and no name has another. Assumes nothing.
use Rattle.format_names.proofs.CandidateLaws.{at_length, other_length}
use Rattle.format_names.proofs.candidates.candidates_of.Goals as goal

pub returns-in-1 : goal.returns-in-1
returns-in-1 c = at_length c.args.first c.in-1.is c.of_one_byte.ensures

pub returns-in-2 : goal.returns-in-2
returns-in-2 c = at_length c.args.first c.in-2.is c.of_two_bytes.ensures

pub returns-in-3 : goal.returns-in-3
returns-in-3 c = at_length c.args.first c.in-3.is c.of_three_bytes.ensures

pub returns-in-7 : goal.returns-in-7
returns-in-7 c = at_length c.args.first c.in-7.is c.of_seven_bytes.ensures

pub returns-in_default : goal.returns-in_default
returns-in_default c =
    let no = c.in_default.in_default-own.rest in other_length _ no.0.0.0.1 no.0.0.1 no.0.1 no.1 _
