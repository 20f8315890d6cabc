-- `short_name` meets its contract: by the candidate of one byte. Assumes nothing.
use borrow.Enum.Refused.{opened}
use Rattle.format_names.proofs.CandidateLaws.{one_kind, not_one}
use Rattle.format_names.proofs.short.short_name.Goals as goal

pub returns-in-One : goal.returns-in-One
returns-in-One c = one_kind c.args.w _ _ c.candidates_of.ensures c.in-One.is

pub returns : goal.returns
returns c = not_one c.args.w _ c.candidates_of.ensures (opened c.in_default.in_default-own.keys2)
