-- `nth_type` meets its contract: the types before it are skipped, and have no more levels than there may be. Assumes nothing.
use Rattle.picked_types.proofs.PickLaws.{before_there, nth_deep, nth_there, nth_picked}
use Rattle.sheets.specs.Answer.{found}
use Rattle.sheets.specs.Refusal.{undefined_mapping}
use Rattle.picked_types.proofs.child.nth_type.Goals as goal

pub skip_row-requires : goal.skip_row-requires
skip_row-requires c =
    let p = c.requires in before_there p.3 c.args.index p.4

pub returns-in_err-next : goal.returns-in_err-next
returns-in_err-next c = rw c.from_residual.ensures (λ count us es row less. absurd (nth_deep row c.args.index less c.skip_row.result c.skip_row.ensures c.in_err-next.was))

pub whole_type-requires : goal.whole_type-requires
whole_type-requires c =
    let p = c.requires in nth_there p.3 c.args.index p.4 c.skip_row.result c.skip_row.ensures _ c.in_ok-next.was

pub returns : goal.returns
returns c = λ count us es row less. nth_picked row c.args.index less c.skip_row.result c.skip_row.ensures _ c.in_ok-next.was (found undefined_mapping c.whole_type.result) c.whole_type.ensures
