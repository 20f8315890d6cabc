-- `storage_type` meets its contract: `storage_picked`. Assumes nothing.
use Rattle.picked_types.proofs.PickLaws.{storage_picked}
use Rattle.picked_types.proofs.pick.storage_type.Goals as goal

pub returns : goal.returns
returns c = storage_picked c.args.s.now c.args.at c.storage_line-inner.result c.storage_line-inner.ensures
