-- `put_reserved` meets its contract: the pairs before the key, then the key with its value. Assumes nothing.
use Rattle.put_metadata.proofs.ColumnLaws.{reserved_move}
use Rattle.put_metadata.proofs.put_reserved.Goals as goal

pub returns : goal.returns
returns c =
    let a = c.args in
    reserved_move a.big a.pairs.now a.key.now a.value.now a.w c.put_until-a.result a.out.now c.put_until-a.new.out c.put_until-a.ensures c.put_pair-end.result c.after_same-place.result c.put_pair-end.new.out c.put_pair-end.ensures c.after_same-place.ensures
