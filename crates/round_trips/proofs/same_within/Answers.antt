-- `same_within` meets its contract: each part ends at the buffer's end at the latest. Assumes nothing.
use Rattle.round_trips.proofs.TripLaws.{part_length, parts_same}
use Rattle.round_trips.proofs.same_within.Goals as goal

pub slice_bounds-same-end : goal.slice_bounds-same-end
slice_bounds-same-end c =
    let a = c.args in
    part_length c.within-i.result a.n a.a.now c.within-i.ensures

pub slice_bounds-same-end-2 : goal.slice_bounds-same-end-2
slice_bounds-same-end-2 c =
    let a = c.args in
    part_length c.within-j.result a.m a.b.now c.within-j.ensures

pub returns : goal.returns
returns c =
    let a = c.args in
    parts_same c.same.result c.within-i.result a.n c.within-j.result a.m a.a.now a.b.now c.within-i.ensures c.within-j.ensures c.same.ensures
