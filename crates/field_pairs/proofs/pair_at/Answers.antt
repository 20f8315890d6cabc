-- `pair_at` meets its contract: the sign, the comma and the next pair stand where the text of the pairs has them. Assumes nothing.
use Prim.Native.Nat.{◌+◌}
use lib.ListN.{drop, length-drop}
use native.Mathlib.Omega.{arith}
use Rattle.field_pairs.proofs.PairsLaws.{sign_no_digit, comma_no_digit, sign_inside, pair_found, reach_within}
use Rattle.field_pairs.proofs.pair_at.Goals as goal

pub place_of-equals-requires : goal.place_of-equals-requires
place_of-equals-requires c = (c.requires.0.within, sign_no_digit)

pub overflow_add-equals : goal.overflow_add-equals
overflow_add-equals c = omega (arith, c.requires.0.short, sign_inside c.args.pairs.now c.args.at c.requires c.place_of-equals.result c.place_of-equals.ensures)

pub place_of-end-requires : goal.place_of-end-requires
place_of-end-requires c = (sign_inside c.args.pairs.now c.args.at c.requires c.place_of-equals.result c.place_of-equals.ensures, comma_no_digit)

pub overflow_add-end : goal.overflow_add-end
overflow_add-end c =
    let s = c.args.pairs.now in
    omega (arith, c.requires.0.short, c.place_of-end.ensures, reach_within 44 (drop (c.place_of-equals.result + 1) s), length-drop (c.place_of-equals.result + 1) s, sign_inside s c.args.at c.requires c.place_of-equals.result c.place_of-equals.ensures)

pub returns : goal.returns
returns c =
    let a = c.args in
    pair_found a.pairs.now a.at c.requires c.place_of-equals.result c.place_of-equals.ensures c.place_of-end.result c.within-next.result c.place_of-end.ensures c.within-next.ensures
