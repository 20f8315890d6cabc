-- `put_metadata` meets its contract: no pair and no extension, pairs alone, or pairs and the reserved keys merged in. Assumes nothing.
use Rattle.put_metadata.proofs.ColumnLaws.{start_stands, none_put, plain_put, can_more, can_name, can_left, extended_put}
use native.Mathlib.Omega.{arith}
use mathlib.Core.Path.{sym, ◌∙◌}
use Rattle.put_metadata.proofs.put_metadata.Goals as goal

pub returns-then-place-pairs : goal.returns-then-place-pairs
returns-then-place-pairs c =
    let a = c.args in
    none_put a.big a.pairs.now a.name.now a.more.now a.at c.requires c.first_place-place.result c.first_place-place.ensures (sym c.same.ensures ∙ c.if-same.true) c.if-place-pairs.true c.put_byte.result a.out.now c.put_byte.new.out c.put_byte.ensures

pub put_left-requires : goal.put_left-requires
put_left-requires c =
    let a = c.args in
    let h = c.requires in
    record {
      walk =
          record {
            stands = start_stands a.big a.pairs.now a.name.now a.more.now a.at h c.first_place-place.result c.first_place-place.ensures;
            room = omega (arith, h.low, h.short);
            few = omega (arith, h.short);
          };
      room = omega (arith, h.low);
    }

pub returns-then-same : goal.returns-then-same
returns-then-same c =
    let a = c.args in
    plain_put a.big a.pairs.now a.name.now a.more.now a.at c.requires c.first_place-place.result c.first_place-place.ensures (sym c.same.ensures ∙ c.if-same.true) c.if-place-pairs.false c.put_left.result a.out.now c.put_left.new.out c.put_left.ensures

pub put_more-a-requires : goal.put_more-a-requires
put_more-a-requires c =
    let a = c.args in
    can_more a.big a.pairs.now a.name.now a.more.now a.at c.requires c.first_place-place.result c.first_place-place.ensures (sym c.same.ensures ∙ c.if-same.false)

pub put_reserved-b-requires : goal.put_reserved-b-requires
put_reserved-b-requires c =
    let a = c.args in
    can_name a.big a.pairs.now a.name.now a.more.now a.at c.requires c.first_place-place.result c.first_place-place.ensures (sym c.same.ensures ∙ c.if-same.false) c.put_more-a.result a.out.now c.put_more-a.new.out c.put_more-a.ensures c.text_of-value.result.now c.text_of-value.ensures

pub put_left-requires-2 : goal.put_left-requires-2
put_left-requires-2 c =
    let a = c.args in
    record {
      walk = can_left a.big a.pairs.now a.name.now a.more.now a.at c.requires c.first_place-place.result c.first_place-place.ensures (sym c.same.ensures ∙ c.if-same.false) c.put_more-a.result a.out.now c.put_more-a.new.out c.put_more-a.ensures c.text_of-value.result.now c.text_of-value.ensures c.put_reserved-b.result c.put_reserved-b.new.out c.put_reserved-b.ensures;
      room = omega (arith, c.requires.low);
    }

pub returns : goal.returns
returns c =
    let a = c.args in
    extended_put a.big a.pairs.now a.name.now a.more.now a.at c.requires c.first_place-place.result c.first_place-place.ensures (sym c.same.ensures ∙ c.if-same.false) c.put_more-a.result a.out.now c.put_more-a.new.out c.put_more-a.ensures c.text_of-value.result.now c.text_of-value.ensures c.put_reserved-b.result c.put_reserved-b.new.out c.put_reserved-b.ensures c.put_left-2.result c.put_left-2.new.out c.put_left-2.ensures
