-- `same_exports` meets its contract: a law for each way out. Assumes nothing.
use Rattle.round_trips.proofs.TripLaws.{one_export_out, other_export_out, one_plain_out, other_plain_out, compared_out}
use Rattle.round_trips.proofs.same_exports.Goals as goal

pub returns-in-FirstRefused : goal.returns-in-FirstRefused
returns-in-FirstRefused c =
    let a = c.args in
    let x = c.exports in
    let z = c.clear_both in
    one_export_out a.big a.one.now a.other.now a.first.now a.second.now a.third.now a.fourth.now x.new.first x.new.second x.result x.ensures _ c.in-FirstRefused.is z.new.a z.new.b z.ensures.0 z.ensures.1

pub returns-in-SecondRefused : goal.returns-in-SecondRefused
returns-in-SecondRefused c =
    let a = c.args in
    let x = c.exports in
    let z = c.clear_both-in-SecondRefused in
    other_export_out a.big a.one.now a.other.now a.first.now a.second.now a.third.now a.fourth.now x.new.first x.new.second x.result x.ensures _ c.in-SecondRefused.is z.new.a z.new.b z.ensures.0 z.ensures.1

pub returns-in-FirstRefused-plains : goal.returns-in-FirstRefused-plains
returns-in-FirstRefused-plains c =
    let a = c.args in
    let x = c.exports in
    let y = c.plains in
    let z = c.clear_both-in-FirstRefused-plains in
    one_plain_out a.big a.one.now a.other.now a.first.now a.second.now a.third.now a.fourth.now x.new.first x.new.second x.result x.ensures _ _ c.in-Written.is y.new.third y.new.fourth z.new.a z.new.b z.ensures.0 z.ensures.1 y.result y.ensures _ c.in-FirstRefused-plains.is

pub returns-in-SecondRefused-plains : goal.returns-in-SecondRefused-plains
returns-in-SecondRefused-plains c =
    let a = c.args in
    let x = c.exports in
    let y = c.plains in
    let z = c.clear_both-in-SecondRefused-plains in
    other_plain_out a.big a.one.now a.other.now a.first.now a.second.now a.third.now a.fourth.now x.new.first x.new.second x.result x.ensures _ _ c.in-Written.is y.new.third y.new.fourth z.new.a z.new.b z.ensures.0 z.ensures.1 y.result y.ensures _ c.in-SecondRefused-plains.is

pub returns-in-Written-plains : goal.returns-in-Written-plains
returns-in-Written-plains c =
    let a = c.args in
    let x = c.exports in
    let y = c.plains in
    compared_out a.big a.one.now a.other.now a.first.now a.second.now a.third.now a.fourth.now x.new.first x.new.second x.result x.ensures _ _ c.in-Written.is y.new.third y.new.fourth y.result y.ensures _ _ c.in-Written-plains.is c.same_within-same_exports.result c.same_within-same_plains.result c.same_within-same_exports.ensures c.same_within-same_plains.ensures
