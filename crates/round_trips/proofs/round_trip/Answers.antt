-- `round_trip` meets its contract: a law for each way out. Assumes nothing.
use mathlib.Core.Path.{sym, ◌∙◌}
use Rattle.round_trips.proofs.TripLaws.{export_out, import_out, plain_out, again_out, import_apart, again_apart, all_alike}
use Rattle.round_trips.proofs.round_trip.Goals as goal

pub returns-then-not-same_within : goal.returns-then-not-same_within
returns-then-not-same_within c =
    let a = c.args in
    let x = c.out_and_back in
    let y = c.plain_and_out in
    import_apart a.strict a.big a.sheet.now a.first.now a.second.now a.third.now a.fourth.now x.new.first x.new.second x.result x.ensures _ _ c.in-Written.is y.new.third y.new.fourth y.result y.ensures _ _ c.in-Written-plain_and_out.is (sym c.same_within.ensures ∙ c.if-not-same_within.true)

pub returns-then-not-same_within-2 : goal.returns-then-not-same_within-2
returns-then-not-same_within-2 c =
    let a = c.args in
    let x = c.out_and_back in
    let y = c.plain_and_out in
    again_apart a.strict a.big a.sheet.now a.first.now a.second.now a.third.now a.fourth.now x.new.first x.new.second x.result x.ensures _ _ c.in-Written.is y.new.third y.new.fourth y.result y.ensures _ _ c.in-Written-plain_and_out.is (sym c.same_within.ensures ∙ c.if-not-same_within.false) (sym c.same_within-in-Written-plain_and_out.ensures ∙ c.if-not-same_within-2.true)

pub returns-in-FirstRefused : goal.returns-in-FirstRefused
returns-in-FirstRefused c =
    let a = c.args in
    let x = c.out_and_back in
    let z = c.clear_both in
    export_out a.strict a.big a.sheet.now a.first.now a.second.now a.third.now a.fourth.now x.new.first x.new.second x.result x.ensures _ c.in-FirstRefused.is z.new.a z.new.b z.ensures.0 z.ensures.1

pub returns-in-SecondRefused : goal.returns-in-SecondRefused
returns-in-SecondRefused c =
    let a = c.args in
    let x = c.out_and_back in
    let z = c.clear_both-in-SecondRefused in
    import_out a.strict a.big a.sheet.now a.first.now a.second.now a.third.now a.fourth.now x.new.first x.new.second x.result x.ensures _ c.in-SecondRefused.is z.new.a z.new.b z.ensures.0 z.ensures.1

pub returns-in-FirstRefused-plain_and_out : goal.returns-in-FirstRefused-plain_and_out
returns-in-FirstRefused-plain_and_out c =
    let a = c.args in
    let x = c.out_and_back in
    let y = c.plain_and_out in
    let z = c.clear_both-in-FirstRefused-plain_and_out in
    plain_out a.strict a.big a.sheet.now a.first.now a.second.now a.third.now a.fourth.now x.new.first x.new.second x.result x.ensures _ _ c.in-Written.is y.new.third y.new.fourth z.new.a z.new.b z.ensures.0 z.ensures.1 y.result y.ensures _ c.in-FirstRefused-plain_and_out.is

pub returns-in-SecondRefused-plain_and_out : goal.returns-in-SecondRefused-plain_and_out
returns-in-SecondRefused-plain_and_out c =
    let a = c.args in
    let x = c.out_and_back in
    let y = c.plain_and_out in
    let z = c.clear_both-in-SecondRefused-plain_and_out in
    again_out a.strict a.big a.sheet.now a.first.now a.second.now a.third.now a.fourth.now x.new.first x.new.second x.result x.ensures _ _ c.in-Written.is y.new.third y.new.fourth z.new.a z.new.b z.ensures.0 z.ensures.1 y.result y.ensures _ c.in-SecondRefused-plain_and_out.is

pub returns-else-not-same_within-2 : goal.returns-else-not-same_within-2
returns-else-not-same_within-2 c =
    let a = c.args in
    let x = c.out_and_back in
    let y = c.plain_and_out in
    all_alike a.strict a.big a.sheet.now a.first.now a.second.now a.third.now a.fourth.now x.new.first x.new.second x.result x.ensures _ _ c.in-Written.is y.new.third y.new.fourth y.result y.ensures _ _ c.in-Written-plain_and_out.is (sym c.same_within.ensures ∙ c.if-not-same_within.false) (sym c.same_within-in-Written-plain_and_out.ensures ∙ c.if-not-same_within-2.false)
