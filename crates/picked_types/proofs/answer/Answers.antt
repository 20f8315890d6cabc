-- `answer` meets its contract: each way out has its law in `SheetLaws`. Assumes nothing.
use Rattle.mapping_calls.proofs.CallLaws.{read_tree}
use Rattle.picked_types.proofs.SheetLaws.{answer_unread, field_there, own_fits, pick_there, answer_read}
use Rattle.picked_types.proofs.answer.Goals as goal

pub field_line_at-first-requires : goal.field_line_at-first-requires
field_line_at-first-requires c =
    let r = c.read_sheet in read_tree c.args.s.now r.result r.ensures _ c.in-Ok.is

pub pick_type-p-requires : goal.pick_type-p-requires
pick_type-p-requires c =
    let a = c.args in
    let r = c.read_sheet in
    field_there a.choice a.s.now r.result r.ensures a.out.now _ c.in-Ok.is c.field_line_at-first.ensures

pub own_columns-own-requires : goal.own_columns-own-requires
own_columns-own-requires c =
    let a = c.args in
    let r = c.read_sheet in
    own_fits a.choice a.s.now r.result r.ensures a.out.now _ c.in-Ok.is c.field_line_at-first.ensures

pub answer_pick-requires : goal.answer_pick-requires
answer_pick-requires c =
    let a = c.args in
    let r = c.read_sheet in
    pick_there a.choice a.s.now r.result r.ensures a.out.now _ c.in-Ok.is c.field_line_at-first.ensures c.pick_type-p.result c.pick_type-p.ensures c.own_columns-own.result c.own_columns-own.ensures

pub returns-in-Err : goal.returns-in-Err
returns-in-Err c =
    let a = c.args in
    let r = c.read_sheet in
    answer_unread a.choice a.s.now r.result r.ensures a.out.now _ c.in-Err.is _ c.refuse.ensures

pub returns-in-Ok : goal.returns-in-Ok
returns-in-Ok c =
    let a = c.args in
    let r = c.read_sheet in
    answer_read a.choice a.s.now r.result r.ensures a.out.now _ c.in-Ok.is c.field_line_at-first.ensures c.pick_type-p.result c.pick_type-p.ensures c.own_columns-own.result c.own_columns-own.ensures _ c.answer_pick.ensures
