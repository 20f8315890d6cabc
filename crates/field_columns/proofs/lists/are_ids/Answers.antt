-- `lists::are_ids` meets its contract. The loop's invariant: the parts are ids exactly if those after `end` are. Assumes nothing.
use mathlib.Core.Path.{sym, ◌∙◌, ap}
use Prim.Native.Nat.{◌+◌}
use native.Mathlib.Omega.{arith}
use Rattle.columns.specs.Columns.{part}
use Rattle.sheets.specs.Parts.{parts_from}
use Rattle.sheets.proofs.PartLaws.{parts_here, parts_past, part_ends}
use Rattle.field_columns.specs.Lists.{are_ids}
use Rattle.field_columns.proofs.IdLaws.{id_there, id_not, ids_none}
use Rattle.sheets.specs.Answer.{found}
use Rattle.sheets.specs.Refusal.{bad_lines}
use Rattle.field_columns.proofs.lists.are_ids.Goals as goal

pub slice_bounds-read_i32-count : goal.slice_bounds-read_i32-count
slice_bounds-read_i32-count c = omega (arith, (part_ends c.args.c.now 0 c.part_end-end.result (omega arith) c.part_end-end.ensures).low)

pub slice_bounds-read_i32-start : goal.slice_bounds-read_i32-start
slice_bounds-read_i32-start c = omega (arith, (part_ends c.args.c.now 0 c.part_end-end.result (omega arith) c.part_end-end.ensures).low)

pub slice_bounds-read_i32-end : goal.slice_bounds-read_i32-end
slice_bounds-read_i32-end c = omega (arith, (part_ends c.args.c.now 0 c.part_end-end.result (omega arith) c.part_end-end.ensures).high)

pub returns-in_default : goal.returns-in_default
returns-in_default c =
    let s = c.args.c.now in
    let w = (part_ends c.args.c.now 0 c.part_end-end.result (omega arith) c.part_end-end.ensures) in
    let e = c.part_end-end.result in
    sym (ap are_ids (sym (parts_here s 0 (omega arith)) ∙ w.parts) ∙ id_not (part s 0 e) (parts_from s (e + 1)) (sym c.read_i32.ensures ∙ ap (found bad_lines) c.in_default.is))

pub loop-end-init : goal.loop-end-init
loop-end-init c =
    let s = c.args.c.now in
    let w = (part_ends c.args.c.now 0 c.part_end-end.result (omega arith) c.part_end-end.ensures) in
    let e = c.part_end-end.result in
    (w.high, ap are_ids (sym (parts_here s 0 (omega arith)) ∙ w.parts) ∙ id_there (part s 0 e) (parts_from s (e + 1)) _ (sym c.read_i32.ensures ∙ ap (found bad_lines) c.in-Some.is))

pub slice_bounds-read_i32-count-in-loop-end : goal.slice_bounds-read_i32-count-in-loop-end
slice_bounds-read_i32-count-in-loop-end c = omega (arith, (part_ends c.args.c.now (c.loop-end.end + 1) c.part_end-end-in-loop-end.result (omega arith) c.part_end-end-in-loop-end.ensures).low)

pub slice_bounds-read_i32-start-in-loop-end : goal.slice_bounds-read_i32-start-in-loop-end
slice_bounds-read_i32-start-in-loop-end c = omega (arith, (part_ends c.args.c.now (c.loop-end.end + 1) c.part_end-end-in-loop-end.result (omega arith) c.part_end-end-in-loop-end.ensures).low)

pub slice_bounds-read_i32-end-in-loop-end : goal.slice_bounds-read_i32-end-in-loop-end
slice_bounds-read_i32-end-in-loop-end c = omega (arith, (part_ends c.args.c.now (c.loop-end.end + 1) c.part_end-end-in-loop-end.result (omega arith) c.part_end-end-in-loop-end.ensures).high)

pub loop-end-smaller : goal.loop-end-smaller
loop-end-smaller c = omega (arith, (part_ends c.args.c.now (c.loop-end.end + 1) c.part_end-end-in-loop-end.result (omega arith) c.part_end-end-in-loop-end.ensures).low, (part_ends c.args.c.now (c.loop-end.end + 1) c.part_end-end-in-loop-end.result (omega arith) c.part_end-end-in-loop-end.ensures).high)

pub loop-end-preserved : goal.loop-end-preserved
loop-end-preserved c =
    let s = c.args.c.now in
    let l = c.loop-end in
    let w = (part_ends c.args.c.now (c.loop-end.end + 1) c.part_end-end-in-loop-end.result (omega arith) c.part_end-end-in-loop-end.ensures) in
    let e = c.part_end-end-in-loop-end.result in
    (w.high, l.invariant.1 ∙ ap are_ids w.parts ∙ id_there (part s (l.end + 1) e) (parts_from s (e + 1)) _ (sym c.read_i32-in-loop-end.ensures ∙ ap (found bad_lines) c.in-Some-read_i32.is))

pub returns-in_default-read_i32 : goal.returns-in_default-read_i32
returns-in_default-read_i32 c =
    let s = c.args.c.now in
    let l = c.loop-end in
    let w = (part_ends c.args.c.now (c.loop-end.end + 1) c.part_end-end-in-loop-end.result (omega arith) c.part_end-end-in-loop-end.ensures) in
    let e = c.part_end-end-in-loop-end.result in
    sym (l.invariant.1 ∙ ap are_ids w.parts ∙ id_not (part s (l.end + 1) e) (parts_from s (e + 1)) (sym c.read_i32-in-loop-end.ensures ∙ ap (found bad_lines) c.in_default-read_i32.is))

pub returns : goal.returns
returns c =
    let s = c.args.c.now in
    let l = c.loop-end in
    sym (l.invariant.1 ∙ ap are_ids (parts_past s (l.end + 1) (omega (arith, c.loop-end-test.false))) ∙ ids_none)
