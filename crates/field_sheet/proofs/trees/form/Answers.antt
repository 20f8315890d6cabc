-- `trees::form` meets its contract. The loop's invariant: one tree that is not bare stands from `at` on exactly if a row of as many trees as are
-- due, the first bare or not as the line above it says, stands from `here` on. The measure is what is left of the bytes. Assumes nothing.
use Rattle.std.specs.Prelude.{Option}
use mathlib.Core.Path.{refl, subst}
use mathlib.Core.Bool.{false}
use Prim.Native.Nat.{◌-◌}
use native.Mathlib.Omega.{arith}
use Rattle.sheets.proofs.TreeWalks.{counted}
use Rattle.read_field_line.specs.declared.FieldLine.{FieldLine}
use Rattle.read_field_line.specs.FieldLines.{ReadsLine}
use Rattle.field_sheet.proofs.ReadLaws.{line_other}
use Rattle.field_sheet.proofs.WalkLaws.{walk_on, walk_many, walk_end}
use Rattle.sheets.specs.Answer.{found}
use Rattle.sheets.specs.Refusal.{bad_lines}
use Rattle.field_sheet.proofs.trees.form.Goals as goal

pub loop-due-init : goal.loop-due-init
loop-due-init c = (omega arith, ((λ r. r), (λ r. r)))

pub returns-in_default : goal.returns-in_default
returns-in_default c =
    λ r.
    let l = c.loop-due in
    (subst (λ (q : Option FieldLine). ReadsLine c.args.s.now l.here (found bad_lines q)) c.in_default.is c.read_field_line.ensures).1 l.bare (l.due - 1) (counted (omega arith) (l.invariant.1.0 r))

pub returns-then-l-bare : goal.returns-then-l-bare
returns-then-l-bare c =
    λ r.
    let l = c.loop-due in
    line_other _ (subst (λ (q : Option FieldLine). ReadsLine c.args.s.now c.loop-due.here (found bad_lines q)) c.in-Some.is c.read_field_line.ensures) l.bare c.if-l-bare.true (l.due - 1) (counted (omega arith) (l.invariant.1.0 r))

pub overflow_sub-room : goal.overflow_sub-room
overflow_sub-room c = (subst (λ (q : Option FieldLine). ReadsLine c.args.s.now c.loop-due.here (found bad_lines q)) c.in-Some.is c.read_field_line.ensures).there.high

pub returns-then-room-other : goal.returns-then-room-other
returns-then-room-other c =
    λ r.
    let l = c.loop-due in
    walk_many _ (subst (λ (q : Option FieldLine). ReadsLine c.args.s.now c.loop-due.here (found bad_lines q)) c.in-Some.is c.read_field_line.ensures) l.bare c.if-l-bare.false l.due (omega arith) (omega arith) (l.invariant.1.0 r)

pub returns-then-room-other-2 : goal.returns-then-room-other-2
returns-then-room-other-2 c =
    λ r.
    let l = c.loop-due in
    walk_many _ (subst (λ (q : Option FieldLine). ReadsLine c.args.s.now c.loop-due.here (found bad_lines q)) c.in-Some.is c.read_field_line.ensures) l.bare c.if-l-bare.false l.due (omega arith) (omega arith) (l.invariant.1.0 r)

pub overflow_add-due : goal.overflow_add-due
overflow_add-due c = omega (arith, (subst (λ (q : Option FieldLine). ReadsLine c.args.s.now c.loop-due.here (found bad_lines q)) c.in-Some.is c.read_field_line.ensures).there.high)

pub loop-due-smaller : goal.loop-due-smaller
loop-due-smaller c =
    let k = (subst (λ (q : Option FieldLine). ReadsLine c.args.s.now c.loop-due.here (found bad_lines q)) c.in-Some.is c.read_field_line.ensures) in omega (arith, k.there.low, k.there.high)

pub loop-due-preserved : goal.loop-due-preserved
loop-due-preserved c =
    let l = c.loop-due in
    let k = (subst (λ (q : Option FieldLine). ReadsLine c.args.s.now c.loop-due.here (found bad_lines q)) c.in-Some.is c.read_field_line.ensures) in
    let on = walk_on _ k l.bare c.if-l-bare.false l.due (omega arith) c.is_bare_below-bare.ensures in
    (omega (arith, k.there.high), ((λ r. on.0 (l.invariant.1.0 r)), (λ r. l.invariant.1.1 (on.1 r))))

pub returns : goal.returns
returns c =
    let l = c.loop-due in
    walk_end c.args.s.now c.args.at l.here l.due l.bare l.invariant.1 c.loop-due-test.false _ refl
