-- `trees::form` meets its contract. The loop's invariant: one tree stands from `at` on exactly if a row of as many trees as are due stands
-- from `here` on. The measure is what is left of the bytes. Assumes nothing.
use mathlib.Core.Path.{◌≡◌, refl, sym, ap, subst, ◌∙◌}
use Prim.Native.Nat.{ℕ, suc, ◌-◌, ◌^◌, ◌<◌}
use native.Mathlib.Omega.{arith}
use lib.ListN.{length, drop}
use Rattle.sheets.specs.SchemaTrees.{Row}
use Rattle.schema_line.proofs.KnownLaws.{line_told, line_refused}
use Rattle.schema_sheet.proofs.WalkLaws.{walk_on, walk_many, walk_end}
use Rattle.sheets.specs.Answer.{found}
use Rattle.sheets.specs.Refusal.{bad_lines}
use Rattle.schema_sheet.proofs.trees.form.Goals as goal

pub loop-due-init : goal.loop-due-init
loop-due-init c = (omega arith, ((λ r. r), (λ r. r)))

pub returns-in_default : goal.returns-in_default
returns-in_default c =
    λ r.
    let l = c.loop-due in
    let s = c.args.s.now in
    let some : l.due ≡ suc (l.due - 1) = omega arith in
    let fits : length s < 2 ^ 64 = omega arith in
    line_refused s l.here (sym c.read_line.ensures ∙ ap (found bad_lines) c.in_default.is) fits (l.due - 1) (subst (λ (n : ℕ). Row n (drop l.here s)) some (l.invariant.1.0 r))

pub overflow_sub-room : goal.overflow_sub-room
overflow_sub-room c = omega (arith, (line_told _ _ (sym c.read_line.ensures ∙ ap (found bad_lines) c.in-Some.is)).high)

pub overflow_add-other : goal.overflow_add-other
overflow_add-other c = omega (arith, (line_told _ _ (sym c.read_line.ensures ∙ ap (found bad_lines) c.in-Some.is)).one, (line_told _ _ (sym c.read_line.ensures ∙ ap (found bad_lines) c.in-Some.is)).shows.dictionary)

pub returns-then-room-other : goal.returns-then-room-other
returns-then-room-other c = λ r. walk_many (line_told _ _ (sym c.read_line.ensures ∙ ap (found bad_lines) c.in-Some.is)) c.loop-due.due (omega arith) (omega arith) (c.loop-due.invariant.1.0 r)

pub returns-then-room-other-2 : goal.returns-then-room-other-2
returns-then-room-other-2 c = λ r. walk_many (line_told _ _ (sym c.read_line.ensures ∙ ap (found bad_lines) c.in-Some.is)) c.loop-due.due (omega arith) (omega arith) (c.loop-due.invariant.1.0 r)

pub overflow_add-due : goal.overflow_add-due
overflow_add-due c = omega (arith, (line_told _ _ (sym c.read_line.ensures ∙ ap (found bad_lines) c.in-Some.is)).high)

pub loop-due-smaller : goal.loop-due-smaller
loop-due-smaller c = omega (arith, (line_told _ _ (sym c.read_line.ensures ∙ ap (found bad_lines) c.in-Some.is)).low, (line_told _ _ (sym c.read_line.ensures ∙ ap (found bad_lines) c.in-Some.is)).high)

pub loop-due-preserved : goal.loop-due-preserved
loop-due-preserved c =
    let i = c.loop-due.invariant.1 in
    let on = walk_on (line_told _ _ (sym c.read_line.ensures ∙ ap (found bad_lines) c.in-Some.is)) c.loop-due.due (omega arith) in
    (omega (arith, (line_told _ _ (sym c.read_line.ensures ∙ ap (found bad_lines) c.in-Some.is)).high), ((λ r. on.0 (i.0 r)), (λ r. i.1 (on.1 r))))

pub returns : goal.returns
returns c = walk_end c.args.s.now c.args.at c.loop-due.here c.loop-due.due c.loop-due.invariant.1 c.loop-due-test.false _ refl
