-- `all_read` meets its contract: the lines end where the sheet does, or not. Assumes nothing.
use mathlib.Core.Path.{ap, sym}
use mathlib.Core.Bool.{Bool, cond}
use borrow.Author.Tests.{lt-ltb, le-ltb}
use Rattle.sheets.specs.Refusal.{bad_lines}
use Rattle.sheets.specs.Answer.{refused, given}
use Rattle.import_sheet.proofs.all_read.Goals as goal

pub returns-then-next-s : goal.returns-then-next-s
returns-then-next-s c = ap (λ (b : Bool). cond b (refused bad_lines) (given (c.args.next, c.args.size))) (sym (lt-ltb _ _ c.if-next-s.true))

pub returns : goal.returns
returns c = ap (λ (b : Bool). cond b (refused bad_lines) (given (c.args.next, c.args.size))) (sym (le-ltb _ _ c.if-next-s.false))
