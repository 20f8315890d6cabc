-- `is_nothing` meets its contract, by the length and the byte. Assumes nothing.
use mathlib.Core.Path.{sym}
use Rattle.field_columns.proofs.ContentLaws.{nothing_long, nothing_one}
use Rattle.field_columns.proofs.is_nothing.Goals as goal

pub returns-then-c-ne1 : goal.returns-then-c-ne1
returns-then-c-ne1 c = sym (nothing_long c.args.c.now c.if-c-ne1.true)

pub returns : goal.returns
returns c = sym (nothing_one c.args.c.now c.if-c-ne1.false)
