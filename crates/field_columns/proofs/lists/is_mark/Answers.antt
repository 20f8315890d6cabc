-- `lists::is_mark` meets its contract, by the length and the byte. Assumes nothing.
use mathlib.Core.Path.{sym}
use Rattle.field_columns.proofs.ListLaws.{mark_long, mark_null, mark_other}
use Rattle.field_columns.proofs.lists.is_mark.Goals as goal

pub returns-then-c-ne1 : goal.returns-then-c-ne1
returns-then-c-ne1 c = sym (mark_long c.args.c.now c.if-c-ne1.true)

pub returns-then-c-eq126 : goal.returns-then-c-eq126
returns-then-c-eq126 c = mark_null c.args.c.now c.if-c-ne1.false c.if-c-eq126.true

pub returns : goal.returns
returns c = mark_other c.args.c.now c.if-c-ne1.false c.if-c-eq126.false
