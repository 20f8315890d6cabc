-- `is_flag` meets its contract, by the length and the byte. Assumes nothing.
use mathlib.Core.Path.{sym}
use Rattle.field_columns.proofs.ContentLaws.{flag_long, flag_zero, flag_one}
use Rattle.field_columns.proofs.is_flag.Goals as goal

pub returns-then-c-ne1 : goal.returns-then-c-ne1
returns-then-c-ne1 c = sym (flag_long c.args.c.now c.if-c-ne1.true)

pub returns-then-c-eq48 : goal.returns-then-c-eq48
returns-then-c-eq48 c = sym (flag_zero c.args.c.now c.if-c-ne1.false c.if-c-eq48.true)

pub returns : goal.returns
returns c = sym (flag_one c.args.c.now c.if-c-ne1.false c.if-c-eq48.false)
