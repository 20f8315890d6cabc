-- `is_text` meets its contract, by the length. Assumes nothing.
use mathlib.Core.Path.{sym, ◌∙◌}
use native.Mathlib.Omega.{arith}
use Rattle.field_columns.proofs.ContentLaws.{text_none, text_one, text_not, text_long}
use Rattle.field_columns.proofs.is_text.Goals as goal

pub returns-then-c-eq0 : goal.returns-then-c-eq0
returns-then-c-eq0 c = sym (text_none c.args.c.now c.if-c-eq0.true)

pub returns-then-c-eq1 : goal.returns-then-c-eq1
returns-then-c-eq1 c = sym (text_one c.args.c.now c.if-c-eq1.true)

pub returns-then-not-is_hex : goal.returns-then-not-is_hex
returns-then-not-is_hex c = sym (text_not c.args.c.now (omega (arith, c.if-c-eq1.false, c.if-c-eq0.false)) (sym c.is_hex.ensures ∙ c.if-not-is_hex.true))

pub is_utf8_hex-requires : goal.is_utf8_hex-requires
is_utf8_hex-requires c = sym c.is_hex.ensures ∙ c.if-not-is_hex.false

pub returns : goal.returns
returns c = c.is_utf8_hex.ensures ∙ sym (text_long c.args.c.now (omega (arith, c.if-c-eq1.false, c.if-c-eq0.false)) (sym c.is_hex.ensures ∙ c.if-not-is_hex.false))
