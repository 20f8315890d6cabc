-- `text::is_text` meets its contract: by the length of the column. Assumes nothing.
use mathlib.Core.Path.{sym, ◌∙◌}
use native.Mathlib.Omega.{arith}
use Rattle.columns.proofs.TextLaws.{text_none, text_one, text_long}
use Rattle.columns.proofs.text.is_text.Goals as goal

pub returns-then-s-eq0 : goal.returns-then-s-eq0
returns-then-s-eq0 c = sym (text_none c.args.s.now c.if-s-eq0.true)

pub returns-then-s-eq1 : goal.returns-then-s-eq1
returns-then-s-eq1 c = c.is_mark.ensures ∙ sym (text_one c.args.s.now c.if-s-eq1.true)

pub returns : goal.returns
returns c = c.is_hex.ensures ∙ sym (text_long c.args.s.now (omega arith))
