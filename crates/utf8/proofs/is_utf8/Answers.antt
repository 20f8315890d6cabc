-- `is_utf8` meets its contract: ASCII is UTF-8. Assumes nothing.
use mathlib.Core.Path.{sym, ◌∙◌}
use Rattle.utf8.proofs.AsciiLaws.{ascii_is_utf8}
use Rattle.utf8.proofs.is_utf8.Goals as goal

pub returns-then-is_ascii : goal.returns-then-is_ascii
returns-then-is_ascii c = sym (ascii_is_utf8 c.args.s.now (sym c.is_ascii.ensures ∙ c.if-is_ascii.true))
