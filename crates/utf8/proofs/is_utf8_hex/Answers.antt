-- `is_utf8_hex` meets its contract: ASCII is UTF-8. Assumes nothing.
use mathlib.Core.Path.{sym, ◌∙◌}
use Rattle.hexadecimal.specs.Hex.{bytes_of}
use Rattle.utf8.proofs.AsciiLaws.{ascii_is_utf8}
use Rattle.utf8.proofs.is_utf8_hex.Goals as goal

pub returns-then-is_ascii_hex : goal.returns-then-is_ascii_hex
returns-then-is_ascii_hex c = sym (ascii_is_utf8 (bytes_of c.args.s.now) (sym c.is_ascii_hex.ensures ∙ c.if-is_ascii_hex.true))
