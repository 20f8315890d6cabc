-- `lists::is_digits` meets its contract. Assumes nothing.
use mathlib.Core.Path.{sym, ◌∙◌}
use Rattle.field_columns.proofs.PairLaws.{digits_not, digits_are}
use Rattle.field_columns.proofs.lists.is_digits.Goals as goal

pub returns-then-not-is_hex : goal.returns-then-not-is_hex
returns-then-not-is_hex c = sym (digits_not c.args.t.now (sym c.is_hex.ensures ∙ c.if-not-is_hex.true))

pub is_utf8_hex-requires : goal.is_utf8_hex-requires
is_utf8_hex-requires c = sym c.is_hex.ensures ∙ c.if-not-is_hex.false

pub returns : goal.returns
returns c = c.is_utf8_hex.ensures ∙ sym (digits_are c.args.t.now (sym c.is_hex.ensures ∙ c.if-not-is_hex.false))
