-- A text's column of a schema line. Assumes nothing.
use Rattle.std.specs.Prelude.{cond, [], eqb, length}
use Rattle.sheets.specs.Bytes.{Bytes}

-- its hexadecimal text: none for `~` and `-`
unfoldable pub text_in : Bytes → Bytes
text_in t = cond (eqb (length t) 1) [] t
