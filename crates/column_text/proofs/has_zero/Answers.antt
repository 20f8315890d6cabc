-- `has_zero` meets its contract: the column's hexadecimal text says the text that the column says. Assumes nothing.
use mathlib.Core.Path.{ap, ◌∙◌}
use mathlib.Core.Bool.{not}
use Rattle.sheets.specs.Rule.{passes}
use Rattle.sheets.specs.Bytes.{Bytes, lacks}
use Rattle.hexadecimal.specs.Hex.{is_hex, bytes_of}
use Rattle.column_text.proofs.ColumnTextLaws.{column_hex, column_zero}
use Rattle.column_text.proofs.has_zero.Goals as goal

pub lacks_zero-requires : goal.lacks_zero-requires
lacks_zero-requires c = ap is_hex c.text_of-text.ensures ∙ column_hex c.args.column.now c.requires

pub returns : goal.returns
returns c =
    let e = ap (λ (t : Bytes). passes (lacks 0 (bytes_of t))) c.text_of-text.ensures in
    ap not (c.lacks_zero.ensures ∙ e ∙ column_zero c.args.column.now c.requires)
