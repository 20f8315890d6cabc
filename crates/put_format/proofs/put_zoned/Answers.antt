-- `put_zoned` meets its contract: the name, then the column's text, which is hexadecimal already. Assumes nothing.
use Rattle.schema_line.proofs.TextLaws.{text_shorter}
use Rattle.column_text.proofs.ColumnTextLaws.{text_of_column}
use Rattle.column_text.specs.ColumnText.{column_text}
use Rattle.buffer.specs.Over.{over_at}
use Rattle.sheets.specs.Format.{or_empty}
use mathlib.Core.Path.{◌≡◌, sym, ap, ◌∙◌}
use mathlib.Core.List.{[], ◌++◌}
use Prim.Native.Nat.{◌+◌}
use lib.ListN.{length}
use native.Mathlib.Omega.{arith}
use Rattle.sheets.specs.Text.{hex}
use Rattle.sheets.specs.Bytes.{Bytes}
use Rattle.hexadecimal.proofs.PartLaws.{length_hex}
use Rattle.put_format.proofs.FormatLaws.{zero_append, hex_start, hex_then, formats_put}
use Rattle.put_format.proofs.put_zoned.Goals as goal

pub put_hex-after-requires : goal.put_hex-after-requires
put_hex-after-requires c = omega (arith, c.requires.0.short, c.requires.0.low, length_hex c.args.name.now)

pub put_at-end-requires : goal.put_at-end-requires
put_at-end-requires c = omega (arith, c.requires.0.short, c.requires.0.low, length_hex c.args.name.now, c.put_hex-after.ensures.0, ap length c.text_of-text.ensures, text_shorter c.args.zone.now, c.requires.1.short)

pub returns : goal.returns
returns c =
    let a = c.args in
    let n = a.name.now in
    let z = or_empty (column_text a.zone.now) in
    let t : c.text_of-text.result.now ≡ hex z = c.text_of-text.ensures ∙ text_of_column a.zone.now c.requires.1 in
    let e = c.put_at-end.ensures in
    let w = hex_then n z (hex_then [] n (hex_start a.at a.out.now) c.put_hex-after.ensures) (e.0 ∙ ap (λ (x : Bytes). c.put_hex-after.result + length x) t, e.1 ∙ ap (λ (x : Bytes). over_at c.put_hex-after.result x c.put_hex-after.new.out) t) in
    formats_put (n ++ z) a.at c.put_at-end.result c.has_zero-zero.result a.out.now c.put_at-end.new.out w (c.has_zero-zero.ensures ∙ sym (zero_append n z c.requires.0.clean))
