-- `put_decimal_type` meets its contract: five pieces, one after the other. Assumes nothing.
use mathlib.Core.Path.{refl, sym, ◌∙◌}
use mathlib.Core.List.{[], ◌++◌}
use mathlib.Core.Bool.{false}
use native.Mathlib.Omega.{arith}
use Rattle.sheets.specs.Number.{decimal}
use Rattle.sheets.specs.Bytes.{ascii}
use Rattle.hexadecimal.proofs.PartLaws.{length_hex}
use Rattle.put_format.proofs.FormatLaws.{zero_append, decimal_clean, hex_start, hex_then, formats_put}
use Rattle.put_format.proofs.put_decimal_type.Goals as goal

pub put_hex-end-requires : goal.put_hex-end-requires
put_hex-end-requires c = omega (arith, c.requires.short, c.requires.low, length_hex c.args.width.now, c.put_number-after.ensures.1, c.put_hex-scale.ensures.0, c.put_number-sign.ensures.1, c.put_hex-precision.ensures.0)

pub returns : goal.returns
returns c =
    let a = c.args in
    let w = a.width.now in
    let one = ascii "d:" ++ decimal a.p in
    let two = one ++ ascii "," in
    let three = two ++ decimal a.q in
    let x = hex_then [] (ascii "d:") (hex_start a.at a.out.now) c.put_hex-precision.ensures in
    let y = hex_then (ascii "d:") (decimal a.p) x c.put_number-sign.ensures.0 in
    let z = hex_then one (ascii ",") y c.put_hex-scale.ensures in
    let u = hex_then two (decimal a.q) z c.put_number-after.ensures.0 in
    let v = hex_then three w u c.put_hex-end.ensures in
    let clean-one = zero_append (ascii "d:") (decimal a.p) refl ∙ decimal_clean a.p in
    let clean-two = zero_append one (ascii ",") clean-one in
    let clean-three = zero_append two (decimal a.q) clean-two ∙ decimal_clean a.q in
    formats_put (three ++ w) a.at c.put_hex-end.result false a.out.now c.put_hex-end.new.out v (sym (zero_append three w clean-three ∙ c.requires.clean))
