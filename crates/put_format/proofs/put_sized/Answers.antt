-- `put_sized` meets its contract: the name, then the number. Assumes nothing.
use mathlib.Core.Path.{sym, ◌∙◌}
use mathlib.Core.List.{[], ◌++◌}
use mathlib.Core.Bool.{false}
use native.Mathlib.Omega.{arith}
use Rattle.sheets.specs.Number.{decimal}
use Rattle.hexadecimal.proofs.PartLaws.{length_hex}
use Rattle.put_format.proofs.FormatLaws.{zero_append, decimal_clean, hex_start, hex_then, formats_put}
use Rattle.put_format.proofs.put_sized.Goals as goal

pub put_hex-after-requires : goal.put_hex-after-requires
put_hex-after-requires c = omega (arith, c.requires.short, c.requires.low, length_hex c.args.name.now)

pub put_number-end-requires : goal.put_number-end-requires
put_number-end-requires c = omega (arith, c.requires.short, c.requires.low, length_hex c.args.name.now, c.put_hex-after.ensures.0)

pub returns : goal.returns
returns c =
    let a = c.args in
    let n = a.name.now in
    let w = hex_then n (decimal a.n) (hex_then [] n (hex_start a.at a.out.now) c.put_hex-after.ensures) c.put_number-end.ensures.0 in
    formats_put (n ++ decimal a.n) a.at c.put_number-end.result false a.out.now c.put_number-end.new.out w (sym (zero_append n (decimal a.n) c.requires.clean ∙ decimal_clean a.n))
