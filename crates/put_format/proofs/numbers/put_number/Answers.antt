-- `crate::numbers::put_number` meets its contract: the digits that are lent to `put_hex` are the number's. Assumes nothing.
use mathlib.Core.Path.{◌≡◌, refl, sym, ap, subst, ◌∙◌}
use Prim.Native.Nat.{◌+◌}
use lib.ListN.{length, replicate}
use native.Mathlib.Omega.{arith}
use Rattle.sheets.specs.Bytes.{Bytes}
use Rattle.sheets.specs.Text.{hex}
use Rattle.sheets.specs.Number.{decimal}
use Rattle.buffer.specs.Over.{over_at}
use Rattle.hexadecimal.proofs.PartLaws.{length_hex}
use Rattle.decimal.proofs.WriteLaws.{decimal_short}
use Rattle.put_format.proofs.CountedLaws.{digits_are}
use Rattle.put_format.proofs.numbers.put_number.Goals as goal

pub slice_bounds-digits-end : goal.slice_bounds-digits-end
slice_bounds-digits-end c = omega (arith, c.put_u64-end.ensures.0, decimal_short c.args.n c.ranges.n.fits)

pub slice_bounds-put_hex-end : goal.slice_bounds-put_hex-end
slice_bounds-put_hex-end c =
    let e = digits_are c.args.n c.ranges.n.fits (replicate 20 0) refl c.put_u64-end.result c.put_u64-end.new.out c.put_u64-end.ensures in
    sym (ap length e ∙ omega (arith, c.put_u64-end.ensures.0))

pub put_hex-requires : goal.put_hex-requires
put_hex-requires c =
    let e = digits_are c.args.n c.ranges.n.fits (replicate 20 0) refl c.put_u64-end.result c.put_u64-end.new.out c.put_u64-end.ensures in
    omega (arith, c.requires, ap (λ (t : Bytes). length (hex t)) e, length_hex (decimal c.args.n), decimal_short c.args.n c.ranges.n.fits)

pub returns : goal.returns
returns c =
    let e = digits_are c.args.n c.ranges.n.fits (replicate 20 0) refl c.put_u64-end.result c.put_u64-end.new.out c.put_u64-end.ensures in
    let r = subst (λ (t : Bytes). (c.put_hex.result ≡ c.args.at + length (hex t)) × (c.put_hex.new.out ≡ over_at c.args.at (hex t) c.args.out.now)) e c.put_hex.ensures in
    ((r.0, r.1), omega (arith, r.0, length_hex (decimal c.args.n), decimal_short c.args.n c.ranges.n.fits))
