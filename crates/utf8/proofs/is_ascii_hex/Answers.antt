-- `is_ascii_hex` meets its contract, as `is_ascii` does, at the bytes of the text. Assumes nothing.
use mathlib.Core.Path.{refl, sym, ap, ◌∙◌}
use mathlib.Core.Bool.{Bool, ◌&&◌}
use Prim.Native.Nat.{◌<◌, ◌+◌}
use native.Mathlib.Omega.{arith}
use lib.ListN.{length, drop}
use Rattle.hexadecimal.specs.Hex.{bytes_of}
use Rattle.hexadecimal.proofs.HexLaws.{length_bytes}
use Rattle.utf8.specs.Tables.{all_ascii}
use Rattle.utf8.proofs.AsciiLaws.{ascii_next, ascii_end, first_digit_ascii}
use Rattle.utf8.proofs.is_ascii_hex.Goals as goal

pub loop-k-init : goal.loop-k-init
loop-k-init c = (refl, refl)

pub loop-k-preserved : goal.loop-k-preserved
loop-k-preserved c =
    let s = c.args.s.now in
    let ok = c.loop-k.ok in
    let k = c.loop-k.k in
    let m : k < length (bytes_of s) = omega (arith, length_bytes s c.requires) in
    (c.loop-k.invariant.0, c.loop-k.invariant.1 ∙ ascii_next ok (bytes_of s) k m ∙ ap (λ (t : Bool). (ok && t) && all_ascii (drop (k + 1) (bytes_of s))) (first_digit_ascii s c.requires k (omega arith)))

pub returns : goal.returns
returns c =
    let s = c.args.s.now in
    sym (c.loop-k.invariant.1 ∙ ascii_end c.loop-k.ok (bytes_of s) c.loop-k.k (omega (arith, length_bytes s c.requires)))
