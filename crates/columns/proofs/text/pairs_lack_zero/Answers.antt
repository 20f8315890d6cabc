-- `text::pairs_lack_zero` meets its contract. The loop's invariant: the bytes lack byte 00 exactly if `ok` is true and those from byte `k` on do.
-- The measure is what is left of the pairs. Assumes nothing.
use mathlib.Core.Path.{refl, sym, ap, ◌∙◌}
use mathlib.Core.Bool.{Bool, ◌&&◌, not}
use Prim.Native.Nat.{◌+◌, ◌-◌}
use native.Mathlib.Omega.{arith}
use lib.ListN.{drop}
use Rattle.sheets.specs.Rule.{passes}
use Rattle.sheets.specs.Bytes.{lacks}
use Rattle.hexadecimal.specs.Hex.{bytes_of}
use Rattle.columns.proofs.TextLaws.{zero_next, zero_end}
use Rattle.columns.proofs.text.pairs_lack_zero.Goals as goal

pub loop-k-init : goal.loop-k-init
loop-k-init c = (refl, refl)

pub loop-k-preserved : goal.loop-k-preserved
loop-k-preserved c =
    let s = c.args.s.now in
    let ok = c.loop-k.ok in
    let k = c.loop-k.k in
    (c.loop-k.invariant.0, c.loop-k.invariant.1 ∙ zero_next s c.requires k ok (omega arith) ∙ ap (λ (t : Bool). (ok && not t) && passes (lacks 0 (drop (k + 1) (bytes_of s)))) (sym c.is_zero.ensures))

pub returns : goal.returns
returns c =
    let s = c.args.s.now in
    sym (c.loop-k.invariant.1 ∙ zero_end s c.requires c.loop-k.k c.loop-k.ok (omega arith))
