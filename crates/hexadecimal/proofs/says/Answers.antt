-- `says` meets its contract. The loop's invariant: the bytes of the text and `key` are the same exactly if they are from `k` on. Assumes nothing.
use mathlib.Core.Path.{refl, sym, ◌∙◌}
use native.Mathlib.Omega.{arith}
use Rattle.hexadecimal.specs.Hex.{bytes_of}
use Rattle.hexadecimal.proofs.HexLaws.{length_bytes}
use Rattle.sheets.proofs.SameLaws.{lengths_differ, same_end, same_more, differ_at}
use Rattle.hexadecimal.proofs.says.Goals as goal

pub returns-then-n-key : goal.returns-then-n-key
returns-then-n-key c =
    let s = c.args.s.now in
    sym (lengths_differ (bytes_of s) c.args.key.now (λ e. c.if-n-key.true (omega (arith, length_bytes s c.requires))))

pub loop-k-init : goal.loop-k-init
loop-k-init c = refl

pub returns-then-byte_at-b : goal.returns-then-byte_at-b
returns-then-byte_at-b c =
    let s = c.args.s.now in
    let key = c.args.key.now in
    let k = c.loop-k.k in
    sym (c.loop-k.invariant ∙ differ_at (bytes_of s) key k (omega (arith, length_bytes s c.requires)) (omega arith) (λ e. c.if-byte_at-b.true (c.byte_at.ensures ∙ e)))

pub loop-k-preserved : goal.loop-k-preserved
loop-k-preserved c =
    let s = c.args.s.now in
    let key = c.args.key.now in
    let k = c.loop-k.k in
    c.loop-k.invariant ∙ same_more (bytes_of s) key k (omega (arith, length_bytes s c.requires)) (omega arith) (sym c.byte_at.ensures ∙ c.if-byte_at-b.false)

pub returns : goal.returns
returns c =
    let s = c.args.s.now in
    sym (c.loop-k.invariant ∙ same_end (bytes_of s) c.args.key.now c.loop-k.k (omega (arith, length_bytes s c.requires)) (omega arith))
