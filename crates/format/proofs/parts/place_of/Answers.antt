-- `place_of` meets its contract. The loop's invariant: the place that is looked for is as far from k as the bytes from k on say. Assumes
-- nothing.
use mathlib.Core.Path.{◌≡◌, refl, sym, ◌∙◌, ap}
use Prim.Native.Nat.{ℕ, ◌+◌, ◌<◌}
use native.Mathlib.Omega.{arith}
use native.Mathlib.Nat.{add-zero}
use borrow.Author.Rules.{rules}
use lib.ListN.{length}
use Rattle.hexadecimal.specs.Hex.{bytes_of}
use Rattle.hexadecimal.proofs.HexLaws.{length_bytes}
use Rattle.sheets.proofs.PartLaws.{before_here, before_next, before_past}
use Rattle.format.proofs.parts.place_of.Goals as goal

pub loop-k-init : goal.loop-k-init
loop-k-init c = (sym (length_bytes c.args.f.now c.requires), search rules, refl)

pub returns-then-byte_at-b : goal.returns-then-byte_at-b
returns-then-byte_at-b c =
    let a = c.args in
    let l = c.loop-k in
    let h : l.k < length (bytes_of a.f.now) = omega (arith, l.invariant.0, c.loop-k-test.true) in
    sym (l.invariant.2 ∙ ap (λ (n : ℕ). l.k + n) (before_here a.b (bytes_of a.f.now) l.k h (sym c.byte_at.ensures ∙ c.if-byte_at-b.true)) ∙ add-zero l.k)

pub loop-k-preserved : goal.loop-k-preserved
loop-k-preserved c =
    let a = c.args in
    let l = c.loop-k in
    let h : l.k < length (bytes_of a.f.now) = omega (arith, l.invariant.0, c.loop-k-test.true) in
    (l.invariant.0, search rules, l.invariant.2 ∙ before_next a.b (bytes_of a.f.now) l.k h (λ e. c.if-byte_at-b.false (c.byte_at.ensures ∙ e)))

pub returns : goal.returns
returns c =
    let a = c.args in
    let l = c.loop-k in
    let e : c.max.result ≡ l.k = omega (arith, c.max.ensures, l.invariant.1) in
    e ∙ sym (l.invariant.2 ∙ ap (λ (n : ℕ). l.k + n) (before_past a.b (bytes_of a.f.now) l.k (omega (arith, l.invariant.0, c.loop-k-test.false))) ∙ add-zero l.k)
