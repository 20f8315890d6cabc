-- `parse::after_plus` meets its contract. Assumes nothing.
use mathlib.Core.Path.{sym, ◌∙◌}
use native.Mathlib.Omega.{arith}
use Rattle.hexadecimal.specs.Hex.{bytes_of}
use Rattle.hexadecimal.proofs.HexLaws.{length_bytes}
use Rattle.parse.proofs.ParseLaws.{plus, no_plus}
use Rattle.parse.proofs.after_plus.Goals as goal

pub returns-then-s-lt2 : goal.returns-then-s-lt2
returns-then-s-lt2 c =
    let s = c.args.s.now in
    no_plus (bytes_of s) (λ h e. omega (arith, length_bytes s c.requires))

pub returns-then-byte_at-eq43 : goal.returns-then-byte_at-eq43
returns-then-byte_at-eq43 c =
    let s = c.args.s.now in
    plus (bytes_of s) (omega (arith, length_bytes s c.requires)) (sym c.byte_at.ensures ∙ c.if-byte_at-eq43.true)

pub returns : goal.returns
returns c =
    let s = c.args.s.now in
    no_plus (bytes_of s) (λ h e. c.if-byte_at-eq43.false (c.byte_at.ensures ∙ e))
