-- `parse::parse_i32` meets its contract: by the laws on what `read_id` is where the digits gave a number, and where they did not. Assumes nothing.
use mathlib.Core.Path.{◌≡◌, sym, ap, ◌∙◌}
use Prim.Native.Nat.{◌+◌, ◌<◌, ◌≤◌, ◌^◌}
use native.Mathlib.Omega.{arith}
use lib.ListN.{length, get_or, drop}
use mir.Facts.{to_z-of_z, to_z_pos}
use mir.Syntax.{w32, w64}
use Rattle.sheets.specs.Answer.{given}
use Rattle.hexadecimal.specs.Hex.{bytes_of}
use Rattle.hexadecimal.proofs.HexLaws.{length_bytes}
use Rattle.decimal.proofs.SignLaws.{minus_fits}
use Rattle.parse.proofs.ParseLaws.{no_id, minus_refused, minus_given, plain_refused_lem, plain_given}
use Rattle.parse.proofs.DigitLaws.{within_limit}
use Rattle.parse.proofs.parse_i32.Goals as goal

pub returns-then-s-lt2 : goal.returns-then-s-lt2
returns-then-s-lt2 c =
    let s = c.args.s.now in
    sym (no_id (bytes_of s) (omega (arith, length_bytes s c.requires)))

pub returns-in_err-m : goal.returns-in_err-m
returns-in_err-m c =
    let s = c.args.s.now in
    let any : 0 < length (bytes_of s) = omega (arith, length_bytes s c.requires) in
    let sign = sym c.byte_at.ensures ∙ c.if-byte_at-eq45.true in
    rw c.from_residual.ensures (minus_refused (bytes_of s) any sign c.in_err-m.ensures)

pub negated-requires : goal.negated-requires
negated-requires c = omega (arith, within_limit (2 ^ 31 + 1) (drop 1 (bytes_of c.args.s.now)) c.in_ok-m.m (sym c.in_ok-m.ensures))

pub overflow_cast-result : goal.overflow_cast-result
overflow_cast-result c =
    let s = c.args.s.now in
    let m = c.in_ok-m.m in
    let d = c.in_ok-m.ensures in
    let l : m ≤ 2 ^ 31 = omega (arith, within_limit (2 ^ 31 + 1) (drop 1 (bytes_of s)) m (sym d)) in
    rw (c.negated.ensures, to_z-of_z (minus_fits w64 m (omega arith))) (minus_fits w32 m l)

pub returns-then-byte_at-eq45 : goal.returns-then-byte_at-eq45
returns-then-byte_at-eq45 c =
    let s = c.args.s.now in
    let m = c.in_ok-m.m in
    let d = c.in_ok-m.ensures in
    let l : m ≤ 2 ^ 31 = omega (arith, within_limit (2 ^ 31 + 1) (drop 1 (bytes_of s)) m (sym d)) in
    let any : 0 < length (bytes_of s) = omega (arith, length_bytes s c.requires) in
    let sign = sym c.byte_at.ensures ∙ c.if-byte_at-eq45.true in
    rw (c.negated.ensures, to_z-of_z (minus_fits w64 m (omega arith)), to_z-of_z (minus_fits w32 m l)) (minus_given (bytes_of s) any m sign d)

pub returns-in_err-n : goal.returns-in_err-n
returns-in_err-n c =
    let s = c.args.s.now in
    let any : 0 < length (bytes_of s) = omega (arith, length_bytes s c.requires) in
    let p = c.after_plus in
    let no_minus : get_or (bytes_of s) 0 0 ≡ 45 → ⊥ = λ e. c.if-byte_at-eq45.false (c.byte_at.ensures ∙ e) in
    rw c.from_residual-in_err-n.ensures (plain_refused_lem (bytes_of s) any (drop p.result (bytes_of s)) p.ensures no_minus c.in_err-n.ensures)

pub overflow_cast-result-2 : goal.overflow_cast-result-2
overflow_cast-result-2 c =
    let p = c.after_plus in
    let n = c.in_ok-n.n in
    let l : n < 2 ^ 31 = within_limit (2 ^ 31) (drop p.result (bytes_of c.args.s.now)) n (sym c.in_ok-n.ensures) in
    record { sfits = omega arith }

pub returns : goal.returns
returns c =
    let s = c.args.s.now in
    let any : 0 < length (bytes_of s) = omega (arith, length_bytes s c.requires) in
    let p = c.after_plus in
    let n = c.in_ok-n.n in
    let no_minus : get_or (bytes_of s) 0 0 ≡ 45 → ⊥ = λ e. c.if-byte_at-eq45.false (c.byte_at.ensures ∙ e) in
    let d = c.in_ok-n.ensures in
    let l : n < 2 ^ 31 = within_limit (2 ^ 31) (drop p.result (bytes_of s)) n (sym d) in
    ap given (to_z_pos w32 {n = n} (omega arith)) ∙ plain_given (bytes_of s) any (drop p.result (bytes_of s)) n p.ensures no_minus d
