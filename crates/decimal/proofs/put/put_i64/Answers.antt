-- `put_i64` meets its contract: a chain of two writes below zero, one write otherwise. Assumes nothing.
use Rattle.decimal.proofs.PutSignLaws.{text_below, text_plain}
use Rattle.buffer.proofs.OverLaws.{none_yet, and_then}
use Rattle.sheets.specs.Number.{decimal}
use mir.Facts.{to_z-of_z}
use lib.Signed.{lt_z}
use lib.IntN.{ℤ, pos, nat_abs}
use mathlib.Core.List.{[], ◌∷◌}
use mathlib.Core.Bool.{true, false}
use mathlib.Core.Path.{◌≡◌, subst}
use Rattle.decimal.proofs.put.put_i64.Goals as goal

pub returns-then-z-lt0 : goal.returns-then-z-lt0
returns-then-z-lt0 c =
    let z = c.args.z in
    let f = c.ranges.z in
    let t = text_below z (subst (λ (y : ℤ). lt_z y (pos 0) ≡ true) (to_z-of_z f) c.if-z-lt0.true) in
    let sign = and_then (45 ∷ []) (none_yet c.args.at c.args.out.now) c.put_at-a.ensures in
    let u = rw (c.unsigned_abs-m.ensures, to_z-of_z f) at c.put_u64.ensures in
    let w = and_then (decimal (nat_abs z)) sign (u.0, u.1) in
    (rw t w.place, rw t w.holds)

pub returns : goal.returns
returns c =
    let z = c.args.z in
    let f = c.ranges.z in
    let t = text_plain z (subst (λ (y : ℤ). lt_z y (pos 0) ≡ false) (to_z-of_z f) c.if-z-lt0.false) in
    let u = rw (c.unsigned_abs-m.ensures, to_z-of_z f) at c.put_u64-2.ensures in
    rw t u
