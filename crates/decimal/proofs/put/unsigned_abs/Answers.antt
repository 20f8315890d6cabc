-- `unsigned_abs` meets its contract: -1 - z is one less than the magnitude of a negative z, and fits where that may not. Assumes nothing.
use Rattle.decimal.proofs.PutSignLaws.{turned, turned_fits, turned_abs, not_below}
use mir.Facts.{to_z-of_z, Fits-nat_abs}
use mir.Syntax.{w64}
use lib.Signed.{lt_z}
use lib.IntN.{ℤ, pos}
use native.Mathlib.Omega.{arith}
use mathlib.Core.Bool.{true, false}
use mathlib.Core.Path.{◌≡◌, subst}
use Rattle.decimal.proofs.put.unsigned_abs.Goals as goal

pub overflow_sub-result : goal.overflow_sub-result
overflow_sub-result c =
    let z = c.args.z in
    let f = c.ranges.z in
    let t = subst (λ (y : ℤ). lt_z y (pos 0) ≡ true) (to_z-of_z f) c.if-z-lt0.true in
    let g = turned_fits w64 z f in
    rw (to_z-of_z f, turned z t) g

pub overflow_cast-result : goal.overflow_cast-result
overflow_cast-result c =
    let z = c.args.z in
    let f = c.ranges.z in
    let t = subst (λ (y : ℤ). lt_z y (pos 0) ≡ true) (to_z-of_z f) c.if-z-lt0.true in
    let g = turned_fits w64 z f in
    rw (to_z-of_z f, turned z t, to_z-of_z g) (tt, record { fits = omega (arith, f.sfits) })

pub overflow_add-result : goal.overflow_add-result
overflow_add-result c =
    let z = c.args.z in
    let f = c.ranges.z in
    let t = subst (λ (y : ℤ). lt_z y (pos 0) ≡ true) (to_z-of_z f) c.if-z-lt0.true in
    let g = turned_fits w64 z f in
    rw (to_z-of_z f, turned z t, to_z-of_z g) (record { fits = omega (arith, f.sfits) })

pub returns-then-z-lt0 : goal.returns-then-z-lt0
returns-then-z-lt0 c =
    let z = c.args.z in
    let f = c.ranges.z in
    let t = subst (λ (y : ℤ). lt_z y (pos 0) ≡ true) (to_z-of_z f) c.if-z-lt0.true in
    let g = turned_fits w64 z f in
    rw (to_z-of_z f, turned z t, to_z-of_z g) (turned_abs z t)

pub overflow_cast-result-2 : goal.overflow_cast-result-2
overflow_cast-result-2 c =
    let z = c.args.z in
    let f = c.ranges.z in
    let t = subst (λ (y : ℤ). lt_z y (pos 0) ≡ false) (to_z-of_z f) c.if-z-lt0.false in
    rw (to_z-of_z f) (not_below z t, Fits-nat_abs tt f)

pub returns : goal.returns
returns c =
    let f = c.ranges.z in
    rw (to_z-of_z f)
