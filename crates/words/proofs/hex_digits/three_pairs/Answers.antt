-- `three_pairs` meets its contract: the digits as they stand in the sum, and each is a byte. Assumes nothing.
use Rattle.words.proofs.DigitLaws.{hex_small}
use mathlib.Core.List.{[], ◌∷◌}
use mathlib.Core.Path.{refl}
use Prim.Native.Nat.{◌<◌}
use native.Mathlib.Omega.{arith}
use borrow.Author.Rules.{rules}
use Rattle.words.proofs.hex_digits.three_pairs.Goals as goal

pub returns : goal.returns
returns c =
    let a = c.args.a in
    let sa : a < 256 = search rules in
    let b = c.args.b in
    let sb : b < 256 = search rules in
    let x = c.args.c in
    let sx : x < 256 = search rules in
    (omega (arith, c.pair_of.ensures.0, c.pair_of-2.ensures.0, c.pair_of-3.ensures.0), (hex_small a (b ∷ x ∷ []) sa (hex_small b (x ∷ []) sb (hex_small x ([]) sx refl))))
