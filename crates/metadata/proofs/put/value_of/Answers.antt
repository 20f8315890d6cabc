-- `value_of` meets its contract: an entry's value stands after its length, which stands after the key. Assumes nothing.
use mathlib.Core.Path.{◌≡◌, refl, ap}
use Prim.Native.Nat.{ℕ, ◌+◌, ◌-◌, ◌*◌, ◌/◌}
use native.Mathlib.Omega.{arith}
use Rattle.metadata.proofs.EntryLaws.{length_inside, value_inside, value_part}
use Rattle.metadata.proofs.put.value_of.Goals as goal

pub word_at-n-requires : goal.word_at-n-requires
word_at-n-requires c = (c.requires.0, length_inside c.args.big c.args.m.now c.requires.0 c.args.e c.requires.1 _ (ap (λ (n : ℕ). n / 2) c.end_of-k.ensures))

pub slice_bounds-result-end : goal.slice_bounds-result-end
slice_bounds-result-end c = omega (arith, value_inside c.args.big c.args.m.now c.requires.0 c.args.e c.requires.1 _ (ap (λ (n : ℕ). n / 2) c.end_of-k.ensures) c.word_at-n.result c.word_at-n.ensures)

pub returns : goal.returns
returns c =
    let a = c.args in
    let k = c.end_of-k.result / 2 in
    let n = c.word_at-n.result in
    let y = 2 * k + 8 in
    let x : y + 2 * n - y ≡ 2 * n = omega arith in
    value_part a.big a.m.now c.requires.0 a.e c.requires.1 k (ap (λ (n : ℕ). n / 2) c.end_of-k.ensures) n c.word_at-n.ensures _ y x refl
