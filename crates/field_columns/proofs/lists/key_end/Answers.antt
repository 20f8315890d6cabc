-- `lists::key_end` meets its contract, by the two sides of the first `=`. Assumes nothing.
use mathlib.Core.Path.{◌≡◌, sym, ◌∙◌, ap}
use Prim.Native.Nat.{ℕ, ◌+◌, ◌-◌}
use native.Mathlib.Omega.{arith}
use lib.ListN.{length, take, drop, length-drop}
use lib.Seq.{take_all}
use Rattle.field_columns.specs.Lists.{is_digits}
use Rattle.field_columns.proofs.PairLaws.{no_equals, key_not, value_not, key_there}
use Rattle.field_columns.proofs.lists.key_end.Goals as goal

pub returns-then-p-k : goal.returns-then-p-k
returns-then-p-k c = sym (no_equals c.args.p.now _ (omega (arith, c.part_end-k.ensures)) c.if-p-k.true)

pub returns-then-not-is_digits : goal.returns-then-not-is_digits
returns-then-not-is_digits c =
    sym (key_not c.args.p.now _ (omega (arith, c.part_end-k.ensures)) (omega arith) ((let n : c.part_end-k.result - 0 ≡ c.part_end-k.result = omega arith in
    sym (c.is_digits.ensures ∙ ap (λ (i : ℕ). is_digits (take i c.args.p.now)) n)) ∙ c.if-not-is_digits.true))

pub returns-then-not-is_digits-2 : goal.returns-then-not-is_digits-2
returns-then-not-is_digits-2 c =
    sym (value_not c.args.p.now _ (omega (arith, c.part_end-k.ensures)) (omega arith) ((let s = c.args.p.now in
    let k = c.part_end-k.result in
    sym (c.is_digits-2.ensures ∙ ap is_digits (take_all (length s - (k + 1)) (drop (k + 1) s) (omega (arith, length-drop (k + 1) s))))) ∙ c.if-not-is_digits-2.true))

pub returns : goal.returns
returns c =
    sym (key_there c.args.p.now _ (omega (arith, c.part_end-k.ensures)) (omega arith) ((let n : c.part_end-k.result - 0 ≡ c.part_end-k.result = omega arith in
    sym (c.is_digits.ensures ∙ ap (λ (i : ℕ). is_digits (take i c.args.p.now)) n)) ∙ c.if-not-is_digits.false) ((let s = c.args.p.now in
    let k = c.part_end-k.result in
    sym (c.is_digits-2.ensures ∙ ap is_digits (take_all (length s - (k + 1)) (drop (k + 1) s) (omega (arith, length-drop (k + 1) s))))) ∙ c.if-not-is_digits-2.false))
