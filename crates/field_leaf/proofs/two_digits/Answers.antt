-- `two_digits` meets its contract: a law for each way out. Assumes nothing.
use mathlib.Core.Path.{ap₂}
use Prim.Native.Nat.{ℕ, ◌+◌, ◌*◌}
use Rattle.field_leaf.proofs.KindLaws.{first_low, first_high, second_low, second_high, other_kind, two_kind}
use Rattle.field_leaf.proofs.two_digits.Goals as goal

pub returns-then-a-le48 : goal.returns-then-a-le48
returns-then-a-le48 c = first_low c.args.a c.args.b c.if-a-le48.true

pub returns-then-a-gt57 : goal.returns-then-a-gt57
returns-then-a-gt57 c = first_high c.args.a c.args.b c.if-a-le48.false c.if-a-gt57.true

pub returns-then-b-lt48 : goal.returns-then-b-lt48
returns-then-b-lt48 c = second_low c.args.a c.args.b c.if-a-le48.false c.if-a-gt57.false c.if-b-lt48.true

pub returns-then-b-gt57 : goal.returns-then-b-gt57
returns-then-b-gt57 c = second_high c.args.a c.args.b c.if-a-le48.false c.if-a-gt57.false c.if-b-lt48.false c.if-b-gt57.true

pub returns-then-is_short : goal.returns-then-is_short
returns-then-is_short c = two_kind c.args.a c.args.b c.if-a-le48.false c.if-a-gt57.false c.if-b-lt48.false c.if-b-gt57.false _ (ap₂ (λ (x y : ℕ). x * 10 + y) c.wide.ensures.0 c.wide-2.ensures.0) _ c.is_short.ensures c.if-is_short.true

pub returns : goal.returns
returns c = other_kind c.args.a c.args.b c.if-a-le48.false c.if-a-gt57.false c.if-b-lt48.false c.if-b-gt57.false _ (ap₂ (λ (x y : ℕ). x * 10 + y) c.wide.ensures.0 c.wide-2.ensures.0) _ c.is_short.ensures c.if-is_short.false
