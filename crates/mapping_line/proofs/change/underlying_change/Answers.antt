-- `underlying_change` meets its contract: in each arm the kind is one of the patterns, and the definition computes at each of them. Assumes nothing.
use mathlib.Core.Path.{refl, sym, ap, ◌∙◌}
use mathlib.Core.List.{[], ◌∷◌}
use Prim.Native.Nat.{ℕ}
use native.Mathlib.Omega.{arith}
use Rattle.sheets.specs.Kind
use Rattle.datatypes.proofs.AtLaws.{at_arm}
use Rattle.mapping_line.specs.Changes.{underlying_kind}
use Rattle.mapping_line.proofs.ChangeLaws.{kind_stays}
use Rattle.mapping_line.proofs.change.underlying_change.Goals as goal

pub overflow_add-result : goal.overflow_add-result
overflow_add-result c = omega (arith, c.requires c.in-32.is)

pub returns-in-16 : goal.returns-in-16
returns-in-16 c = sym (at_arm (λ (k : ℕ). underlying_kind k c.args.p) _ (Kind.Date32 ∷ Kind.Time32 ∷ Kind.Decimal32 ∷ []) (refl, (refl, (refl, tt))) c.args.kind c.in-16.is)

pub returns-in-15 : goal.returns-in-15
returns-in-15 c = sym (at_arm (λ (k : ℕ). underlying_kind k c.args.p) _ (Kind.Timestamp ∷ Kind.Date64 ∷ Kind.Time64 ∷ Kind.Decimal64 ∷ []) (refl, (refl, (refl, (refl, tt)))) c.args.kind c.in-15.is)

pub returns-in-20 : goal.returns-in-20
returns-in-20 c = ap (λ (k : ℕ). underlying_kind k c.args.p) (sym c.in-20.is)

pub returns-in-33 : goal.returns-in-33
returns-in-33 c = ap (λ (k : ℕ). underlying_kind k c.args.p) (sym c.in-33.is)

pub returns-in-21 : goal.returns-in-21
returns-in-21 c = c.interval_change.ensures ∙ ap (λ (k : ℕ). underlying_kind k c.args.p) (sym c.in-21.is)

pub returns-in-32 : goal.returns-in-32
returns-in-32 c = ap (λ (k : ℕ). underlying_kind k c.args.p) (sym c.in-32.is)

pub returns-in-31 : goal.returns-in-31
returns-in-31 c = sym (at_arm (λ (k : ℕ). underlying_kind k c.args.p) _ (Kind.Map ∷ Kind.Decimal256 ∷ Kind.Union ∷ []) (refl, (refl, (refl, tt))) c.args.kind c.in-31.is)

pub returns-in_default : goal.returns-in_default
returns-in_default c = kind_stays c.args.kind c.args.p c.in_default.in_default-own.rest
