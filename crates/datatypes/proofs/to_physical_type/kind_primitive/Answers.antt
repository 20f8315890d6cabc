-- `kind_primitive` meets its contract: in each arm the kind is one of the patterns, and the definition computes at each of them; in `_` it is not
-- primitive. Assumes nothing.
use mathlib.Core.Path.{refl, sym, ap, ◌∙◌}
use mathlib.Core.List.{[], ◌∷◌}
use Prim.Native.Nat.{ℕ}
use Rattle.sheets.specs.Answer.{given}
use Rattle.sheets.specs.Kind
use Rattle.sheets.specs.Mappings.{leaf_rows}
use Rattle.datatypes.specs.Physical.{primitive_only}
use Rattle.datatypes.proofs.AtLaws.{at_arm}
use Rattle.datatypes.proofs.PhysicalLaws.{not_primitive}
use Rattle.datatypes.proofs.to_physical_type.kind_primitive.Goals as goal

pub returns-in-2 : goal.returns-in-2
unfolding leaf_rows
returns-in-2 c = sym (ap (λ (k : ℕ). primitive_only k c.args.p) c.in-2.is)

pub returns-in-3 : goal.returns-in-3
unfolding leaf_rows
returns-in-3 c = sym (ap (λ (k : ℕ). primitive_only k c.args.p) c.in-3.is)

pub returns-in-4 : goal.returns-in-4
unfolding leaf_rows
returns-in-4 c = sym (at_arm (λ (k : ℕ). primitive_only k c.args.p) _ (Kind.Int32 ∷ Kind.Date32 ∷ Kind.Time32 ∷ Kind.Decimal32 ∷ []) (refl, (refl, (refl, (refl, tt)))) c.args.kind c.in-4.is)

pub returns-in-5 : goal.returns-in-5
unfolding leaf_rows
returns-in-5 c = sym (at_arm (λ (k : ℕ). primitive_only k c.args.p) _ (Kind.Int64 ∷ Kind.Timestamp ∷ Kind.Date64 ∷ Kind.Time64 ∷ Kind.Decimal64 ∷ []) (refl, (refl, (refl, (refl, (refl, tt))))) c.args.kind c.in-5.is)

pub returns-in-20 : goal.returns-in-20
unfolding leaf_rows
returns-in-20 c = sym (ap (λ (k : ℕ). primitive_only k c.args.p) c.in-20.is)

pub returns-in-6 : goal.returns-in-6
unfolding leaf_rows
returns-in-6 c = sym (at_arm (λ (k : ℕ). primitive_only k c.args.p) _ (Kind.Int128 ∷ Kind.Decimal ∷ []) (refl, (refl, tt)) c.args.kind c.in-6.is)

pub returns-in-36 : goal.returns-in-36
unfolding leaf_rows
returns-in-36 c = sym (ap (λ (k : ℕ). primitive_only k c.args.p) c.in-36.is)

pub returns-in-7 : goal.returns-in-7
unfolding leaf_rows
returns-in-7 c = sym (ap (λ (k : ℕ). primitive_only k c.args.p) c.in-7.is)

pub returns-in-8 : goal.returns-in-8
unfolding leaf_rows
returns-in-8 c = sym (ap (λ (k : ℕ). primitive_only k c.args.p) c.in-8.is)

pub returns-in-9 : goal.returns-in-9
unfolding leaf_rows
returns-in-9 c = sym (ap (λ (k : ℕ). primitive_only k c.args.p) c.in-9.is)

pub returns-in-10 : goal.returns-in-10
unfolding leaf_rows
returns-in-10 c = sym (ap (λ (k : ℕ). primitive_only k c.args.p) c.in-10.is)

pub returns-in-11 : goal.returns-in-11
unfolding leaf_rows
returns-in-11 c = sym (ap (λ (k : ℕ). primitive_only k c.args.p) c.in-11.is)

pub returns-in-12 : goal.returns-in-12
unfolding leaf_rows
returns-in-12 c = sym (ap (λ (k : ℕ). primitive_only k c.args.p) c.in-12.is)

pub returns-in-13 : goal.returns-in-13
unfolding leaf_rows
returns-in-13 c = sym (ap (λ (k : ℕ). primitive_only k c.args.p) c.in-13.is)

pub returns-in-14 : goal.returns-in-14
unfolding leaf_rows
returns-in-14 c = sym (ap (λ (k : ℕ). primitive_only k c.args.p) c.in-14.is)

pub returns-in-21 : goal.returns-in-21
unfolding leaf_rows
returns-in-21 c = ap given c.interval_primitive.ensures ∙ sym (ap (λ (k : ℕ). primitive_only k c.args.p) c.in-21.is)

pub returns-in_default : goal.returns-in_default
returns-in_default c = sym (not_primitive c.args.kind c.args.p c.in_default.in_default-own.rest)
