-- `to_physical_type` meets its contract: in each arm the kind is the pattern, and the definition computes there; in `_` it is primitive or has no
-- physical type. Assumes nothing.
use mathlib.Core.Path.{sym, ap, ◌∙◌}
use Prim.Native.Nat.{ℕ}
use Rattle.sheets.specs.Mappings.{leaf_rows}
use Rattle.datatypes.specs.Physical.{kind_physical}
use Rattle.datatypes.proofs.PhysicalLaws.{or_primitive}
use Rattle.datatypes.proofs.to_physical_type.to_physical_type.Goals as goal

pub returns-in-0 : goal.returns-in-0
unfolding leaf_rows
returns-in-0 c = sym (ap (λ (k : ℕ). kind_physical k c.args.p) c.in-0.is)

pub returns-in-1 : goal.returns-in-1
unfolding leaf_rows
returns-in-1 c = sym (ap (λ (k : ℕ). kind_physical k c.args.p) c.in-1.is)

pub returns-in-22 : goal.returns-in-22
unfolding leaf_rows
returns-in-22 c = sym (ap (λ (k : ℕ). kind_physical k c.args.p) c.in-22.is)

pub returns-in-23 : goal.returns-in-23
unfolding leaf_rows
returns-in-23 c = sym (ap (λ (k : ℕ). kind_physical k c.args.p) c.in-23.is)

pub returns-in-24 : goal.returns-in-24
unfolding leaf_rows
returns-in-24 c = sym (ap (λ (k : ℕ). kind_physical k c.args.p) c.in-24.is)

pub returns-in-25 : goal.returns-in-25
unfolding leaf_rows
returns-in-25 c = sym (ap (λ (k : ℕ). kind_physical k c.args.p) c.in-25.is)

pub returns-in-26 : goal.returns-in-26
unfolding leaf_rows
returns-in-26 c = sym (ap (λ (k : ℕ). kind_physical k c.args.p) c.in-26.is)

pub returns-in-27 : goal.returns-in-27
unfolding leaf_rows
returns-in-27 c = sym (ap (λ (k : ℕ). kind_physical k c.args.p) c.in-27.is)

pub returns-in-28 : goal.returns-in-28
unfolding leaf_rows
returns-in-28 c = sym (ap (λ (k : ℕ). kind_physical k c.args.p) c.in-28.is)

pub returns-in-29 : goal.returns-in-29
unfolding leaf_rows
returns-in-29 c = sym (ap (λ (k : ℕ). kind_physical k c.args.p) c.in-29.is)

pub returns-in-30 : goal.returns-in-30
unfolding leaf_rows
returns-in-30 c = sym (ap (λ (k : ℕ). kind_physical k c.args.p) c.in-30.is)

pub returns-in-41 : goal.returns-in-41
unfolding leaf_rows
returns-in-41 c = sym (ap (λ (k : ℕ). kind_physical k c.args.p) c.in-41.is)

pub returns-in-31 : goal.returns-in-31
unfolding leaf_rows
returns-in-31 c = sym (ap (λ (k : ℕ). kind_physical k c.args.p) c.in-31.is)

pub returns-in-38 : goal.returns-in-38
unfolding leaf_rows
returns-in-38 c = sym (ap (λ (k : ℕ). kind_physical k c.args.p) c.in-38.is)

pub returns-in-39 : goal.returns-in-39
unfolding leaf_rows
returns-in-39 c = sym (ap (λ (k : ℕ). kind_physical k c.args.p) c.in-39.is)

pub returns-in-32 : goal.returns-in-32
unfolding leaf_rows
returns-in-32 c = c.dictionary_physical.ensures ∙ sym (ap (λ (k : ℕ). kind_physical k c.args.p) c.in-32.is)

pub returns-in_default : goal.returns-in_default
returns-in_default c = c.primitive_physical.ensures ∙ or_primitive c.args.kind c.args.p c.in_default.in_default-own.rest
