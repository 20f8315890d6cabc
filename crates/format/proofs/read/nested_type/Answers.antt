-- `nested_type` meets its contract: each arm is a case of `named_format`. Assumes nothing.
use mathlib.Core.Path.{◌≡◌, sym, ap}
use mathlib.Core.Bool.{true, ◌||◌}
use Prim.Native.Nat.{ℕ}
use lib.Dec.{eqb}
use borrow.Author.Tests.{eqb-true, ne_eqb}
use Rattle.sheets.specs.Kind
use Rattle.sheets.specs.FixedNames.{is_nested, named_format}
use Rattle.format_names.proofs.NameLaws.{or_right}
use Rattle.format.proofs.read.nested_type.Goals as goal

-- a type with children that is no list and no map is a struct
last_nested : (k : ℕ) → is_nested k ≡ true → (k ≡ Kind.List → ⊥) → (k ≡ Kind.LargeList → ⊥) → (k ≡ Kind.Map → ⊥) → k ≡ Kind.Struct
last_nested k h p q r =
    eqb-true k Kind.Struct
    (or_right (eqb k Kind.Map) (eqb k Kind.Struct) (ne_eqb k Kind.Map r)
    (or_right (eqb k Kind.LargeList) (eqb k Kind.Map || eqb k Kind.Struct) (ne_eqb k Kind.LargeList q)
    (or_right (eqb k Kind.List) (eqb k Kind.LargeList || (eqb k Kind.Map || eqb k Kind.Struct)) (ne_eqb k Kind.List p) h)))

pub returns-in-27 : goal.returns-in-27
returns-in-27 c = ap (λ (k : ℕ). named_format c.args.sorted k 0) (sym c.in-27.is)

pub returns-in-29 : goal.returns-in-29
returns-in-29 c = ap (λ (k : ℕ). named_format c.args.sorted k 0) (sym c.in-29.is)

pub returns-in-31 : goal.returns-in-31
returns-in-31 c = ap (λ (k : ℕ). named_format c.args.sorted k 0) (sym c.in-31.is)

pub returns-in_default : goal.returns-in_default
returns-in_default c =
    let no = c.in_default.in_default-own.rest in
    ap (λ (k : ℕ). named_format c.args.sorted k 0) (sym (last_nested c.args.kind c.requires no.0.0.1 no.0.1 no.1))
