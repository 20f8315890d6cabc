-- `line_flags` meets its contract: by the test of nullable. Assumes nothing.
use mathlib.Core.Path.{sym, ap, ◌∙◌}
use mathlib.Core.Bool.{Bool}
use Prim.Native.Nat.{ℕ, ◌+◌}
use native.Mathlib.Omega.{arith}
use native.Mathlib.Nat.{zero-add}
use Rattle.sheets.specs.Export.{flag}
use Rattle.put_schema_line.specs.Lines.{other_flags}
use Rattle.put_schema_line.proofs.LineLaws.{other_small}
use Rattle.put_schema_line.proofs.line_flags.Goals as goal

pub overflow_add-result : goal.overflow_add-result
overflow_add-result c =
    let a = c.args in
    omega (arith, c.other_flags-other.ensures, other_small a.kind a.p a.q)

pub returns-then-nullable : goal.returns-then-nullable
returns-then-nullable c =
    let a = c.args in
    ap (λ (x : ℕ). 2 + x) c.other_flags-other.ensures ∙ ap (λ (b : Bool). flag b 2 + other_flags a.kind a.p a.q) (sym c.if-nullable.true)

pub returns : goal.returns
returns c =
    let a = c.args in
    c.other_flags-other.ensures ∙ sym (zero-add (other_flags a.kind a.p a.q)) ∙ ap (λ (b : Bool). flag b 2 + other_flags a.kind a.p a.q) (sym c.if-nullable.false)
