-- `numbers_with` meets its contract: the flags are those of the line. Assumes nothing.
use mathlib.Core.Path.{ap}
use Prim.Native.Nat.{ℕ}
use Rattle.put_schema_line.specs.declared.LineNumbers.{LineNumbers}
use Rattle.export_line.proofs.numbers_with.Goals as goal

pub returns : goal.returns
returns c =
    let a = c.args in
    let f : ℕ → LineNumbers = λ x. record { kind = a.kind; p = a.p; q = a.q; flags = x; children = a.children; dictionary = a.dictionary; big = a.big } in
    ap f c.line_flags.ensures
