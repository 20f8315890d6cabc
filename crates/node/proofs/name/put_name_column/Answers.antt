-- `put_name_column` meets its contract: `~` is the one column that is written otherwise. Assumes nothing.
use mathlib.Core.Path.{◌≡◌, sym, ◌∙◌}
use mathlib.Core.Bool.{true, false}
use native.Mathlib.Omega.{arith}
use Rattle.sheets.specs.Bytes.{same}
use Rattle.sheets.specs.FieldSheet.{no_text}
use Rattle.node.proofs.NameLaws.{null_column, name_kept, null_length}
use Rattle.node.proofs.name.put_name_column.Goals as goal

pub put_at-requires : goal.put_at-requires
put_at-requires c =
    let name = c.args.name.now in
    let e : same name no_text ≡ true = sym c.same.ensures ∙ c.if-same.true in
    omega (arith, null_length name e)

pub returns-then-same : goal.returns-then-same
returns-then-same c =
    let name = c.args.name.now in
    let e : same name no_text ≡ true = sym c.same.ensures ∙ c.if-same.true in
    rw (null_column name e) c.put_at.ensures

pub returns : goal.returns
returns c =
    let name = c.args.name.now in
    let e : same name no_text ≡ false = sym c.same.ensures ∙ c.if-same.false in
    rw (name_kept name e) c.put_column.ensures
