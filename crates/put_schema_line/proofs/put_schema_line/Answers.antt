-- `put_schema_line` meets its contract: the parts that are cut out are the columns. Assumes nothing.
use mathlib.Core.Path.{sym}
use Rattle.put_schema_line.specs.Lines.{CanPutColumns, PutsColumns}
use Rattle.put_schema_line.proofs.LineLaws.{moved}
use Rattle.put_schema_line.proofs.put_schema_line.Goals as goal

pub put_columns-requires : goal.put_columns-requires
put_columns-requires c =
    let a = c.args in
    moved (CanPutColumns a.n) (sym c.cut-text.ensures) (sym c.cut-name.ensures) (sym c.cut-pairs.ensures) (sym c.cut-extension.ensures) (sym c.cut-more.ensures) c.requires.columns

pub returns : goal.returns
returns c =
    let a = c.args in
    let q = c.put_columns in
    moved (λ t x y z u. PutsColumns a.n t x y z u q.result a.out.now q.new.out) c.cut-text.ensures c.cut-name.ensures c.cut-pairs.ensures c.cut-extension.ensures c.cut-more.ensures q.ensures
