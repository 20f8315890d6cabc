-- `put_columns` meets its contract: a part is copied, or `~ ~ ~ ` written. Assumes nothing.
use Rattle.std.specs.Prelude.{Option}
use mathlib.Core.Path.{sym, subst}
use native.Mathlib.Omega.{arith}
use Rattle.buffer.specs.Over.{PutAt}
use Rattle.mapping_line.specs.PutLines.{HasColumns, columns_text}
use Rattle.mapping_line.proofs.put.put_columns.Goals as goal
use Rattle.columns.specs.declared.Part.{Part}

pub copy-requires : goal.copy-requires
copy-requires c = (subst (HasColumns c.args.s.now) c.in-Some.is c.requires.columns, omega (arith, c.requires.few))

pub returns-in-Some : goal.returns-in-Some
returns-in-Some c =
    let a = c.args in
    subst (λ (y : Option Part). PutAt a.at (columns_text a.s.now y) c.copy.result a.out.now c.copy.new.out) (sym c.in-Some.is) c.copy.ensures

pub returns-in-None : goal.returns-in-None
returns-in-None c =
    let a = c.args in
    subst (λ (y : Option Part). PutAt a.at (columns_text a.s.now y) c.put_bare.result a.out.now c.put_bare.new.out) (sym c.in-None.is) c.put_bare.ensures
