-- `put_kind_line` meets its contract: numbers, columns and the line's end one after the other. Assumes nothing.
use native.Mathlib.Omega.{arith}
use Rattle.mapping_line.proofs.PutLaws.{columns_short, numbers_short, put_kind}
use borrow.Author.Rules.{rules}
use Rattle.mapping_line.proofs.put.put_kind_line.Goals as goal

pub put_columns-children-requires : goal.put_columns-children-requires
put_columns-children-requires c = record { columns = c.requires.columns; few = omega (arith, c.requires.short, c.put_numbers-first.ensures.0, numbers_short c.args.kind (search rules)) }

pub put_end-requires : goal.put_end-requires
put_end-requires c = omega (arith, c.requires.short, c.put_columns-children.ensures.0, columns_short c.args.s.now c.args.own, c.put_numbers-first.ensures.0, numbers_short c.args.kind (search rules))

pub returns : goal.returns
returns c = put_kind c.requires c.args.kind (search rules) c.args.out.now c.put_numbers-first.ensures c.put_columns-children.ensures c.put_end.ensures
