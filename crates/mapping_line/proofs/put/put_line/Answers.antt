-- `put_line` meets its contract: the line stands as it is, or its parts are copied. Assumes nothing.
use mathlib.Core.Path.{sym, subst, ◌∙◌}
use native.Mathlib.Omega.{arith}
use Rattle.columns.specs.Columns.{part}
use Rattle.columns.specs.declared.Part.{Part}
use Rattle.buffer.specs.Over.{PutAt}
use Rattle.mapping_line.specs.PutLines.{HasPart}
use Rattle.mapping_line.proofs.PutLaws.{type_there, last_there, part_short, columns_short, put_whole, put_parts}
use Rattle.mapping_line.proofs.put.put_line.Goals as goal

pub returns-then-is_own : goal.returns-then-is_own
returns-then-is_own c = put_whole c.requires (sym c.is_own.ensures ∙ c.if-is_own.true) _ _ c.put.ensures

pub copy-first-requires : goal.copy-first-requires
copy-first-requires c = (subst (HasPart c.args.s.now) (sym c.between.ensures) (type_there c.requires.line), omega (arith, c.requires.short))

pub put_columns-children-requires : goal.put_columns-children-requires
put_columns-children-requires c = record { columns = c.requires.columns; few = omega (arith, c.requires.short, c.copy-first.ensures.0, part_short c.args.s.now c.between.result.start c.between.result.end) }

pub copy-requires : goal.copy-requires
copy-requires c = (
  subst (HasPart c.args.s.now) (sym c.between-2.ensures) (last_there c.requires.line),
  omega (arith, c.requires.short, c.put_columns-children.ensures.0, columns_short c.args.s.now c.args.own, c.copy-first.ensures.0, part_short c.args.s.now c.between.result.start c.between.result.end),
)

pub returns : goal.returns
returns c =
    let s = c.args.s.now in
    put_parts c.requires c.args.out.now
    (subst (λ (y : Part). PutAt 0 (part s y.start y.end) c.copy-first.result c.args.out.now c.copy-first.new.out) c.between.ensures c.copy-first.ensures)
    c.put_columns-children.ensures
    (subst (λ (y : Part). PutAt c.put_columns-children.result (part s y.start y.end) c.copy.result c.put_columns-children.new.out c.copy.new.out) c.between-2.ensures c.copy.ensures)
