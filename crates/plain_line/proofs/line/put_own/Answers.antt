-- `put_own` meets its contract: a chain of three writes. Assumes nothing.
use mathlib.Core.Path.{sym, ◌∙◌}
use mathlib.Core.List.{[], ◌∷◌, ◌++◌}
use native.Mathlib.Omega.{arith}
use Rattle.sheets.specs.Number.{decimal}
use Rattle.sheets.specs.FieldSheet.{no_text}
use Rattle.buffer.proofs.OverLaws.{none_yet, and_then}
use Rattle.field_line.specs.Columns.{column, own_piece}
use Rattle.field_line.proofs.ColumnLaws.{put_same}
use Rattle.field_line.proofs.LengthLaws.{column_length_lem, number_short}
use Rattle.plain_line.specs.PlainLines.{column_in, own_text}
use Rattle.plain_line.proofs.LineLaws.{part_short, own_bare, own_none, own_listed}
use Rattle.plain_line.proofs.line.put_own.Goals as goal

pub put_bare-requires : goal.put_bare-requires
put_bare-requires c = omega (arith, c.requires.2)

pub returns-then-l : goal.returns-then-l
returns-then-l c =
    let a = c.args in
    put_same a.at a.out.now (own_piece no_text no_text no_text) (own_text a.s.now a.l) (own_bare a.s.now a.l c.if-l.true) c.put_bare.ensures

pub put_column-flag-requires : goal.put_column-flag-requires
put_column-flag-requires c = (c.requires.0, omega (arith, c.requires.2))

pub put_number-last-requires : goal.put_number-last-requires
put_number-last-requires c =
    let a = c.args in
    omega (arith, c.requires.2, c.put_column-flag.ensures.0, column_length_lem (column_in a.s.now a.l.name), part_short a.s.now a.l.name)

pub put_at-requires : goal.put_at-requires
put_at-requires c =
    let a = c.args in
    let n = c.flag in
    omega (arith, c.requires.2, c.put_column-flag.ensures.0, column_length_lem (column_in a.s.now a.l.name), part_short a.s.now a.l.name, c.put_number-last.ensures.0, number_short n.result (omega arith))

pub returns-then-is_column : goal.returns-then-is_column
returns-then-is_column c =
    let a = c.args in
    let n = c.flag in
    let w = and_then (126 ∷ 32 ∷ []) (and_then (column (decimal n.result)) (and_then (column (column_in a.s.now a.l.name)) (none_yet a.at a.out.now) c.put_column-flag.ensures) c.put_number-last.ensures) c.put_at.ensures in
    put_same a.at a.out.now ((column (column_in a.s.now a.l.name) ++ column (decimal n.result)) ++ (126 ∷ 32 ∷ [])) (own_text a.s.now a.l) (own_none a.s.now a.l n.result c.if-l.false n.ensures (sym c.is_column.ensures ∙ c.if-is_column.true)) (w.place, w.holds)

pub put_column-requires : goal.put_column-requires
put_column-requires c =
    let a = c.args in
    let n = c.flag in
    (c.requires.1, omega (arith, c.requires.2, c.put_column-flag.ensures.0, column_length_lem (column_in a.s.now a.l.name), part_short a.s.now a.l.name, c.put_number-last.ensures.0, number_short n.result (omega arith)))

pub returns : goal.returns
returns c =
    let a = c.args in
    let n = c.flag in
    let w = and_then (column (column_in a.s.now a.l.pairs)) (and_then (column (decimal n.result)) (and_then (column (column_in a.s.now a.l.name)) (none_yet a.at a.out.now) c.put_column-flag.ensures) c.put_number-last.ensures) c.put_column.ensures in
    put_same a.at a.out.now ((column (column_in a.s.now a.l.name) ++ column (decimal n.result)) ++ column (column_in a.s.now a.l.pairs)) (own_text a.s.now a.l) (own_listed a.s.now a.l n.result c.if-l.false n.ensures (sym c.is_column.ensures ∙ c.if-is_column.false)) (w.place, w.holds)
