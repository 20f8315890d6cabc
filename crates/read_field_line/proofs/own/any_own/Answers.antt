-- `own::any_own` meets its contract: each column that is not there has its law. Assumes nothing.
use mathlib.Core.Path.{refl}
use Prim.Native.Nat.{◌+◌}
use native.Mathlib.Omega.{arith}
use Rattle.field_columns.specs.FieldColumns.{is_content}
use Rattle.field_columns.specs.declared.Content.TheVariants as C
use Rattle.read_field_line.proofs.StageLaws.{column_told, name_bad, flag_bad, pairs_bad, own_there}
use Rattle.read_field_line.proofs.own.any_own.Goals as goal

pub returns-in_err-name : goal.returns-in_err-name
returns-in_err-name c = rw c.from_residual.ensures ((refl, λ y rest w. name_bad w (column_told (is_content C.OptionalText) c.args.s.now c.args.at c.in_err-name.was c.content_column.ensures)))

pub slice_bounds-is_nothing-count : goal.slice_bounds-is_nothing-count
slice_bounds-is_nothing-count c = (column_told (is_content C.OptionalText) c.args.s.now c.args.at c.in_ok-name.was c.content_column.ensures).0.low

pub slice_bounds-is_nothing-start : goal.slice_bounds-is_nothing-start
slice_bounds-is_nothing-start c = omega (arith, (column_told (is_content C.OptionalText) c.args.s.now c.args.at c.in_ok-name.was c.content_column.ensures).0.low, (column_told (is_content C.OptionalText) c.args.s.now c.args.at c.in_ok-name.was c.content_column.ensures).0.high)

pub slice_bounds-is_nothing-end : goal.slice_bounds-is_nothing-end
slice_bounds-is_nothing-end c = omega (arith, (column_told (is_content C.OptionalText) c.args.s.now c.args.at c.in_ok-name.was c.content_column.ensures).0.low, (column_told (is_content C.OptionalText) c.args.s.now c.args.at c.in_ok-name.was c.content_column.ensures).0.high)

pub overflow_add-start : goal.overflow_add-start
overflow_add-start c = omega (arith, (column_told (is_content C.OptionalText) c.args.s.now c.args.at c.in_ok-name.was c.content_column.ensures).0.high)

pub returns-in_err-flag : goal.returns-in_err-flag
returns-in_err-flag c = rw c.from_residual-in_err-flag.ensures ((refl, λ y rest w. flag_bad w (column_told (is_content C.OptionalText) c.args.s.now c.args.at c.in_ok-name.was c.content_column.ensures).0 _ c.is_nothing-bare.ensures _ c.flag_content.ensures (column_told (is_content c.flag_content.result) c.args.s.now (c.in_ok-name.name + 1) c.in_err-flag.was c.content_column-2.ensures)))

pub overflow_add-flag : goal.overflow_add-flag
overflow_add-flag c = omega (arith, (column_told (is_content c.flag_content.result) c.args.s.now (c.in_ok-name.name + 1) c.in_ok-flag.was c.content_column-2.ensures).0.high)

pub returns-in_err-pairs : goal.returns-in_err-pairs
returns-in_err-pairs c = rw c.from_residual-in_err-pairs.ensures ((refl, λ y rest w. pairs_bad w (column_told (is_content C.OptionalText) c.args.s.now c.args.at c.in_ok-name.was c.content_column.ensures).0 _ c.is_nothing-bare.ensures (column_told (is_content c.flag_content.result) c.args.s.now (c.in_ok-name.name + 1) c.in_ok-flag.was c.content_column-2.ensures).0 _ c.pairs_content.ensures (column_told (is_content c.pairs_content.result) c.args.s.now (c.in_ok-flag.flag + 1) c.in_err-pairs.was c.content_column-3.ensures)))

pub bounds-s-start : goal.bounds-s-start
bounds-s-start c = omega (arith, (column_told (is_content c.flag_content.result) c.args.s.now (c.in_ok-name.name + 1) c.in_ok-flag.was c.content_column-2.ensures).0.low, (column_told (is_content c.flag_content.result) c.args.s.now (c.in_ok-name.name + 1) c.in_ok-flag.was c.content_column-2.ensures).0.high)

pub overflow_add-flag-2 : goal.overflow_add-flag-2
overflow_add-flag-2 c = omega (arith, (column_told (is_content c.flag_content.result) c.args.s.now (c.in_ok-name.name + 1) c.in_ok-flag.was c.content_column-2.ensures).0.high)

pub returns : goal.returns
returns c =
    rw (c.between.ensures, c.between-2.ensures)
    (own_there (column_told (is_content C.OptionalText) c.args.s.now c.args.at c.in_ok-name.was c.content_column.ensures).0 (column_told (is_content C.OptionalText) c.args.s.now c.args.at c.in_ok-name.was c.content_column.ensures).1 _ c.is_nothing-bare.ensures _ _ c.flag_content.ensures c.pairs_content.ensures (column_told (is_content c.flag_content.result) c.args.s.now (c.in_ok-name.name + 1) c.in_ok-flag.was c.content_column-2.ensures).0 (column_told (is_content c.flag_content.result) c.args.s.now (c.in_ok-name.name + 1) c.in_ok-flag.was c.content_column-2.ensures).1 (column_told (is_content c.pairs_content.result) c.args.s.now (c.in_ok-flag.flag + 1) c.in_ok-pairs.was c.content_column-3.ensures).0 (column_told (is_content c.pairs_content.result) c.args.s.now (c.in_ok-flag.flag + 1) c.in_ok-pairs.was c.content_column-3.ensures).1)
