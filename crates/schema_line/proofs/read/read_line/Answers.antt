-- `read::read_line` meets its contract: each column that is not there has its law, and so has the line whose columns are all there.
-- Assumes nothing.
use mathlib.Core.Path.{sym, ap, ◌∙◌}
use native.Mathlib.Omega.{arith}
use mir.Facts.{to_z-of_z}
use mir.Syntax.{w64}
use mir.Val.{SFits}
use Rattle.schema_line.proofs.WalkLaws.{format_ends, name_ends, flags_ends, flags_small, metadata_ends, children_end, dictionary_ends, no_format, no_name, no_flags_lem, no_metadata, no_children, no_dictionary, two_dictionaries, line_found}
use Rattle.sheets.specs.Answer.{found}
use Rattle.sheets.specs.Refusal.{bad_lines}
use Rattle.schema_line.proofs.read.read_line.Goals as goal

pub returns-in_err-format : goal.returns-in_err-format
returns-in_err-format c =
    let a = c.args in
    rw c.from_residual.ensures (sym (no_format a.s.now a.at (sym c.in_err-format.ensures)))

pub overflow_add-format : goal.overflow_add-format
overflow_add-format c =
    let a = c.args in
    omega (arith, format_ends a.s.now a.at (sym c.in_ok-format.ensures))

pub returns-in_err-name : goal.returns-in_err-name
returns-in_err-name c =
    let a = c.args in
    rw c.from_residual-in_err-name.ensures (sym (no_name a.s.now a.at (sym c.in_ok-format.ensures) (sym c.in_err-name.ensures)))

pub overflow_add-name : goal.overflow_add-name
overflow_add-name c =
    let a = c.args in
    omega (arith, name_ends a.s.now a.at (sym c.in_ok-format.ensures) (sym c.in_ok-name.ensures))

pub returns-in_err-flags : goal.returns-in_err-flags
returns-in_err-flags c =
    let a = c.args in
    rw c.from_residual-in_err-flags.ensures (sym (no_flags_lem a.s.now a.at (sym c.in_ok-format.ensures) (sym c.in_ok-name.ensures) (sym c.in_err-flags.ensures)))

pub overflow_add-flags_end : goal.overflow_add-flags_end
overflow_add-flags_end c =
    let a = c.args in
    omega (arith, flags_ends a.s.now a.at (sym c.in_ok-format.ensures) (sym c.in_ok-name.ensures) (sym c.in_ok-flags.ensures))

pub returns-in_err-metadata : goal.returns-in_err-metadata
returns-in_err-metadata c =
    let a = c.args in
    rw c.from_residual-in_err-metadata.ensures (sym (no_metadata a.s.now a.at (sym c.in_ok-format.ensures) (sym c.in_ok-name.ensures) (sym c.in_ok-flags.ensures) (sym c.in_err-metadata.ensures)))

pub overflow_add-metadata : goal.overflow_add-metadata
overflow_add-metadata c =
    let a = c.args in
    omega (arith, metadata_ends a.s.now a.at (sym c.in_ok-format.ensures) (sym c.in_ok-name.ensures) (sym c.in_ok-flags.ensures) (sym c.in_ok-metadata.ensures))

pub returns-in_err-children : goal.returns-in_err-children
returns-in_err-children c =
    let a = c.args in
    rw c.from_residual-in_err-children.ensures (sym (no_children a.s.now a.at (sym c.in_ok-format.ensures) (sym c.in_ok-name.ensures) (sym c.in_ok-flags.ensures) (sym c.in_ok-metadata.ensures) (sym c.in_err-children.ensures)))

pub overflow_add-children_end : goal.overflow_add-children_end
overflow_add-children_end c =
    let a = c.args in
    omega (arith, children_end a.s.now a.at (sym c.in_ok-format.ensures) (sym c.in_ok-name.ensures) (sym c.in_ok-flags.ensures) (sym c.in_ok-metadata.ensures) (sym c.in_ok-children.ensures))

pub returns-in_err-dictionary : goal.returns-in_err-dictionary
returns-in_err-dictionary c =
    let a = c.args in
    rw c.from_residual-in_err-dictionary.ensures (sym (no_dictionary a.s.now a.at (sym c.in_ok-format.ensures) (sym c.in_ok-name.ensures) (sym c.in_ok-flags.ensures) (sym c.in_ok-metadata.ensures) (sym c.in_ok-children.ensures) (sym c.in_err-dictionary.ensures)))

pub returns-then-dictionary-gt1 : goal.returns-then-dictionary-gt1
returns-then-dictionary-gt1 c =
    let a = c.args in
    sym (two_dictionaries a.s.now a.at (sym c.in_ok-format.ensures) (sym c.in_ok-name.ensures) (sym c.in_ok-flags.ensures) (sym c.in_ok-metadata.ensures) (sym c.in_ok-children.ensures) (sym c.in_ok-dictionary.ensures) c.if-dictionary-gt1.true)

pub overflow_add-format-2 : goal.overflow_add-format-2
overflow_add-format-2 c =
    let a = c.args in
    omega (arith, format_ends a.s.now a.at (sym c.in_ok-format.ensures))

pub overflow_add-flags_end-2 : goal.overflow_add-flags_end-2
overflow_add-flags_end-2 c =
    let a = c.args in
    omega (arith, flags_ends a.s.now a.at (sym c.in_ok-format.ensures) (sym c.in_ok-name.ensures) (sym c.in_ok-flags.ensures))

pub overflow_add-result : goal.overflow_add-result
overflow_add-result c =
    let a = c.args in
    omega (arith, dictionary_ends a.s.now a.at (sym c.in_ok-format.ensures) (sym c.in_ok-name.ensures) (sym c.in_ok-flags.ensures) (sym c.in_ok-metadata.ensures) (sym c.in_ok-children.ensures) (sym c.in_ok-dictionary.ensures))

pub returns : goal.returns
returns c =
    let a = c.args in
    let f : SFits w64 c.in_ok-flags.flags = record { sfits = flags_small a.s.now a.at (sym c.in_ok-format.ensures) (sym c.in_ok-name.ensures) (sym c.in_ok-flags.ensures) } in
    rw (to_z-of_z f, c.between.ensures, c.between-2.ensures, c.between-3.ensures)
    (sym (line_found a.s.now a.at (sym c.in_ok-format.ensures) (sym c.in_ok-name.ensures) (sym c.in_ok-flags.ensures) (sym c.in_ok-metadata.ensures) (sym c.in_ok-children.ensures) (sym c.in_ok-dictionary.ensures) c.if-dictionary-gt1.false))
