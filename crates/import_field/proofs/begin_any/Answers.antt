-- `begin_any` meets its contract: the line is read, its own lines are written, and what its type visits stands next (`OwnLaws`). Assumes nothing.
use mathlib.Core.Path.{refl, sym, ap, ◌∙◌}
use Prim.Native.Nat.{◌^◌, ◌<◌}
use native.Mathlib.Omega.{arith}
use lib.ListN.{length}
use Rattle.buffer.proofs.OverLaws.{length_lent}
use Rattle.schema_line.proofs.KnownLaws.{line_told}
use Rattle.refusal.specs.declared.Refusal.TheVariants.{BadLines}
use Rattle.refusal.proofs.ErrLaws.{passed}
use Rattle.import_field.proofs.OwnLaws.{no_line, node_there, line_there, node_long, node_read, node_refused, node_begins}
use Rattle.sheets.specs.Answer.{found}
use Rattle.sheets.specs.Refusal.{bad_lines}
use Rattle.import_field.proofs.begin_any.Goals as goal

pub returns-in_default : goal.returns-in_default
returns-in_default c =
    let a = c.args in
    let fits : length a.s.now < 2 ^ 64 = omega (arith, c.requires.s_len_bound) in
    no_line a.s.now a.tree (sym c.read_line.ensures ∙ ap (found bad_lines) c.in_default.is) fits a.out.now a.out.now BadLines

pub begin_field-begun-requires : goal.begin_field-begun-requires
begin_field-begun-requires c = (node_there (let a = c.args in line_told a.s.now a.tree.at (sym c.read_line.ensures ∙ ap (found bad_lines) c.in-Some.is)) c.requires.s_len_bound, c.requires.has_entries)

pub overflow_sub-tree : goal.overflow_sub-tree
overflow_sub-tree c = omega (arith, c.requires.le_levels)

pub slice_bounds-begin_type-count : goal.slice_bounds-begin_type-count
slice_bounds-begin_type-count c = omega arith

pub slice_bounds-begin_type-start : goal.slice_bounds-begin_type-start
slice_bounds-begin_type-start c = omega arith

pub slice_bounds-begin_type-end : goal.slice_bounds-begin_type-end
slice_bounds-begin_type-end c = omega arith

pub begin_type-requires : goal.begin_type-requires
begin_type-requires c =
    let a = c.args in
    let b = c.begin_field-begun in
    line_there a.s.now a.tree c.in-Some.line (let a = c.args in line_told a.s.now a.tree.at (sym c.read_line.ensures ∙ ap (found bad_lines) c.in-Some.is)) b.new.entries a.out.now b.new.out b.result b.ensures c.requires.s_len_bound

pub overflow_add-result : goal.overflow_add-result
overflow_add-result c =
    let a = c.args in
    let b = c.begin_field-begun in
    let y = c.begin_type in
    omega (arith, node_long a.s.now a.tree c.in-Some.line (let a = c.args in line_told a.s.now a.tree.at (sym c.read_line.ensures ∙ ap (found bad_lines) c.in-Some.is)) b.new.entries a.out.now b.new.out b.result b.ensures _ _ c.in_ok-from.field-0.visit c.in_ok-from.ensures.0 c.requires.s_len_bound)

pub shape_of-out-in_err-from : goal.shape_of-out-in_err-from
shape_of-out-in_err-from c =
    let b = c.begin_field-begun in
    let y = c.begin_type in
    length_lent c.within-w.result b.new.out y.new.out y.auto.out ∙ b.auto.out

pub shape_of-entries-in_err-from : goal.shape_of-entries-in_err-from
shape_of-entries-in_err-from c = c.begin_field-begun.auto.entries

pub shape_of-spare-in_err-from : goal.shape_of-spare-in_err-from
shape_of-spare-in_err-from c = c.begin_field-begun.auto.spare

pub returns-in_err-from : goal.returns-in_err-from
returns-in_err-from c =
    let a = c.args in
    let b = c.begin_field-begun in
    let y = c.begin_type in
    rw (passed c.from_residual.result _ c.from_residual.ensures.1) (λ u ts f. node_refused a.s.now a.tree c.in-Some.line (let a = c.args in line_told a.s.now a.tree.at (sym c.read_line.ensures ∙ ap (found bad_lines) c.in-Some.is)) b.new.entries a.out.now b.new.out b.result b.ensures u ts f _ y.new.out y.result y.ensures.1 _ c.in_err-from.was)

pub shape_of-out : goal.shape_of-out
shape_of-out c =
    let b = c.begin_field-begun in
    let y = c.begin_type in
    length_lent c.within-w.result b.new.out y.new.out y.auto.out ∙ b.auto.out

pub shape_of-entries : goal.shape_of-entries
shape_of-entries c = c.begin_field-begun.auto.entries

pub shape_of-spare : goal.shape_of-spare
shape_of-spare c = c.begin_field-begun.auto.spare

pub returns : goal.returns
returns c =
    let a = c.args in
    let b = c.begin_field-begun in
    let y = c.begin_type in
    let w = c.within-w in
    (node_read a.s.now a.tree c.in-Some.line (let a = c.args in line_told a.s.now a.tree.at (sym c.read_line.ensures ∙ ap (found bad_lines) c.in-Some.is)) b.new.entries a.out.now b.new.out b.result b.ensures _ _ _ c.in_ok-from.ensures.0, λ u ts f. node_begins a.s.now a.tree c.in-Some.line (let a = c.args in line_told a.s.now a.tree.at (sym c.read_line.ensures ∙ ap (found bad_lines) c.in-Some.is)) b.new.entries a.out.now b.new.out b.result b.ensures u ts f _ y.new.out y.result y.ensures.1 _ _ _ c.in_ok-from.was w.result w.ensures refl)
