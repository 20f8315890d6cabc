-- `put_columns` meets its contract: a refusal of the format is the line's; else the pieces make up the line. Assumes nothing.
use Rattle.std.specs.Prelude.{Err}
use mathlib.Core.Path.{refl}
use Rattle.put_format.specs.LineFormat.{line_format}
use Rattle.refusal.specs.Refusals.{refusal_of}
use Rattle.refusal.proofs.ErrLaws.{passed}
use Rattle.put_schema_line.specs.Lines.{line_text}
use Rattle.put_schema_line.proofs.LineLaws.{line_refused, formatted, line_put, rest_low}
use Rattle.put_schema_line.proofs.put_columns.Goals as goal

pub put_rest-end-requires : goal.put_rest-end-requires
put_rest-end-requires c =
    let a = c.args in
    let h = c.requires in
    let q = c.put_format in
    let f = formatted (line_format a.n.kind a.n.p a.n.q a.text.now a.n.children) c.in_ok-at.at c.in_ok-at.zero a.out.now q.new.out c.in_ok-at.ensures in
    rest_low a.n a.text.now a.name.now a.pairs.now a.extension.now a.more.now h _ _ a.out.now q.new.out f

pub returns-in_err-at : goal.returns-in_err-at
returns-in_err-at c =
    let a = c.args in
    let why = c.in_err-at.field-0.0 in
    rw (passed c.from_residual.result _ c.from_residual.ensures.1)
    (line_refused (line_format a.n.kind a.n.p a.n.q a.text.now a.n.children) a.name.now (line_text a.n a.name.now a.pairs.now a.extension.now a.more.now) (Err why) (refusal_of why) a.out.now c.put_format.new.out refl c.in_err-at.ensures)

pub returns : goal.returns
returns c =
    let a = c.args in
    let q = c.put_format in
    let f = formatted (line_format a.n.kind a.n.p a.n.q a.text.now a.n.children) c.in_ok-at.at c.in_ok-at.zero a.out.now q.new.out c.in_ok-at.ensures in
    line_put a.n a.text.now a.name.now a.pairs.now a.extension.now a.more.now c.requires _ _ a.out.now q.new.out f c.put_rest-end.result c.put_rest-end.new.out c.put_rest-end.ensures c.has_zero-named.result c.has_zero-named.ensures
