-- `put_tail` meets its contract: a plain line has no metadata. Assumes nothing.
use mathlib.Core.Path.{◌≡◌, sym, subst, ◌∙◌}
use mathlib.Core.Bool.{true}
use Rattle.sheets.specs.Bytes.{Bytes}
use Rattle.buffer.specs.Over.{PutAt}
use Rattle.put_schema_line.specs.Lines.{is_plain, tail_piece}
use Rattle.put_schema_line.proofs.LineLaws.{plain_numbers, plain_metadata, room_to}
use Rattle.put_schema_line.proofs.put_tail.Goals as goal

pub put_plain-requires : goal.put_plain-requires
put_plain-requires c =
    let a = c.args in
    let e : is_plain a.n a.pairs.now a.extension.now ≡ true = sym c.is_plain.ensures ∙ c.if-not-is_plain.false in
    let p = plain_numbers a.n a.pairs.now a.extension.now e in
    record { flags = p.0; children = p.1; dictionary = p.2; room = room_to _ _ (sym c.ends_before.ensures ∙ c.if-ends_before.false); low = c.requires.low }

pub returns : goal.returns
returns c =
    let a = c.args in
    let q = c.put_plain in
    let e : is_plain a.n a.pairs.now a.extension.now ≡ true = sym c.is_plain.ensures ∙ c.if-not-is_plain.false in
    subst (λ (m : Bytes). PutAt a.at (tail_piece a.n m) q.result a.out.now q.new.out) (sym (plain_metadata a.n a.pairs.now a.extension.now e a.more.now a.at c.requires)) q.ensures
