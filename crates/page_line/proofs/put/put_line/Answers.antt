-- `put_line` meets its contract: the line is written where it fits, else into an array of its length, which it fills (`line_alone`). Assumes nothing.
use mathlib.Core.Path.{refl, ap, ◌∙◌}
use Rattle.sheets.specs.Bytes.{Bytes}
use Rattle.buffer.specs.Over.{over}
use Rattle.page_line.proofs.PutLaws.{line_is, line_length, line_alone}
use Rattle.page_line.proofs.put.put_line.Goals as goal

pub returns-then-out-lt-LINE : goal.returns-then-out-lt-LINE
returns-then-out-lt-LINE c =
    let a = c.args in
    let w = c.level_word-column in
    let e = line_alone a.level a.kind a.mark a.digits.now w.result _ _ c.requires.0 w.ensures refl c.put_whole.ensures in
    (line_length a.level a.kind a.mark a.digits.now c.requires.0, c.put.ensures ∙ ap (λ (b : Bytes). over b a.out.now) e)

pub returns : goal.returns
returns c =
    let a = c.args in
    let w = c.level_word-column in
    (line_length a.level a.kind a.mark a.digits.now c.requires.0, c.put_whole-2.ensures ∙ ap (λ (b : Bytes). over b a.out.now) (line_is a.level a.kind a.mark a.digits.now w.result w.ensures))
