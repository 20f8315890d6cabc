-- `has_heading` meets its contract: the bytes that a sheet begins with are its first, as many as the heading and its byte 10 have. Assumes nothing.
use mathlib.Core.Path.{sym, ◌∙◌}
use lib.Seq.{length-take-le}
use Rattle.sheets.specs.FieldSheet.{field_heading}
use Rattle.sheets.proofs.HeadingLaws.{headed_short, headed_same}
use Rattle.field_sheet.proofs.has_heading.Goals as goal

pub returns-then-s-lt48 : goal.returns-then-s-lt48
returns-then-s-lt48 c = sym (headed_short field_heading c.args.s.now c.if-s-lt48.true)

pub slice_bounds-same-end : goal.slice_bounds-same-end
slice_bounds-same-end c = sym (length-take-le 48 c.args.s.now c.if-s-lt48.false)

pub returns : goal.returns
returns c = c.same.ensures ∙ sym (headed_same field_heading c.args.s.now c.if-s-lt48.false)
