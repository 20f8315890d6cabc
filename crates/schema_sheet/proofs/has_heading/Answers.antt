-- `has_heading` meets its contract: the bytes that a sheet begins with are its first, as many as the heading and its byte 10 have. Assumes nothing.
use mathlib.Core.Path.{sym, ◌∙◌}
use lib.Seq.{length-take-le}
use Rattle.sheets.specs.Schema.{schema_heading}
use Rattle.sheets.proofs.HeadingLaws.{headed_short, headed_same}
use Rattle.schema_sheet.proofs.has_heading.Goals as goal

pub returns-then-s-lt47 : goal.returns-then-s-lt47
returns-then-s-lt47 c = sym (headed_short schema_heading c.args.s.now c.if-s-lt47.true)

pub slice_bounds-same-end : goal.slice_bounds-same-end
slice_bounds-same-end c = sym (length-take-le 47 c.args.s.now c.if-s-lt47.false)

pub returns : goal.returns
returns c = c.same.ensures ∙ sym (headed_same schema_heading c.args.s.now c.if-s-lt47.false)
