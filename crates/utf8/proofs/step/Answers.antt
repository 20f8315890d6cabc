-- `step` meets its contract: by the rule of each table, at this byte and at this state. Assumes nothing.
use mathlib.Core.Path.{ap, ◌∙◌}
use Prim.Native.Nat.{◌<◌}
use native.Mathlib.Omega.{arith}
use lib.ListN.{get_or}
use Rattle.sheets.specs.Utf8Classes.{next_of}
use Rattle.utf8.proofs.TableLaws.{class_below}
use Rattle.utf8.proofs.step.Goals as goal

pub overflow_cast-result : goal.overflow_cast-result
overflow_cast-result c = omega (arith, c.requires.classes.entry c.args.b c.ranges.b.fits, class_below c.args.b c.ranges.b.fits)

pub offset_bounds-next-k : goal.offset_bounds-next-k
offset_bounds-next-k c = omega (arith, c.requires.classes.entry c.args.b c.ranges.b.fits, class_below c.args.b c.ranges.b.fits)

pub bounds-next-k : goal.bounds-next-k
bounds-next-k c = omega (arith, c.requires.classes.entry c.args.b c.ranges.b.fits, class_below c.args.b c.ranges.b.fits)

pub returns : goal.returns
returns c =
    let b = c.args.b in
    let q = c.args.q in
    let class = c.args.class.now in
    let e = c.requires.classes.entry b c.ranges.b.fits in
    let l : get_or class b 0 < 12 = omega (arith, e, class_below b c.ranges.b.fits) in
    c.requires.nexts.digit q (get_or class b 0) c.requires.state l ∙ ap (next_of q) e
