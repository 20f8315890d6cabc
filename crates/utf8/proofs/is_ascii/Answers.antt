-- `is_ascii` meets its contract. The loop's invariant: all bytes are ASCII exactly if `ok` is true and those that are left are. Assumes nothing.
use mathlib.Core.Path.{refl, sym, ◌∙◌}
use Rattle.utf8.proofs.AsciiLaws.{ascii_next, ascii_end}
use borrow.Author.Rules.{rules}
use Rattle.utf8.proofs.is_ascii.Goals as goal

pub loop-b-init : goal.loop-b-init
loop-b-init c = refl

pub loop-b-preserved : goal.loop-b-preserved
loop-b-preserved c = c.loop-b.invariant ∙ ascii_next c.loop-b.ok c.args.s.now c.loop-b.b-index (search rules)

pub returns : goal.returns
returns c = sym (c.loop-b.invariant ∙ ascii_end c.loop-b.ok c.args.s.now c.loop-b.b-index (search rules))
