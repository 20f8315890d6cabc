-- `level_of` meets its contract: where more levels are left than a sheet has, the difference is 0. Assumes nothing.
use native.Mathlib.Omega.{arith}
use Rattle.page_line.proofs.PageLaws.{flag_small}
use Rattle.page_line.proofs.level_of.Goals as goal

pub returns-then-levels-gt-LEVELS : goal.returns-then-levels-gt-LEVELS
returns-then-levels-gt-LEVELS c = (omega (arith, c.flag-deeper.ensures, c.if-levels-gt-LEVELS.true), omega (arith, c.flag-deeper.ensures, flag_small c.args.inside c.args.extension))

pub overflow_add-result-2 : goal.overflow_add-result-2
overflow_add-result-2 c = omega (arith, c.flag-deeper.ensures, flag_small c.args.inside c.args.extension)

pub returns : goal.returns
returns c = (omega (arith, c.flag-deeper.ensures), omega (arith, c.flag-deeper.ensures, flag_small c.args.inside c.args.extension))
