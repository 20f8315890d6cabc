-- `crate::numbers::put_counted` meets its contract: what is written and what is left make up the ids. Assumes nothing.
use Rattle.put_format.proofs.CountedLaws.{Counting}
use Rattle.put_format.proofs.numbers.put_counted.Given as goal

abbrev pub invariant-loop-i : goal.invariant-loop-i
invariant-loop-i l = Counting l.count l.initial.end l.initial.out l.end l.i l.out
