-- `walk` meets its contract: the laws of the walk at each place. Assumes nothing.
use lib.ListN.{length}
use Rattle.metadata.proofs.WalkLaws.{Walking}
use Rattle.metadata.proofs.walk.Given as goal

abbrev pub invariant-loop : goal.invariant-loop
invariant-loop l = Walking l.big l.m l.n (length l.initial.entries) l.entries l.f l.k l.counter
