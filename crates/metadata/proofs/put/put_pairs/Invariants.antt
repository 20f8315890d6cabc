-- `put_pairs` meets its contract: the laws of the writing at each place. Assumes nothing.
use Prim.Native.Nat.{◌+◌}
use Rattle.hexadecimal.specs.Hex.{bytes_of}
use Rattle.metadata.proofs.PutLaws.{Putting}
use Rattle.metadata.proofs.put.put_pairs.Given as goal

abbrev pub invariant-loop-e : goal.invariant-loop-e
invariant-loop-e l = Putting l.big (bytes_of l.m) l.entries l.count l.initial.end l.initial.out l.out l.end (l.e-index + 1)
