-- `long_buffer` meets its contract: as many zeros as its length says. Assumes nothing.
use Rattle.std.proofs.Common.{sym, ℕ}
use lib.ListN.{length-replicate}
use Rattle.replay.specs.Turns.{longest_buffer}
use Rattle.replay.proofs.long_buffer.Goals as goal

pub returns : goal.returns
returns c = sym (length-replicate {A = ℕ} longest_buffer 0)
