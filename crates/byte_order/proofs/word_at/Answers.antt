-- `word_at` meets its contract: the value is the sum of the four bytes at their places, and each is below 256, so that nothing wraps.
-- Assumes nothing.
use native.Mathlib.Omega.{arith}
use Rattle.byte_order.proofs.word_at.Goals as goal

pub returns : goal.returns
returns c = record { second = omega arith; third = omega arith; fourth = omega arith; value = omega arith }
