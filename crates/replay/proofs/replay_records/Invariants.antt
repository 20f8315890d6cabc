-- The window stands in the text, and the buffers keep their lengths. Assumes nothing.
use Rattle.std.proofs.Common.{◌≡◌, length}
use Rattle.recorded_list.specs.Moving.{Within}
use Rattle.replay.proofs.replay_records.Given as goal

abbrev pub invariant-loop-place : goal.invariant-loop-place
invariant-loop-place g l = Within l.w (length l.text) × (length l.text ≡ length l.initial.text) × (length l.input ≡ length l.initial.input) × (length l.output ≡ length l.initial.output)
