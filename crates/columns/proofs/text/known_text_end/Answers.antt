-- `text::known_text_end` meets its contract: a space after the first byte is the end, and else pairs stand there. Assumes nothing.
use Prim.Native.Nat.{◌+◌}
use native.Mathlib.Omega.{arith}
use Rattle.columns.proofs.KnownTextLaws.{end_within, text_within, space_is}
use Rattle.columns.proofs.text.known_text_end.Goals as goal

pub overflow_add-at : goal.overflow_add-at
overflow_add-at c = omega (arith, c.ranges, text_within c.requires, end_within c.requires)

pub bounds-s-at : goal.bounds-s-at
bounds-s-at c = omega (arith, text_within c.requires, end_within c.requires)

pub returns-then-s-at-eq32 : goal.returns-then-s-at-eq32
returns-then-s-at-eq32 c = space_is c.requires (c.args.at + 1) (omega arith) (omega (arith, text_within c.requires)) c.if-s-at-eq32.true

pub known_pairs_end-requires : goal.known_pairs_end-requires
known_pairs_end-requires c = (c.requires, c.if-s-at-eq32.false)
