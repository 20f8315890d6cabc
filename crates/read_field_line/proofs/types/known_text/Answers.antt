-- `types::known_text` meets its contract: of every kind but a union the column is known to be a text, one byte or pairs. Assumes nothing.
use Prim.Native.Nat.{◌+◌}
use native.Mathlib.Omega.{arith}
use borrow.Author.Tests.{ne_eqb}
use Rattle.columns.proofs.KnownTextLaws.{end_within, text_within, space_is}
use Rattle.read_field_line.proofs.KnownLaws.{other_text}
use Rattle.read_field_line.proofs.types.known_text.Goals as goal

pub overflow_add-at : goal.overflow_add-at
overflow_add-at c =
    let t = other_text c.args.kind (ne_eqb c.args.kind 41 c.if-kind-eq-UNION.false) c.requires in
    omega (arith, c.ranges, text_within t, end_within t)

pub bounds-s-at : goal.bounds-s-at
bounds-s-at c =
    let t = other_text c.args.kind (ne_eqb c.args.kind 41 c.if-kind-eq-UNION.false) c.requires in
    omega (arith, text_within t, end_within t)

pub returns-then-s-at-eq32 : goal.returns-then-s-at-eq32
returns-then-s-at-eq32 c =
    let t = other_text c.args.kind (ne_eqb c.args.kind 41 c.if-kind-eq-UNION.false) c.requires in
    space_is t (c.args.at + 1) (omega arith) (omega (arith, text_within t)) c.if-s-at-eq32.true

pub known_pairs_end-requires : goal.known_pairs_end-requires
known_pairs_end-requires c = (other_text c.args.kind (ne_eqb c.args.kind 41 c.if-kind-eq-UNION.false) c.requires, c.if-s-at-eq32.false)
