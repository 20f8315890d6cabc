-- `types::known_type` meets its contract: the numbers that stand here are read up to their ends, and the texts' ends are looked for. Assumes nothing.
use native.Mathlib.Omega.{arith}
use Rattle.read_field_line.proofs.KnownLaws.{kind_known, p_known, q_known, text_known, kind_number, p_number, q_number, text_there, more_there, type_known}
use Rattle.read_field_line.proofs.types.known_type.Goals as goal

pub number_at-kind-requires : goal.number_at-kind-requires
number_at-kind-requires c = kind_number c.requires.2

pub overflow_add-kind : goal.overflow_add-kind
overflow_add-kind c = omega (arith, c.ranges, (kind_known c.requires.2 c.number_at-kind.ensures.0).high)

pub number_at-p-requires : goal.number_at-p-requires
number_at-p-requires c = p_number c.requires.2 c.number_at-kind.ensures.0

pub overflow_add-p : goal.overflow_add-p
overflow_add-p c = omega (arith, c.ranges, (p_known c.requires.2 c.number_at-kind.ensures.0 c.number_at-p.ensures.0).high)

pub number_at-q-requires : goal.number_at-q-requires
number_at-q-requires c = q_number c.requires.2 c.number_at-kind.ensures.0 c.number_at-p.ensures.0

pub overflow_add-start : goal.overflow_add-start
overflow_add-start c = omega (arith, c.ranges, (q_known c.requires.2 c.number_at-kind.ensures.0 c.number_at-p.ensures.0 c.number_at-q.ensures.0).high)

pub known_text-text-requires : goal.known_text-text-requires
known_text-text-requires c = text_there c.requires.2 c.number_at-kind.ensures.0 c.number_at-p.ensures.0 c.number_at-q.ensures.0 c.number_at-kind.ensures.1 c.number_at-p.ensures.1 c.number_at-q.ensures.1

pub overflow_add-text : goal.overflow_add-text
overflow_add-text c = omega (arith, c.ranges, (text_known c.requires.2 c.number_at-kind.ensures.0 c.number_at-p.ensures.0 c.number_at-q.ensures.0 c.known_text-text.ensures).high)

pub known_text_end-more-requires : goal.known_text_end-more-requires
known_text_end-more-requires c = more_there c.requires.2 c.number_at-kind.ensures.0 c.number_at-p.ensures.0 c.number_at-q.ensures.0 c.known_text-text.ensures

pub returns : goal.returns
returns c =
    rw (c.between.ensures, c.between-2.ensures)
    (type_known c.requires.2 c.number_at-kind.ensures.0 c.number_at-p.ensures.0 c.number_at-q.ensures.0 c.known_text-text.ensures c.known_text_end-more.ensures c.number_at-kind.ensures.1 c.number_at-p.ensures.1 c.number_at-q.ensures.1)
