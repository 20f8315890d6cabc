-- `has_reserved` meets its contract: the pairs of the column are those from the first place on, and each early way out tells that none of them has a reserved key. Assumes nothing.
use mathlib.Core.Path.{sym, ◌∙◌}
use Rattle.field_pairs.proofs.ReservedLaws.{reserved_start, reserved_end, reserved_past}
use Rattle.field_pairs.proofs.MentionLaws.{reserved_unmentioned}
use Rattle.field_pairs.proofs.has_reserved.Goals as goal

pub first_place-first-requires : goal.first_place-first-requires
first_place-first-requires c = c.requires.0

pub returns-then-pairs-first : goal.returns-then-pairs-first
returns-then-pairs-first c =
    let f = c.first_place-first in
    let s = reserved_start c.args.pairs.now c.requires.0 c.requires.1 f.result f.ensures in
    sym (s.1 ∙ reserved_end c.args.pairs.now f.result c.if-pairs-first.true)

pub is_past-requires : goal.is_past-requires
is_past-requires c =
    let f = c.first_place-first in
    ((reserved_start c.args.pairs.now c.requires.0 c.requires.1 f.result f.ensures).0, c.if-pairs-first.false)

pub returns-then-is_past : goal.returns-then-is_past
returns-then-is_past c =
    let f = c.first_place-first in
    let s = reserved_start c.args.pairs.now c.requires.0 c.requires.1 f.result f.ensures in
    sym (s.1 ∙ reserved_past c.args.pairs.now f.result s.0 (sym c.is_past.ensures ∙ c.if-is_past.true))

pub returns-then-not-mentions : goal.returns-then-not-mentions
returns-then-not-mentions c =
    let f = c.first_place-first in
    let s = reserved_start c.args.pairs.now c.requires.0 c.requires.1 f.result f.ensures in
    sym (s.1 ∙ reserved_unmentioned c.args.pairs.now f.result s.0 (sym c.mentions.ensures ∙ c.if-not-mentions.true))

pub any_reserved-requires : goal.any_reserved-requires
any_reserved-requires c =
    let f = c.first_place-first in
    (reserved_start c.args.pairs.now c.requires.0 c.requires.1 f.result f.ensures).0

pub returns : goal.returns
returns c =
    let f = c.first_place-first in
    let s = reserved_start c.args.pairs.now c.requires.0 c.requires.1 f.result f.ensures in
    c.any_reserved.ensures ∙ sym s.1
