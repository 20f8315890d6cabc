-- `named` meets its contract. The loop's invariant: the name finds what it finds among the rows from i on. Assumes nothing.
use mathlib.Core.Path.{refl, sym, ◌∙◌, ap}
use native.Mathlib.Omega.{arith}
use Rattle.hexadecimal.specs.Hex.{bytes_of}
use Rattle.format_names.specs.Names.{leaf_of}
use Rattle.format_names.proofs.NameLaws.{rows_found, rows_next, rows_end, row_same}
use Rattle.format_names.proofs.named.Goals as goal

pub digits_of-d-requires : goal.digits_of-d-requires
digits_of-d-requires c = c.requires.digits

pub loop-i-init : goal.loop-i-init
loop-i-init c = refl

pub overflow_add-row : goal.overflow_add-row
overflow_add-row c = omega (arith, c.requires.fit)

pub has_digits-requires : goal.has_digits-requires
has_digits-requires c = omega (arith, c.requires.fit)

pub overflow_add-row-then-has_digits : goal.overflow_add-row-then-has_digits
overflow_add-row-then-has_digits c = omega (arith, c.requires.fit)

pub type_at-requires : goal.type_at-requires
type_at-requires c = omega (arith, c.requires.fit)

pub returns-then-has_digits : goal.returns-then-has_digits
returns-then-has_digits c =
    let l = c.loop-i in
    let h = c.loop-i-test.true in
    let here = sym (row_same _ c.requires c.digits_of-d.ensures l.i h) ∙ sym c.has_digits.ensures ∙ c.if-has_digits.true in
    (c.type_at.ensures.0 ∙ sym (ap leaf_of (l.invariant ∙ rows_found c.args.row c.args.count c.requires.fit (bytes_of c.args.f.now) l.i h here)), c.type_at.ensures.1)

pub loop-i-preserved : goal.loop-i-preserved
loop-i-preserved c =
    let l = c.loop-i in
    let h = c.loop-i-test.true in
    let other = sym (row_same _ c.requires c.digits_of-d.ensures l.i h) ∙ sym c.has_digits.ensures ∙ c.if-has_digits.false in
    l.invariant ∙ rows_next c.args.row c.args.count c.requires.fit (bytes_of c.args.f.now) l.i h other

pub returns : goal.returns
returns c =
    let l = c.loop-i in
    (sym (ap leaf_of (l.invariant ∙ rows_end c.args.row c.args.count c.requires.fit (bytes_of c.args.f.now) l.i c.loop-i-test.false)), tt)
