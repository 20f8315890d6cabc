-- `put_value` meets its contract: no value, an empty one, a text. Assumes nothing.
use mathlib.Core.Path.{ap, subst}
use native.Mathlib.Omega.{arith}
use lib.ListN.{length}
use borrow.Author.Tests.{ne_eqb}
use Rattle.sheets.specs.Bytes.{Bytes}
use Rattle.buffer.specs.Over.{PutAt}
use Rattle.hexadecimal.specs.Hex.{bytes_of}
use Rattle.metadata.proofs.PutLaws.{value_none, value_empty, value_text}
use Rattle.metadata.proofs.put.put_value.Goals as goal

pub put_byte-requires : goal.put_byte-requires
put_byte-requires c =
    let a = c.args in
    let b = bytes_of a.m.now in
    let e = value_none a.big b a.e c.if-e-eq0.true in
    omega (arith, c.requires.fits, ap length e)

pub returns-then-e-eq0 : goal.returns-then-e-eq0
returns-then-e-eq0 c =
    let a = c.args in
    let b = bytes_of a.m.now in
    let e = value_none a.big b a.e c.if-e-eq0.true in
    let p = c.put_byte in
    subst (λ (t : Bytes). PutAt a.at t p.result a.out.now p.new.out) e p.ensures

pub value_of-text-requires : goal.value_of-text-requires
value_of-text-requires c = (c.requires.is_text, c.requires.or_none (ne_eqb c.args.e 0 c.if-e-eq0.false))

pub put_byte-requires-then-text-eq0 : goal.put_byte-requires-then-text-eq0
put_byte-requires-then-text-eq0 c =
    let a = c.args in
    let b = bytes_of a.m.now in
    let e = value_empty a.big b a.e c.if-e-eq0.false c.value_of-text.result.now c.value_of-text.ensures c.if-text-eq0.true in
    omega (arith, c.requires.fits, ap length e)

pub returns-then-text-eq0 : goal.returns-then-text-eq0
returns-then-text-eq0 c =
    let a = c.args in
    let b = bytes_of a.m.now in
    let e = value_empty a.big b a.e c.if-e-eq0.false c.value_of-text.result.now c.value_of-text.ensures c.if-text-eq0.true in
    let p = c.put_byte-then-text-eq0 in
    subst (λ (t : Bytes). PutAt a.at t p.result a.out.now p.new.out) e p.ensures

pub put_at-requires : goal.put_at-requires
put_at-requires c =
    let a = c.args in
    let b = bytes_of a.m.now in
    let e = value_text a.big b a.e c.if-e-eq0.false c.value_of-text.result.now c.value_of-text.ensures c.if-text-eq0.false in
    omega (arith, c.requires.fits, ap length e)

pub returns : goal.returns
returns c =
    let a = c.args in
    let b = bytes_of a.m.now in
    let e = value_text a.big b a.e c.if-e-eq0.false c.value_of-text.result.now c.value_of-text.ensures c.if-text-eq0.false in
    let p = c.put_at in
    subst (λ (t : Bytes). PutAt a.at t p.result a.out.now p.new.out) e p.ensures
