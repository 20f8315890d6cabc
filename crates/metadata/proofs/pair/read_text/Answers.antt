-- `read_text` meets its contract: the ways that reading a text ends. Assumes nothing.
use mathlib.Core.Path.{◌≡◌, refl, sym, ◌∙◌}
use Prim.Native.Nat.{◌+◌, ◌-◌, ◌*◌}
use native.Mathlib.Omega.{arith}
use Rattle.hexadecimal.proofs.PartLaws.{hex_part}
use Rattle.metadata.proofs.TextLaws.{read_none, read_short, read_bad, read_text_lem}
use borrow.Author.Rules.{rules}
use Rattle.metadata.proofs.pair.read_text.Goals as goal

pub returns-then-room-lt8 : goal.returns-then-room-lt8
returns-then-room-lt8 c = read_none c.args.big c.args.m.now c.args.k c.requires.block (omega (arith, c.requires.within))

pub returns-then-room-n : goal.returns-then-room-n
returns-then-room-n c =
    let a = c.args in
    read_short a.big a.m.now a.k c.requires.block c.word_at-n.result c.word_at-n.ensures (omega (arith, c.requires.within)) (omega (arith, c.requires.within))

pub is_utf8_hex-requires : goal.is_utf8_hex-requires
is_utf8_hex-requires c =
    let a = c.args in
    let n = c.word_at-n.result in
    let x : 2 * a.k + 8 + 2 * n - (2 * a.k + 8) ≡ 2 * n = omega arith in
    let y : 2 * a.k + 8 ≡ 2 * (a.k + 4) = omega arith in
    rw (x, y) (hex_part a.m.now c.requires.block.is_text (a.k + 4) n)

pub returns-then-is_utf8_hex : goal.returns-then-is_utf8_hex
returns-then-is_utf8_hex c =
    let a = c.args in
    let n = c.word_at-n.result in
    let x : 2 * a.k + 8 + 2 * n - (2 * a.k + 8) ≡ 2 * n = omega arith in
    read_text_lem a.big a.m.now a.k c.requires.block n c.word_at-n.ensures (search rules) (search rules) _ (2 * a.k + 8) x refl (sym c.is_utf8_hex.ensures ∙ c.if-is_utf8_hex.true)

pub returns : goal.returns
returns c =
    let a = c.args in
    let n = c.word_at-n.result in
    let x : 2 * a.k + 8 + 2 * n - (2 * a.k + 8) ≡ 2 * n = omega arith in
    read_bad a.big a.m.now a.k c.requires.block n c.word_at-n.ensures (search rules) (search rules) _ (2 * a.k + 8) x refl (sym c.is_utf8_hex.ensures ∙ c.if-is_utf8_hex.false)
