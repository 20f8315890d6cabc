-- `read_decimal` meets its contract: two parts or three. Assumes nothing.
use mathlib.Core.Path.{sym, ◌∙◌, ap}
use mathlib.Core.List.{List, ◌∷◌}
use Prim.Native.Nat.{◌+◌}
use native.Mathlib.Omega.{arith}
use Rattle.sheets.specs.Bytes.{Bytes}
use Rattle.hexadecimal.specs.Hex.{bytes_of}
use Rattle.hexadecimal.proofs.HexLaws.{length_bytes}
use Rattle.format.specs.Formats.{decimal_of, decimal_format}
use Rattle.sheets.specs.Parts.{parts_from}
use Rattle.format.specs.Parts.{format_part}
use Rattle.format.proofs.ReadLaws.{reads_as, one_part, two_parts, second_part}
use Rattle.sheets.proofs.PartLaws.{part_ends}
use Rattle.format.proofs.read.read_decimal.Goals as goal

pub returns-then-n-i : goal.returns-then-n-i
returns-then-n-i c =
    let f = c.args.f.now in
    let b = bytes_of f in
    let at = c.args.at in
    let i = c.place_of-i in
    let one = part_ends b at i.result c.requires.1 i.ensures in
    (one_part b at i.result one (omega (arith, length_bytes f c.requires.0, c.if-n-i.true)), tt)

pub decimal_of-requires : goal.decimal_of-requires
decimal_of-requires c =
    let f = c.args.f.now in
    let b = bytes_of f in
    let at = c.args.at in
    let i = c.place_of-i in
    let one = part_ends b at i.result c.requires.1 i.ensures in
    let k = c.place_of-j in
    let two = part_ends b (i.result + 1) k.result (omega (arith, length_bytes f c.requires.0, c.if-n-i.false)) k.ensures in
    ((c.requires.0, one.low, one.high), (c.requires.0, two.low, two.high))

pub returns-then-n-j : goal.returns-then-n-j
returns-then-n-j c =
    let f = c.args.f.now in
    let b = bytes_of f in
    let at = c.args.at in
    let i = c.place_of-i in
    let one = part_ends b at i.result c.requires.1 i.ensures in
    let k = c.place_of-j in
    let two = part_ends b (i.result + 1) k.result (omega (arith, length_bytes f c.requires.0, c.if-n-i.false)) k.ensures in
    let p = format_part at i.result b in
    let s = format_part (i.result + 1) k.result b in
    let e = two_parts p s ∙ second_part b (i.result + 1) k.result two p (omega (arith, length_bytes f c.requires.0, c.if-n-j.true)) ∙ ap decimal_format (sym one.parts) in
    reads_as f c.decimal_of.result (decimal_of 128 p s) (decimal_format (parts_from b at)) e c.decimal_of.ensures

pub wide_decimal-requires : goal.wide_decimal-requires
wide_decimal-requires c =
    let f = c.args.f.now in
    let b = bytes_of f in
    let at = c.args.at in
    let i = c.place_of-i in
    let one = part_ends b at i.result c.requires.1 i.ensures in
    let k = c.place_of-j in
    let two = part_ends b (i.result + 1) k.result (omega (arith, length_bytes f c.requires.0, c.if-n-i.false)) k.ensures in
    ((c.requires.0, one.low, one.high), (c.requires.0, two.low, two.high), (c.requires.0, omega (arith, length_bytes f c.requires.0, c.if-n-j.false)))

pub returns : goal.returns
returns c =
    let f = c.args.f.now in
    let b = bytes_of f in
    let at = c.args.at in
    let i = c.place_of-i in
    let one = part_ends b at i.result c.requires.1 i.ensures in
    let k = c.place_of-j in
    let two = part_ends b (i.result + 1) k.result (omega (arith, length_bytes f c.requires.0, c.if-n-i.false)) k.ensures in
    let p = format_part at i.result b in
    let s = format_part (i.result + 1) k.result b in
    let e = one.parts ∙ ap (λ (ps : List Bytes). p ∷ ps) two.parts in
    reads_as f c.wide_decimal.result (decimal_format (p ∷ s ∷ parts_from b (k.result + 1))) (decimal_format (parts_from b at)) (ap decimal_format (sym e)) c.wide_decimal.ensures
