-- `wide_decimal` meets its contract: a third part that is the last is the width. Assumes nothing.
use mathlib.Core.Path.{sym, ◌∙◌, ap}
use mathlib.Core.Logic.{◌≢◌}
use mathlib.Core.List.{◌∷◌}
use Prim.Native.Nat.{◌+◌, ◌/◌}
use native.Mathlib.Omega.{arith}
use lib.ListN.{length}
use Rattle.sheets.specs.Format.{read_size}
use Rattle.hexadecimal.specs.Hex.{bytes_of}
use Rattle.hexadecimal.proofs.HexLaws.{length_bytes, twice_length}
use Rattle.format.specs.Formats.{decimal_of, decimal_format}
use Rattle.sheets.specs.Parts.{parts_from}
use Rattle.format.specs.Parts.{format_part}
use Rattle.format.proofs.ReadLaws.{reads_as, bad_width, three_parts, third_part, four_parts}
use Rattle.sheets.proofs.PartLaws.{part_ends}
use Rattle.sheets.specs.Answer.{found}
use Rattle.sheets.specs.Refusal.{bad_number}
use Rattle.format.proofs.read.wide_decimal.Goals as goal

pub overflow_add-j : goal.overflow_add-j
overflow_add-j c = omega (arith, twice_length c.args.f.now c.requires.2.0, c.requires.2.1)

pub part_of-requires : goal.part_of-requires
part_of-requires c =
    let f = c.args.f.now in
    let b = bytes_of f in
    let j = c.args.j in
    let p = format_part c.args.at c.args.i b in
    let s = format_part (c.args.i + 1) j b in
    let z = c.place_of-end in
    let ends = part_ends b (j + 1) z.result c.requires.2.1 z.ensures in
    (c.requires.2.0, ends.low, ends.high)

pub returns-in_default : goal.returns-in_default
returns-in_default c =
    let f = c.args.f.now in
    let b = bytes_of f in
    let j = c.args.j in
    let p = format_part c.args.at c.args.i b in
    let s = format_part (c.args.i + 1) j b in
    let z = c.place_of-end in
    let ends = part_ends b (j + 1) z.result c.requires.2.1 z.ensures in
    (bad_width p s (format_part (j + 1) z.result b) (ap (found bad_number) (sym c.in_default.is) ∙ c.parse_usize.ensures ∙ ap read_size c.part_of.ensures.1) ∙ third_part b (j + 1) z.result ends p s (omega (arith, length_bytes f c.requires.2.0, c.if-end-n.true)), tt)

pub returns-then-end-n : goal.returns-then-end-n
returns-then-end-n c =
    let f = c.args.f.now in
    let b = bytes_of f in
    let j = c.args.j in
    let p = format_part c.args.at c.args.i b in
    let s = format_part (c.args.i + 1) j b in
    let z = c.place_of-end in
    let ends = part_ends b (j + 1) z.result c.requires.2.1 z.ensures in
    let w = format_part (j + 1) z.result b in
    reads_as f c.decimal_of.result (decimal_of c.in-Some.width p s) (decimal_format (p ∷ s ∷ parts_from b (j + 1))) (three_parts p s w c.in-Some.width (ap (found bad_number) (sym c.in-Some.is) ∙ c.parse_usize.ensures ∙ ap read_size c.part_of.ensures.1) ∙ third_part b (j + 1) z.result ends p s (omega (arith, length_bytes f c.requires.2.0, c.if-end-n.true))) c.decimal_of.ensures

pub returns : goal.returns
returns c =
    let f = c.args.f.now in
    let b = bytes_of f in
    let j = c.args.j in
    let p = format_part c.args.at c.args.i b in
    let s = format_part (c.args.i + 1) j b in
    let z = c.place_of-end in
    let ends = part_ends b (j + 1) z.result c.requires.2.1 z.ensures in
    let d : z.result ≢ length f / 2 = c.if-end-n.false in
    (four_parts b (j + 1) z.result ends p s (omega (arith, length_bytes f c.requires.2.0, ends.high, d)), tt)
