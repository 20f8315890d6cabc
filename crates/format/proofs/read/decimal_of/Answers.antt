-- `decimal_of` meets its contract: by what the two sizes read. Assumes nothing.
use mathlib.Core.Path.{refl, sym, ◌∙◌, ap}
use Prim.Native.Nat.{◌+◌}
use Rattle.sheets.specs.Format.{read_size}
use Rattle.sheets.specs.Answer.{refused, given, found}
use Rattle.sheets.specs.Refusal.{bad_number}
use Rattle.hexadecimal.specs.Hex.{bytes_of}
use Rattle.format.specs.Parts.{format_part}
use Rattle.format.proofs.ReadLaws.{decimal_read}
use Rattle.format.proofs.read.decimal_of.Goals as goal

pub returns-in_default : goal.returns-in_default
returns-in_default c =
    let b = bytes_of c.args.f.now in
    let p = format_part c.args.at c.args.i b in
    let s = format_part (c.args.i + 1) c.args.e b in
    (decimal_read c.args.width p s (refused bad_number) (read_size s) (ap (found bad_number) (sym c.in_default.is) ∙ c.parse_usize.ensures ∙ ap read_size c.part_of.ensures.1) refl, tt)

pub returns-in_default-parse_usize : goal.returns-in_default-parse_usize
returns-in_default-parse_usize c =
    let b = bytes_of c.args.f.now in
    let p = format_part c.args.at c.args.i b in
    let s = format_part (c.args.i + 1) c.args.e b in
    (decimal_read c.args.width p s (given c.in-Some.precision) (refused bad_number) (ap (found bad_number) (sym c.in-Some.is) ∙ c.parse_usize.ensures ∙ ap read_size c.part_of.ensures.1) (ap (found bad_number) (sym c.in_default-parse_usize.is) ∙ c.parse_usize-2.ensures ∙ ap read_size c.part_of-2.ensures.1), tt)

pub returns : goal.returns
returns c =
    let b = bytes_of c.args.f.now in
    let p = format_part c.args.at c.args.i b in
    let s = format_part (c.args.i + 1) c.args.e b in
    (decimal_read c.args.width p s (given c.in-Some.precision) (given c.in-Some-parse_usize.scale) (ap (found bad_number) (sym c.in-Some.is) ∙ c.parse_usize.ensures ∙ ap read_size c.part_of.ensures.1) (ap (found bad_number) (sym c.in-Some-parse_usize.is) ∙ c.parse_usize-2.ensures ∙ ap read_size c.part_of-2.ensures.1), tt)
