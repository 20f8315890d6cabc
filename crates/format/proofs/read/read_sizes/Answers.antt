-- `read_sizes` meets its contract: each step of the ladder is a step of `read_cut`. Assumes nothing.
use mathlib.Core.Path.{sym, ◌∙◌, ap}
use native.Mathlib.Omega.{arith}
use lib.ListN.{drop}
use Rattle.sheets.specs.Format.{read_size, read_cut}
use Rattle.sheets.specs.Answer.{refused, given, found}
use Rattle.sheets.specs.Refusal.{bad_number}
use Rattle.hexadecimal.specs.Hex.{bytes_of}
use Rattle.hexadecimal.proofs.HexLaws.{length_bytes}
use Rattle.format.specs.Formats.{decimal_format}
use Rattle.sheets.specs.Parts.{parts_from}
use Rattle.format.proofs.ReadLaws.{reads_as, cut_binary, cut_list, cut_decimal, cut_other}
use Rattle.sheets.proofs.PartLaws.{parts_here}
use Rattle.format.proofs.PartLaws.{rest_part}
use Rattle.format.proofs.read.read_sizes.Goals as goal

pub part_of-requires : goal.part_of-requires
part_of-requires c =
    let f = c.args.f.now in
    (c.requires.0.0, omega (arith, length_bytes f c.requires.0.0, c.requires.0.1), omega (arith, length_bytes f c.requires.0.0))

pub returns-in_default : goal.returns-in_default
returns-in_default c =
    let f = c.args.f.now in
    let b = bytes_of f in
    let h = bytes_of c.args.h.now in
    let at = c.args.at in
    (cut_binary h (drop at b) (refused bad_number) (sym c.if-says.true ∙ c.says.ensures) (ap (found bad_number) (sym c.in_default.is) ∙ c.parse_usize.ensures ∙ ap read_size c.part_of.ensures.1 ∙ ap read_size (rest_part f c.requires.0.0 at)), tt)

pub returns-then-says : goal.returns-then-says
returns-then-says c =
    let f = c.args.f.now in
    let b = bytes_of f in
    let h = bytes_of c.args.h.now in
    let at = c.args.at in
    (cut_binary h (drop at b) (given c.in-Some.size) (sym c.if-says.true ∙ c.says.ensures) (ap (found bad_number) (sym c.in-Some.is) ∙ c.parse_usize.ensures ∙ ap read_size c.part_of.ensures.1 ∙ ap read_size (rest_part f c.requires.0.0 at)), tt)

pub part_of-requires-then-says-2 : goal.part_of-requires-then-says-2
part_of-requires-then-says-2 c =
    let f = c.args.f.now in
    (c.requires.0.0, omega (arith, length_bytes f c.requires.0.0, c.requires.0.1), omega (arith, length_bytes f c.requires.0.0))

pub returns-in_default-parse_usize : goal.returns-in_default-parse_usize
returns-in_default-parse_usize c =
    let f = c.args.f.now in
    let b = bytes_of f in
    let h = bytes_of c.args.h.now in
    let at = c.args.at in
    (cut_list h (drop at b) (refused bad_number) (sym c.if-says-2.true ∙ c.says-2.ensures) (ap (found bad_number) (sym c.in_default-parse_usize.is) ∙ c.parse_usize-then-says-2.ensures ∙ ap read_size c.part_of-then-says-2.ensures.1 ∙ ap read_size (rest_part f c.requires.0.0 at)), tt)

pub returns-then-says-2 : goal.returns-then-says-2
returns-then-says-2 c =
    let f = c.args.f.now in
    let b = bytes_of f in
    let h = bytes_of c.args.h.now in
    let at = c.args.at in
    (cut_list h (drop at b) (given c.in-Some-parse_usize.size) (sym c.if-says-2.true ∙ c.says-2.ensures) (ap (found bad_number) (sym c.in-Some-parse_usize.is) ∙ c.parse_usize-then-says-2.ensures ∙ ap read_size c.part_of-then-says-2.ensures.1 ∙ ap read_size (rest_part f c.requires.0.0 at)), tt)

pub returns-then-says-3 : goal.returns-then-says-3
returns-then-says-3 c =
    let f = c.args.f.now in
    let b = bytes_of f in
    let h = bytes_of c.args.h.now in
    let at = c.args.at in
    reads_as f c.read_decimal.result (decimal_format (parts_from b at)) (read_cut h (drop at b)) (ap decimal_format (parts_here b at c.requires.0.1) ∙ cut_decimal h (drop at b) (sym c.if-says-3.true ∙ c.says-3.ensures)) c.read_decimal.ensures

pub returns : goal.returns
returns c =
    let f = c.args.f.now in
    let b = bytes_of f in
    let h = bytes_of c.args.h.now in
    let at = c.args.at in
    (cut_other h (drop at b) c.requires.1.no_unit c.requires.1.no_mode (sym c.if-says.false ∙ c.says.ensures) (sym c.if-says-2.false ∙ c.says-2.ensures) (sym c.if-says-3.false ∙ c.says-3.ensures), tt)
