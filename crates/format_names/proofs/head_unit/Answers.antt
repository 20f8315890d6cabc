-- `head_unit` meets its contract: by the laws of heads of three bytes. Assumes nothing.
use Rattle.format_names.proofs.head_unit.Goals as goal
-- `head_unit` meets its contract: by the laws of heads of three bytes. Assumes nothing.
use Rattle.format_names.proofs.HeadLaws.{unit_length, unit_other, unit_lettered, no_unit_lem}
use Rattle.hexadecimal.proofs.PartLaws.{hex_take, bytes_take}
use Rattle.hexadecimal.proofs.HexLaws.{twice_length}
use Rattle.hexadecimal.specs.Hex.{bytes_of}
use Rattle.sheets.specs.Bytes.{Bytes, ascii, same}
use lib.ListN.{length}
use native.Mathlib.Omega.{arith}
use mathlib.Core.Path.{◌≡◌, sym, ◌∙◌, ap}

pub returns-then-h-ne6 : goal.returns-then-h-ne6
returns-then-h-ne6 c =
    let h = c.args.h.now in
    unit_length (bytes_of h) (λ e. c.if-h-ne6.true (omega (arith, twice_length h c.requires)))

pub says-requires : goal.says-requires
says-requires c = hex_take c.args.h.now c.requires 2

pub returns-then-not-says : goal.returns-then-not-says
returns-then-not-says c =
    let h = c.args.h.now in
    unit_other (bytes_of h) (ap (λ (x : Bytes). same x (ascii "ts")) (sym (bytes_take h c.requires 2)) ∙ sym c.says.ensures ∙ c.if-not-says.true)

pub returns-in-115 : goal.returns-in-115
returns-in-115 c =
    let h = c.args.h.now in
    let three : length (bytes_of h) ≡ 3 = omega (arith, twice_length h c.requires, c.if-h-ne6.false) in
    let starts = ap (λ (x : Bytes). same x (ascii "ts")) (sym (bytes_take h c.requires 2)) ∙ sym c.says.ensures ∙ c.if-not-says.false in
    unit_lettered (bytes_of h) 115 three starts (sym c.byte_at.ensures ∙ c.in-115.is)

pub returns-in-109 : goal.returns-in-109
returns-in-109 c =
    let h = c.args.h.now in
    let three : length (bytes_of h) ≡ 3 = omega (arith, twice_length h c.requires, c.if-h-ne6.false) in
    let starts = ap (λ (x : Bytes). same x (ascii "ts")) (sym (bytes_take h c.requires 2)) ∙ sym c.says.ensures ∙ c.if-not-says.false in
    unit_lettered (bytes_of h) 109 three starts (sym c.byte_at.ensures ∙ c.in-109.is)

pub returns-in-117 : goal.returns-in-117
returns-in-117 c =
    let h = c.args.h.now in
    let three : length (bytes_of h) ≡ 3 = omega (arith, twice_length h c.requires, c.if-h-ne6.false) in
    let starts = ap (λ (x : Bytes). same x (ascii "ts")) (sym (bytes_take h c.requires 2)) ∙ sym c.says.ensures ∙ c.if-not-says.false in
    unit_lettered (bytes_of h) 117 three starts (sym c.byte_at.ensures ∙ c.in-117.is)

pub returns-in-110 : goal.returns-in-110
returns-in-110 c =
    let h = c.args.h.now in
    let three : length (bytes_of h) ≡ 3 = omega (arith, twice_length h c.requires, c.if-h-ne6.false) in
    let starts = ap (λ (x : Bytes). same x (ascii "ts")) (sym (bytes_take h c.requires 2)) ∙ sym c.says.ensures ∙ c.if-not-says.false in
    unit_lettered (bytes_of h) 110 three starts (sym c.byte_at.ensures ∙ c.in-110.is)

pub returns-in_default : goal.returns-in_default
returns-in_default c =
    let h = c.args.h.now in
    let three : length (bytes_of h) ≡ 3 = omega (arith, twice_length h c.requires, c.if-h-ne6.false) in
    let starts = ap (λ (x : Bytes). same x (ascii "ts")) (sym (bytes_take h c.requires 2)) ∙ sym c.says.ensures ∙ c.if-not-says.false in
    no_unit_lem c.byte_at.result c.in_default.in_default-own.rest.0.0.0.1 c.in_default.in_default-own.rest.0.0.1 c.in_default.in_default-own.rest.0.1 c.in_default.in_default-own.rest.1 ∙ unit_lettered (bytes_of h) c.byte_at.result three starts (sym c.byte_at.ensures)
