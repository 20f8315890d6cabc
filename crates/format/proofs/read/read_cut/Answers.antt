-- `read_cut` meets its contract: a head that names no unit and no mode is `read_sizes`'. Assumes nothing.
use mathlib.Core.Path.{sym, ◌∙◌, ap}
use Prim.Native.Nat.{◌+◌}
use native.Mathlib.Omega.{arith}
use lib.ListN.{take, drop}
use Rattle.sheets.specs.Format.{read_cut}
use Rattle.sheets.specs.Answer.{given}
use Rattle.sheets.specs.Bytes.{Bytes}
use Rattle.hexadecimal.specs.Hex.{bytes_of}
use Rattle.hexadecimal.proofs.HexLaws.{twice_length}
use Rattle.format.specs.Formats.{timestamp_format, union_format}
use Rattle.format_names.specs.Names.{head_unit, head_mode}
use Rattle.format.proofs.ReadLaws.{reads_as, cut_unit, cut_mode}
use Rattle.format.proofs.PartLaws.{first_part, rest_hex, rest_bytes}
use Rattle.format.proofs.read.read_cut.Goals as goal

pub overflow_mul-result : goal.overflow_mul-result
overflow_mul-result c = omega (arith, twice_length c.args.f.now c.requires.0, c.requires.1)

pub overflow_add-result : goal.overflow_add-result
overflow_add-result c = omega (arith, twice_length c.args.f.now c.requires.0, c.requires.1)

pub returns-in-Some : goal.returns-in-Some
returns-in-Some c =
    let f = c.args.f.now in
    let b = bytes_of f in
    let k = c.args.k in
    let h = c.part_of-h.ensures.1 ∙ first_part k b in
    let e = cut_unit (take k b) (drop (k + 1) b) c.in-Some.unit ((sym c.in-Some.is) ∙ c.head_unit.ensures ∙ ap head_unit h) in
    (ap (λ (x : Bytes). given (timestamp_format c.in-Some.unit x)) (rest_bytes f c.requires.0 k) ∙ e, (rest_hex f c.requires.0 k, omega (arith, twice_length f c.requires.0, c.requires.1)))

pub overflow_mul-result-in-Some-head_mode : goal.overflow_mul-result-in-Some-head_mode
overflow_mul-result-in-Some-head_mode c = omega (arith, twice_length c.args.f.now c.requires.0, c.requires.1)

pub overflow_add-result-in-Some-head_mode : goal.overflow_add-result-in-Some-head_mode
overflow_add-result-in-Some-head_mode c = omega (arith, twice_length c.args.f.now c.requires.0, c.requires.1)

pub returns-in-Some-head_mode : goal.returns-in-Some-head_mode
returns-in-Some-head_mode c =
    let f = c.args.f.now in
    let b = bytes_of f in
    let k = c.args.k in
    let h = c.part_of-h.ensures.1 ∙ first_part k b in
    let e = cut_mode (take k b) (drop (k + 1) b) c.in-Some-head_mode.mode ((sym c.in-Some-head_mode.is) ∙ c.head_mode.ensures ∙ ap head_mode h) in
    (ap (union_format c.in-Some-head_mode.mode) (rest_bytes f c.requires.0 k) ∙ e, (rest_hex f c.requires.0 k, omega (arith, twice_length f c.requires.0, c.requires.1)))

pub overflow_add-k : goal.overflow_add-k
overflow_add-k c = omega (arith, twice_length c.args.f.now c.requires.0, c.requires.1)

pub read_sizes-requires : goal.read_sizes-requires
read_sizes-requires c =
    let unit = sym c.head_unit.ensures ∙ c.in_default.is in
    let mode = sym c.head_mode.ensures ∙ c.in_default-head_mode.is in
    (c.requires, record { is_text = c.part_of-h.ensures.0; no_unit = unit; no_mode = mode })

pub returns : goal.returns
returns c =
    let f = c.args.f.now in
    let b = bytes_of f in
    let k = c.args.k in
    let h = c.part_of-h.ensures.1 ∙ first_part k b in
    reads_as f c.read_sizes.result (read_cut (bytes_of c.part_of-h.result.now) (drop (k + 1) b)) (read_cut (take k b) (drop (k + 1) b)) (ap (λ (x : Bytes). read_cut x (drop (k + 1) b)) h) c.read_sizes.ensures
