-- `put_ids` meets its contract. The loop's invariant: the ids before the part that begins at `from` are read and written, each with a comma, and have at most
-- 21 bytes for each byte read. The measure is what is left of the bytes. Assumes nothing.
use mathlib.Core.Path.{sym, ◌∙◌, ap}
use mathlib.Core.Logic.{◌≢◌}
use Prim.Native.Nat.{◌/◌}
use native.Mathlib.Omega.{arith}
use lib.ListN.{length}
use mir.Syntax.{w32}
use mir.Val.{SFits}
use mir.Facts.{to_z-of_z}
use Rattle.sheets.specs.Format.{read_id}
use Rattle.hexadecimal.specs.Hex.{bytes_of}
use Rattle.hexadecimal.proofs.HexLaws.{length_bytes, twice_length}
use Rattle.buffer.proofs.OverLaws.{length_written, length_over_at}
use Rattle.decimal.proofs.WriteLaws.{signed_short}
use Rattle.import_type.proofs.IdsLaws.{going_none, going_refused, going_last, going_more}
use Rattle.sheets.proofs.PartLaws.{part_ends}
use borrow.Author.Rules.{rules}
use Rattle.sheets.specs.Answer.{found}
use Rattle.sheets.specs.Refusal.{bad_number}
use Rattle.import_type.proofs.put.put_ids.Goals as goal

pub loop-id-init : goal.loop-id-init
loop-id-init c =
    let a = c.args in
    (omega arith, omega arith, going_none (bytes_of a.ids.now) a.at a.out.now)

pub place_of-to-requires : goal.place_of-to-requires
place_of-to-requires c = c.requires.is_text

pub part_of-requires : goal.part_of-requires
part_of-requires c =
    let p = part_ends (bytes_of c.args.ids.now) c.loop-id.from c.place_of-to.result c.loop-id.invariant.0 c.place_of-to.ensures in
    (c.requires.is_text, p.low, p.high)

pub parse_i32-requires : goal.parse_i32-requires
parse_i32-requires c = c.part_of.ensures.0

pub shape_of-out-in_default : goal.shape_of-out-in_default
shape_of-out-in_default c = length_written c.loop-id.invariant.2.written

pub returns-in_default : goal.returns-in_default
returns-in_default c =
    let l = c.loop-id in
    let to = c.place_of-to in
    let e = ap (found bad_number) (sym c.in_default.is) ∙ c.parse_i32.ensures ∙ ap read_id c.part_of.ensures.1 in
    going_refused (bytes_of c.args.ids.now) c.args.at c.args.out.now l.from l.end l.out l.invariant.2 to.result (part_ends (bytes_of c.args.ids.now) c.loop-id.from to.result c.loop-id.invariant.0 to.ensures) e

pub put_i32-after-requires : goal.put_i32-after-requires
put_i32-after-requires c =
    let l = c.loop-id in
    omega (arith, l.invariant.0, l.invariant.1, c.requires.low, c.requires.short, twice_length c.args.ids.now c.requires.is_text)

pub shape_of-out-then-to-n : goal.shape_of-out-then-to-n
shape_of-out-then-to-n c =
    let l = c.loop-id in
    ap length c.put_i32-after.ensures.1 ∙ length_over_at _ _ _ ∙ length_written l.invariant.2.written

pub returns-then-to-n : goal.returns-then-to-n
returns-then-to-n c =
    let l = c.loop-id in
    let to = c.place_of-to in
    let z = c.in-Some.id in
    let fits : SFits w32 z = search rules in
    let put = rw (to_z-of_z fits) at c.put_i32-after.ensures in
    let e = ap (found bad_number) (sym c.in-Some.is) ∙ c.parse_i32.ensures ∙ ap read_id c.part_of.ensures.1 in
    let ends = part_ends (bytes_of c.args.ids.now) c.loop-id.from to.result c.loop-id.invariant.0 to.ensures in
    going_last (bytes_of c.args.ids.now) c.args.at c.args.out.now l.from l.end l.out l.invariant.2 to.result ends z e c.put_i32-after.result _ put (omega (arith, length_bytes c.args.ids.now c.requires.is_text, c.if-to-n.true))

pub put_byte-end-requires : goal.put_byte-end-requires
put_byte-end-requires c =
    let l = c.loop-id in
    let to = c.place_of-to in
    let z = c.in-Some.id in
    let fits : SFits w32 z = search rules in
    let put = rw (to_z-of_z fits) at c.put_i32-after.ensures in
    let e = ap (found bad_number) (sym c.in-Some.is) ∙ c.parse_i32.ensures ∙ ap read_id c.part_of.ensures.1 in
    let ends = part_ends (bytes_of c.args.ids.now) c.loop-id.from to.result c.loop-id.invariant.0 to.ensures in
    omega (arith, put.0, signed_short z (omega (arith, fits.sfits)), l.invariant.0, l.invariant.1, c.requires.low, c.requires.short, twice_length c.args.ids.now c.requires.is_text)

pub overflow_add-from : goal.overflow_add-from
overflow_add-from c =
    let p = part_ends (bytes_of c.args.ids.now) c.loop-id.from c.place_of-to.result c.loop-id.invariant.0 c.place_of-to.ensures in
    omega (arith, p.high, c.requires.short, twice_length c.args.ids.now c.requires.is_text)

pub loop-id-smaller : goal.loop-id-smaller
loop-id-smaller c =
    let p = part_ends (bytes_of c.args.ids.now) c.loop-id.from c.place_of-to.result c.loop-id.invariant.0 c.place_of-to.ensures in
    let d : c.place_of-to.result ≢ length c.args.ids.now / 2 = c.if-to-n.false in
    omega (arith, p.low, p.high, d, length_bytes c.args.ids.now c.requires.is_text)

pub loop-id-preserved : goal.loop-id-preserved
loop-id-preserved c =
    let l = c.loop-id in
    let to = c.place_of-to in
    let z = c.in-Some.id in
    let fits : SFits w32 z = search rules in
    let put = rw (to_z-of_z fits) at c.put_i32-after.ensures in
    let e = ap (found bad_number) (sym c.in-Some.is) ∙ c.parse_i32.ensures ∙ ap read_id c.part_of.ensures.1 in
    let ends = part_ends (bytes_of c.args.ids.now) c.loop-id.from to.result c.loop-id.invariant.0 to.ensures in
    let d : to.result ≢ length c.args.ids.now / 2 = c.if-to-n.false in (
      omega (arith, ends.high, d, length_bytes c.args.ids.now c.requires.is_text),
      omega (arith, c.put_byte-end.ensures.0, put.0, signed_short z (omega (arith, fits.sfits)), l.invariant.1, ends.low),
      going_more (bytes_of c.args.ids.now) c.args.at c.args.out.now l.from l.end l.out l.invariant.2 to.result ends z e c.put_i32-after.result _ put c.put_byte-end.result _ c.put_byte-end.ensures,
    )
