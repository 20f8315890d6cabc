-- `put_format` meets its contract: what is read is written, a timezone and ids from their place in the text on. Assumes nothing.
use mathlib.Core.Path.{refl, sym, ◌∙◌, ap, subst}
use Prim.Native.Nat.{◌-◌}
use native.Mathlib.Omega.{arith}
use lib.ListN.{length, take, drop, length-drop}
use Rattle.sheets.specs.Format.{Format, read_format}
use Rattle.sheets.specs.FieldSheet.{columns}
use Rattle.sheets.specs.Answer.{Answer}
use Rattle.sheets.specs.Bytes.{Bytes}
use Rattle.hexadecimal.specs.Hex.{is_hex, bytes_of}
use Rattle.field_line.specs.Columns.{columns_piece}
use Rattle.field_line.proofs.ColumnLaws.{put_same}
use Rattle.format.specs.Formats.{textless_format, timestamp_format, union_format, Reads}
use Rattle.import_type.specs.TypeColumns.{shape_of, FormatPuts}
use Rattle.std.specs.Prelude.{Ok}
use Rattle.format.specs.declared.read.Format.{Format as Said}
use Rattle.refusal.proofs.ErrLaws.{passed}
use Rattle.format.proofs.PartLaws.{from_place}
use Rattle.import_type.proofs.put_format.Goals as goal

pub slice_bounds-put_timestamp-count : goal.slice_bounds-put_timestamp-count
slice_bounds-put_timestamp-count c =
    let told = subst (λ (x : Said). Reads c.args.f.now (read_format c.args.sorted (bytes_of c.args.f.now)) (Ok x)) c.in-Timestamp.is c.in_ok-t.ensures in omega (arith, told.1.1)

pub slice_bounds-put_timestamp-start : goal.slice_bounds-put_timestamp-start
slice_bounds-put_timestamp-start c =
    let told = subst (λ (x : Said). Reads c.args.f.now (read_format c.args.sorted (bytes_of c.args.f.now)) (Ok x)) c.in-Timestamp.is c.in_ok-t.ensures in omega (arith, told.1.1)

pub put_timestamp-requires : goal.put_timestamp-requires
put_timestamp-requires c =
    let f = c.args.f.now in
    let k = c.in-Timestamp.k in
    let told = subst (λ (x : Said). Reads c.args.f.now (read_format c.args.sorted (bytes_of c.args.f.now)) (Ok x)) c.in-Timestamp.is c.in_ok-t.ensures in
    record { is_text = ap is_hex (from_place f k) ∙ told.1.0; short = omega (arith, ap length (from_place f k), length-drop k f, c.requires.short); low = c.requires.low }

pub slice_bounds-put_union-count : goal.slice_bounds-put_union-count
slice_bounds-put_union-count c =
    let told = subst (λ (x : Said). Reads c.args.f.now (read_format c.args.sorted (bytes_of c.args.f.now)) (Ok x)) c.in-Union.is c.in_ok-t.ensures in omega (arith, told.1.1)

pub slice_bounds-put_union-start : goal.slice_bounds-put_union-start
slice_bounds-put_union-start c =
    let told = subst (λ (x : Said). Reads c.args.f.now (read_format c.args.sorted (bytes_of c.args.f.now)) (Ok x)) c.in-Union.is c.in_ok-t.ensures in omega (arith, told.1.1)

pub put_union-requires : goal.put_union-requires
put_union-requires c =
    let f = c.args.f.now in
    let k = c.in-Union.k in
    let told = subst (λ (x : Said). Reads c.args.f.now (read_format c.args.sorted (bytes_of c.args.f.now)) (Ok x)) c.in-Union.is c.in_ok-t.ensures in
    record { is_text = ap is_hex (from_place f k) ∙ told.1.0; short = omega (arith, ap length (from_place f k), length-drop k f, c.requires.short); low = c.requires.low }

pub returns-in_err-t : goal.returns-in_err-t
returns-in_err-t c =
    rw (passed c.from_residual.result _ c.from_residual.ensures.1) (sym c.in_err-t.ensures.0)

pub returns-in-Numbers : goal.returns-in-Numbers
returns-in-Numbers c =
    let told = subst (λ (x : Said). Reads c.args.f.now (read_format c.args.sorted (bytes_of c.args.f.now)) (Ok x)) c.in-Numbers.is c.in_ok-t.ensures in
    (textless_format c.in-Numbers.t, sym told.0, c.put_textless.ensures, c.below_of.ensures)

pub returns-in-Timestamp : goal.returns-in-Timestamp
returns-in-Timestamp c =
    let a = c.args in
    let f = a.f.now in
    let k = c.in-Timestamp.k in
    let told = subst (λ (x : Said). Reads c.args.f.now (read_format c.args.sorted (bytes_of c.args.f.now)) (Ok x)) c.in-Timestamp.is c.in_ok-t.ensures in
    let text : Bytes → Bytes = λ t. columns_piece (columns (shape_of (timestamp_format c.in-Timestamp.unit (bytes_of t)))) in
    (timestamp_format c.in-Timestamp.unit (bytes_of (drop k f)), sym told.0, put_same a.at a.out.now (text (take (length f - k) (drop k f))) (text (drop k f)) (ap text (from_place f k)) c.put_timestamp.ensures, refl)

pub returns-in-Union : goal.returns-in-Union
returns-in-Union c =
    let a = c.args in
    let f = a.f.now in
    let k = c.in-Union.k in
    let told = subst (λ (x : Said). Reads c.args.f.now (read_format c.args.sorted (bytes_of c.args.f.now)) (Ok x)) c.in-Union.is c.in_ok-t.ensures in
    let e = ap (λ (t : Bytes). union_format c.in-Union.mode (bytes_of t)) (from_place f k) ∙ told.0 in
    subst (λ (x : Answer Format). FormatPuts a.at x a.out.now c.put_union.new.out c.put_union.result) e c.put_union.ensures
