-- `put_ids` meets its contract: no ids, ids that are counted, or ids as they stand in the column. Assumes nothing.
use Rattle.std.specs.Prelude.{Err, Ok}
use Rattle.put_format.proofs.FormatLaws.{ids_empty, no_fields, counted, listed_ids, listed_clean, counted_clean, zero_append, hex_start, hex_then, formats_put}
use mathlib.Core.Logic.{◌≢◌}
use Rattle.refusal.specs.declared.Refusal.TheVariants as Refusals
use Rattle.put_format.specs.Counted.{counted_text}
use Rattle.put_format.specs.LineFormat.{ids_in, union_format}
use Rattle.sheets.specs.Refusal.{no_union_ids}
use mathlib.Core.Path.{refl, sym, ◌∙◌}
use mathlib.Core.List.{[], ◌++◌}
use mathlib.Core.Bool.{false}
use native.Mathlib.Omega.{arith}
use Rattle.put_format.proofs.LeafLaws.{formats_as}
use Rattle.sheets.specs.Answer.{refused, given}
use Rattle.hexadecimal.proofs.PartLaws.{length_hex}
use Rattle.put_format.proofs.put_ids.Goals as goal

pub returns-then-same : goal.returns-then-same
returns-then-same c =
    let a = c.args in
    formats_as (refused no_union_ids) (union_format a.name.now (ids_in a.ids.now) a.fields) a.at (Err Refusals.NoUnionIds) a.out.now a.out.now (ids_empty a.name.now a.ids.now a.fields (sym c.same.ensures ∙ c.if-same.true)) (refl, refl)

pub returns-then-fields-eq0 : goal.returns-then-fields-eq0
returns-then-fields-eq0 c =
    let a = c.args in
    formats_as (refused no_union_ids) (union_format a.name.now (ids_in a.ids.now) a.fields) a.at (Err Refusals.NoUnionIds) a.out.now a.out.now (no_fields a.name.now a.ids.now a.fields (sym c.same-2.ensures ∙ c.if-same-2.true) c.if-fields-eq0.true) (refl, refl)

pub put_hex-after-requires : goal.put_hex-after-requires
put_hex-after-requires c = omega (arith, c.requires.named.short, c.requires.named.low, length_hex c.args.name.now)

pub put_counted-end-requires : goal.put_counted-end-requires
put_counted-end-requires c =
    let z : c.args.fields ≢ 0 = c.if-fields-eq0.false in
    record { some = omega arith; few = c.requires.union.few; low = omega (arith, c.requires.named.short, c.requires.union.low, length_hex c.args.name.now, c.put_hex-after.ensures.0) }

pub returns-then-same-2 : goal.returns-then-same-2
returns-then-same-2 c =
    let a = c.args in
    let n = a.name.now in
    let z : a.fields ≢ 0 = c.if-fields-eq0.false in
    let q = c.put_counted-end in
    let w = hex_then n (counted_text a.fields) (hex_then [] n (hex_start a.at a.out.now) c.put_hex-after.ensures) q.ensures.0 in
    formats_as (given (n ++ counted_text a.fields)) (union_format a.name.now (ids_in a.ids.now) a.fields) a.at (Ok (q.result, false)) a.out.now q.new.out (counted n a.ids.now a.fields (sym c.same-2.ensures ∙ c.if-same-2.true) (omega arith))
    (formats_put (n ++ counted_text a.fields) a.at q.result false a.out.now q.new.out w (sym (zero_append n (counted_text a.fields) c.requires.named.clean ∙ counted_clean a.fields)))

pub put_hex-after-requires-2 : goal.put_hex-after-requires-2
put_hex-after-requires-2 c = omega (arith, c.requires.named.short, c.requires.named.low, length_hex c.args.name.now)

pub put_hex-end-requires : goal.put_hex-end-requires
put_hex-end-requires c = omega (arith, c.requires.named.short, c.requires.named.low, length_hex c.args.name.now, c.put_hex-after-2.ensures.0, length_hex c.args.ids.now, c.requires.union.column.short)

pub returns : goal.returns
returns c =
    let a = c.args in
    let n = a.name.now in
    let q = c.put_hex-end in
    let d = sym c.same.ensures ∙ c.if-same.false in
    let t = sym c.same-2.ensures ∙ c.if-same-2.false in
    let w = hex_then n a.ids.now (hex_then [] n (hex_start a.at a.out.now) c.put_hex-after-2.ensures) q.ensures in
    formats_as (given (n ++ a.ids.now)) (union_format a.name.now (ids_in a.ids.now) a.fields) a.at (Ok (q.result, false)) a.out.now q.new.out (listed_ids n a.ids.now a.fields c.requires.union.column d t)
    (formats_put (n ++ a.ids.now) a.at q.result false a.out.now q.new.out w (sym (zero_append n a.ids.now c.requires.named.clean ∙ listed_clean n a.ids.now a.fields c.requires.union.column d t)))
