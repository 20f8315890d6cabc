-- `put_type` meets its contract: a null format, one that is not UTF-8, then the type with a dictionary or without. Assumes nothing.
use mathlib.Core.Path.{◌≡◌, sym, ap, subst, ◌∙◌}
use mathlib.Core.Bool.{true}
use native.Mathlib.Omega.{arith}
use lib.ListN.{length}
use Rattle.sheets.specs.Bytes.{Bytes}
use Rattle.hexadecimal.specs.Hex.{is_hex}
use Rattle.schema_line.proofs.TextLaws.{text_shorter}
use Rattle.node.proofs.TextLaws.{text_bytes}
use Rattle.node.proofs.TypeLaws.{null_type_lem, not_utf8_type, plain_node, index_node}
use Rattle.refusal.specs.Refusals.{answer_of}
use Rattle.node.proofs.dtype.put_type.Goals as goal

-- src/dtype.rt:70:9
pub returns-then-same : goal.returns-then-same
returns-then-same c =
    let a = c.args in
    null_type_lem a.column.now a.line (sym c.same.ensures ∙ c.if-same.true)

-- src/dtype.rt:73:8
pub is_utf8_hex-requires : goal.is_utf8_hex-requires
is_utf8_hex-requires c =
    let h = c.requires.0 in
    subst (λ (y : Bytes). is_hex y ≡ true) (sym c.text_of-f.ensures) (text_bytes c.args.column.now h.0 h.1).0

-- src/dtype.rt:75:13
pub put_plain-requires : goal.put_plain-requires
put_plain-requires c =
    let h = c.requires.0 in
    let f = c.text_of-f.ensures in
    record { is_text = subst (λ (y : Bytes). is_hex y ≡ true) (sym f) (text_bytes c.args.column.now h.0 h.1).0; short = omega (arith, ap length f, text_shorter c.args.column.now, c.requires.1); low = omega arith }

-- src/dtype.rt:75:13
pub returns-then-line-eq0 : goal.returns-then-line-eq0
returns-then-line-eq0 c =
    let put = c.put_plain in
    plain_node c.args.column.now c.args.line c.requires.0 (sym c.same.ensures ∙ c.if-same.false) _ c.text_of-f.ensures (sym c.is_utf8_hex.ensures ∙ c.if-is_utf8_hex.true) c.args.out.now _ (answer_of put.result) _ c.if-line-eq0.true c.sorted.ensures put.ensures

-- src/dtype.rt:77:9
pub put_index-requires : goal.put_index-requires
put_index-requires c =
    let h = c.requires.0 in
    subst (λ (y : Bytes). is_hex y ≡ true) (sym c.text_of-f.ensures) (text_bytes c.args.column.now h.0 h.1).0

-- src/dtype.rt:77:9
pub returns-then-is_utf8_hex : goal.returns-then-is_utf8_hex
returns-then-is_utf8_hex c =
    let put = c.put_index in
    index_node c.args.column.now c.args.line c.requires.0 (sym c.same.ensures ∙ c.if-same.false) _ c.text_of-f.ensures (sym c.is_utf8_hex.ensures ∙ c.if-is_utf8_hex.true) c.args.out.now _ (answer_of put.result) _ c.if-line-eq0.false c.ordered.ensures put.ensures

-- src/dtype.rt:65:1
pub returns : goal.returns
returns c = not_utf8_type c.args.column.now c.args.line c.requires.0 (sym c.same.ensures ∙ c.if-same.false) _ c.text_of-f.ensures (sym c.is_utf8_hex.ensures ∙ c.if-is_utf8_hex.false)
