-- `read_own` meets its contract: the name is tested after the metadata. Assumes nothing.
use mathlib.Core.Path.{◌≡◌, sym, subst, ◌∙◌}
use mathlib.Core.Bool.{true}
use Rattle.sheets.specs.Bytes.{Bytes}
use Rattle.hexadecimal.specs.Hex.{is_hex}
use Rattle.refusal.proofs.ErrLaws.{passed}
use Rattle.node.proofs.TextLaws.{text_bytes}
use Rattle.node.proofs.InfoLaws.{own_refused, own_found, own_unnamed}
use Rattle.node.proofs.info.read_own.Goals as goal

pub is_utf8_hex-requires : goal.is_utf8_hex-requires
is_utf8_hex-requires c =
    let h = c.requires.0 in
    subst (λ (y : Bytes). is_hex y ≡ true) (sym c.text_of.ensures) (text_bytes c.args.name.now h.0 h.1).0

pub returns-then-is_utf8_hex : goal.returns-then-is_utf8_hex
returns-then-is_utf8_hex c =
    let read = c.read_metadata in
    own_found c.args.big c.args.name.now c.args.column.now _ _ read.result read.ensures _ c.in_ok-d.was c.requires.0 _ c.text_of.ensures (sym c.is_utf8_hex.ensures ∙ c.if-is_utf8_hex.true)

pub returns-in_err-d : goal.returns-in_err-d
returns-in_err-d c =
    let read = c.read_metadata in
    rw (passed c.from_residual.result _ c.from_residual.ensures.1) (own_refused c.args.big c.args.name.now c.args.column.now _ _ read.result read.ensures _ c.in_err-d.was)

pub returns : goal.returns
returns c =
    let read = c.read_metadata in
    own_unnamed c.args.big c.args.name.now c.args.column.now _ _ read.result read.ensures _ c.in_ok-d.was c.requires.0 _ c.text_of.ensures (sym c.is_utf8_hex.ensures ∙ c.if-is_utf8_hex.false)
