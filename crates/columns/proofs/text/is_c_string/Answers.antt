-- `text::is_c_string` meets its contract: a mark says no byte, and in pairs byte 00 is the pair 00. Assumes nothing.
use mathlib.Core.Path.{◌≡◌, sym, ◌∙◌}
use mathlib.Core.Bool.{true}
use Prim.Native.Nat.{◌≤◌}
use native.Mathlib.Omega.{arith}
use lib.ListN.{length}
use Rattle.columns.specs.TextColumns.{is_text}
use Rattle.columns.proofs.TextLaws.{text_some, text_long, no_text, mark_c_string, pairs_c_string}
use Rattle.columns.proofs.text.is_c_string.Goals as goal

pub returns-then-not-is_text : goal.returns-then-not-is_text
returns-then-not-is_text c = sym (no_text c.args.s.now (sym c.is_text.ensures ∙ c.if-not-is_text.true))

pub returns-then-s-eq1 : goal.returns-then-s-eq1
returns-then-s-eq1 c = sym (mark_c_string c.args.s.now c.if-s-eq1.true (sym c.is_text.ensures ∙ c.if-not-is_text.false))

pub lacks_zero-requires : goal.lacks_zero-requires
lacks_zero-requires c =
    let s = c.args.s.now in
    let t : is_text s ≡ true = sym c.is_text.ensures ∙ c.if-not-is_text.false in
    sym (text_long s (omega (arith, text_some s t))) ∙ t

pub returns : goal.returns
returns c =
    let s = c.args.s.now in
    let t : is_text s ≡ true = sym c.is_text.ensures ∙ c.if-not-is_text.false in
    let l : 2 ≤ length s = omega (arith, text_some s t) in
    c.lacks_zero.ensures ∙ sym (pairs_c_string s l (sym (text_long s l) ∙ t))
