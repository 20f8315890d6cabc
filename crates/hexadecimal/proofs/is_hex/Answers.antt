-- `is_hex` meets its contract. The loop's invariant: the whole text is pairs of digits exactly if `ok` is true and the bytes that are left are digits.
-- Assumes nothing.
use mathlib.Core.Path.{sym, ◌∙◌, ap}
use mathlib.Core.Bool.{◌&&◌}
use Prim.Native.Nat.{◌+◌}
use lib.ListN.{drop}
use Rattle.hexadecimal.proofs.HexLaws.{all_digits, even_digits, digits_next, digits_end}
use borrow.Author.Rules.{rules}
use Rattle.hexadecimal.proofs.is_hex.Goals as goal

pub loop-b-init : goal.loop-b-init
loop-b-init c = even_digits c.args.s.now

pub loop-b-preserved : goal.loop-b-preserved
loop-b-preserved c =
    let s = c.args.s.now in
    let l = c.loop-b in
    l.invariant ∙ digits_next l.ok s l.b-index (search rules) ∙ ap (λ t. (l.ok && t) && all_digits (drop (l.b-index + 1) s)) (sym c.is_digit-ok.ensures)

pub returns : goal.returns
returns c =
    let s = c.args.s.now in
    sym (c.loop-b.invariant ∙ digits_end c.loop-b.ok s c.loop-b.b-index (search rules))
