-- `put_u64` meets its contract: a number below 10 is one digit, one below 100 is two; the others are `put_digits`'. Assumes nothing.
use mathlib.Core.Path.{◌≡◌, ◌∙◌}
use mathlib.Core.List.{[], ◌∷◌}
use Prim.Native.Nat.{◌+◌}
use Rattle.sheets.specs.Number.{decimal}
use Rattle.decimal.proofs.WriteLaws.{decimal_start, first_digit}
use Rattle.decimal.proofs.put.put_u64.Goals as goal

pub returns-then-n-lt10 : goal.returns-then-n-lt10
returns-then-n-lt10 c =
    let n = c.args.n in
    let e : decimal n ≡ (48 + n) ∷ [] = decimal_start n ∙ first_digit n [] c.if-n-lt10.true in
    let w = c.put_byte in
    rw e (w.ensures.0, w.ensures.1)

pub put_two-requires : goal.put_two-requires
put_two-requires c = (c.requires, c.if-n-lt10.false, c.if-n-lt100.true)
