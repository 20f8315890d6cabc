-- `put_two` meets its contract: the two digits are written one after the other. Assumes nothing.
use Rattle.decimal.proofs.WriteLaws.{two_bytes, two_digits}
use Rattle.decimal.proofs.put.put_two.Goals as goal

pub returns : goal.returns
returns c =
    let a = c.args in
    let p = c.requires in
    let one = c.put_byte-second.ensures in
    let two = c.put_byte.ensures in
    let w = two_bytes a.at _ _ _ _ a.out.now _ _ one.0 one.1 two.0 two.1 in
    rw (two_digits a.n p.1 p.2) (w.0, w.1)
