-- `read_pair` meets its contract: key before value, the first refusal is the pair's. Assumes nothing.
use mathlib.Core.Path.{sym, ap}
use Prim.Native.Nat.{ℕ}
use Rattle.sheets.specs.Answer.{Answer, ◌>>=◌}
use Rattle.hexadecimal.specs.Hex.{bytes_of}
use Rattle.metadata.proofs.TextLaws.{after_key}
use Rattle.refusal.proofs.ErrLaws.{passed}
use Rattle.metadata.proofs.pair.read_pair.Goals as goal

pub read_value-requires : goal.read_value-requires
read_value-requires c = (c.requires.block, sym c.in_ok-n.ensures)

pub returns-in_err-n : goal.returns-in_err-n
returns-in_err-n c =
    let a = c.args in
    rw (passed c.from_residual.result _ c.from_residual.ensures.1) (ap (λ (x : Answer ℕ). x >>= after_key a.big (bytes_of a.m.now) a.k) c.in_err-n.ensures)
