-- `says` meets its contract. The loop's invariant: the bytes of the text and `key` are the same exactly if they are from `k` on. Assumes nothing.
use mathlib.Core.Path.{◌≡◌}
use lib.ListN.{drop}
use Rattle.sheets.specs.Bytes.{same}
use Rattle.hexadecimal.specs.Hex.{bytes_of}
use Rattle.hexadecimal.proofs.says.Given as goal

abbrev pub invariant-loop-k : goal.invariant-loop-k
invariant-loop-k l = same (bytes_of l.s) l.key ≡ same (drop l.k (bytes_of l.s)) (drop l.k l.key)
