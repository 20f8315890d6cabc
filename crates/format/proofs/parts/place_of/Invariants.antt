-- `place_of` meets its contract. The loop's invariant: the place that is looked for is as far from k as the bytes from k on say. Assumes
-- nothing.
use mathlib.Core.Path.{◌≡◌}
use Prim.Native.Nat.{◌+◌, ◌≤◌, max}
use lib.ListN.{length, drop}
use Rattle.hexadecimal.specs.Hex.{bytes_of}
use Rattle.sheets.specs.Parts.{bytes_before}
use Rattle.format.proofs.parts.place_of.Given as goal

abbrev pub invariant-loop-k : goal.invariant-loop-k
invariant-loop-k l = (l.n ≡ length (bytes_of l.f)) × (l.k ≤ max l.from l.n) × (l.from + bytes_before l.b (drop l.from (bytes_of l.f)) ≡ l.k + bytes_before l.b (drop l.k (bytes_of l.f)))
