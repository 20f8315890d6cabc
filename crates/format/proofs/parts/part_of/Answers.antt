-- `part_of` meets its contract: each byte is two digits. Assumes nothing.
use native.Mathlib.Omega.{arith}
use Rattle.hexadecimal.proofs.HexLaws.{twice_length}
use Rattle.format.proofs.PartLaws.{part_hex, part_bytes}
use Rattle.format.proofs.parts.part_of.Goals as goal

pub overflow_mul-a : goal.overflow_mul-a
overflow_mul-a c = omega (arith, twice_length c.args.f.now c.requires.0, c.requires.1, c.requires.2)

pub overflow_mul-e : goal.overflow_mul-e
overflow_mul-e c = omega (arith, twice_length c.args.f.now c.requires.0, c.requires.1, c.requires.2)

pub slice_bounds-result-end : goal.slice_bounds-result-end
slice_bounds-result-end c = omega (arith, twice_length c.args.f.now c.requires.0, c.requires.1, c.requires.2)

pub returns : goal.returns
returns c =
    let s = c.args.f.now in
    (part_hex s c.requires.0 c.args.from c.args.to, part_bytes s c.requires.0 c.args.from c.args.to)
