-- `parse::parse_usize` meets its contract: `read_size` is the digits after an optional plus, below 2 ^ 64. Assumes nothing.
use mathlib.Core.Path.{sym, ap, ◌∙◌}
use Prim.Native.Nat.{◌^◌}
use Rattle.hexadecimal.specs.Hex.{bytes_of}
use Rattle.parse.specs.Parse.{number_below}
use Rattle.parse.proofs.ParseLaws.{read_size_lem}
use Rattle.parse.proofs.parse_usize.Goals as goal

pub returns : goal.returns
returns c = c.number_below.ensures ∙ ap (number_below (2 ^ 64)) c.after_plus.ensures ∙ sym (read_size_lem (bytes_of c.args.s.now))
