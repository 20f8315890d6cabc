-- `in_halves` meets its contract: the bytes of the two words are the name (`halves_read`). Assumes nothing.
use mathlib.Core.Path.{◌≡◌}
use lib.ListN.{length}
use Rattle.kind_names.proofs.NameLaws.{halves_read}
use borrow.Author.Rules.{rules}
use Rattle.kind_names.proofs.in_halves.Goals as goal

pub returns : goal.returns
returns c =
    let s = c.args.name.now in
    let n : length s ≡ 16 = search rules in
    halves_read s _ _ n c.word8_at.ensures c.word8_at-2.ensures
