-- `is_more` meets its contract: a text of another length says another key. Assumes nothing.
use mathlib.Core.Path.{sym}
use Rattle.sheets.specs.Metadata.{metadata_key}
use Rattle.metadata.proofs.KeepLaws.{other_key}
use borrow.Author.Rules.{rules}
use Rattle.metadata.proofs.is_more.Goals as goal

pub returns-then-text-ne48 : goal.returns-then-text-ne48
returns-then-text-ne48 c = sym (other_key c.args.text.now metadata_key c.requires (search rules))
