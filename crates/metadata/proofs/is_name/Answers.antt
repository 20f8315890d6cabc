-- `is_name` meets its contract: a text of another length says another key. Assumes nothing.
use mathlib.Core.Path.{sym}
use Rattle.sheets.specs.Metadata.{name_key}
use Rattle.metadata.proofs.KeepLaws.{other_key}
use borrow.Author.Rules.{rules}
use Rattle.metadata.proofs.is_name.Goals as goal

pub returns-then-text-ne40 : goal.returns-then-text-ne40
returns-then-text-ne40 c = sym (other_key c.args.text.now name_key c.requires (search rules))
