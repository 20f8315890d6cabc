-- `next_table` meets its contract, by one test computed over the whole table. Assumes nothing.
use mathlib.Core.Path.{refl}
use Rattle.sheets.specs.Utf8Classes.{class_of, next_of}
use Rattle.utf8.proofs.TableLaws.{next_rule}
use Rattle.utf8.proofs.next_table.Goals as goal

pub returns : goal.returns
unfolding class_of next_of
returns c = next_rule _ refl
