-- `class_table` meets its contract, by one test computed over the whole table. Assumes nothing.
use mathlib.Core.Path.{refl}
use Rattle.sheets.specs.Utf8Classes.{class_of, next_of}
use Rattle.utf8.proofs.TableLaws.{class_rule}
use Rattle.utf8.proofs.class_table.Goals as goal

pub returns : goal.returns
unfolding class_of next_of
returns c = class_rule _ refl
