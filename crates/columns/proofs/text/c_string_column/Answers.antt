-- `text::c_string_column` meets its contract: a column of ASCII bytes is a C string, and any other is read as before. Assumes nothing.
use mathlib.Core.Path.{sym, ap, ◌∙◌}
use Rattle.columns.specs.TextColumns.{is_cstring}
use Rattle.columns.proofs.PairsColumnLaws.{ascii_c_string, pairs_hold}
use Rattle.columns.proofs.text.c_string_column.Goals as goal

pub returns-in-Some : goal.returns-in-Some
returns-in-Some c =
    let a = c.args in
    pairs_hold is_cstring a.s.now a.at _ ascii_c_string (sym (c.in-Some.is) ∙ c.pairs_column.ensures)
