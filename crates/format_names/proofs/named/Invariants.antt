-- `named` meets its contract. The loop's invariant: the name finds what it finds among the rows from i on. Assumes nothing.
use mathlib.Core.Path.{◌≡◌}
use lib.ListN.{drop}
use Rattle.sheets.specs.Format.{row_named}
use Rattle.hexadecimal.specs.Hex.{bytes_of}
use Rattle.format_names.specs.Names.{rows_from}
use Rattle.format_names.proofs.named.Given as goal

abbrev pub invariant-loop-i : goal.invariant-loop-i
invariant-loop-i l = row_named (bytes_of l.f) (rows_from l.row l.count) ≡ row_named (bytes_of l.f) (drop l.i (rows_from l.row l.count))
