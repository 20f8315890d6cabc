-- `storage_line` meets its contract. The measure is that of a line with its levels left: it falls as it does for every walk (`line_measure`). Assumes nothing.
use Rattle.sheets.specs.Walk.{line_measure}
use Rattle.storage_line.proofs.+storage_line.Given as goal

abbrev pub decreases-storage_line : goal.decreases-storage_line
decreases-storage_line l = line_measure l.tree.levels l.tree.inside
