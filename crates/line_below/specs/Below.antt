-- The types below a line, by what the line says. Assumes nothing.
use Rattle.std.specs.Prelude.{◌-◌, eqb}
use Rattle.sheets.specs.Kind
use Rattle.sheets.specs.FieldTrees.{line_cost}
use Rattle.read_field_line.specs.declared.FieldLine.{FieldLine}
use Rattle.walks.specs.declared.Subtree.{Subtree}
use Rattle.walks.specs.declared.Subtrees.{Subtrees}

-- the types below a line, with the levels that are left for them
abbrev pub row_below : Subtree → FieldLine → Subtrees
row_below t l =
    record {
      at = l.end;
      count = l.children;
      levels = t.levels - line_cost t.inside (eqb l.kind Kind.Extension);
      inside = eqb l.kind Kind.Extension;
    }
