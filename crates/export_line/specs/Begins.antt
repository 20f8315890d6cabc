-- Export at the first line of a field: "`ARROW:extension:name` and `ARROW:extension:metadata`" stand "for the outermost extension only", so all extensions
-- around a type are passed at the field's first line, and the line of the type in all of them is written. Assumes nothing.
use Rattle.std.specs.Prelude.{Bool, ◌&&◌, cond, ℕ, ◌+◌, eqb, Option, None}
use Rattle.sheets.specs.Refusal.{zero_byte}
use Rattle.sheets.specs.Bytes.{Bytes}
use Rattle.sheets.specs.Answer.{Answer, refused, given}
use Rattle.sheets.specs.Kind
use Rattle.sheets.specs.ExportSteps.{Bearer, schema_step}
use Rattle.read_field_line.specs.declared.FieldLine.{FieldLine}
use Rattle.put_schema_line.specs.Lines.{line_flags}
use Rattle.put_schema_line.specs.declared.LineColumns.{LineColumns}
use Rattle.put_schema_line.specs.declared.LineNumbers.{LineNumbers}
use Rattle.walks.specs.Places.{Begun, TypeBegins}
use Rattle.walks.specs.Answers.{begun_answer}
use Rattle.walks.specs.declared.Subtree.{Subtree}
use Rattle.refusal.specs.Refusals.{Refusing}
use Rattle.walks.specs.declared.Subtrees.{Subtrees}
use Rattle.walks.specs.declared.LineBegun.{LineBegun}

-- ── the columns and numbers of the schema line

-- "A dictionary directly under extensions is written as its index type alone": by the kinds of the first and of the inner line
abbrev pub is_alone : ℕ → ℕ → Bool
is_alone outer inner = eqb inner Kind.Dictionary && eqb outer Kind.Extension

-- The field's name and pairs, and the outermost extension, stand in its first line. Where it is no extension's, `more` is `~`, which stands for no extension.
abbrev pub columns_from : FieldLine → FieldLine → LineColumns
columns_from first l =
    record {
      text = l.text;
      name = first.name;
      pairs = first.pairs;
      extension = cond (eqb first.kind Kind.Extension) first.text first.more;
      more = first.more;
    }

abbrev pub numbers_with : Bool → ℕ → ℕ → ℕ → ℕ → ℕ → Bool → LineNumbers
numbers_with nullable kind p q children dictionary big =
    record { kind = kind; p = p; q = q; flags = line_flags nullable kind p q; children = children; dictionary = dictionary; big = big }

-- an index type alone is a type of its own; a dictionary's values are no child of it
abbrev pub numbers_of : Bool → Bool → ℕ → ℕ → ℕ → ℕ → Bool → LineNumbers
numbers_of nullable alone kind p q children big =
    cond alone (numbers_with nullable (p + Kind.Int8) 0 0 0 0 big)
    (cond (eqb kind Kind.Dictionary) (numbers_with nullable kind p q 0 1 big)
    (numbers_with nullable kind p q children 0 big))

-- ── what is left

-- "14 byte 00 in a line's `name` or timezone", pending until what is below is done with
abbrev pub zero_pending : Bool → Answer (Unit {0})
zero_pending zero = cond zero (refused zero_byte) (given tt)

-- what was written for the line, after so many extensions, and what is left
abbrev pub begun_with : Subtrees → ℕ → Answer (ℕ × Bool) → Answer (Begun (Option Bearer))
begun_with w passed (refused q) = refused q
begun_with w passed (given (len, zero)) =
    given (record { from = w.at; count = w.count; levels = w.levels; inside = w.inside; state = None; size = record { len = len; lines = passed + 1 }; pending = zero_pending zero })

-- what export writes for the field at `tree`, and what is left below; no line is visited in a state
abbrev pub ExportBegins : Bool → Bytes → Subtree → Bytes → Bytes → Refusing LineBegun → Type 0
ExportBegins big s t out out' r = TypeBegins (schema_step big) s t.at t.levels t.inside None out out' (begun_answer (λ (levels : ℕ) (inside : Bool). None) r)
