-- Document 01, 'Plain form', of one line and of what stands below it: "Extensions directly inside an extension vanish; the outermost stays. A dictionary
-- then directly under an extension becomes its index type." Assumes nothing.
use Rattle.std.specs.Prelude.{◌≡◌, Bool, cond, [], ◌∷◌, ℕ, ◌+◌, eqb, None}
use Rattle.sheets.specs.Bytes.{Bytes}
use Rattle.sheets.specs.Kind
use Rattle.sheets.specs.Sheet.{ended}
use Rattle.sheets.specs.Field.{leaf}
use Rattle.sheets.specs.FieldSheet.{of_scalar}
use Rattle.sheets.specs.Walk.{head_with, head_text}
use Rattle.sheets.specs.PlainSteps.{plain_step}
use Rattle.read_field_line.specs.FieldLines.{FieldLineAt}
use Rattle.read_field_line.specs.declared.FieldLine.{FieldLine}
use Rattle.walks.specs.Places.{HasType, TypeBegins}
use Rattle.walks.specs.Answers.{begun_answer}
use Rattle.walks.specs.declared.Subtree.{Subtree}
use Rattle.plain_line.specs.declared.LineChange.{LineChange}
use Rattle.refusal.specs.Refusals.{Refusing}
use Rattle.plain_line.specs.declared.LineChange.TheVariants.{Vanishes, BecomesIndex, Stays}
use Rattle.walks.specs.declared.LineBegun.{LineBegun}

-- what becomes of a line of this kind, directly inside an extension or not
abbrev pub line_change_of : Bool → ℕ → LineChange
line_change_of inside kind = cond inside (cond (eqb kind Kind.Extension) Vanishes (cond (eqb kind Kind.Dictionary) BecomesIndex Stays)) Stays

-- "a bare line of that type's kind, with `p`, `q` 0, both texts `~` and no children"
abbrev pub index_line : ℕ → Bytes
index_line index = ended (head_text (head_with (of_scalar (leaf (index + Kind.Int8) 0)) None 0) ∷ [])

-- a dictionary that becomes its index type was read here
pub record HasIndex (s : Bytes) (t : Subtree) (l : FieldLine) : Type 0 where
  pub type : HasType s t.at t.levels t.inside
  pub line : FieldLineAt s t.at l
  pub change : line_change_of t.inside l.kind ≡ BecomesIndex

-- what plain form writes for the line, and what is left below; whether that stands directly in an extension is the state of its walk
abbrev pub PlainBegins : Bytes → Subtree → Bytes → Bytes → Refusing LineBegun → Type 0
PlainBegins s t out out' r = TypeBegins plain_step s t.at t.levels t.inside t.inside out out' (begun_answer (λ (levels : ℕ) (inside : Bool). inside) r)
