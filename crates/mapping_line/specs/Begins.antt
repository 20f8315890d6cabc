-- Document 01, 'Mappings', at the first line of a field: "The three that change a type answer the field with its type replaced", so the line of the type
-- inside all extensions gets the columns of the field's first line. Assumes nothing.
use Rattle.std.specs.Prelude.{Bool, ℕ, None}
use Rattle.sheets.specs.Bytes.{Bytes}
use Rattle.sheets.specs.MappingSteps.{Borne, change_step}
use Rattle.walks.specs.Places.{TypeBegins}
use Rattle.walks.specs.Answers.{begun_answer}
use Rattle.walks.specs.declared.Subtree.{Subtree}
use Rattle.mapping_line.specs.Changes.{change_of}
use Rattle.refusal.specs.Refusals.{Refusing}
use Rattle.mapping_line.specs.declared.change.Change.{Change}
use Rattle.walks.specs.declared.LineBegun.{LineBegun}

-- what is written for the type at `tree`, and what is left below; all extensions around a type are passed at once, so no line is visited with columns to bear
abbrev pub ChangeBegins : Change → Bytes → Subtree → Bytes → Bytes → Refusing LineBegun → Type 0
ChangeBegins c s t out out' r =
    TypeBegins (change_step (change_of c)) s t.at t.levels t.inside None out out' (begun_answer {S = Borne} (λ (levels : ℕ) (inside : Bool). None) r)
