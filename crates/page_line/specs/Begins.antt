-- Document 02, 'A page for the service binder', of one line and of what stands below it. Assumes nothing.
use Rattle.std.specs.Prelude.{Bool, ℕ}
use Rattle.sheets.specs.Bytes.{Bytes}
use Rattle.sheets.specs.PageSteps.{page_step}
use Rattle.walks.specs.Places.{TypeBegins}
use Rattle.walks.specs.Answers.{begun_answer}
use Rattle.refusal.specs.Refusals.{Refusing}
use Rattle.walks.specs.declared.Subtree.{Subtree}
use Rattle.walks.specs.declared.LineBegun.{LineBegun}

-- what the page has for the line, and what is left below; the levels left and whether that stands directly in an extension are the state of its walk
abbrev pub PageBegins : Bytes → Subtree → Bytes → Bytes → Refusing LineBegun → Type 0
PageBegins s t out out' r =
    TypeBegins page_step s t.at t.levels t.inside (t.levels, t.inside) out out' (begun_answer (λ (levels : ℕ) (inside : Bool). (levels, inside)) r)
