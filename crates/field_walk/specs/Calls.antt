-- The calls that answer lines for those of a field sheet: each has a step (sheets/specs/Walk) for a line, and what it tells is told of its step. Assumes nothing.
use Rattle.std.specs.Prelude.{Bool, true, false, ◌&&◌, ℕ, eqb, Option, None}
use Rattle.sheets.specs.Bytes.{Bytes}
use Rattle.sheets.specs.Answer.{Answer}
use Rattle.sheets.specs.FieldTrees.{Head}
use Rattle.sheets.specs.Walk.{Step}
use Rattle.sheets.specs.ExportSteps.{Bearer, schema_step}
use Rattle.sheets.specs.PlainSteps.{plain_step}
use Rattle.sheets.specs.MappingSteps.{Borne, storage_change, underlying_change, change_step}
use Rattle.sheets.specs.PageSteps.{page_step}
use Rattle.walks.specs.Places.{TypeBegins, LeafWrote, TypeWrote, RowWrote}
use Rattle.walks.specs.Answers.{begun_answer}
use Rattle.walks.specs.declared.Subtree.{Subtree}
use Rattle.walks.specs.declared.Subtrees.{Subtrees}
use Rattle.field_walk.specs.declared.Call.{Call}
use Rattle.field_walk.specs.declared.Call.TheVariants.{Export, Plain, ToStorageRecursive, UnderlyingPhysicalType, Page}
use Rattle.field_walk.specs.declared.LeafLine.{LeafLine}
use Rattle.refusal.specs.Refusals.{Refusing, answer_of}
use Rattle.field_walk.specs.declared.LeafLine.TheVariants.{Schema, Same, Page as PageLine}
use Rattle.walks.specs.declared.LineBegun.{LineBegun}
use Rattle.outcome.specs.declared.Size.{Size}

-- what a call carries from a line to those below it
abbrev pub StateOf : Call → Type 0
StateOf (Export big strict) = Option Bearer
StateOf Plain = Bool
StateOf ToStorageRecursive = Borne
StateOf UnderlyingPhysicalType = Borne
StateOf Page = ℕ × Bool

-- what it does with a line
abbrev pub step_of : (c : Call) → StateOf c → Head → Answer (Step (StateOf c))
step_of (Export big strict) = schema_step big
step_of Plain = plain_step
step_of ToStorageRecursive = change_step storage_change
step_of UnderlyingPhysicalType = change_step underlying_change
step_of Page = page_step

-- the state at a line with so many levels left, its own among them, that stands directly in an extension, or not. Export and the mappings pass all
-- extensions around a type at their first line, so they visit none in a state.
abbrev pub state_of : (c : Call) → ℕ → Bool → StateOf c
state_of (Export big strict) levels inside = None
state_of Plain levels inside = inside
state_of ToStorageRecursive levels inside = None
state_of UnderlyingPhysicalType levels inside = None
state_of Page levels inside = (levels, inside)

-- what it writes for a leaf's short line: a schema line, a line of the page, or the line as it stands; a date's is another line underneath
abbrev pub leaf_line_of : Call → LeafLine
leaf_line_of (Export big strict) = Schema
leaf_line_of Plain = Same true
leaf_line_of ToStorageRecursive = Same true
leaf_line_of UnderlyingPhysicalType = Same false
leaf_line_of Page = PageLine

-- the one type directly inside an extension
abbrev pub is_inner : Subtrees → Bool
is_inner w = w.inside && eqb w.count 1

-- ── what the functions of the walk tell

abbrev pub CallBegins : Call → Bytes → Subtree → Bytes → Bytes → Refusing LineBegun → Type 0
CallBegins c s t out out' r = TypeBegins (step_of c) s t.at t.levels t.inside (state_of c t.levels t.inside) out out' (begun_answer (state_of c) r)

abbrev pub CallLeafWrote : Call → Bytes → Subtree → Bytes → Bytes → Option (ℕ × ℕ) → Type 0
CallLeafWrote c s t out out' r = LeafWrote (step_of c) s t.at t.levels t.inside (state_of c t.levels t.inside) out out' r

abbrev pub CallWrote : Call → Bytes → Subtree → Bytes → Bytes → Refusing (ℕ × Size) → Type 0
CallWrote c s t out out' r = TypeWrote (step_of c) s t.at t.levels t.inside (state_of c t.levels t.inside) out out' (answer_of r)

abbrev pub CallRowWrote : Call → Bytes → Subtrees → Bytes → Bytes → Refusing (ℕ × Size) → Type 0
CallRowWrote c s w out out' r = RowWrote (step_of c) s w.at w.count w.levels w.inside (state_of c w.levels w.inside) out out' (answer_of r)
