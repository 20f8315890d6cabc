-- What is known at each place of `put_sheet`, `convert`, `answer` and `measure_export`, for every call: the answer is the walk of its step after its opening
-- (`call_walked`), and each way out is the outcome, or the measure, that is defined. Assumes nothing.
use mathlib.Core.Path.{◌≡◌, refl, sym, ap, subst, ◌∙◌}
use mathlib.Core.Bool.{Bool, true, false}
use mathlib.Core.List.{List, []}
use Rattle.std.specs.Prelude.{None, Some, Result, Ok, Err}
use Prim.Native.Nat.{ℕ, ◌+◌, ◌-◌, ◌*◌, ◌≤◌, min}
use native.Mathlib.Omega.{arith}
use mathlib.Core.List.{◌++◌}
use lib.ListN.{length, take, drop}
use Rattle.sheets.specs.Refusal.{number_of}
use Rattle.sheets.specs.Bytes.{Bytes}
use Rattle.sheets.specs.Answer.{Answer, refused, given, ◌>>=◌}
use Rattle.sheets.specs.Sheet.{level_limit, ended, heading_line, write_sheet}
use Rattle.sheets.specs.Field.{Info, ArrowDataType, Field}
use Rattle.sheets.specs.FieldSheet.{Entry, field_heading, read_field_sheet}
use Rattle.sheets.specs.Outcome.{Outcome, refusal, exported, Measure, measure, lines_in, measure_export_outcome}
use Rattle.sheets.specs.Visits.{export_lines}
use Rattle.sheets.specs.ExportSteps.{schema_step}
use Rattle.sheets.specs.Schema.{schema_heading}
use Rattle.sheets.specs.FieldTrees.{Head}
use Rattle.sheets.specs.Strict.{field_returns}
use Rattle.sheets.specs.Walk.{Step as Stepped, type_walk, type_walked, sheet_walk}
use Rattle.sheets.proofs.Tests.{first_gave}
use Rattle.sheets.proofs.SheetLaws.{sheet_headed}
use Rattle.sheets.proofs.ExportSteps.{sheet_exported, sheet_strict, lines_visited}
use Rattle.sheets.proofs.PlainSteps.{sheet_plain}
use Rattle.sheets.proofs.MappingSteps.{sheet_recursive, sheet_underlying}
use Rattle.sheets.proofs.PageSteps.{sheet_paged}
use Rattle.buffer.specs.Over.{PutAt}
use Rattle.refusal.specs.declared.Refusal.{Refusal as Reason}
use Rattle.refusal.specs.Refusals.{refusal_of, Refusing, answer_of as result_answer}
use Rattle.outcome.specs.Answers.{outcome_of, Tells, SheetTold, refused_measure}
use Rattle.outcome.specs.declared.Refused.{Refused}
use Rattle.outcome.specs.declared.Size.{Size}
use Rattle.outcome.proofs.AnswerLaws.{told_refused, told_done, measure_refused, measure_done}
use Rattle.walks.specs.Places.{own_limit, TypeAt, WroteAs}
use Rattle.walks.specs.declared.Subtree.{Subtree}
use Rattle.walks.proofs.HeadedLaws.{headed_refused, headed_done}
use Rattle.field_sheet.specs.Sheets.{asked, body_as}
use Rattle.field_sheet.proofs.SheetLaws.{Opens, strict_opens, strict_refused}
use Rattle.field_walk.specs.declared.Call.{Call}
use Rattle.field_walk.specs.declared.Call.TheVariants.{Export, Plain, ToStorageRecursive, UnderlyingPhysicalType, Page}
use Rattle.field_walk.specs.Calls.{step_of, state_of, CallWrote}
use Rattle.field_calls.specs.Answers.{strict_of, answer_of, call_outcome, opening_of, HasField, sheet_for, lines_for, lines_of, SheetWrote}

-- a sheet opens with its heading line
sheet_opened : {S : Type 0} (step : S → Head → Answer (Stepped S)) (σ : S) (heading b : Bytes)
    → sheet_walk step σ heading b ≡ (read_field_sheet b >>= λ f. type_walk step f.type (Some f.info) σ >>= λ ls. given (heading_line heading ++ ended ls))
sheet_opened step σ heading b = λ x. read_field_sheet b >>= λ f. type_walk step f.type (Some f.info) σ >>= λ ls. given (sheet_headed heading ls x)

-- the answer is the walk of the call's step, after its opening
call_walked : (c : Call) (b : Bytes) → answer_of c b ≡ (read_field_sheet b >>= λ f. asked (strict_of c) f >>= λ _. sheet_for c f.info f.type)
call_walked (Export big false) b = sheet_exported big b ∙ sheet_opened (schema_step big) None schema_heading b
call_walked (Export big true) b =
    sheet_strict big b ∙ (λ x. read_field_sheet b >>= λ f. field_returns f >>= λ _. type_walk (schema_step big) f.type (Some f.info) None >>= λ ls. given (sheet_headed schema_heading ls x))
call_walked Plain b = sheet_plain b ∙ sheet_opened (step_of Plain) false field_heading b
call_walked ToStorageRecursive b = sheet_recursive b ∙ sheet_opened (step_of ToStorageRecursive) None field_heading b
call_walked UnderlyingPhysicalType b = sheet_underlying b ∙ sheet_opened (step_of UnderlyingPhysicalType) None field_heading b
call_walked Page b = sheet_paged b

-- the subtree of the sheet's first line
abbrev tree_at : ℕ → Subtree
tree_at at = record { at = at; levels = level_limit; inside = false }

-- ── the opening and the lines

pub opening_short : (c : Call) → length (opening_of c) ≤ 48
opening_short (Export big strict) = omega arith
opening_short Plain = omega arith
opening_short ToStorageRecursive = omega arith
opening_short UnderlyingPhysicalType = omega arith
opening_short Page = omega arith

module _ (c : Call) (s : Bytes) (at : ℕ) (lent part : Bytes) (r : Refusing (ℕ × Size)) (h : CallWrote c s (tree_at at) lent part r) where
  pub lines_refused : (q : Reason) → r ≡ Err q → (i : Info) (t : ArrowDataType) (es : List Entry) → TypeAt s at level_limit false (Some i) t es → sheet_for c i t ≡ refused (refusal_of q)
  lines_refused q e i t es f = headed_refused (opening_of c) s at es (type_walked (step_of c) t (Some i) (state_of c level_limit false)) lent part (result_answer r) (h (Some i) t es f) (refusal_of q) (ap result_answer e)

  module _ (next : ℕ) (size : Size) (e : r ≡ Ok (next, size)) where
    -- no sum wraps
    pub lines_long : HasField s at → size.len ≤ own_limit * 65535
    lines_long (i, t, es, f) =
        let w : WroteAs s at es (type_walked (step_of c) t (Some i) (state_of c level_limit false)) lent part (given (next, size)) =
        subst (λ (y : Answer (ℕ × Size)). WroteAs s at es (type_walked (step_of c) t (Some i) (state_of c level_limit false)) lent part y) (ap result_answer e) (h (Some i) t es f) in
        omega (arith, w.4, w.5, f.short)

    pub lines_done : (out mid : Bytes) (head w : ℕ) → PutAt 0 (opening_of c) head out mid → w ≡ min head (length mid) → lent ≡ take (length mid - w) (drop w mid)
        → SheetWrote c s at out (take w mid ++ (part ++ drop (length mid - w) (drop w mid))) (Ok (next, record { len = head + size.len; lines = size.lines }))
    lines_done out mid head w p e₁ e₂ i t es f =
        headed_done (opening_of c) s at es (type_walked (step_of c) t (Some i) (state_of c level_limit false)) lent part (result_answer r) (h (Some i) t es f) next size (ap result_answer e) out mid head w p e₁ e₂

-- ── the sheet

module _ (c : Call) (s : Bytes) {strict : Bool} (is : strict ≡ strict_of c) (k : Refusing ℕ) (h : result_answer k ≡ body_as strict s) where
  body_is : {a : Answer ℕ} → result_answer k ≡ a → body_as (strict_of c) s ≡ a
  body_is e = ap (λ (b : Bool). body_as b s) (sym is) ∙ sym h ∙ e

  -- no field sheet, or one that a strict export refuses
  pub sheet_unread : (q : Reason) → k ≡ Err q → answer_of c s ≡ refused (refusal_of q)
  sheet_unread q e = call_walked c s ∙ strict_refused (strict_of c) s (λ f. sheet_for c f.info f.type) (body_is (ap result_answer e))

  module _ (at : ℕ) (e : k ≡ Ok at) where
    read : (f : Field) × Opens s at f × (asked (strict_of c) f ≡ given tt)
    read = strict_opens (strict_of c) s (body_is (ap result_answer e))

    field_at : TypeAt s at level_limit false (Some read.0.info) read.0.type []
    field_at = let o = read.1 in record { stands = o.stands; deep = o.levels; short = o.short }

    pub field_there : HasField s at
    field_there = (read.0.info, read.0.type, [], field_at)

    -- its answer is that of the field that was read, and so are the lines
    pub sheet_told : (out mid : Bytes) (z : Refusing (ℕ × Size)) → SheetWrote c s at out mid z → SheetTold (answer_of c s) (lines_of c s) out mid (result_answer z)
    sheet_told out mid z w =
        let f = read.0 in
        let same : answer_of c s ≡ sheet_for c f.info f.type =
        call_walked c s ∙ ap (λ (a : Answer Field). a >>= λ f. asked (strict_of c) f >>= λ _. sheet_for c f.info f.type) read.1.is_read ∙ ap (λ (a : Answer (Unit {0})). a >>= λ _. sheet_for c f.info f.type) read.2 in
        let many : lines_of c s ≡ lines_for c f.info f.type = ap (lines_in (λ f. lines_for c f.info f.type)) read.1.is_read in
        subst (λ (n : ℕ). SheetTold (answer_of c s) n out mid (result_answer z)) (sym many) (subst (λ (a : Answer Bytes). SheetTold a (lines_for c f.info f.type) out mid (result_answer z)) (sym same) (w f.info f.type [] field_at))

-- ── the outcome, and the measure

module _ (c : Call) (s out mid : Bytes) (z : Refusing (ℕ × Size)) (told : SheetTold (answer_of c s) (lines_of c s) out mid (result_answer z)) where
  as_refused : (q : Reason) → z ≡ Err q → answer_of c s ≡ refused (refusal_of q)
  as_refused q d = subst (λ (y : Answer (ℕ × Size)). SheetTold (answer_of c s) (lines_of c s) out mid y) (ap result_answer d) told

  -- a refusal
  pub answer_refused : (q : Reason) → z ≡ Err q → length mid ≡ length out → (o : Outcome) → o ≡ refusal (number_of (refusal_of q)) mid → o ≡ call_outcome c s out
  answer_refused q d l o b = told_refused (answer_of c s) out mid (refusal_of q) o (as_refused q d) b l

  -- the sheet is written, as far as it fits
  pub answer_done : (next : ℕ) (size : Size) → z ≡ Ok (next, size) → (r : Result ℕ Refused) (out' : Bytes) → Tells mid size.len r out' → outcome_of r out' ≡ call_outcome c s out
  answer_done next size d r out' b = told_done (answer_of c s) out mid (lines_of c s) (result_answer z) next size (ap result_answer d) told r out' b

  pub unmeasured : (q : Reason) → z ≡ Err q → (m : Measure) → m ≡ refused_measure (refusal_of q) → m ≡ measure (answer_of c s) (lines_of c s)
  unmeasured q d m e = measure_refused (answer_of c s) (lines_of c s) (refusal_of q) m (as_refused q d) e

  pub measured : (next : ℕ) (size : Size) → z ≡ Ok (next, size) → (m : Measure) → m ≡ record { number = 0; size = size.len; lines = size.lines } → m ≡ measure (answer_of c s) (lines_of c s)
  measured next size d m e = measure_done (answer_of c s) (lines_of c s) out mid (result_answer z) next size (ap result_answer d) told m e

-- the lines of a sheet that is exported are those of the definition
pub export_measured : (big : Bool) (s : Bytes) → measure (exported big s) (lines_of (Export big false) s) ≡ measure_export_outcome big s
export_measured big s = go (exported big s) refl
  where
    lines : (x : Bytes) → exported big s ≡ given x → lines_of (Export big false) s ≡ lines_in export_lines (read_field_sheet s)
    lines x e =
        let f = first_gave (read_field_sheet s) (λ f. type_walk (schema_step big) f.type (Some f.info) None >>= λ ls. given (write_sheet schema_heading ls)) x (sym (sheet_exported big s) ∙ e) in
        let ls = first_gave (type_walk (schema_step big) f.0.type (Some f.0.info) None) (λ ls. given (write_sheet schema_heading ls)) x f.2 in
        ap (lines_in (λ f. lines_for (Export big false) f.info f.type)) f.1 ∙ lines_visited big f.0 ls.0 ls.1 ∙ ap (lines_in export_lines) (sym f.1)

    go : (a : Answer Bytes) → exported big s ≡ a → measure a (lines_of (Export big false) s) ≡ measure a (lines_in export_lines (read_field_sheet s))
    go (refused r) e = refl
    go (given x) e = ap (measure (given x)) (lines x e)
