-- The heading, the first line with other columns, and a copy of what is below are the sheet of the type that was found; and each way out of the calls is the outcome
-- that is defined. Assumes nothing.
use mathlib.Core.Path.{◌≡◌, refl, sym, ap, subst, ◌∙◌}
use mathlib.Core.List.{List, [], ◌∷◌, ◌++◌, append_assoc}
use Rattle.std.specs.Prelude.{Option, Some, None, Result, Ok, Err}
use Prim.Native.Nat.{ℕ, ◌+◌, ◌-◌, ◌≤◌, min}
use native.Mathlib.Omega.{arith}
use lib.ListN.{length, take, drop, length-append, length-drop}
use lib.Seq.{take_at}
use Rattle.sheets.specs.Refusal.{number_of, undefined_mapping}
use Rattle.sheets.specs.Bytes.{Bytes, line_end}
use Rattle.sheets.specs.Answer.{Answer, given, ◌>>=◌, found}
use Rattle.sheets.specs.Sheet.{ended, heading_line}
use Rattle.sheets.specs.Field.{Info, ArrowDataType, Field}
use Rattle.sheets.specs.FieldSheet.{Entry, field_heading, read_field_sheet}
use Rattle.sheets.specs.FieldTrees.{Head, type_below, entry_head, entry_lines, fields}
use Rattle.sheets.specs.LineTrees.{Standing}
use Rattle.sheets.specs.Outcome.{Outcome, outcome, refusal}
use Rattle.sheets.specs.Walk.{head_with, head_text}
use Rattle.sheets.proofs.SheetLaws.{ended_append}
use Rattle.sheets.proofs.WalkLaws.{lines_opened, row_bytes}
use Rattle.buffer.specs.Over.{PutAt, PutFirst}
use Rattle.buffer.proofs.OverLaws.{put_over, put_lent, put_first, and_then, whole}
use Rattle.columns.specs.Columns.{part}
use Rattle.read_field_line.specs.FieldLines.{FieldLineAt}
use Rattle.read_field_line.specs.declared.FieldLine.{FieldLine}
use Rattle.line_below.proofs.LineLaws.{line_opened}
use Rattle.mapping_line.specs.PutLines.{info_text, HasColumns, Says, CanPutLine, line_with, LinePut}
use Rattle.mapping_line.proofs.PutLaws.{columns_there, columns_said}
use Rattle.walks.specs.Places.{own_limit}
use Rattle.refusal.specs.declared.Refusal.{Refusal as Reason}
use Rattle.refusal.specs.Refusals.{refusal_of, Refusing, answer_of}
use Rattle.field_sheet.specs.Sheets.{sheet_body}
use Rattle.outcome.specs.Answers.{outcome_of, Tells}
use Rattle.outcome.specs.declared.Refused.{Refused}
use Rattle.outcome.proofs.AnswerLaws.{told_refused}
use Rattle.mapping_calls.proofs.CallLaws.{sheet_unread, read, read_type, sheet_read}
use Rattle.picked_types.specs.Picks.{chosen, PickedAt, PickTold, HasField, Picks}
use Rattle.picked_types.specs.Sheets.{info_for, sheet_with, choice_outcome, columns_for, HasColumnsOf, HasOwn, CanPut, SheetPut, CanAnswer, PickAnswered}
use Rattle.picked_types.specs.declared.pick.Choice.{Choice}
use Rattle.picked_types.specs.declared.pick.Choice.TheVariants.{Storage, Inner, Child}
use Rattle.picked_types.specs.declared.pick.PickedType.{PickedType}
use Rattle.columns.specs.declared.Part.{Part}

-- ── the lines

module _ {s : Bytes} {p : PickedType} {t : ArrowDataType} (g : PickedAt s p t) where
  opened : (entry_head (g.info, t) ≡ g.line.line) × Standing fields (drop p.line.end s) (type_below t ++ g.es)
  opened = line_opened g.stands g.line

  -- what is below the first line, up to the type's end
  below_bytes : drop p.line.end s ≡ ended (entry_lines (type_below t)) ++ drop p.end s
  below_bytes = row_bytes s p.line.end p.end (type_below t) g.es opened.1 g.after

  pub below_within : p.line.end ≤ p.end
  below_within =
      omega (arith, ap length below_bytes, length-append (ended (entry_lines (type_below t))) (drop p.end s), length-drop p.line.end s, length-drop p.end s, g.high, g.line.there.high)

  below_part : part s p.line.end p.end ≡ ended (entry_lines (type_below t))
  below_part =
      ap (take (p.end - p.line.end)) below_bytes
      ∙ take_at (ended (entry_lines (type_below t))) (drop p.end s) (p.end - p.line.end)
      (omega (arith, ap length below_bytes, length-append (ended (entry_lines (type_below t))) (drop p.end s), length-drop p.line.end s, length-drop p.end s, g.high, g.line.there.high))

  -- the first line with the columns of j
  first_line_lem : (j : Option Info) → line_with g.line.line j ≡ ended (head_text (entry_head (j, t)) ∷ [])
  first_line_lem j = ap (λ (x : Head). ended (head_text (head_with x.shape j x.children) ∷ [])) (sym opened.0)

  pub sheet_made : (j : Option Info) → (heading_line field_heading ++ line_with g.line.line j) ++ part s p.line.end p.end ≡ sheet_with j t
  sheet_made j =
      let first = head_text (entry_head (j, t)) in
      let below = entry_lines (type_below t) in
      append_assoc (heading_line field_heading) (line_with g.line.line j) (part s p.line.end p.end)
      ∙ ap (λ (b : Bytes). heading_line field_heading ++ (b ++ part s p.line.end p.end)) (first_line_lem j)
      ∙ ap (λ (b : Bytes). heading_line field_heading ++ (ended (first ∷ []) ++ b)) below_part
      ∙ ap (λ (b : Bytes). heading_line field_heading ++ b) (sym (ended_append (first ∷ []) below))
      ∙ append_assoc field_heading (line_end ∷ []) (ended (first ∷ below))
      ∙ ap (λ (ls : List Bytes). field_heading ++ (line_end ∷ ended ls)) (sym (lines_opened t j))

  pub can_put_line : (own : Option Part) → HasOwn s own → CanPutLine s p.at p.line own
  can_put_line own h = record { line = g.line; columns = h.2; short = g.short }

  -- no sum wraps
  module _ (own : Option Part) (j : Option Info) (says : Says s own j) (lent out : Bytes) {len : ℕ} (h : LinePut s p.at p.line own lent out len) where
    pub line_short : len ≤ own_limit
    line_short = (h g.line j says).1

    line_put : PutFirst (line_with g.line.line j) len lent out
    line_put = (h g.line j says).0

    pub sheet_put : (old : Bytes) {mid out' : Bytes} {head w r : ℕ} → PutAt 0 (heading_line field_heading) head old mid → w ≡ min head (length mid) → lent ≡ take (length mid - w) (drop w mid)
        → PutAt (head + len) (part s p.line.end p.end) r (take w mid ++ (out ++ drop (length mid - w) (drop w mid))) out'
        → PutFirst (sheet_with j t) r old out'
    sheet_put old {mid} {out'} {head} {w} {r} a e l c =
        let both : PutFirst (heading_line field_heading ++ line_with g.line.line j) (head + len) old (take w mid ++ (out ++ drop (length mid - w) (drop w mid))) =
        put_lent (heading_line field_heading) (line_with g.line.line j) old (put_over (heading_line field_heading) old a) e (subst (λ (b : Bytes). PutFirst (line_with g.line.line j) len b out) l line_put) refl in
        let first : PutAt 0 (heading_line field_heading ++ line_with g.line.line j) (head + len) old (take w mid ++ (out ++ drop (length mid - w) (drop w mid))) =
        subst (λ (z : Type 0). z) (sym (put_first (heading_line field_heading ++ line_with g.line.line j) (head + len) old (take w mid ++ (out ++ drop (length mid - w) (drop w mid))))) both in
        subst (λ (x : Bytes). PutFirst x r old out') (sheet_made j) (whole (and_then (part s p.line.end p.end) (record { place = first.0; holds = first.1 }) c))

-- ── the columns of the first line

module _ (c : Choice) {s : Bytes} {at : ℕ} {i : Info} {t : ArrowDataType} {es : List Entry} (st : Standing fields (drop at s) ((Some i, t) ∷ es)) {first : FieldLine} (k : FieldLineAt s at first) where
  pub own_said : Says s (columns_for c first) (info_for c i)
  own_said = go c
    where
      go : (x : Choice) → Says s (columns_for x first) (info_for x i)
      go Storage = columns_said k ∙ ap (λ (h : Head). info_text h.info) (sym (line_opened st k).0)
      go Inner = refl
      go (Child index) = refl

  pub own_there : HasColumns s (columns_for c first)
  own_there = go c
    where
      go : (x : Choice) → HasColumns s (columns_for x first)
      go Storage = columns_there k
      go Inner = tt
      go (Child index) = tt

-- ── the outcome

module _ (s : Bytes) (own : Option Part) (out : Bytes) (a : Answer ArrowDataType) (j : Option Info) where
  pub pick_refused : (p : Option PickedType) → p ≡ None → PickTold s a (found undefined_mapping p) → (o : Outcome) → o ≡ refusal (number_of undefined_mapping) out → o ≡ outcome (a >>= λ t. given (sheet_with j t)) out
  pick_refused p e told o r =
      told_refused (a >>= λ t. given (sheet_with j t)) out out undefined_mapping o
      (ap (λ (x : Answer ArrowDataType). x >>= λ t. given (sheet_with j t)) (subst (λ (x : Option PickedType). PickTold s a (found undefined_mapping x)) e told)) r refl

  pub pick_written : (p : Option PickedType) (q : PickedType) → p ≡ Some q → PickTold s a (found undefined_mapping p) → Says s own j → (mid : Bytes) (len : ℕ) → SheetPut s q own out mid len → (r : Result ℕ Refused) (out' : Bytes) → Tells mid len r out'
      → outcome_of r out' ≡ outcome (a >>= λ t. given (sheet_with j t)) out
  pick_written p q e told says mid len put r out' tells =
      let w : PickTold s a (given q) = subst (λ (x : Option PickedType). PickTold s a (found undefined_mapping x)) e told in
      tells (sheet_with j w.0) out (put w.0 j w.2 says)
      ∙ ap (λ (x : Answer ArrowDataType). outcome (x >>= λ t. given (sheet_with j t)) out) (sym w.1)

-- the type that was found can be written
pub found_there : (s : Bytes) (p : Option PickedType) (q : PickedType) (own : Option Part) → p ≡ Some q → CanAnswer s p own → CanPut s q own
found_there s p q own e h = let w : PickTold s h.0 (given q) = subst (λ (x : Option PickedType). PickTold s h.0 (found undefined_mapping x)) e h.1 in (w.0, w.2, h.2)

module _ (c : Choice) (s : Bytes) (k : Refusing ℕ) (h : answer_of k ≡ sheet_body s) (out : Bytes) where
  abbrev made : Field → Answer Bytes
  made f = chosen c f.type >>= λ t. given (sheet_with (info_for c f.info) t)

  pub answer_unread : (q : Reason) → k ≡ Err q → (o : Outcome) → o ≡ refusal (number_of (refusal_of q)) out → o ≡ choice_outcome c s out
  answer_unread q e o r = told_refused (read_field_sheet s >>= made) out out (refusal_of q) o (sym (sheet_unread s k h q e made)) r refl

  module _ (at : ℕ) (e : k ≡ Ok at) {first : FieldLine} (there : FieldLineAt s at first) where
    abbrev field : Field
    field = (read s k h at e).0

    pub field_there : HasField s at first
    field_there = (Some field.info, field.type, read_type s k h at e, there)

    pub own_fits : HasColumnsOf first
    own_fits = omega (arith, there.shows.pairs.within, (read_type s k h at e).short)

    own_has : (own : Option Part) → own ≡ columns_for c first → HasOwn s own
    own_has own z =
        subst (HasOwn s) (sym z) (info_for c field.info, own_said c (read_type s k h at e).stands there, own_there c (read_type s k h at e).stands there)

    module _ (p : Option PickedType) (w : Picks c s at (found undefined_mapping p)) (own : Option Part) (z : own ≡ columns_for c first) where
      pub pick_there : CanAnswer s p own
      pick_there = (chosen c field.type, w (Some field.info) field.type (read_type s k h at e), own_has own z)

      pub answer_read : (o : Outcome) → PickAnswered s p own out o → o ≡ choice_outcome c s out
      answer_read o d =
          d (chosen c field.type) (info_for c field.info) (w (Some field.info) field.type (read_type s k h at e))
          (subst (λ (x : Option Part). Says s x (info_for c field.info)) (sym z) (own_said c (read_type s k h at e).stands there))
          ∙ ap (λ (x : Answer Bytes). outcome x out) (sheet_read s k h at e made (made field) refl)
