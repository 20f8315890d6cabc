-- What is known at each place of `begin_page`: the level, the kind, the mark and the digits are those of the line that was read (line_below/proofs/LineLaws),
-- so that its line of the page is written, and the types below it are left. Assumes nothing.
use mathlib.Core.Path.{◌≡◌, sym, ap, subst, ◌∙◌}
use mathlib.Core.Bool.{Bool}
use mathlib.Core.List.{List, [], ◌∷◌}
use Rattle.std.specs.Prelude.{Option, Ok}
use Prim.Native.Nat.{ℕ, ◌<◌}
use native.Mathlib.Omega.{arith}
use lib.Dec.{eqb}
use Rattle.sheets.specs.Bytes.{Bytes}
use Rattle.sheets.specs.Kind
use Rattle.sheets.specs.Sheet.{ended}
use Rattle.sheets.specs.Field.{Info, ArrowDataType}
use Rattle.sheets.specs.FieldSheet.{Entry}
use Rattle.sheets.specs.FieldTrees.{is_extension, type_shape, entry_head}
use Rattle.sheets.specs.Page.{name_digits, line_shown, page_line}
use Rattle.sheets.specs.PageSteps.{level_of, page_step}
use Rattle.sheets.specs.Walk.{type_walked}
use Rattle.sheets.proofs.WalkLaws.{walked_opened}
use Rattle.sheets.proofs.PageLaws.{shown_ended}
use Rattle.buffer.specs.Over.{PutFirst}
use Rattle.columns.specs.Columns.{part}
use Rattle.columns.specs.declared.Part.{Part}
use Rattle.read_field_line.specs.FieldLines.{Shows, FieldLineAt}
use Rattle.read_field_line.specs.declared.FieldLine.{FieldLine}
use Rattle.walks.specs.Places.{TypeAt, BeginsAs, one_line}
use Rattle.walks.specs.Answers.{begun_answer}
use Rattle.walks.specs.declared.Subtree.{Subtree}
use Rattle.walks.specs.declared.Subtrees.{Subtrees}
use Rattle.line_below.specs.Below.{row_below}
use Rattle.line_below.proofs.LineLaws.{line_opened, line_kind, line_extension}
use Rattle.line_below.proofs.BelowLaws.{all_visited}
use Rattle.page_line.specs.PageLines.{mark_of, shown_part}
use Rattle.page_line.proofs.PageLaws.{mark_is, Shown, name_shown}

module _ {s : Bytes} (tree : Subtree) {i : Option Info} {t : ArrowDataType} {es : List Entry} (f : TypeAt s tree.at tree.levels tree.inside i t es) {l : FieldLine} (k : FieldLineAt s tree.at l) where
  shown : Shows s l (entry_head (i, t))
  shown = subst (Shows s l) (sym (line_opened f.stands k).0) k.shows

  -- the digits of its name
  pub digits_shown : {name : Part} → name ≡ shown_part l.name → Shown s name (name_digits i)
  digits_shown e = subst (λ (r : Part). Shown s r (name_digits i)) (sym e) (name_shown s l.name i shown.name)

  pub page_begun : (level mark len : ℕ) (name : Part) (out out' : Bytes) (w : Subtrees)
      → level ≡ level_of tree.levels tree.inside (eqb l.kind Kind.Extension) → level < 100 → mark ≡ mark_of l.bare l.nullable → name ≡ shown_part l.name
      → PutFirst (ended (line_shown level l.kind mark (part s name.start name.end) ∷ [])) len out out' → w ≡ row_below tree l
      → BeginsAs page_step s tree.at tree.levels tree.inside (type_walked page_step t i (tree.levels, tree.inside)) es out out' (begun_answer (λ (levels : ℕ) (inside : Bool). (levels, inside)) (Ok (record { row = w; size = one_line len; pending = Ok tt })))
  page_begun level mark len name out out' w levels small marks names put e =
      let level-is : level ≡ level_of tree.levels tree.inside (is_extension (type_shape t)) = levels ∙ ap (level_of tree.levels tree.inside) (line_extension f.stands k) in
      let marked = marks ∙ (λ x. mark_of (shown.bare x) (shown.nullable x)) ∙ sym (mark_is i) in
      let text : ended (line_shown level l.kind mark (part s name.start name.end) ∷ []) ≡ ended (page_line (level_of tree.levels tree.inside (is_extension (type_shape t))) (entry_head (i, t)) ∷ []) =
      λ x. ended (line_shown (level-is x) (line_kind f.stands k x) (marked x) ((digits_shown names).is x) ∷ []) in
      all_visited tree f k page_step (λ (levels : ℕ) (inside : Bool). (levels, inside)) (page_line (level_of tree.levels tree.inside (is_extension (type_shape t))) (entry_head (i, t)) ∷ [])
      (walked_opened page_step t i (tree.levels, tree.inside)) out out' len (subst (λ (b : Bytes). PutFirst b len out out') text put)
      (omega (arith, put.0, shown_ended level l.kind mark (part s name.start name.end) (omega (arith, small)))) w e
