-- The types below a line that was read stand where `row_below_lem` says, and a line that visits all of them is begun as its step says: by the laws of the line
-- (`LineLaws`) and of what is left (walks/proofs/BeginLaws), for any step. Assumes nothing.
use mathlib.Core.Path.{◌≡◌, refl, sym, ap, subst, ◌∙◌}
use mathlib.Core.Bool.{Bool}
use mathlib.Core.List.{List}
use Rattle.std.specs.Prelude.{Option, Ok}
use Prim.Native.Nat.{ℕ, ◌-◌, ◌≤◌, ◌<◌}
use native.Mathlib.Omega.{arith}
use lib.Dec.{eqb}
use Rattle.sheets.specs.Bytes.{Bytes}
use Rattle.sheets.specs.Answer.{Answer, given}
use Rattle.sheets.specs.Kind
use Rattle.sheets.specs.Sheet.{ended}
use Rattle.sheets.specs.Field.{Info, ArrowDataType}
use Rattle.sheets.specs.FieldSheet.{Entry}
use Rattle.sheets.specs.LineTrees.{tallest}
use Rattle.sheets.specs.FieldTrees.{Head, is_extension, line_cost, type_shape, type_below, entry_levels, entry_lines, fields}
use Rattle.sheets.specs.TreeWalks.{HasTree, HasRow}
use Rattle.sheets.specs.Walk.{levels_below, line_measure, row_measure, visit, Step, Walked, writes, line_walked, type_walked, row_walked}
use Rattle.sheets.proofs.FieldTrees.{fields_lawful}
use Rattle.sheets.proofs.WalkLaws.{levels_below_lem}
use Rattle.buffer.specs.Over.{PutFirst}
use Rattle.read_field_line.specs.FieldLines.{FieldLineAt}
use Rattle.read_field_line.specs.declared.FieldLine.{FieldLine}
use Rattle.field_sheet.proofs.SkipLaws.{line_row}
use Rattle.walks.specs.Places.{own_limit, TypeAt, RowAt, HasType, BeginsAs, one_line}
use Rattle.walks.specs.Answers.{begun_answer}
use Rattle.walks.specs.declared.Subtree.{Subtree}
use Rattle.walks.specs.declared.Subtrees.{Subtrees}
use Rattle.walks.proofs.BeginLaws.{some_level, row_smaller, begin_visit}
use Rattle.line_below.specs.Below.{row_below}
use Rattle.line_below.proofs.LineLaws.{line_opened, line_count, line_extension}

-- ── the types below a line, where it is an extension or not (e) and costs so much

module _ {s : Bytes} {at levels : ℕ} {inside : Bool} {i : Option Info} {t : ArrowDataType} {es : List Entry} (f : TypeAt s at levels inside i t es) {l : FieldLine} (k : FieldLineAt s at l)
    {e : Bool} {cost : ℕ} (ext : e ≡ eqb l.kind Kind.Extension) (is : cost ≡ line_cost inside e) where
  below_is : is_extension (type_shape t) ≡ e
  below_is = sym (ext ∙ line_extension f.stands k)

  pub row_below_lem : RowAt s l.end l.children (levels - cost) e (type_below t) es
  row_below_lem =
      let low = levels_below_lem t inside levels f.deep in
      record {
        stands = (line_opened f.stands k).1;
        counted = fields_lawful.many (i, t) ∙ sym (line_count f.stands k);
        deep = omega (arith, is, subst (λ (y : Bool). tallest (entry_levels y) (type_below t) ≤ levels - line_cost inside y) below_is low);
        within = k.there.high;
        short = f.short;
      }

  pub row_less : row_measure (levels - cost) e < line_measure levels inside
  row_less =
      subst (λ (c : ℕ). row_measure (levels - c) e < line_measure levels inside) (sym is)
      (subst (λ (y : Bool). row_measure (levels - line_cost inside y) y < line_measure levels inside) below_is (row_smaller f))

-- what `row_below_lem` makes of them
pub row_told : (t : Subtree) (l : FieldLine) (e : Bool) (cost : ℕ) → e ≡ eqb l.kind Kind.Extension → cost ≡ line_cost t.inside e
    → ◌≡◌ {A = Subtrees} (record { at = l.end; count = l.children; levels = t.levels - cost; inside = e }) (row_below t l)
row_told t l e cost is costs = λ x. record { at = l.end; count = l.children; levels = t.levels - (costs ∙ ap (line_cost t.inside) is) x; inside = is x }

-- ── all of them are visited

module _ {s : Bytes} (tree : Subtree) {i : Option Info} {t : ArrowDataType} {es : List Entry} (f : TypeAt s tree.at tree.levels tree.inside i t es) {l : FieldLine} (k : FieldLineAt s tree.at l)
    {S : Type 0} (step : S → Head → Answer (Step S)) (state : ℕ → Bool → S) where
  -- in the state of those that stand there
  abbrev visited : S
  visited = state (levels_below (type_shape t) tree.inside tree.levels) (is_extension (type_shape t))

  abbrev walked : Walked
  walked = type_walked step t i (state tree.levels tree.inside)

  abbrev left : Subtrees
  left = row_below tree l

  -- the line's own lines ls are written
  pub all_visited : (ls : List Bytes) → walked ≡ line_walked 0 (given (writes (given ls) (visit visited))) (λ τ. row_walked step (type_below t) τ) (entry_lines (type_below t))
      → (out out' : Bytes) (len : ℕ) → PutFirst (ended ls) len out out' → len ≤ own_limit → (w : Subtrees) → w ≡ row_below tree l
      → BeginsAs step s tree.at tree.levels tree.inside walked es out out' (begun_answer state (Ok (record { row = w; size = one_line len; pending = Ok tt })))
  all_visited ls o out out' len put short w e =
      let is : is_extension (type_shape t) ≡ eqb l.kind Kind.Extension = sym (line_extension f.stands k) in
      subst (λ (y : Subtrees). BeginsAs step s tree.at tree.levels tree.inside walked es out out' (begun_answer state (Ok (record { row = y; size = one_line len; pending = Ok tt })))) (sym e)
      (begin_visit step s tree.at tree.levels tree.inside walked (writes (given ls) (visit visited)) (type_below t) es 0 o
      (state left.levels left.inside) (λ x. visit (state (tree.levels - line_cost tree.inside (is x)) (is x)))
      l.end l.children left.levels left.inside (row_below_lem f k refl refl) (row_less f k refl refl) out out' len (given tt) put (omega (arith, k.there.low, short)) (omega (arith, k.there.low)))

-- ── what the functions ask

module _ (s : Bytes) (tree : Subtree) (h : HasType s tree.at tree.levels tree.inside) where
  pub has_tree : HasTree fields s tree.at
  has_tree = ((h.0, h.1), h.2, h.3.stands)

  pub has_level : 1 ≤ tree.levels
  has_level = some_level h.3

  pub values_there : (l : FieldLine) (k : FieldLineAt s tree.at l) → HasRow fields s l.end l.children
  values_there l k = line_row l k has_tree
