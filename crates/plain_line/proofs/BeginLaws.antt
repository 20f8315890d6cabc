-- What is known at each place of `begin_plain`: what is written for the line that was read and left below is what the step of plain form says, by
-- `walked_opened` and the laws of what is left (`walks`, `line_below`). Assumes nothing.
use mathlib.Core.Path.{◌≡◌, refl, sym, ap, subst, ◌∙◌}
use mathlib.Core.Bool.{Bool, true, false, ◌&&◌, ◌||◌, cond}
use mathlib.Core.List.{List, [], ◌∷◌, ◌++◌}
use Rattle.std.specs.Prelude.{Option, None, Some, Ok}
use Prim.Native.Nat.{ℕ, ◌+◌, ◌-◌, ◌≤◌, ◌<◌}
use native.Mathlib.Omega.{arith}
use lib.Dec.{eqb}
use lib.ListN.{length, length-append}
use borrow.Author.Tests.{ltb-true}
use Rattle.sheets.specs.Rule.{Meets}
use Rattle.sheets.specs.Bytes.{Bytes}
use Rattle.sheets.specs.Answer.{given, found}
use Rattle.sheets.specs.Kind
use Rattle.sheets.specs.Sheet.{ended}
use Rattle.sheets.specs.Field.{Info, leaf, ArrowDataType, scalar, nested, grouped, dictionary, extension}
use Rattle.sheets.specs.FieldSheet.{Entry, Shape, of_scalar, columns, no_text}
use Rattle.sheets.specs.FieldTrees.{is_extension, bare_below, shape_rule, type_shape, type_below, entry_head, entry_lines}
use Rattle.sheets.specs.PlainSteps.{plain_step}
use Rattle.sheets.specs.Walk.{head_with, head_text, visit, skip, Step, writes, line_walked, type_walked, row_walked}
use Rattle.sheets.proofs.Tests.{never}
use Rattle.sheets.proofs.FieldTrees.{fields_lawful}
use Rattle.sheets.proofs.TreeWalks.{below_fits}
use Rattle.sheets.proofs.WalkLaws.{walked_opened, levels_below_lem}
use Rattle.buffer.specs.Over.{PutAt, PutFirst}
use Rattle.buffer.proofs.OverLaws.{put_over, over_nothing}
use Rattle.read_field_line.specs.FieldLines.{FieldLineAt}
use Rattle.read_field_line.specs.declared.FieldLine.{FieldLine}
use Rattle.field_sheet.specs.Subtrees.{SkipsRow}
use Rattle.field_line.specs.Columns.{columns_piece, own_piece, end_piece}
use Rattle.field_line.proofs.LengthLaws.{shape_short, bare_length, end_short}
use Rattle.field_line.proofs.ColumnLaws.{bare_line}
use Rattle.walks.specs.Places.{own_limit, TypeAt, HasType, BeginsAs, one_line}
use Rattle.walks.specs.Answers.{begun_answer}
use Rattle.walks.specs.declared.Subtree.{Subtree}
use Rattle.walks.specs.declared.Subtrees.{Subtrees}
use Rattle.walks.proofs.BeginLaws.{row_smaller, begin_skip}
use Rattle.line_below.specs.Below.{row_below}
use Rattle.line_below.proofs.LineLaws.{line_opened, line_rule_lem, line_p, line_count, line_extension, line_bare}
use Rattle.line_below.proofs.BelowLaws.{all_visited, has_tree}
use Rattle.plain_line.specs.PlainLines.{plain_head, plain_line, LineHere, LinePut}
use Rattle.plain_line.specs.Begins.{line_change_of, index_line}
use Rattle.plain_line.specs.declared.LineChange.{LineChange}
use Rattle.sheets.specs.Refusal.{too_deep}
use Rattle.refusal.specs.Refusals.{Refusing}
use Rattle.plain_line.specs.declared.LineChange.TheVariants.{Vanishes, BecomesIndex, Stays}
use Rattle.walks.specs.declared.LineBegun.{LineBegun}

-- ── what becomes of the line

-- by the tests: inside an extension, an extension, a dictionary
abbrev change_by : Bool → Bool → Bool → LineChange
change_by b e d = cond b (cond e Vanishes (cond d BecomesIndex Stays)) Stays

vanishes_only : (b e d : Bool) → change_by b e d ≡ Vanishes → (b ≡ true) × (e ≡ true)
vanishes_only true true d h = (refl, refl)
vanishes_only true false true h = absurd (let z : ◌≡◌ {A = ℕ} 0 1 = cc in omega arith)
vanishes_only true false false h = absurd (let z : ◌≡◌ {A = ℕ} 0 1 = cc in omega arith)
vanishes_only false e d h = absurd (let z : ◌≡◌ {A = ℕ} 0 1 = cc in omega arith)

index_only : (b e d : Bool) → change_by b e d ≡ BecomesIndex → (b ≡ true) × (e ≡ false) × (d ≡ true)
index_only true true d h = absurd (let z : ◌≡◌ {A = ℕ} 0 1 = cc in omega arith)
index_only true false true h = (refl, refl, refl)
index_only true false false h = absurd (let z : ◌≡◌ {A = ℕ} 0 1 = cc in omega arith)
index_only false e d h = absurd (let z : ◌≡◌ {A = ℕ} 0 1 = cc in omega arith)

stays_only : (b e d : Bool) → change_by b e d ≡ Stays → (b && (d || e)) ≡ false
stays_only true true d h = absurd (let z : ◌≡◌ {A = ℕ} 0 1 = cc in omega arith)
stays_only true false true h = absurd (let z : ◌≡◌ {A = ℕ} 0 1 = cc in omega arith)
stays_only true false false h = refl
stays_only false e d h = refl

-- ── what is written for a type, by what becomes of its line

abbrev OpensAs : ArrowDataType → Option Info → Bool → Step Bool → Type 0
OpensAs t i inside p = type_walked plain_step t i inside ≡ line_walked 0 (given p) (λ τ. row_walked plain_step (type_below t) τ) (entry_lines (type_below t))

opens_vanished : (t : ArrowDataType) (i : Option Info) (inside : Bool) → inside ≡ true → is_extension (type_shape t) ≡ true → OpensAs t i inside (writes (given []) (visit (is_extension (type_shape t))))
opens_vanished (scalar s) i inside b e = never e
opens_vanished (nested n j t) i inside b e = never e
opens_vanished (grouped g fs) i inside b e = never e
opens_vanished (dictionary ix ordered t) i inside b e = never e
opens_vanished (extension n m t) i true b e = walked_opened plain_step (extension n m t) i true
opens_vanished (extension n m t) i false b e = never b

opens_staying : (t : ArrowDataType) (i : Option Info) (inside : Bool) → (inside && bare_below (type_shape t)) ≡ false
    → OpensAs t i inside (writes (given (head_text (plain_head (entry_head (i, t))) ∷ [])) (visit (is_extension (type_shape t))))
opens_staying (scalar s) i inside h = walked_opened plain_step (scalar s) i inside
opens_staying (nested n j t) i inside h = walked_opened plain_step (nested n j t) i inside
opens_staying (grouped g fs) i inside h = walked_opened plain_step (grouped g fs) i inside
opens_staying (dictionary ix ordered t) i true h = never (sym h)
opens_staying (dictionary ix ordered t) i false h = walked_opened plain_step (dictionary ix ordered t) i false
opens_staying (extension n m t) i true h = never (sym h)
opens_staying (extension n m t) i false h = walked_opened plain_step (extension n m t) i false

module _ {s : Bytes} (tree : Subtree) {i : Option Info} {t : ArrowDataType} {es : List Entry} (f : TypeAt s tree.at tree.levels tree.inside i t es) {l : FieldLine} (k : FieldLineAt s tree.at l) where
  abbrev Told : Bytes → Bytes → Refusing LineBegun → Type 0
  Told out out' r = BeginsAs plain_step s tree.at tree.levels tree.inside (type_walked plain_step t i tree.inside) es out out' (begun_answer (λ (levels : ℕ) (inside : Bool). inside) r)

  -- what is below the line is visited
  row_left : (ls : List Bytes) → OpensAs t i tree.inside (writes (given ls) (visit (is_extension (type_shape t)))) → (out out' : Bytes) (len : ℕ) → PutFirst (ended ls) len out out' → len ≤ own_limit
      → (w : Subtrees) → w ≡ row_below tree l → Told out out' (Ok (record { row = w; size = one_line len; pending = Ok tt }))
  row_left = all_visited tree f k plain_step (λ (levels : ℕ) (inside : Bool). inside)

  -- an extension vanishes
  pub vanished : line_change_of tree.inside l.kind ≡ Vanishes → (out : Bytes) (w : Subtrees) → w ≡ row_below tree l → Told out out (Ok (record { row = w; size = one_line 0; pending = Ok tt }))
  vanished h out w e =
      let c = vanishes_only tree.inside (eqb l.kind Kind.Extension) (eqb l.kind Kind.Dictionary) h in
      row_left [] (opens_vanished t i tree.inside c.0 (sym (line_extension f.stands k) ∙ c.1)) out out 0 (refl, sym (over_nothing out)) (omega arith) w e

  -- a line stays
  pub stayed : line_change_of tree.inside l.kind ≡ Stays → (out out' : Bytes) (len : ℕ) → LinePut s tree.at l out out' len → (w : Subtrees) → w ≡ row_below tree l → Told out out' (Ok (record { row = w; size = one_line len; pending = Ok tt }))
  stayed h out out' len put w e =
      let c = stays_only tree.inside (eqb l.kind Kind.Extension) (eqb l.kind Kind.Dictionary) h in
      let (at_end, short) = put k in
      let same : plain_line k.line ≡ plain_line (entry_head (i, t)) = ap plain_line (sym (line_opened f.stands k).0) in
      row_left (head_text (plain_head (entry_head (i, t))) ∷ [])
      (opens_staying t i tree.inside (ap (λ (b : Bool). tree.inside && b) (sym (line_bare f.stands k)) ∙ c)) out out' len
      (subst (λ (b : Bytes). PutFirst b len out out') same (put_over (plain_line k.line) out at_end)) short w e

  -- ── a dictionary becomes its index type

  module _ (h : line_change_of tree.inside l.kind ≡ BecomesIndex) where
    tests : (tree.inside ≡ true) × (eqb l.kind Kind.Extension ≡ false) × (eqb l.kind Kind.Dictionary ≡ true)
    tests = index_only tree.inside (eqb l.kind Kind.Extension) (eqb l.kind Kind.Dictionary) h

    bare : bare_below (type_shape t) ≡ true
    bare = sym (line_bare f.stands k) ∙ ap (λ (b : Bool). b || eqb l.kind Kind.Extension) tests.2

    none_inside : is_extension (type_shape t) ≡ false
    none_inside = sym (line_extension f.stands k) ∙ tests.1

    pub index_small : l.p < 10
    index_small = go t (line_p f.stands k) (line_rule_lem f.stands k) bare none_inside
      where
        go : (u : ArrowDataType) → l.p ≡ (columns (type_shape u)).p → Meets (shape_rule (type_shape u)) → bare_below (type_shape u) ≡ true → is_extension (type_shape u) ≡ false → l.p < 10
        go (scalar x) e r b n = never b
        go (nested g j u) e r b n = never b
        go (grouped g fs) e r b n = never b
        go (dictionary ix ordered u) e r b n = omega (arith, e, ltb-true ix 10 r)
        go (extension a m u) e r b n = never (sym n)

    -- its bare line, then nothing
    opens_index : OpensAs t i tree.inside (writes (given (head_text (head_with (of_scalar (leaf (l.p + Kind.Int8) 0)) None 0) ∷ [])) skip)
    opens_index = go t tree.inside (line_p f.stands k) bare none_inside tests.0
      where
        go : (u : ArrowDataType) (b : Bool) → l.p ≡ (columns (type_shape u)).p → bare_below (type_shape u) ≡ true → is_extension (type_shape u) ≡ false → b ≡ true
            → OpensAs u i b (writes (given (head_text (head_with (of_scalar (leaf (l.p + Kind.Int8) 0)) None 0) ∷ [])) skip)
        go (scalar x) c e b n y = never b
        go (nested g j u) c e b n y = never b
        go (grouped g fs) c e b n y = never b
        go (extension a m u) c e b n y = never (sym n)
        go (dictionary ix ordered u) false e b n y = never y
        go (dictionary ix ordered u) true e b n y =
            walked_opened plain_step (dictionary ix ordered u) i true
            ∙ ap (λ (x : ℕ). line_walked 0 (given (writes (given (head_text (head_with (of_scalar (leaf (x + Kind.Int8) 0)) None 0) ∷ [])) skip)) (λ τ. row_walked plain_step (type_below (dictionary ix ordered u)) τ) (entry_lines (type_below (dictionary ix ordered u)))) (sym e)

    module _ (r : Option ℕ) (skips : SkipsRow s l.end l.children false (tree.levels - 1) (found too_deep r)) where
      told : (q : Option ℕ) → r ≡ q → SkipsRow s l.end l.children false (tree.levels - 1) (found too_deep q)
      told q e = subst (λ (x : Option ℕ). SkipsRow s l.end l.children false (tree.levels - 1) (found too_deep x)) e skips

      many : length (type_below t) ≡ l.children
      many = fields_lawful.many (i, t) ∙ sym (line_count f.stands k)

      pub never_deep : r ≡ None → ⊥
      never_deep e =
          let m = (told None e).1 (type_below t) es (line_opened f.stands k).1 many in
          let d = levels_below_lem t tree.inside tree.levels f.deep in
          omega (arith, m, rw none_inside at d)

      pub index_begun : (next : ℕ) → r ≡ Some next → (out out' : Bytes) (len : ℕ) → PutAt 0 (index_line l.p) len out out' → len ≤ own_limit
          → Told out out' (Ok (record { row = (record { at = next; count = 0; levels = tree.levels - 1; inside = false }); size = one_line len; pending = Ok tt }))
      index_begun next e out out' len put short =
          let m = told (Some next) e (type_below t) es (line_opened f.stands k).1 many in
          let falls = row_smaller f in
          begin_skip plain_step s tree.at tree.levels tree.inside (type_walked plain_step t i tree.inside) (writes (given (head_text (head_with (of_scalar (leaf (l.p + Kind.Int8) 0)) None 0) ∷ [])) skip) (type_below t) es 0 opens_index
          false next (tree.levels - 1) false (rw none_inside at falls) m.1 m.3 f.short (omega (arith, k.there.low, m.2)) refl out out' len (given tt)
          (put_over (index_line l.p) out put) (omega (arith, k.there.low, m.2, short))

-- ── what a line that stays is written by

pub line_here : (s : Bytes) (tree : Subtree) (h : HasType s tree.at tree.levels tree.inside) (l : FieldLine) (k : FieldLineAt s tree.at l) → LineHere s tree.at l
line_here s tree h l k = record { there = k; few = omega (arith, below_fits fields_lawful k.there (has_tree s tree h), k.shows.children); short = h.3.short }

-- ── the line of an index type

abbrev pub index_shape : ℕ → Shape
index_shape index = of_scalar (leaf (index + Kind.Int8) 0)

pub numbers_short : (index : ℕ) → index < 10 → length (columns_piece (columns (index_shape index))) ≤ 67
numbers_short index h = omega (arith, shape_short (index + Kind.Int8) 0 0 no_text no_text (omega arith) (omega arith) (omega arith))

pub index_short : (index : ℕ) → index < 10 → length (index_line index) ≤ own_limit
index_short index h =
    omega (
      arith,
      ap length (bare_line (index_shape index) 0),
      length-append (columns_piece (columns (index_shape index)) ++ own_piece no_text no_text no_text) (end_piece 0),
      length-append (columns_piece (columns (index_shape index))) (own_piece no_text no_text no_text),
      numbers_short index h,
      bare_length,
      end_short 0 (omega arith),
    )
