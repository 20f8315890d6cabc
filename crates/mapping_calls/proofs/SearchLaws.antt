-- Looking for a dictionary: a type that is none contains one if a type below its line does; what is known of the line that was read; and in the loop over a row
-- the types that are left contain one if all of the row do. Assumes nothing.
use mathlib.Core.Path.{◌≡◌, refl, sym, ap, subst, ◌∙◌}
use mathlib.Core.Bool.{Bool, true, false, ◌||◌}
use mathlib.Core.List.{List, [], ◌∷◌, ◌++◌}
use Rattle.std.specs.Prelude.{Option, None, Some}
use Prim.Native.Nat.{ℕ, ◌+◌, ◌-◌, ◌≤◌, ◌<◌}
use native.Mathlib.Omega.{arith}
use lib.Dec.{eqb}
use Rattle.sheets.specs.Bytes.{Bytes}
use Rattle.sheets.specs.Kind
use Rattle.sheets.specs.Field.{Info, list, large_list, fixed_size_list, map, ArrowDataType, scalar, nested, grouped, dictionary, extension, Fields, nil, add}
use Rattle.sheets.specs.FieldSheet.{Entry, columns}
use Rattle.sheets.specs.FieldTrees.{Head, line_cost, push_fields, type_shape, type_below}
use Rattle.sheets.specs.Mappings.{contains_dictionary, any_dictionary}
use Rattle.sheets.proofs.Tests.{never}
use Rattle.sheets.proofs.FieldTrees.{fields_lawful}
use Rattle.sheets.proofs.TreeWalks.{line_below}
use Rattle.read_field_line.specs.FieldLines.{FieldLineAt}
use Rattle.read_field_line.specs.declared.FieldLine.{FieldLine}
use Rattle.field_leaf.specs.FieldLeaves.{FieldLeafAt}
use Rattle.field_sheet.proofs.ReadLaws.{leaf_to_lem}
use Rattle.nesting.specs.Nestings.{shape_nesting, type_nesting, kind_nesting}
use Rattle.nesting.specs.declared.Nesting.{Nesting}
use Rattle.nesting.specs.declared.Nesting.TheVariants as N
use Rattle.nesting.proofs.NestingLaws.{line_nesting}
use Rattle.line_below.proofs.LineLaws.{line_kind}
use Rattle.line_below.proofs.BelowLaws.{row_below_lem}
use Rattle.walks.specs.Places.{TypeAt, RowAt, HasType}
use Rattle.walks.proofs.BeginLaws.{some_level}
use Rattle.walks.proofs.RowLaws.{tallest_cons}
use Rattle.mapping_calls.specs.Answers.{nesting_nested}
use Rattle.mapping_calls.specs.Searches.{any_contains, SearchedAs, TypeSearched, RowSearched}

-- ── a type and those below its line

or_none_lem : (b : Bool) → b ≡ (b || false)
or_none_lem true = refl
or_none_lem false = refl

any_fields : (fs : Fields) → any_dictionary fs ≡ any_contains (push_fields fs [])
any_fields nil = refl
any_fields (add i t fs) = ap (λ (b : Bool). contains_dictionary t || b) (any_fields fs)

below_contain : (t : ArrowDataType) → ((columns (type_shape t)).kind ≡ Kind.Dictionary → ⊥) → contains_dictionary t ≡ any_contains (type_below t)
below_contain (scalar s) h = refl
below_contain (nested n i t) h = or_none_lem (contains_dictionary t)
below_contain (grouped g fs) h = any_fields fs
below_contain (dictionary ix ordered t) h = absurd (h refl)
below_contain (extension n m t) h = or_none_lem (contains_dictionary t)

-- by how the type holds others
abbrev is_dictionary : Nesting → Bool
is_dictionary N.Nothing = false
is_dictionary N.List = false
is_dictionary N.Map = false
is_dictionary N.Fields = false
is_dictionary N.Dictionary = true
is_dictionary N.Extension = false

dictionary_contains : (t : ArrowDataType) → is_dictionary (type_nesting t) ≡ true → contains_dictionary t ≡ true
dictionary_contains (scalar s) h = never h
dictionary_contains (nested list i t) h = never h
dictionary_contains (nested large_list i t) h = never h
dictionary_contains (nested (fixed_size_list n) i t) h = never h
dictionary_contains (nested (map sorted) i t) h = never h
dictionary_contains (grouped g fs) h = never h
dictionary_contains (dictionary ix ordered t) h = refl
dictionary_contains (extension n m t) h = never h

scalar_contains : (t : ArrowDataType) → nesting_nested (type_nesting t) ≡ false → contains_dictionary t ≡ false
scalar_contains (scalar s) h = refl
scalar_contains (nested list i t) h = never (sym h)
scalar_contains (nested large_list i t) h = never (sym h)
scalar_contains (nested (fixed_size_list n) i t) h = never (sym h)
scalar_contains (nested (map sorted) i t) h = never (sym h)
scalar_contains (grouped g fs) h = never (sym h)
scalar_contains (dictionary ix ordered t) h = never (sym h)
scalar_contains (extension n m t) h = never (sym h)

-- ── the line that was read

module _ {s : Bytes} {at levels : ℕ} {inside : Bool} {i : Option Info} {t : ArrowDataType} {es : List Entry} (f : TypeAt s at levels inside i t es) where
  pub leaf_searched : {kind from e n : ℕ} → FieldLeafAt s at kind from e n → SearchedAs s es (contains_dictionary t) (Some (e + 7))
  leaf_searched {kind} {from} {e} {n} k =
      let d = leaf_to_lem k inside levels (some_level f) (i, t) es f.stands in
      (scalar_contains t (ap (λ (x : Head). nesting_nested (shape_nesting x.shape)) (line_below fields_lawful k.line (i, t) es f.stands).0), d.1, d.3)

  module _ {l : FieldLine} (k : FieldLineAt s at l) where
    pub found_here : l.kind ≡ Kind.Dictionary → SearchedAs s es (contains_dictionary t) None
    found_here e = dictionary_contains t (sym (ap is_dictionary (line_nesting f.stands k refl)) ∙ ap (λ (n : ℕ). is_dictionary (kind_nesting n)) e)

    module _ {e : Bool} {cost : ℕ} (ext : e ≡ eqb l.kind Kind.Extension) (is : cost ≡ line_cost inside e) where
      pub below_searched : (l.kind ≡ Kind.Dictionary → ⊥) → (o : Option ℕ)
          → RowSearched s (record { at = l.end; count = l.children; levels = levels - cost; inside = e }) o → SearchedAs s es (contains_dictionary t) o
      below_searched h o r =
          subst (λ (b : Bool). SearchedAs s es b o) (sym (below_contain t (λ x. h (line_kind f.stands k ∙ x)))) (r (type_below t) es (row_below_lem f k ext is))

-- ── a row

-- of the types us, which stood with es after them, vs are left, and those passed contain no dictionary
pub record Searching (s : Bytes) (levels : ℕ) (inside : Bool) (here left : ℕ) (us es : List Entry) : Type 0 where
  pub vs : List Entry
  pub rest : RowAt s here left levels inside vs es
  pub same : any_contains us ≡ any_contains vs

pub searching_none : {s : Bytes} {at count levels : ℕ} {inside : Bool} {us es : List Entry} → RowAt s at count levels inside us es → Searching s levels inside at count us es
searching_none {us = us} h = record { vs = us; rest = h; same = refl }

module _ {s : Bytes} {levels : ℕ} {inside : Bool} {here left : ℕ} {us es : List Entry} (g : Searching s levels inside here left us es) where
  first_at : (x : Entry) (vs : List Entry) → RowAt s here left levels inside (x ∷ vs) es → TypeAt s here levels inside x.0 x.1 (vs ++ es)
  first_at x vs h = record { stands = h.stands; deep = omega (arith, h.deep, tallest_cons inside x vs); short = h.short }

  pub searching_all : left ≤ 0 → SearchedAs s es (any_contains us) (Some here)
  searching_all l = go g.vs g.rest g.same
    where
      go : (vs : List Entry) → RowAt s here left levels inside vs es → any_contains us ≡ any_contains vs → SearchedAs s es (any_contains us) (Some here)
      go [] h b = (b, h.stands, h.within)
      go (x ∷ vs) h b = absurd (omega (arith, h.counted))

  module _ (some_left : 0 < left) where
    pub searching_type : HasType s here levels inside
    searching_type = go g.vs g.rest
      where
        go : (vs : List Entry) → RowAt s here left levels inside vs es → HasType s here levels inside
        go [] h = absurd (omega (arith, h.counted))
        go (x ∷ vs) h = (x.0, x.1, vs ++ es, first_at x vs h)

    module _ (o : Option ℕ) (w : TypeSearched s (record { at = here; levels = levels; inside = inside }) o) where
      told : (q : Option ℕ) → o ≡ q → TypeSearched s (record { at = here; levels = levels; inside = inside }) q
      told q e = subst (λ (x : Option ℕ). TypeSearched s (record { at = here; levels = levels; inside = inside }) x) e w

      pub searching_found : o ≡ None → SearchedAs s es (any_contains us) None
      searching_found e = go g.vs g.rest g.same
        where
          go : (vs : List Entry) → RowAt s here left levels inside vs es → any_contains us ≡ any_contains vs → any_contains us ≡ true
          go [] h b = absurd (omega (arith, h.counted))
          go (x ∷ vs) h b = b ∙ ap (λ (y : Bool). y || any_contains vs) (told None e x.0 x.1 (vs ++ es) (first_at x vs h))

      pub searching_more : (next : ℕ) → o ≡ Some next → Searching s levels inside next (left - 1) us es
      searching_more next e = go g.vs g.rest g.same
        where
          go : (vs : List Entry) → RowAt s here left levels inside vs es → any_contains us ≡ any_contains vs → Searching s levels inside next (left - 1) us es
          go [] h b = absurd (omega (arith, h.counted))
          go (x ∷ vs) h b =
              let d = told (Some next) e x.0 x.1 (vs ++ es) (first_at x vs h) in
              record {
                vs = vs;
                rest = record { stands = d.1; counted = omega (arith, h.counted); deep = omega (arith, h.deep, tallest_cons inside x vs); within = d.2; short = h.short };
                same = b ∙ ap (λ (y : Bool). y || any_contains vs) d.0;
              }
