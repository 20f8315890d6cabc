-- The short line of a list, a large list or a struct: its names, where it stands and where it does not. For callers: `nested_told`. Assumes nothing.
use mathlib.Core.Path.{◌≡◌, refl, sym, ap, subst, ◌∙◌}
use mathlib.Core.Bool.{Bool, true, false, cond}
use mathlib.Core.List.{List, [], ◌∷◌, map}
use Rattle.std.specs.Prelude.{None, Some}
use Prim.Native.Nat.{ℕ, ◌+◌, ◌≤◌, ◌<◌}
use native.Mathlib.Omega.{arith}
use lib.ListN.{length}
use borrow.Author.Tests.{ltb-true, leb-true, lt-ltb, le-leb}
use Rattle.sheets.specs.Rule.{Rule, ◌and◌, Meets}
use Rattle.sheets.specs.Bytes.{Bytes, same}
use Rattle.sheets.specs.Text.{hex}
use Rattle.sheets.specs.Format.{rows}
use Rattle.sheets.specs.Metadata.{little_value}
use Rattle.sheets.proofs.Tests.{not_some, same_some}
use Rattle.sheets.proofs.BytesLaws.{same_eq}
use Rattle.sheets.proofs.MetadataLaws.{little_value_lem}
use Rattle.words.specs.Words.{low_bytes}
use Rattle.words.proofs.WordLaws.{low_is}
use Rattle.columns.specs.Columns.{part}
use Rattle.columns.specs.Pairs.{pairs_from}
use Rattle.columns.proofs.PairsLaws.{pairs_two}
use Rattle.format_names.specs.ShortNames.{kind_among}
use Rattle.leaf_line.specs.Short.{short_rule, flags_at, Told, short_from, Names}
use Rattle.leaf_line.specs.Nested.{NestedType, list_type, large_list_type, struct_type, nested_name, nested_kind, nested_row, named_rows, children_at, count_rule, nested_to, nested_in, nested_format, NestedAt}
use Rattle.leaf_line.proofs.ShortLaws.{tail_high, Kept, kept, keeps, from_none, from_some, from_told, short_there}

-- ── the names

-- the digits of a name as one number
abbrev pub name_word : NestedType → ℕ
name_word t = little_value (hex (nested_name t))

module _ (w : ℕ) where
  pub named_some : (t : NestedType) → w ≡ name_word t → Some (nested_kind t) ≡ kind_among (low_bytes 4 w) named_rows
  unfolding named_rows
  named_some list_type e = sym (ap (λ (b : Bytes). kind_among b named_rows) (low_is (hex (nested_name list_type)) w (refl, (refl, (refl, (refl, refl)))) (sym e)))
  named_some large_list_type e = sym (ap (λ (b : Bytes). kind_among b named_rows) (low_is (hex (nested_name large_list_type)) w (refl, (refl, (refl, (refl, refl)))) (sym e)))
  named_some struct_type e = sym (ap (λ (b : Bytes). kind_among b named_rows) (low_is (hex (nested_name struct_type)) w (refl, (refl, (refl, (refl, refl)))) (sym e)))

  module _ (below : w < 4294967296) where
    differs : (t : Bytes) → (w ≡ little_value t → ⊥) → same (low_bytes 4 w) t ≡ false
    unfolding low_bytes
    differs t h = pick (same (low_bytes 4 w) t) refl
      where
        pick : (u : Bool) → same (low_bytes 4 w) t ≡ u → u ≡ false
        pick true q = absurd (h (sym (little_value_lem 4 w (omega arith)) ∙ ap little_value (same_eq (low_bytes 4 w) t q)))
        pick false q = refl

    pub named_none : (w ≡ name_word list_type → ⊥) → (w ≡ name_word large_list_type → ⊥) → (w ≡ name_word struct_type → ⊥) → None ≡ kind_among (low_bytes 4 w) named_rows
    unfolding named_rows
    named_none a b c = rw (differs (hex (nested_name list_type)) a, differs (hex (nested_name large_list_type)) b, differs (hex (nested_name struct_type)) c)

-- the type whose name the digits t say
abbrev Said : Bytes → ℕ → Type 0
Said t kind = (type : NestedType) × (t ≡ hex (nested_name type)) × (nested_kind type ≡ kind)

among : (t : Bytes) (kind : ℕ) (types : List NestedType) → kind_among t (map nested_row types) ≡ Some kind → Said t kind
among t kind [] h = not_some h
among t kind (x ∷ types) h = pick (same t (hex (nested_name x))) refl h (among t kind types)
  where
    pick : (u : Bool) → same t (hex (nested_name x)) ≡ u → cond u (Some (nested_kind x)) (kind_among t (map nested_row types)) ≡ Some kind → (kind_among t (map nested_row types) ≡ Some kind → Said t kind) → Said t kind
    pick true q f next = (x, same_eq t (hex (nested_name x)) q, same_some f)
    pick false q f next = next f

named_told : (t : Bytes) (kind : ℕ) → kind_among t named_rows ≡ Some kind → Said t kind
unfolding named_rows
named_told t kind h = among t kind (list_type ∷ large_list_type ∷ struct_type ∷ []) h

-- it is among the fixed names
names : (t : NestedType) → Names (nested_format t) (nested_name t)
unfolding rows
names list_type = record { some = omega arith; nonzero = (refl, (refl, refl)); utf8 = refl; means = λ sorted. refl; known = omega arith }
names large_list_type = record { some = omega arith; nonzero = (refl, (refl, refl)); utf8 = refl; means = λ sorted. refl; known = omega arith }
names struct_type = record { some = omega arith; nonzero = (refl, (refl, refl)); utf8 = refl; means = λ sorted. refl; known = omega arith }

-- ── where no such line stands, and where one does

abbrev line_rule : Bytes → ℕ → ℕ → Rule
line_rule s at e = count_rule (children_at s e) and short_rule 4 s at e (children_at s e)

module _ (s : Bytes) (at : ℕ) where
  module _ (e : ℕ) (is_end : e ≡ pairs_from s (at + 5)) where
    abbrev c : ℕ
    c = children_at s e

    nested_is : nested_to s at e ≡ nested_in s at
    unfolding nested_in
    nested_is = ap (nested_to s at) is_end

    pub nested_none : (0 < c → c ≤ 9 → Kept 4 s at e c → ⊥) → None ≡ nested_in s at
    nested_none h =
        sym (from_none (line_rule s at e) s e c (λ m. h (ltb-true 0 c m.0.0) (leb-true c 9 m.0.1) (kept 4 s at e c m.1)) (kind_among (part s at (at + 4)) named_rows)) ∙ nested_is

    pub nested_some : {kind flags : ℕ} (n : ℕ) → n ≡ c → kind_among (part s at (at + 4)) named_rows ≡ Some kind → 0 < n → n ≤ 9 → Kept 4 s at e n → flags_at s e ≡ flags
        → Some (kind, (e, (flags, n))) ≡ nested_in s at
    nested_some {kind} {flags} n q k =
        subst (λ (i : ℕ). 0 < i → i ≤ 9 → Kept 4 s at e i → flags_at s e ≡ flags → Some (kind, (e, (flags, i))) ≡ nested_in s at) (sym q)
        (λ l m h f. sym (from_some (line_rule s at e) s e c k ((lt-ltb 0 c l, le-leb c 9 m), keeps 4 s at e c h) f) ∙ nested_is)

  pub nested_other : kind_among (part s at (at + 4)) named_rows ≡ None → None ≡ nested_in s at
  unfolding nested_in
  nested_other k = let e = pairs_from s (at + 5) in sym (ap (short_from (line_rule s at e) s e (children_at s e)) k)

  -- a name has a pair of digits or more
  pub nested_short : length s < at + 16 → None ≡ nested_in s at
  nested_short h = nested_none (pairs_from s (at + 5)) refl (λ l m k. omega (arith, tail_high k.end, pairs_two s (at + 5) k.long))

-- ── what `nested_in` tells

pub nested_told : (s : Bytes) (at : ℕ) {kind e flags c : ℕ} → nested_in s at ≡ Some (kind, (e, (flags, c))) → (t : NestedType) × (nested_kind t ≡ kind) × NestedAt s at t e flags c
unfolding nested_in
nested_told s at {kind} {e} {flags} {c} h =
    let end = pairs_from s (at + 5) in
    let q = from_told (line_rule s at end) s end (children_at s end) h in
    let n = named_told (part s at (at + 4)) q.0 q.1 in
    (n.0, n.2 ∙ ap (λ (t : Told). t.0) q.3, subst (λ (t : Told). NestedAt s at n.0 t.1.0 t.1.1.0 t.1.1.1) q.3 (there n.0 n.1 q.2))
  where
    there : (t : NestedType) → part s at (at + 4) ≡ hex (nested_name t) → Meets (line_rule s at (pairs_from s (at + 5)))
        → NestedAt s at t (pairs_from s (at + 5)) (flags_at s (pairs_from s (at + 5))) (children_at s (pairs_from s (at + 5)))
    there t q m =
        let e = pairs_from s (at + 5) in
        let c = children_at s e in
        let few = leb-true c 9 m.0.1 in
        record {
          short = short_there (record { format = nested_name t; names = names t; is_format = q; name = refl; bytes = kept 4 s at e c m.1; digit = refl; few = few });
          child = ltb-true 0 c m.0.0;
          digit = few;
        }
