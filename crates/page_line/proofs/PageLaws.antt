-- What a reader of lines tells gives the mark and the digits that the page shows; and the line of a leaf. Assumes nothing.
use mathlib.Core.Path.{◌≡◌, refl, ap, ◌∙◌}
use mathlib.Core.Bool.{Bool, true, false, not, ◌&&◌}
use mathlib.Core.List.{[], ◌∷◌}
use Rattle.std.specs.Prelude.{Option, None, Some}
use Prim.Native.Nat.{ℕ, ◌+◌, ◌-◌, ◌≤◌, ◌<◌}
use native.Mathlib.Omega.{arith}
use lib.Dec.{eqb}
use lib.ListN.{length, take, drop, length-take, length-drop}
use borrow.Author.Tests.{lt-ltb, le-ltb}
use Rattle.sheets.specs.Bytes.{Bytes}
use Rattle.sheets.specs.Kind
use Rattle.sheets.specs.Text.{hex}
use Rattle.sheets.specs.Sheet.{ended}
use Rattle.sheets.specs.Field.{Info, is_leaf, has_unit}
use Rattle.sheets.specs.FieldSheet.{info_columns, to_nat}
use Rattle.sheets.specs.FieldTrees.{is_bare}
use Rattle.sheets.specs.Page.{nullable_mark, name_digits, line_shown}
use Rattle.sheets.specs.PageSteps.{level_of}
use Rattle.sheets.proofs.Tests.{and_left}
use Rattle.sheets.proofs.FieldTrees.{leaf_small}
use Rattle.sheets.proofs.PageLaws.{shown_ended}
use Rattle.buffer.specs.Over.{over, PutFirst}
use Rattle.columns.specs.Columns.{part, part_of}
use Rattle.columns.specs.declared.Part.{Part}
use Rattle.read_field_line.specs.FieldLines.{PartAt, flag_of}
use Rattle.field_leaf.specs.FieldLeaves.{is_short, FieldLeafAt}
use Rattle.walks.specs.declared.Subtree.{Subtree}
use Rattle.page_line.specs.PageLines.{mark_of, shown_part}
use Rattle.page_line.specs.PageLeaves.{PageLeafWritten}

-- ── the level

pub flag_small : (a b : Bool) → to_nat (a && b) ≤ 1
flag_small true true = omega arith
flag_small true false = omega arith
flag_small false b = omega arith

-- ── the mark and the name

pub mark_is : (i : Option Info) → nullable_mark i ≡ mark_of (is_bare i) (flag_of i)
mark_is None = refl
mark_is (Some i) = refl

-- the part's bytes are the digits, and it is a part of the sheet
pub record Shown (s : Bytes) (r : Part) (digits : Bytes) : Type 0 where
  pub order : r.start ≤ r.end
  pub within : r.end ≤ length s
  pub is : part s r.start r.end ≡ digits

module _ (name : Part) where
  pub shows_none : name.end - name.start < 2 → part_of name.end name.end ≡ shown_part name
  shows_none h = rw (lt-ltb (name.end - name.start) 2 h)

  pub shows_itself : 2 ≤ name.end - name.start → name ≡ shown_part name
  shows_itself h = rw (le-ltb (name.end - name.start) 2 h)

module _ (s : Bytes) (name : Part) where
  size : (c : Bytes) → PartAt s name c → name.end - name.start ≡ length c
  size c p = omega (arith, p.some, p.within, ap length p.is, length-take (name.end - name.start) (drop name.start s), length-drop name.start s)

  -- a column of one byte
  one : (c : Bytes) → PartAt s name c → length c ≡ 1 → Shown s (shown_part name) []
  one c p e =
      let z : name.end - name.end ≡ 0 = omega arith in
      rw (lt-ltb (name.end - name.start) 2 (omega (arith, size c p)))
      (record { order = omega arith; within = p.within; is = ap (λ (n : ℕ). take n (drop name.end s)) z })

  -- a longer one
  more : (c : Bytes) → PartAt s name c → 2 ≤ length c → Shown s (shown_part name) c
  more c p h =
      rw (le-ltb (name.end - name.start) 2 (omega (arith, size c p)))
      (record { order = omega (arith, p.some); within = p.within; is = p.is })

  pub name_shown : (i : Option Info) → PartAt s name (info_columns i).0 → Shown s (shown_part name) (name_digits i)
  name_shown None p = one (info_columns None).0 p refl
  name_shown (Some i) p = pick i.name refl p
    where
      pick : (n : Bytes) → i.name ≡ n → PartAt s name (info_columns (Some i)).0 → Shown s (shown_part name) (name_digits (Some i))
      pick [] e q = rw e (one _ (rw e at q) refl)
      pick (b ∷ bs) e q = rw e (more _ (rw e at q) (omega arith))

-- ── a leaf

pub short_small : (kind : ℕ) → is_short kind ≡ true → kind ≤ Kind.Union
short_small kind h = omega (arith, leaf_small kind (and_left (is_leaf kind) (not (has_unit kind)) h))

-- the line that was written is that of the leaf
pub leaf_line_lem : (s : Bytes) (tree : Subtree) (out out' : Bytes) {kind from e nullable : ℕ} (k : FieldLeafAt s tree.at kind from e nullable) (level mark len : ℕ)
    → level ≡ level_of tree.levels tree.inside false → level < 100 → mark ≡ mark_of false (eqb nullable 1)
    → PutFirst (ended (line_shown level kind mark (part s from e) ∷ [])) len out out' → PageLeafWritten s tree out out' (e + 7) len
leaf_line_lem s tree out out' {kind} {from} {e} {nullable} k level mark len l h m p =
    let text : ended (line_shown level kind mark (part s from e) ∷ []) ≡ ended (line_shown (level_of tree.levels tree.inside false) kind (mark_of false (eqb nullable 1)) (hex k.bytes) ∷ [])
    = rw (l, m, k.name) in
    record {
      kind = kind;
      from = from;
      e = e;
      nullable = nullable;
      leaf = k;
      after = refl;
      put = (p.0 ∙ ap length text, p.1 ∙ ap (λ (b : Bytes). over b out) text);
      short = omega (arith, p.0, shown_ended level kind mark (part s from e) (omega (arith, h)));
    }
