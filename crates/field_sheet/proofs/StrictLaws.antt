-- What a strict reading tells (specs/Strict): of a line by its columns, of a tree by its line and the row below it, and of a row by one tree after the other.
-- Lines one after the other are answered as their parts are, the first refusal of all. Assumes nothing.
use mathlib.Core.Path.{◌≡◌, refl, sym, ap, subst, ◌∙◌}
use mathlib.Core.Bool.{Bool, true, false, not, ◌&&◌, ◌||◌, not-not}
use mathlib.Core.List.{List, [], ◌∷◌, ◌++◌}
use Rattle.std.specs.Prelude.{Option, None, Some}
use Prim.Native.Nat.{ℕ, ◌-◌, ◌≤◌, ◌<◌}
use native.Mathlib.Omega.{arith}
use lib.Dec.{eqb}
use lib.ListN.{length, drop, length-take, length-drop}
use Rattle.sheets.specs.Refusal.{Refusal, reserved_key, wide_index}
use Rattle.sheets.specs.Rule.{passes, Meets}
use Rattle.sheets.specs.Bytes.{Bytes}
use Rattle.sheets.specs.Answer.{Answer, refused, given, ◌>>=◌}
use Rattle.sheets.specs.Sheet.{sheet_limit}
use Rattle.sheets.specs.IntegerType
use Rattle.sheets.specs.Field.{Info, ArrowDataType, scalar, nested, grouped, dictionary, extension, Fields, nil, add}
use Rattle.sheets.specs.FieldSheet.{Shape, of_scalar, of_nesting, of_grouping, of_dictionary, of_extension, columns, info_columns, Entry}
use Rattle.sheets.specs.LineTrees.{Standing}
use Rattle.sheets.specs.FieldTrees.{Head, shape_rule, push_fields, type_below, entry_head, fields}
use Rattle.sheets.specs.TreeWalks.{LineAt, TreeTo}
use Rattle.sheets.specs.Strict.{keys_rule, index_rule, line_returns, type_heads, fields_heads, lines_return}
use Rattle.sheets.proofs.StrictConditions.{lines_append}
use Rattle.sheets.proofs.FieldTrees.{fields_lawful, dictionary_kind}
use Rattle.sheets.proofs.TreeWalks.{line_below, below_many}
use Rattle.columns.specs.Columns.{part}
use Rattle.field_pairs.specs.Pairs.{PairsColumn}
use Rattle.field_pairs.specs.Reserved.{has_reserved}
use Rattle.field_pairs.proofs.ReservedLaws.{pairs_column_lem, reserved_told}
use Rattle.read_field_line.specs.FieldLines.{Shows}
use Rattle.read_field_line.specs.declared.FieldLine.{FieldLine}
use Rattle.field_sheet.specs.Strict.{is_wide, tree_returns, row_returns, TreeTold, RowTold}

-- ── a line

-- a test that tells the opposite of a rule
rule_failed : {b c : Bool} → b ≡ not c → b ≡ true → c ≡ false
rule_failed {b} {c} e h = sym (not-not c) ∙ ap not (sym e ∙ h)

rule_met : {b c : Bool} → b ≡ not c → b ≡ false → c ≡ true
rule_met {b} {c} e h = sym (not-not c) ∙ ap not (sym e ∙ h)

wide_told : (x : Shape) → Meets (shape_rule x) → is_wide (columns x).kind (columns x).p ≡ not (passes (index_rule x))
wide_told (of_scalar s) h = ap (λ (b : Bool). b && (eqb (columns (of_scalar s)).p IntegerType.Int128 || eqb (columns (of_scalar s)).p IntegerType.UInt128)) (dictionary_kind (of_scalar s) h)
wide_told (of_nesting g) h = ap (λ (b : Bool). b && (eqb (columns (of_nesting g)).p IntegerType.Int128 || eqb (columns (of_nesting g)).p IntegerType.UInt128)) (dictionary_kind (of_nesting g) h)
wide_told (of_grouping g) h = ap (λ (b : Bool). b && (eqb (columns (of_grouping g)).p IntegerType.Int128 || eqb (columns (of_grouping g)).p IntegerType.UInt128)) (dictionary_kind (of_grouping g) h)
wide_told (of_dictionary ix ordered) h = sym (not-not (eqb ix IntegerType.Int128 || eqb ix IntegerType.UInt128))
wide_told (of_extension n m) h = refl

-- of the line that the struct shows, by the column `pairs` (c) and the columns `kind` and `p`
module _ {s : Bytes} {l : FieldLine} (h : Head) (k : Shows s l h) (own : Meets (fields.own h)) {c : Bytes} (is : c ≡ (info_columns h.info).1.1) where
  keys_told : has_reserved c ≡ not (passes (keys_rule h.info))
  keys_told = ap has_reserved is ∙ reserved_told h.info own.0

  index_told : is_wide l.kind l.p ≡ not (passes (index_rule h.shape))
  index_told = rw (k.kind, k.p) (wide_told h.shape own.1)

  pub line_reserved : has_reserved c ≡ true → line_returns h ≡ refused reserved_key
  line_reserved e =
      let k : passes (keys_rule h.info) ≡ false = rule_failed keys_told e in
      rw k

  module _ (free : has_reserved c ≡ false) where
    pub line_wide : is_wide l.kind l.p ≡ true → line_returns h ≡ refused wide_index
    line_wide e =
        let k : passes (keys_rule h.info) ≡ true = rule_met keys_told free in
        let i : passes (index_rule h.shape) ≡ false = rule_failed index_told e in
        rw (k, i)

    pub line_clear : is_wide l.kind l.p ≡ false → line_returns h ≡ given tt
    line_clear e =
        let k : passes (keys_rule h.info) ≡ true = rule_met keys_told free in
        let i : passes (index_rule h.shape) ≡ true = rule_met index_told e in
        rw (k, i)

-- the column `pairs` that the struct shows
pub shown_column : {s : Bytes} {l : FieldLine} (h : Head) → Shows s l h → Meets (fields.own h) → length s ≤ sheet_limit → PairsColumn (part s l.pairs.start l.pairs.end) × (length (part s l.pairs.start l.pairs.end) < 65536)
shown_column {s} {l} h k own short = (
  subst PairsColumn (sym k.pairs.is) (pairs_column_lem h.info own.0),
  omega (arith, short, length-take (l.pairs.end - l.pairs.start) (drop l.pairs.start s), length-drop l.pairs.start s),
)

-- ── trees

abbrev Told : Type 0
Told = Answer (Unit {0})

last_told : (a : Told) → (a >>= λ _. given tt) ≡ a
last_told (refused r) = refl
last_told (given u) = refl

fields_told : (fs : Fields) → lines_return (fields_heads fs) ≡ row_returns (push_fields fs [])
fields_told nil = refl
fields_told (add i t fs) =
    lines_append (type_heads t (Some i)) (fields_heads fs)
    ∙ ap (λ (a : Told). lines_return (type_heads t (Some i)) >>= λ _. a) (fields_told fs)

-- a tree is its first line and the row below it
tree_opened : (i : Option Info) (t : ArrowDataType) → tree_returns (i, t) ≡ (line_returns (entry_head (i, t)) >>= λ _. row_returns (type_below t))
tree_opened i (scalar s) = refl
tree_opened i (nested n j t) = ap (λ (a : Told). line_returns (entry_head (i, nested n j t)) >>= λ _. a) (sym (last_told (tree_returns (Some j, t))))
tree_opened i (grouped g fs) = ap (λ (a : Told). line_returns (entry_head (i, grouped g fs)) >>= λ _. a) (fields_told fs)
tree_opened i (dictionary ix ordered t) = ap (λ (a : Told). line_returns (entry_head (i, dictionary ix ordered t)) >>= λ _. a) (sym (last_told (tree_returns (None, t))))
tree_opened i (extension n m t) = ap (λ (a : Told). line_returns (entry_head (i, extension n m t)) >>= λ _. a) (sym (last_told (tree_returns (None, t))))

module _ {s : Bytes} {at end : ℕ} {x : Head} (k : LineAt fields s at x end) where
  -- the tree of this line
  by_line : (t : Entry) (ts : List Entry) → Standing fields (drop at s) (t ∷ ts) → tree_returns t ≡ (line_returns x >>= λ _. row_returns (type_below t.1))
  by_line t ts d = tree_opened t.0 t.1 ∙ ap (λ (y : Head). line_returns y >>= λ _. row_returns (type_below t.1)) (line_below fields_lawful k t ts d).0

  pub tree_held : (q : Refusal) → line_returns x ≡ refused q → TreeTold s at (refused q)
  tree_held q e t ts d = by_line t ts d ∙ ap (λ (a : Told). a >>= λ _. row_returns (type_below t.1)) e

  pub tree_told : (a : Told) → line_returns x ≡ given tt → RowTold s end x.children a → TreeTold s at a
  tree_told a e h t ts d =
      by_line t ts d ∙ ap (λ (a : Told). a >>= λ _. row_returns (type_below t.1)) e ∙ h (type_below t.1) ts (line_below fields_lawful k t ts d).1 (below_many fields_lawful k t ts d)

-- nothing stands in a row of no trees
pub none_told : (s : Bytes) (at : ℕ) → RowTold s at 0 (given tt)
none_told s at [] ts d n = refl
none_told s at (u ∷ us) ts d n = absurd (omega arith)

-- ── a row

-- of the row, so many trees are left at here, and what is answered of them is answered of all
pub record Clearing (s : Bytes) (at count here due : ℕ) : Type 0 where
  pub left : (us ts : List Entry) → Standing fields (drop at s) (us ++ ts) → length us ≡ count → (vs : List Entry) × Standing fields (drop here s) (vs ++ ts) × (length vs ≡ due) × (row_returns us ≡ row_returns vs)

pub clearing_none : (s : Bytes) (at count : ℕ) → Clearing s at count at count
clearing_none s at count = record { left = λ us ts d n. (us, d, n, refl) }

module _ {s : Bytes} {at count here due : ℕ} (g : Clearing s at count here due) where
  pub clearing_more : 0 < due → {inside : Bool} {most : ℕ} (next : ℕ) → TreeTo fields s here inside most next → TreeTold s here (given tt) → Clearing s at count next (due - 1)
  clearing_more l next to told = record { left = λ us ts d n. let q = g.left us ts d n in pick us ts q.0 q.1 q.2 q.3 }
    where
      pick : (us ts vs : List Entry) → Standing fields (drop here s) (vs ++ ts) → length vs ≡ due → row_returns us ≡ row_returns vs
          → (ws : List Entry) × Standing fields (drop next s) (ws ++ ts) × (length ws ≡ due - 1) × (row_returns us ≡ row_returns ws)
      pick us ts [] d n e = absurd (omega arith)
      pick us ts (v ∷ vs) d n e = (vs, (to v (vs ++ ts) d).1, omega arith, e ∙ ap (λ (a : Told). a >>= λ _. row_returns vs) (told v (vs ++ ts) d))

  pub clearing_held : 0 < due → (q : Refusal) → TreeTold s here (refused q) → RowTold s at count (refused q)
  clearing_held l q told us ts d n = let p = g.left us ts d n in pick p.0 p.1 p.2 p.3
    where
      pick : (vs : List Entry) → Standing fields (drop here s) (vs ++ ts) → length vs ≡ due → row_returns us ≡ row_returns vs → row_returns us ≡ refused q
      pick [] d n e = absurd (omega arith)
      pick (v ∷ vs) d n e = e ∙ ap (λ (a : Told). a >>= λ _. row_returns vs) (told v (vs ++ ts) d)

  pub clearing_all : due ≤ 0 → RowTold s at count (given tt)
  clearing_all l us ts d n = let p = g.left us ts d n in pick p.0 p.2 p.3
    where
      pick : (vs : List Entry) → length vs ≡ due → row_returns us ≡ row_returns vs → row_returns us ≡ given tt
      pick [] n e = e
      pick (v ∷ vs) n e = absurd (omega arith)
