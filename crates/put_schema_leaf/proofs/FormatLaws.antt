-- The formats of types that have no unit: digits by numbers are digits by bytes, each fixed name is that of the one table `rows`, and a kind that is none of
-- the arms' has no name. Assumes nothing.
use mathlib.Core.Path.{◌≡◌, refl, sym, ap, ap₂, subst, ◌∙◌}
use mathlib.Core.Bool.{Bool, true, false, ◌&&◌, ◌||◌, not, cond, and-false, true≢false}
use mathlib.Core.List.{List, [], ◌∷◌, ◌++◌}
use Rattle.std.specs.Prelude.{Option, None, Some}
use Prim.Native.Nat.{ℕ, ◌-◌, ◌≤◌, ◌<◌, min}
use native.Mathlib.Nat.{min_comm}
use native.Mathlib.Omega.{arith}
use lib.Dec.{eqb, leb, ltb}
use lib.ListN.{length, take, drop, length-append, length-take, length-drop, take-append-drop}
use borrow.Author.Tests.{ltb-true, ltb-false, lt-leb, leb-true}
use Rattle.sheets.specs.Rule.{Rule, is, ◌and◌, each, Meets}
use Rattle.sheets.specs.Bytes.{Bytes, lacks}
use Rattle.sheets.specs.Text.{hex}
use Rattle.sheets.specs.Sheet.{is_some}
use Rattle.sheets.specs.Format.{FormatRow, rows, row_of}
use Rattle.sheets.proofs.Tests.{not_some, same_some, every, at_each, meets}
use Rattle.hexadecimal.proofs.PartLaws.{all_take, all_drop}
use Rattle.words.specs.Words.{Small, low_bytes}
use Rattle.words.proofs.WordLaws.{low_is, length_low}
use Rattle.datatypes.proofs.AtLaws.{Rest, listed, not_listed}
use Rattle.format_names.specs.Names.{low_digits, high_digits}
use Rattle.field_leaf.specs.FieldLeaves.{is_short}
use Rattle.put_schema_leaf.specs.Formats.{digits_text, name_digits, format_digits}

-- ── digits by numbers

pub digits_text_lem : (h : Bytes) → Small h → (low high n : ℕ) → low ≡ low_digits h → high ≡ high_digits h → n ≡ length h → digits_text low high n ≡ h
digits_text_lem h small low high n e f g =
    let m : min n 8 ≡ length (take 8 h) = ap (λ (k : ℕ). min k 8) g ∙ min_comm (length h) 8 ∙ sym (length-take 8 h) in
    let z : n - 8 ≡ length (drop 8 h) = omega (arith, length-drop 8 h) in
    ap₂ (λ (i j : ℕ). low_bytes i low ++ low_bytes j high) m z
    ∙ ap₂ ◌++◌ (low_is (take 8 h) low (all_take (λ b. ltb b 256) 8 h small) (sym e)) (low_is (drop 8 h) high (all_drop (λ b. ltb b 256) 8 h small) (sym f))
    ∙ take-append-drop 8 h

pub digits_size : (w v n : ℕ) → length (digits_text w v n) ≡ n
digits_size w v n = length-append (low_bytes (min n 8) w) (low_bytes (n - 8) v) ∙ omega (arith, length_low (min n 8) w, length_low (n - 8) v)

-- ── the table

-- of each name: it is no longer than seven bytes, not empty, and has no byte 00
abbrev named : FormatRow → Rule
named r = is (ltb 0 (length r.name)) and (is (leb (length r.name) 7) and lacks 0 r.name)

all_named : Meets (each named rows)
unfolding rows
all_named = meets (each named rows) refl

row_named : (l : List FormatRow) → Meets (each named l) → (k u : ℕ) (r : FormatRow) → row_of k u l ≡ Some r → Meets (named r)
row_named [] h k u r e = not_some e
row_named (x ∷ l) h k u r e = pick (eqb k x.kind && eqb u x.unit) e (row_named l h.1 k u r)
  where
    pick : (t : Bool) → cond t (Some x) (row_of k u l) ≡ Some r → (row_of k u l ≡ Some r → Meets (named r)) → Meets (named r)
    pick true f next = subst (λ (y : FormatRow). Meets (named y)) (same_some f) h.0
    pick false f next = next f

-- a format's digits: those of the name in the table
pub record Format (kind low high len : ℕ) : Type 0 where
  pub row : FormatRow
  pub is_row : row_of kind 0 rows ≡ Some row
  pub is : digits_text low high len ≡ hex row.name
  pub some : 0 < length row.name
  pub few : length row.name ≤ 7
  pub nonzero : Meets (lacks 0 row.name)

pub format_told : (kind low high len : ℕ) → format_digits kind ≡ Some (digits_text low high len) → Format kind low high len
format_told kind low high len e = pick (is_short kind) e
  where
    found : (o : Option FormatRow) → row_of kind 0 rows ≡ o → name_digits o ≡ Some (digits_text low high len) → Format kind low high len
    found None q f = not_some f
    found (Some r) q f =
        let n = row_named rows all_named kind 0 r q in
        record { row = r; is_row = q; is = sym (same_some f); some = ltb-true 0 (length r.name) n.0; few = leb-true (length r.name) 7 n.1.0; nonzero = n.1.1 }

    pick : (t : Bool) → cond t (name_digits (row_of kind 0 rows)) None ≡ Some (digits_text low high len) → Format kind low high len
    pick true f = found (row_of kind 0 rows) refl f
    pick false f = not_some f

-- ── a kind that is none of the arms'

-- a kind is listed, or it has no name
abbrev pub unnamed : List (List ℕ) → ℕ → Bool
unnamed kss k = listed kss k || not (is_some (format_digits k))

pub rest_format : (kss : List (List ℕ)) → Meets (every 41 (unnamed kss)) → (x : ℕ) → Rest kss x → None ≡ format_digits x
rest_format kss h x rest = unlisted (ltb x 41) refl
  where
    nothing : (t : Bool) (o : Option Bytes) → not t ≡ true → (t || not (is_some o)) ≡ true → None ≡ o
    nothing true o f g = absurd (true≢false (sym f))
    nothing false None f g = refl
    nothing false (Some d) f g = absurd (true≢false (sym g))

    unlisted : (t : Bool) → ltb x 41 ≡ t → None ≡ format_digits x
    unlisted true e = nothing (listed kss x) (format_digits x) (not_listed x kss rest) (at_each 41 (unnamed kss) h x (ltb-true x 41 e))
    unlisted false e =
        let past : 41 ≤ x = ltb-false x 41 e in
        rw (lt-leb x 14 (omega arith), lt-leb x 22 (omega arith), lt-leb x 26 (omega arith), lt-leb x 40 (omega arith), and-false (leb 16 x), and-false (leb 24 x), and-false (leb 38 x))
