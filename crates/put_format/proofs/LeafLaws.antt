-- The row of a leaf in the table of names, by one computed test over all kinds and units: the row that the code looks at has the leaf's kind exactly if the
-- leaf has a name, and then it has that name. Assumes nothing.
use mathlib.Core.Path.{◌≡◌, refl, sym, ap, ap₂, subst, ◌∙◌}
use mathlib.Core.Bool.{Bool, true, false, not, ◌&&◌, ◌||◌, cond, true≢false}
use mathlib.Core.List.{List, [], ◌∷◌, ◌++◌}
use Rattle.std.specs.Prelude.{Option, None, Some, Ok}
use Prim.Native.Nat.{ℕ, ◌+◌, ◌*◌, ◌≤◌, ◌<◌}
use native.Mathlib.Omega.{arith}
use lib.Dec.{eqb, leb, ltb}
use lib.ListN.{length, get_or, take, replicate}
use lib.Seq.{take_all}
use borrow.Author.Tests.{eqb-true, leb-true, ltb-true, eq-eqb, ne_eqb, not-true}
use Rattle.sheets.specs.Refusal.{no_format}
use Rattle.sheets.specs.Rule.{passes, Meets}
use Rattle.sheets.specs.Bytes.{Bytes, same}
use Rattle.sheets.specs.Text.{hex}
use Rattle.sheets.specs.Metadata.{little_value}
use Rattle.sheets.specs.Answer.{Answer, refused, given, ◌>>=◌, found}
use Rattle.sheets.specs.Field.{leaf, has_unit, leaf_rule}
use Rattle.sheets.specs.Format.{FormatRow, rows, row_of, scalar_format}
use Rattle.sheets.proofs.Tests.{and_left, and_right, every, at_each, meets, passing}
use Rattle.sheets.proofs.BytesLaws.{same_eq}
use Rattle.sheets.proofs.FieldTrees.{leaf_small}
use Rattle.buffer.specs.Over.{over_at, PutAt}
use Rattle.buffer.proofs.OverLaws.{length_over_at}
use Rattle.hexadecimal.proofs.PartLaws.{length_hex}
use Rattle.words.specs.Words.{low_bytes}
use Rattle.words.proofs.WordLaws.{low_is, length_low}
use Rattle.words.proofs.DigitLaws.{hex_bytes_small}
use Rattle.format_names.specs.Names.{table_length, row_at, low_digits, high_digits}
use Rattle.format_names.proofs.NameLaws.{name_short, row_bytes}
use Rattle.column_text.specs.ColumnText.{has_zero}
use Rattle.refusal.specs.Refusals.{Refusing}
use Rattle.put_format.specs.Formats.{Formats, is_word}

-- ── a format told by another way

pub formats_as : (a b : Answer Bytes) (at : ℕ) (r : Refusing (ℕ × Bool)) (old out : Bytes) → a ≡ b → Formats a at r old out → Formats b at r old out
formats_as a b at r old out e h = subst (λ (x : Answer Bytes). Formats x at r old out) e h

-- ── the row of a leaf

-- the rows that units are counted from, as the code has them
abbrev pub first_rows : List ℕ
first_rows =
    0 ∷ 1 ∷ 2 ∷ 4 ∷ 6 ∷ 8 ∷ 10 ∷ 3 ∷ 5 ∷ 7 ∷ 9 ∷ 11 ∷ 12 ∷ 13 ∷ 14 ∷ 0 ∷ 19 ∷ 20 ∷ 21 ∷ 21 ∷ 25 ∷ 29 ∷ 15 ∷ 0 ∷ 16 ∷ 17 ∷ 18
    ∷ 0 ∷ 0 ∷ 0 ∷ 0 ∷ 0 ∷ 0 ∷ 0 ∷ 0 ∷ 0 ∷ 0 ∷ 0 ∷ 33 ∷ 32 ∷ 0 ∷ []

abbrev pub leaf_row : ℕ → ℕ → ℕ
leaf_row k u = get_or first_rows k 0 + u

-- row r is what the definition finds
abbrev agrees : Option FormatRow → ℕ → FormatRow → Bool
agrees None k r = not (eqb r.kind k)
agrees (Some x) k r = eqb r.kind k && same x.name r.name

abbrev row_test : ℕ → ℕ → Bool
row_test k u = not (passes (leaf_rule k u)) || (ltb (leaf_row k u) table_length && agrees (row_of k u rows) k (row_at (leaf_row k u)))

abbrev kind_test : ℕ → Bool
kind_test k = passes (every 4 (row_test k))

implied : (a b : Bool) → a ≡ true → (not a || b) ≡ true → b ≡ true
implied true b h k = k
implied false b h k = absurd (true≢false (sym h))

unit_small : (k u : ℕ) → Meets (leaf_rule k u) → u < 4
unit_small k u h = pick (has_unit k) h.1
  where
    pick : (t : Bool) → cond t (ltb u 4) (eqb u 0) ≡ true → u < 4
    pick true e = ltb-true u 4 e
    pick false e = omega (arith, eqb-true u 0 e)

module _ (k u : ℕ) (h : Meets (leaf_rule k u)) where
  tested : (ltb (leaf_row k u) table_length && agrees (row_of k u rows) k (row_at (leaf_row k u))) ≡ true
  unfolding rows row_at
  tested =
      implied (passes (leaf_rule k u)) _ (passing (leaf_rule k u) h)
      (at_each 4 (row_test k) (meets (every 4 (row_test k)) (at_each 41 kind_test (meets (every 41 kind_test) refl) k (leaf_small k h.0))) u (unit_small k u h))

  pub row_below : leaf_row k u < table_length
  row_below = ltb-true (leaf_row k u) table_length (and_left (ltb (leaf_row k u) table_length) (agrees (row_of k u rows) k (row_at (leaf_row k u))) tested)

  agreed : agrees (row_of k u rows) k (row_at (leaf_row k u)) ≡ true
  agreed = and_right (ltb (leaf_row k u) table_length) (agrees (row_of k u rows) k (row_at (leaf_row k u))) tested

  -- what the definition says of the row that it finds
  abbrev Said : Option FormatRow → Answer Bytes
  Said o = found no_format o >>= λ r. given r.name

  pub leaf_named_lem : (row_at (leaf_row k u)).kind ≡ k → given (row_at (leaf_row k u)).name ≡ scalar_format (leaf k u)
  leaf_named_lem e = go (row_of k u rows) agreed
    where
      go : (o : Option FormatRow) → agrees o k (row_at (leaf_row k u)) ≡ true → given (row_at (leaf_row k u)).name ≡ Said o
      go None a = absurd (true≢false (sym a ∙ ap not (eq-eqb (row_at (leaf_row k u)).kind k e)))
      go (Some x) a = ap given (sym (same_eq x.name (row_at (leaf_row k u)).name (and_right (eqb (row_at (leaf_row k u)).kind k) (same x.name (row_at (leaf_row k u)).name) a)))

  pub leaf_nameless : ((row_at (leaf_row k u)).kind ≡ k → ⊥) → refused no_format ≡ scalar_format (leaf k u)
  leaf_nameless n = go (row_of k u rows) agreed
    where
      go : (o : Option FormatRow) → agrees o k (row_at (leaf_row k u)) ≡ true → refused no_format ≡ Said o
      go None a = refl
      go (Some x) a = absurd (true≢false (sym (and_left (eqb (row_at (leaf_row k u)).kind k) (same x.name (row_at (leaf_row k u)).name) a) ∙ ne_eqb (row_at (leaf_row k u)).kind k n))

-- ── the names

abbrev name_test : ℕ → Bool
name_test i = not (has_zero (row_at i).name)

pub name_clean : (i : ℕ) → i < table_length → has_zero (row_at i).name ≡ false
unfolding row_at
name_clean i h = not-true (has_zero (row_at i).name) (at_each table_length name_test (meets (every table_length name_test) refl) i h)

-- ── a name of two bytes with room

pub word_known : (room at i : ℕ) → is_word room at i ≡ true → (2 ≡ length (row_at i).name) × (at + 4 ≤ room)
word_known room at i h = (
  sym (eqb-true (length (row_at i).name) 2 (and_left (eqb (length (row_at i).name) 2) (leb (at + 4) room) h)),
  leb-true (at + 4) room (and_right (eqb (length (row_at i).name) 2) (leb (at + 4) room) h),
)

pub no_word : (room at i n : ℕ) → n ≡ length (row_at i).name → (n ≡ 2 → ⊥) → false ≡ is_word room at i
no_word room at i n e h = rw (ne_eqb (length (row_at i).name) 2 (λ x. h (e ∙ x)))

pub word_fits : (room at i n : ℕ) → n ≡ length (row_at i).name → n ≡ 2 → leb (at + 4) room ≡ is_word room at i
word_fits room at i n e h = rw (eq-eqb (length (row_at i).name) 2 (sym e ∙ h))

-- ── a name's digits in a buffer of 16 bytes

-- two words, one after the other
both_words : (low high : ℕ) → over_at 8 (low_bytes 8 high) (over_at 0 (low_bytes 8 low) (replicate 16 0)) ≡ low_bytes 8 low ++ low_bytes 8 high
unfolding over_at low_bytes
both_words low high = refl

abbrev words_of : Bytes → Bytes
words_of h = low_bytes 8 (low_digits h) ++ low_bytes 8 (high_digits h)

abbrev text_test : ℕ → Bool
text_test i = same (take (2 * length (row_at i).name) (words_of (hex (row_at i).name))) (hex (row_at i).name)

words_text : (i : ℕ) → i < table_length → take (2 * length (row_at i).name) (words_of (hex (row_at i).name)) ≡ hex (row_at i).name
unfolding row_at low_bytes
words_text i h = same_eq (take (2 * length (row_at i).name) (words_of (hex (row_at i).name))) (hex (row_at i).name) (at_each table_length text_test (meets (every table_length text_test) refl) i h)

pub words_length : (low high : ℕ) {one two : Bytes} → one ≡ over_at 0 (low_bytes 8 low) (replicate 16 0) → two ≡ over_at 8 (low_bytes 8 high) one → length two ≡ 16
words_length low high {one} {two} p q = ap length q ∙ length_over_at 8 (low_bytes 8 high) one ∙ ap length p ∙ length_over_at 0 (low_bytes 8 low) (replicate 16 0)

module _ (i : ℕ) (h : i < table_length) where
  -- the first bytes of the buffer are the digits of the name of row i
  pub name_text_lem : {low high n : ℕ} {one two : Bytes} → low ≡ low_digits (hex (row_at i).name) → high ≡ high_digits (hex (row_at i).name) → n ≡ length (row_at i).name
      → one ≡ over_at 0 (low_bytes 8 low) (replicate 16 0) → two ≡ over_at 8 (low_bytes 8 high) one → take (2 * n) two ≡ hex (row_at i).name
  name_text_lem {low} {high} {n} {one} {two} e f g p q =
      ap₂ (λ (k : ℕ) (b : Bytes). take (2 * k) b) g (q ∙ ap (over_at 8 (low_bytes 8 high)) p ∙ both_words low high ∙ ap₂ (λ (x y : ℕ). low_bytes 8 x ++ low_bytes 8 y) e f) ∙ words_text i h

  -- and they are written
  pub row_put : (t : Bytes) (at r : ℕ) (old out : Bytes) → t ≡ hex (row_at i).name → PutAt at t r old out → Formats (given (row_at i).name) at (Ok (r, false)) old out
  row_put t at r old out e k =
      (ap₂ (λ (x : ℕ) (z : Bool). given (x, z)) (k.0 ∙ ap (λ (b : Bytes). at + length b) e) (sym (name_clean i h)), k.1 ∙ ap (λ (b : Bytes). over_at at b old) e)

  -- a name of two bytes, by one word
  pub two_bytes_put : (low at : ℕ) (old out : Bytes) → 2 ≡ length (row_at i).name → low ≡ low_digits (hex (row_at i).name) → out ≡ over_at at (low_bytes 4 low) old
      → Formats (given (row_at i).name) at (Ok (at + 4, false)) old out
  two_bytes_put low at old out n e p =
      let h4 = hex (row_at i).name in
      let four : length h4 ≡ 4 = length_hex (row_at i).name ∙ ap (λ (k : ℕ). 2 * k) (sym n) in
      let whole : take 8 h4 ≡ h4 = take_all 8 h4 (omega arith) in
      let text : low_bytes 4 low ≡ h4 = ap (λ (k : ℕ). low_bytes k low) (sym four) ∙ low_is h4 low (hex_bytes_small (row_at i).name (row_bytes i)) (ap little_value (sym whole) ∙ sym e) in
      row_put (low_bytes 4 low) at (at + 4) old out text (ap (λ (k : ℕ). at + k) (sym (length_low 4 low)), p)

  -- there are at most 14
  pub text_short : {t : Bytes} → t ≡ hex (row_at i).name → length t < 16
  text_short e = omega (arith, ap length e, length_hex (row_at i).name, name_short i h)
