-- A line of a schema sheet at a place, column by column. `Ends` says where its columns end and what they read as. Such a line is what `read_line` gives
-- (`ends_read`), and code that reads one column after the other finds it (`ends_walk`). Assumes nothing.
use mathlib.Core.Path.{◌≡◌, refl, sym, ap, subst, ◌∙◌}
use mathlib.Core.Bool.{true, true≢false}
use mathlib.Core.List.{List, [], ◌∷◌, ◌++◌}
use mathlib.Core.Logic.{◌⊎◌, inl, inr}
use Rattle.std.specs.Prelude.{Option, Some}
use Prim.Native.Nat.{ℕ, ◌+◌, ◌^◌}
use native.Mathlib.Omega.{arith}
use lib.Dec.{ltb}
use lib.IntN.{ℤ}
use lib.Signed.{mag}
use lib.ListN.{length, drop}
use borrow.Author.Tests.{ltb-true, lt-ltb}
use Rattle.sheets.specs.Refusal.{bad_lines}
use Rattle.sheets.specs.Rule.{is, Meets}
use Rattle.sheets.specs.Bytes.{Bytes, lacks, split}
use Rattle.sheets.specs.Answer.{Answer, refused, given, ◌>>=◌, when, found}
use Rattle.sheets.specs.Codec.{ColumnsCodec as Columns, number, signed, text, done, ◌▸◌}
use Rattle.sheets.specs.Number.{read_number, read_signed}
use Rattle.sheets.specs.Text.{read_text}
use Rattle.sheets.specs.Schema.{Line, children_of, dictionary_of, schema_line, lacks_zero}
use Rattle.sheets.specs.TreeWalks as Walks
use Rattle.sheets.specs.SchemaTrees.{schemas}
use Rattle.sheets.proofs.Tests.{meets, passing, when_met, met_when, first_gave, not_given, same_given}
use Rattle.sheets.proofs.BytesLaws.{split_next, split_last, Cut, first_of}
use Rattle.sheets.proofs.InverseLaws.{split_some, number_read, signed_read, text_read}
use Rattle.sheets.proofs.RefusalLaws.{OnlyLines, refused_only, given_only, chain_only, when_only, schema_line_only}
use Rattle.hexadecimal.specs.Hex.{gives}
use Rattle.columns.specs.Columns.{part, column_of, part_of, ColumnAt}
use Rattle.columns.specs.TextColumns.{is_text, lacks_zero_in, is_cstring}
use Rattle.columns.specs.NumberColumns.{number_in, signed_in}
use Rattle.columns.proofs.ColumnLaws.{column_size}
use Rattle.columns.proofs.FindLaws.{column_is}
use Rattle.columns.proofs.NumberFindLaws.{column_number, column_signed}
use Rattle.columns.specs.Tails.{Tail}
use Rattle.columns.proofs.TextLaws.{text_some}
use Rattle.columns.proofs.TailLaws.{tail_cons, tail_end}
use Rattle.schema_line.specs.declared.SchemaLine.{SchemaLine}
use Rattle.schema_line.specs.Lines.{shown_at, first_line, line_rule, read_line, TextAt, Stands, LineAt}

-- the line for a walk over the trees
pub line_walks : {s : Bytes} {at : ℕ} {l : SchemaLine} (k : LineAt s at l) → Walks.LineAt schemas s at k.line l.end
line_walks k =
    record {
      bytes = k.stands.bytes;
      is = k.stands.is;
      free = k.stands.free;
      reads = k.stands.reads;
      counts = lt-ltb (dictionary_of k.line) 2 k.one;
      own = k.rule;
      low = k.low;
      high = k.high;
    }

-- ── texts

pub c_string_is : (c : Bytes) (t : Option Bytes) → read_text c ≡ given t → Meets (lacks_zero t) → is_cstring c ≡ true
unfolding is_cstring
c_string_is c t e h = ap lacks_zero_in e ∙ passing (lacks_zero t) h

pub text_is_lem : (c : Bytes) (t : Option Bytes) → read_text c ≡ given t → is_text c ≡ true
unfolding is_text
text_is_lem c t e = ap gives e

pub text_of : (c : Bytes) → is_text c ≡ true → (t : Option Bytes) × (read_text c ≡ given t)
unfolding is_text
text_of c h = pick (read_text c) h refl
  where
    pick : (a : Answer (Option Bytes)) → gives a ≡ true → read_text c ≡ a → (t : Option Bytes) × (read_text c ≡ given t)
    pick (refused r) g e = absurd (true≢false (sym g))
    pick (given t) g e = (t, e)

pub c_string_of : (c : Bytes) → is_cstring c ≡ true → (t : Option Bytes) × (read_text c ≡ given t) × Meets (lacks_zero t)
unfolding is_cstring
c_string_of c h = pick (read_text c) h refl
  where
    pick : (a : Answer (Option Bytes)) → lacks_zero_in a ≡ true → read_text c ≡ a → (t : Option Bytes) × (read_text c ≡ given t) × Meets (lacks_zero t)
    pick (refused r) g e = absurd (true≢false (sym g))
    pick (given t) g e = (t, e, meets (lacks_zero t) g)

text_at : {s : Bytes} {a e stop : ℕ} {t : Option Bytes} → ColumnAt s a e stop → read_text (part s a e) ≡ given t → TextAt s a e t
text_at {s} {a} {e} {stop} {t} c r =
    record {
      some = omega (arith, text_some (part s a e) (text_is_lem (part s a e) t r), column_size c);
      within = omega (arith, c.high);
      reads = r;
    }

-- ── what `read_line` reads

first_line_lem : (b rest : Bytes) → Meets (lacks 10 b) → first_line (split 10 (b ++ (10 ∷ rest))) ≡ given b
first_line_lem b rest h = ap first_line (split_next 10 b rest h) ∙ pick (split_some 10 rest)
  where
    pick : (p : Bytes) × (ps : List Bytes) × (split 10 rest ≡ p ∷ ps) → first_line (b ∷ split 10 rest) ≡ given b
    pick w = rw w.2

first_cut : (b l : Bytes) → first_line (split 10 b) ≡ given l → (rest : Bytes) × (b ≡ l ++ (10 ∷ rest)) × Meets (lacks 10 l)
first_cut b l e = go (first_of 10 b)
  where
    go : Meets (lacks 10 b) ⊎ Cut 10 b → (rest : Bytes) × (b ≡ l ++ (10 ∷ rest)) × Meets (lacks 10 l)
    go (inl h) = not_given (sym (ap first_line (split_last 10 b h)) ∙ e)
    go (inr w) =
        let same : w.front ≡ l = same_given (sym (first_line_lem w.front w.back w.free) ∙ ap (λ (c : Bytes). first_line (split 10 c)) (sym w.is) ∙ e) in
        (w.back, w.is ∙ ap (λ (c : Bytes). c ++ (10 ∷ w.back)) same, subst (λ (c : Bytes). Meets (lacks 10 c)) same w.free)

first_only : (ps : List Bytes) → OnlyLines (first_line ps)
first_only [] = refused_only
first_only (p ∷ []) = refused_only
first_only (p ∷ q ∷ ps) = given_only p

module _ (s : Bytes) (at : ℕ) where
  read_is : (b : Bytes) (x : Line) → first_line (split 10 (drop at s)) ≡ given b → schema_line.read b ≡ given x → Meets (line_rule x) → read_line s at ≡ given (shown_at at x)
  unfolding read_line
  read_is b x p q h = rw p (rw q (when_met bad_lines (line_rule x) (shown_at at x) h))

  pub stands_read : {x : Line} {rest : Bytes} → Stands s at x rest → Meets (line_rule x) → read_line s at ≡ given (shown_at at x)
  stands_read {x} {rest} k h = read_is k.bytes x (ap (λ (b : Bytes). first_line (split 10 b)) k.is ∙ first_line_lem k.bytes rest k.free) k.reads h

  pub read_stands : {l : SchemaLine} → read_line s at ≡ given l → (x : Line) × (rest : Bytes) × Stands s at x rest × Meets (line_rule x) × (shown_at at x ≡ l)
  unfolding read_line
  read_stands {l} e =
      let a = first_gave (first_line (split 10 (drop at s))) (λ b. schema_line.read b >>= λ x. when bad_lines (line_rule x) (shown_at at x)) l e in
      let b = first_gave (schema_line.read a.0) (λ x. when bad_lines (line_rule x) (shown_at at x)) l a.2 in
      let c = met_when bad_lines (line_rule b.0) (shown_at at b.0) l b.2 in
      let k = first_cut (drop at s) a.0 a.1 in
      (b.0, k.0, record { bytes = a.0; is = k.1; free = k.2; reads = b.1 }, c.0, c.1)

  read_only : OnlyLines (read_line s at)
  unfolding read_line
  read_only = chain_only (first_line (split 10 (drop at s))) _ (first_only (split 10 (drop at s))) (λ b. chain_only (schema_line.read b) _ (schema_line_only b) (λ x. when_only (line_rule x) (shown_at at x)))

  pub read_refused : ((l : SchemaLine) → read_line s at ≡ given l → ⊥) → read_line s at ≡ refused bad_lines
  read_refused None = pick (read_line s at) refl
    where
      pick : (a : Answer SchemaLine) → read_line s at ≡ a → a ≡ refused bad_lines
      pick (given l) e = absurd (None l e)
      pick (refused r) e = ap refused (read_only r e)

-- ── column by column

abbrev pub schema_row : Columns Line
schema_row = text ▸ text ▸ signed ▸ text ▸ number ▸ number ▸ done

-- the columns of the line x from `at` on end at f, n, g, m, h and e
pub record Ends (s : Bytes) (at : ℕ) (x : Line) (f n g m h e : ℕ) : Type 0 where
  pub format : ColumnAt s at f 32
  pub name : ColumnAt s (f + 1) n 32
  pub flags : ColumnAt s (n + 1) g 32
  pub metadata : ColumnAt s (g + 1) m 32
  pub children : ColumnAt s (m + 1) h 32
  pub dictionary : ColumnAt s (h + 1) e 10
  pub is_format : read_text (part s at f) ≡ given x.0
  pub is_name : read_text (part s (f + 1) n) ≡ given x.1.0
  pub is_flags : read_signed (part s (n + 1) g) ≡ given x.1.1.0
  pub is_metadata : read_text (part s (g + 1) m) ≡ given x.1.1.1.0
  pub is_children : read_number (part s (m + 1) h) ≡ given (children_of x)
  pub is_dictionary : read_number (part s (h + 1) e) ≡ given (dictionary_of x)

-- the line with these ends
abbrev pub shown : ℕ → ℕ → ℕ → ℕ → ℕ → ℕ → ℤ → ℕ → ℕ → SchemaLine
shown at f n g m e z c d =
    record { format = part_of at f; name = part_of (f + 1) n; flags = z; metadata = part_of (g + 1) m; children = c; dictionary = d; end = e + 1 }

-- The columns from `at` on, one after the other.
unfoldable pub walk : Bytes → ℕ → Answer SchemaLine
walk s at =
    found bad_lines (column_of is_cstring 32 s at) >>= λ f.
    found bad_lines (column_of is_cstring 32 s (f + 1)) >>= λ n.
    signed_in 32 s (n + 1) >>= λ g.
    found bad_lines (column_of is_text 32 s (g.1 + 1)) >>= λ m.
    number_in 32 s (m + 1) >>= λ h.
    number_in 10 s (h.1 + 1) >>= λ e.
    when bad_lines (is (ltb e.0 2)) (shown at f n g.1 m e.1 g.0 h.0 e.0)

-- a column is as long as what is written in it
length_is : {s : Bytes} {a e stop : ℕ} (t : Bytes) → ColumnAt s a e stop → t ≡ part s a e → a + length t ≡ e
length_is t c q = omega (arith, ap length q, column_size c, c.low)

module _ {s : Bytes} {at : ℕ} {x : Line} {f n g m h e : ℕ} (k : Ends s at x f n g m h e) where
  pub ends_shown : shown_at at x ≡ shown at f n g m e x.1.1.0 (children_of x) (dictionary_of x)
  unfolding shown_at
  ends_shown =
      rw (
        length_is _ k.format (text_read _ _ k.is_format),
        length_is _ k.name (text_read _ _ k.is_name),
        length_is _ k.flags (signed_read _ _ k.is_flags),
        length_is _ k.metadata (text_read _ _ k.is_metadata),
        length_is _ k.children (number_read _ _ k.is_children),
        length_is _ k.dictionary (number_read _ _ k.is_dictionary),
      )

  ends_tail : Tail schema_row s at x (drop (e + 1) s)
  ends_tail =
      tail_cons text _ k.format k.is_format
      (tail_cons text _ k.name k.is_name
      (tail_cons signed _ k.flags k.is_flags
      (tail_cons text _ k.metadata k.is_metadata (tail_cons number _ k.children k.is_children (tail_end number k.dictionary k.is_dictionary)))))

  ends_stand : Stands s at x (drop (e + 1) s)
  ends_stand = let t = ends_tail in record { bytes = t.bytes; is = t.is; free = t.free; reads = t.reads }

  module _ (rule : Meets (line_rule x)) where
    pub ends_read : read_line s at ≡ given (shown at f n g m e x.1.1.0 (children_of x) (dictionary_of x))
    ends_read = stands_read s at ends_stand rule ∙ ap given ends_shown

    pub ends_walk : walk s at ≡ given (shown at f n g m e x.1.1.0 (children_of x) (dictionary_of x))
    unfolding walk
    ends_walk =
        let small = ltb-true (mag x.1.1.0) (2 ^ 63) rule.0.1.1 in
        let few = ltb-true (children_of x) (2 ^ 64) rule.1.0 in
        let one = ltb-true (dictionary_of x) 2 rule.1.1 in
        rw (
          column_is is_cstring refl k.format (c_string_is _ _ k.is_format rule.0.0),
          column_is is_cstring refl k.name (c_string_is _ _ k.is_name rule.0.1.0),
          column_signed refl k.flags x.1.1.0 k.is_flags small,
          column_is is_text refl k.metadata (text_is_lem _ _ k.is_metadata),
          column_number refl k.children (children_of x) k.is_children few,
          column_number refl k.dictionary (dictionary_of x) k.is_dictionary (omega arith),
          lt-ltb (dictionary_of x) 2 one,
        )

    pub ends_line : LineAt s at (shown at f n g m e x.1.1.0 (children_of x) (dictionary_of x))
    ends_line =
        record {
          line = x;
          stands = ends_stand;
          rule = rule.0;
          one = ltb-true (dictionary_of x) 2 rule.1.1;
          shows =
              record {
                format = text_at k.format k.is_format;
                name = text_at k.name k.is_name;
                flags = refl;
                metadata = text_at k.metadata k.is_metadata;
                children = refl;
                dictionary = refl;
              };
          low = omega (arith, k.format.low, k.name.low, k.flags.low, k.metadata.low, k.children.low, k.dictionary.low);
          high = omega (arith, k.dictionary.high);
        }
