-- A line that stands, walked from column to column: the place where each column stops is the column's end (`Ends`). So what `read_line` gives is found by
-- looking at one column after the other, and where that fails there is no line (`walk_refused`). For callers: `line_told` and
-- `line_refused`. Assumes nothing.
use mathlib.Core.Path.{◌≡◌, refl, sym, ap, subst, ◌∙◌}
use mathlib.Core.List.{◌∷◌}
use Prim.Native.Nat.{ℕ, suc, ◌+◌, ◌^◌, ◌<◌}
use native.Mathlib.Omega.{arith}
use lib.ListN.{length, drop, length-append, length-drop}
use borrow.Author.Tests.{lt-ltb}
use Rattle.sheets.specs.Refusal.{bad_lines}
use Rattle.sheets.specs.Rule.{Meets}
use Rattle.sheets.specs.Bytes.{Bytes}
use Rattle.sheets.specs.Answer.{refused, given}
use Rattle.sheets.specs.Codec.{number, signed, text, done, ◌▸◌}
use Rattle.sheets.specs.Schema.{Line, children_of, dictionary_of}
use Rattle.sheets.specs.SchemaTrees.{Row}
use Rattle.sheets.proofs.Tests.{not_given}
use Rattle.sheets.proofs.FormLaws.{row_begins}
use Rattle.columns.specs.Columns.{stop_from, ColumnAt}
use Rattle.columns.proofs.TailLaws.{Found, found, last_found, tail_last}
use Rattle.schema_line.specs.declared.SchemaLine.{SchemaLine}
use Rattle.schema_line.specs.Lines.{line_rule, read_line, shown_at, Stands, LineAt}
use Rattle.schema_line.proofs.LineLaws.{Ends, walk, ends_shown, ends_walk, ends_line, read_stands, read_refused, stands_read}

module _ {s : Bytes} {at : ℕ} {x : Line} {rest : Bytes} (b : Stands s at x rest) {f : ℕ} (ef : f ≡ stop_from s at) where
  format_found : Found text (text ▸ signed ▸ text ▸ number ▸ number ▸ done) s at f x rest
  format_found = found text text (signed ▸ text ▸ number ▸ number ▸ done) (record { bytes = b.bytes; is = b.is; free = b.free; reads = b.reads }) ef

  module _ {n : ℕ} (en : n ≡ stop_from s (f + 1)) where
    name_found : Found text (signed ▸ text ▸ number ▸ number ▸ done) s (f + 1) n x.1 rest
    name_found = found text signed (text ▸ number ▸ number ▸ done) format_found.after en

    module _ {g : ℕ} (eg : g ≡ stop_from s (n + 1)) where
      flags_found : Found signed (text ▸ number ▸ number ▸ done) s (n + 1) g x.1.1 rest
      flags_found = found signed text (number ▸ number ▸ done) name_found.after eg

      module _ {m : ℕ} (em : m ≡ stop_from s (g + 1)) where
        metadata_found : Found text (number ▸ number ▸ done) s (g + 1) m x.1.1.1 rest
        metadata_found = found text number (number ▸ done) flags_found.after em

        module _ {h : ℕ} (eh : h ≡ stop_from s (m + 1)) where
          children_found : Found number (number ▸ done) s (m + 1) h x.1.1.1.1 rest
          children_found = found number number done metadata_found.after eh

          module _ {e : ℕ} (ee : e ≡ stop_from s (h + 1)) where
            last : ColumnAt s (h + 1) e 10
            last = last_found number children_found.after ee

            pub ends : Ends s at x f n g m h e
            ends =
                record {
                  format = format_found.column;
                  name = name_found.column;
                  flags = flags_found.column;
                  metadata = metadata_found.column;
                  children = children_found.column;
                  dictionary = last;
                  is_format = format_found.reads;
                  is_name = name_found.reads;
                  is_flags = flags_found.reads;
                  is_metadata = metadata_found.reads;
                  is_children = children_found.reads;
                  is_dictionary = (tail_last number children_found.after last).0;
                }

-- ── a line that stands

module _ {s : Bytes} {at : ℕ} {x : Line} {rest : Bytes} (b : Stands s at x rest) (rule : Meets (line_rule x)) where
  stands_ends : (f : ℕ) × (n : ℕ) × (g : ℕ) × (m : ℕ) × (h : ℕ) × (e : ℕ) × Ends s at x f n g m h e
  stands_ends = (_, _, _, _, _, _, ends b refl refl refl refl refl refl)

  stands_walk : (l : SchemaLine) × (walk s at ≡ given l)
  stands_walk = let k = stands_ends in (_, ends_walk k.6 rule)

  stands_line : LineAt s at (shown_at at x)
  stands_line = let k = stands_ends in subst (LineAt s at) (sym (ends_shown k.6)) (ends_line k.6 rule)

-- a row of trees begins with a line
pub row_stands : (s : Bytes) (at : ℕ) {p : ℕ} → length s < 2 ^ 64 → Row (suc p) (drop at s) → (x : Line) × (rest : Bytes) × Stands s at x rest × Meets (line_rule x)
row_stands s at fits w =
    let k = row_begins w in
    let few : children_of k.line < 2 ^ 64 = omega (arith, k.few, ap length k.is, length-append k.bytes (10 ∷ k.rest), length-drop at s) in
    (k.line, k.rest, record { bytes = k.bytes; is = k.is; free = k.free; reads = k.reads }, (k.own, (lt-ltb (children_of k.line) (2 ^ 64) few, k.counts)))

-- ── what `read_line` tells

module _ (s : Bytes) (at : ℕ) where
  pub walk_refused : walk s at ≡ refused bad_lines → read_line s at ≡ refused bad_lines
  walk_refused h =
      read_refused s at (λ l e.
      let w = read_stands s at e in
      not_given (sym h ∙ (stands_walk w.2 w.3).1))

  -- a line that keeps its rules
  pub line_told : {l : SchemaLine} → read_line s at ≡ given l → LineAt s at l
  line_told {l} e =
      let w = read_stands s at e in
      subst (LineAt s at) w.4 (stands_line w.2 w.3)

  -- no row of trees begins here
  pub line_refused : read_line s at ≡ refused bad_lines → length s < 2 ^ 64 → (p : ℕ) → Row (suc p) (drop at s) → ⊥
  line_refused e fits p w =
      let k = row_stands s at fits w in
      not_given (sym e ∙ stands_read s at k.2 k.3)
