-- What is known at each place of `begin_any`: the line that stands there opens the tree, its metadata and name are read, and the line of its type comes after the
-- extension's, if there is one, or metadata or name are refused after all else. Assumes nothing.
use mathlib.Core.Path.{◌≡◌, refl, sym, ap, subst, ◌∙◌}
use mathlib.Core.Bool.{Bool}
use mathlib.Core.List.{List, [], ◌∷◌, ◌++◌, append_assoc}
use Rattle.std.specs.Prelude.{Option, None, Some, Ok, Err}
use Prim.Native.Nat.{ℕ, ◌+◌, ◌-◌, ◌^◌, ◌≤◌, ◌<◌, min}
use native.Mathlib.Omega.{arith}
use lib.ListN.{length, take, drop, length-append, length-drop}
use Rattle.sheets.specs.Refusal.{bad_lines}
use Rattle.sheets.specs.Bytes.{Bytes}
use Rattle.sheets.specs.Answer.{Answer, refused, given, ◌>>=◌}
use Rattle.sheets.specs.Sheet.{ended}
use Rattle.sheets.specs.Number.{decimal, read_number}
use Rattle.sheets.specs.Text.{write_text}
use Rattle.sheets.specs.Schema.{Line, node_of, dictionary_of, schema_line, Schema, schema, schema_levels}
use Rattle.sheets.specs.Field.{Info}
use Rattle.sheets.specs.FieldSheet.{field_line, line_of, of_extension}
use Rattle.sheets.specs.ImportLines.{shown, written, type_written, row_written}
use Rattle.sheets.specs.Visits.{import_lines, below_lines}
use Rattle.sheets.specs.SchemaTrees.{Standing}
use Rattle.sheets.proofs.NumberLaws.{read_decimal}
use Rattle.sheets.proofs.InverseLaws.{text_read}
use Rattle.sheets.proofs.SchemaLaws.{schema_line_read}
use Rattle.sheets.proofs.SheetLaws.{ended_append}
use Rattle.sheets.proofs.FormLaws.{standing_on, standing_row, Opened}
use Rattle.sheets.proofs.ImportLaws.{own_refused, own_plain, own_extended}
use Rattle.sheets.proofs.ImportVisits.{own_line}
use Rattle.buffer.specs.Over.{PutFirst}
use Rattle.buffer.proofs.OverLaws.{put_lent}
use Rattle.refusal.specs.declared.Refusal.{Refusal as Reason}
use Rattle.refusal.specs.Refusals.{refusal_of, Refusing, answer_of}
use Rattle.columns.specs.Columns.{part}
use Rattle.schema_line.specs.declared.SchemaLine.{SchemaLine}
use Rattle.schema_line.specs.Lines.{read_line, TextAt, LineAt}
use Rattle.schema_line.proofs.KnownLaws.{line_refused}
use Rattle.node.specs.declared.Begun.{Begun}
use Rattle.node.specs.Pieces.{info_piece}
use Rattle.node.specs.Info.{HasEntries}
use Rattle.node.specs.Nodes.{column_in, shown_in, NodeIn, OwnTold, OwnBegins, FieldBegins}
use Rattle.import_field.specs.declared.Tree.{Tree}
use Rattle.import_field.specs.declared.Visit.{Visit}
use Rattle.import_field.specs.declared.TypeBegun.{TypeBegun}
use Rattle.import_field.specs.Recursion.{FieldAt, TypeAt, HasLine, FieldWrote, type_length, begun_answer, LineBegins, BeginsAs, TypeBegins, FirstRead, NodeRead, NodeBegins}

-- ── the length of a line

some_digit : (b : Bytes) (n : ℕ) → read_number b ≡ given n → 1 ≤ length b
some_digit [] n e = let z : ◌≡◌ {A = ℕ} 0 1 = cc in absurd (omega arith)
some_digit (x ∷ b) n e = omega arith

write_length : (x : Line) → length (write_text x.0) + length (write_text x.1.0) + length (write_text x.1.1.1.0) + length (decimal (dictionary_of x)) + 5 ≤ length (schema_line.write x)
write_length x = simp length-append (omega arith)

part_length : (s : Bytes) (a b : ℕ) (x : Option Bytes) → TextAt s a b x → length (write_text x) ≡ length (part s a b)
part_length s a b x h = ap length (text_read (part s a b) x h.reads)

-- ── the line opens the tree

-- only the lengths of the entries count
pub room_kept : {s : Bytes} {es fs es' fs' : List ℕ} → HasEntries s es fs → length es' ≡ length es → length fs' ≡ length fs → HasEntries s es' fs'
room_kept h e f = record { entries = omega (arith, h.entries, e); spare = omega (arith, h.spare, f) }

-- ── where no line of a tree is read, none stands

pub no_level : (s : Bytes) (t : Tree) → t.levels ≡ 0 → (out out' : Bytes) (r : Reason) → FieldWrote s t out out' (Err r)
no_level s t e out out' r (schema n cs d) ts f = absurd (omega (arith, f.deep, e))

pub no_line : (s : Bytes) (t : Tree) → read_line s t.at ≡ refused bad_lines → length s < 2 ^ 64 → (out out' : Bytes) (r : Reason) → FieldWrote s t out out' (Err r)
no_line s t bad fits out out' r u ts f = absurd (line_refused s t.at bad fits (length ts) (standing_row f.stands))

module _ {s : Bytes} {at : ℕ} {l : SchemaLine} (p : LineAt s at l) where
  line_long : length (column_in s l.format) + length (column_in s l.name) + length (column_in s l.metadata) + 7 + at ≤ l.end
  line_long =
      let q = p.stands in
      omega (
        arith,
        ap length q.is,
        length-append q.bytes (10 ∷ drop l.end s),
        length-drop at s,
        length-drop l.end s,
        p.low,
        p.high,
        write_length p.line,
        some_digit (decimal (dictionary_of p.line)) (dictionary_of p.line) (read_decimal (dictionary_of p.line)),
        ap length (schema_line_read q.bytes p.line q.reads),
        part_length s l.format.start l.format.end p.line.0 p.shows.format,
        part_length s l.name.start l.name.end p.line.1.0 p.shows.name,
        part_length s l.metadata.start l.metadata.end p.line.1.1.1.0 p.shows.metadata,
      )

  pub node_there : length s ≤ 65535 → NodeIn s l
  node_there h = record { line = p.line; shows = p.shows; short = h }

  module _ {levels : ℕ} {u : Schema} {ts : List Schema} (f : FieldAt s at levels u ts) where
    pub opened : Opened p.line (drop l.end s) u ts
    opened =
        let q = p.stands in
        standing_on q.bytes (drop l.end s) q.free p.line q.reads u ts (subst (λ (b : Bytes). Standing b (u ∷ ts)) q.is f.stands)

    pub type_at : TypeAt s l (levels - 1) p.line opened.children opened.dictionary ts
    type_at =
        record {
          shows = p.shows;
          children = opened.counted;
          dictionary = opened.one;
          stands = opened.stands;
          deep = omega (arith, ap schema_levels opened.is_node, f.deep);
          within = p.high;
          short = f.short;
        }

-- ── the node's own lines

-- a refusal of the row comes first, then one of the node's own
own_lines : (o : Answer (List Bytes)) (head : Answer (List Bytes)) (line : Bytes)
    → ((o >>= λ ls. given (line ∷ ls)) >>= λ ls. head >>= λ a. given (a ++ ls)) ≡ (o >>= λ ls. (head >>= λ a. given (a ++ (line ∷ []))) >>= λ a. given (a ++ ls))
own_lines (refused q) head line = refl
own_lines (given ls) (refused q) line = refl
own_lines (given ls) (given a) line = ap given (sym (append_assoc a (line ∷ []) ls))

own_pends : (head : Answer (List Bytes)) (line : Bytes) → ◌≡◌ {A = Answer (Unit {0})} (head >>= λ a. given tt) ((head >>= λ a. given (a ++ (line ∷ []))) >>= λ a. given tt)
own_pends (refused q) line = refl
own_pends (given a) line = refl

module _ (s : Bytes) (t : Tree) (l : SchemaLine) (p : LineAt s t.at l) (es : List ℕ) (out mid : Bytes) (b : Begun) (begins : FieldBegins s l t.bare t.big es out mid b) where
  pub line_there : length s ≤ 65535 → HasLine s l b.shown es
  line_there h = record { line = p.line; shows = p.shows; one = p.one; within = p.high; short = h; ready = (begins p.line p.shows).ready }

  k : OwnBegins s l t.bare t.big p.line es out mid b
  k = begins p.line p.shows

  abbrev own : Bytes
  own = shown_in s l es b.shown

  -- what is read, whatever stands below the line
  module _ (from len : ℕ) (v : Visit) (h : FirstRead s l (t.levels - 1) (type_length s l b.shown es) (given (from, (len, v)))) where
    -- the sum does not wrap
    pub node_long : length s ≤ 65535 → b.len + len ≤ 2097120
    node_long short = omega (arith, k.long, h.2, line_long p, p.high, short)

    pub node_read : NodeRead s t from (b.len + len) v
    node_read = record { line = l; there = p; first = h.0; all = h.1; long = omega (arith, k.long, h.2, line_long p, h.0.0.0) }

  module _ (u : Schema) (ts : List Schema) (f : FieldAt s t.at t.levels u ts) where
    abbrev tree : Schema
    tree = schema (node_of p.line) (opened p f).children (opened p f).dictionary

    -- what stands in front of the type's lines, or the refusal that comes last; j is what the type's line shows
    record Front : Type 0 where
      pub j : Option Info
      pub head : Answer (List Bytes)
      pub shows : own ≡ info_piece j
      pub becomes : written t.big t.bare u ≡ (type_written t.big j tree >>= λ ls. head >>= λ a. given (a ++ ls))
      pub pends : answer_of b.pending ≡ (head >>= λ a. given tt)
      pub put : (a : List Bytes) → head ≡ given a → PutFirst (ended a) b.len out mid

    given_same : {A : Type 0} (x y : A) → given x ≡ given y → x ≡ y
    given_same x y e = cc

    nothing_before : (m : Answer (List Bytes)) → m ≡ (m >>= λ ls. given [] >>= λ a. given (a ++ ls))
    nothing_before (refused q) = refl
    nothing_before (given ls) = refl

    front : Front
    front = go (answer_of b.pending) refl k.told
      where
        go : (y : Answer (Unit {0})) → answer_of b.pending ≡ y → OwnTold t.bare t.big p.line own out mid b.len y → Front
        go (refused q) e (is, len, shows) =
            record {
              j = None;
              head = refused q;
              shows = shows;
              becomes = ap (written t.big t.bare) (opened p f).is_node ∙ own_refused t.big t.bare (node_of p.line) (opened p f).children (opened p f).dictionary q is None;
              pends = e;
              put = λ a h. let z : ◌≡◌ {A = ℕ} 0 1 = cc in absurd (omega arith);
            }
        go (given x) e (i, None, is, (put, shows)) =
            record {
              j = shown t.bare i;
              head = given [];
              shows = shows;
              becomes = ap (written t.big t.bare) (opened p f).is_node ∙ own_plain t.big t.bare (node_of p.line) (opened p f).children (opened p f).dictionary i is ∙ nothing_before (type_written t.big (shown t.bare i) tree);
              pends = e;
              put = λ a h. subst (λ (c : List Bytes). PutFirst (ended c) b.len out mid) (given_same [] a h) put;
            }
        go (given x) e (i, Some ex, is, (put, shows)) =
            record {
              j = None;
              head = given (field_line.write (line_of (of_extension ex.0 ex.1) (shown t.bare i) 1) ∷ []);
              shows = shows;
              becomes = ap (written t.big t.bare) (opened p f).is_node ∙ own_extended t.big t.bare (node_of p.line) (opened p f).children (opened p f).dictionary i ex is;
              pends = e;
              put = λ a h. subst (λ (c : List Bytes). PutFirst (ended c) b.len out mid) (given_same (field_line.write (line_of (of_extension ex.0 ex.1) (shown t.bare i) 1) ∷ []) a h) put;
            }

    module _ (lent last : Bytes) (r : Refusing TypeBegun) (w : TypeBegins s l b.shown (t.levels - 1) es lent last r) where
      told : BeginsAs t.big s (t.levels - 1) (type_written t.big front.j tree) (below_lines tree) ts lent last (begun_answer r)
      told =
          subst (λ (y : Bool). BeginsAs y s (t.levels - 1) (type_written y front.j tree) (below_lines tree) ts lent last (begun_answer r)) k.order
          (w p.line (opened p f).children (opened p f).dictionary ts front.j (type_at p f) front.shows)

      -- the type is refused
      pub node_refused : (q : Reason) → r ≡ Err q → written t.big t.bare u ≡ refused (refusal_of q)
      node_refused q e =
          let z : type_written t.big front.j tree ≡ refused (refusal_of q) =
          subst (λ (y : Refusing TypeBegun). BeginsAs t.big s (t.levels - 1) (type_written t.big front.j tree) (below_lines tree) ts lent last (begun_answer y)) e told in
          front.becomes ∙ ap (λ (m : Answer (List Bytes)). m >>= λ ls. front.head >>= λ a. given (a ++ ls)) z

      -- its line is written after that of the extension, if there is one
      pub node_begins : (from len : ℕ) (v : Visit) → r ≡ Ok (record { from = from; len = len; visit = v }) → (n : ℕ) → n ≡ min b.len (length mid) → lent ≡ take (length mid - n) (drop n mid)
          → NodeBegins s t u ts out (take n mid ++ (last ++ drop (length mid - n) (drop n mid))) from (b.len + len) v (answer_of b.pending)
      node_begins from len v e n e₁ e₂ =
          record {
            us = g.us;
            vs = g.vs;
            own = front.head >>= λ a. given (a ++ (g.line ∷ []));
            visited = g.visited;
            others = g.others;
            low = g.low;
            becomes =
                front.becomes
                ∙ ap (λ (m : Answer (List Bytes)). m >>= λ ls. front.head >>= λ a. given (a ++ ls)) g.becomes
                ∙ own_lines (row_written t.big v.bare g.us) front.head g.line;
            lines = omega (arith, g.lines, own_line (node_of p.line) (opened p f).children (opened p f).dictionary, ap import_lines (opened p f).is_node);
            pends = front.pends ∙ own_pends front.head g.line;
            put = go front.head front.put;
          }
        where
          g : LineBegins t.big s (t.levels - 1) (type_written t.big front.j tree) (below_lines tree) ts lent last from len v
          g = subst (λ (y : Refusing TypeBegun). BeginsAs t.big s (t.levels - 1) (type_written t.big front.j tree) (below_lines tree) ts lent last (begun_answer y)) e told

          go : (head : Answer (List Bytes)) → ((a : List Bytes) → head ≡ given a → PutFirst (ended a) b.len out mid)
              → (a : List Bytes) → (head >>= λ a. given (a ++ (g.line ∷ []))) ≡ given a → PutFirst (ended a) (b.len + len) out (take n mid ++ (last ++ drop (length mid - n) (drop n mid)))
          go (refused q) put a h = let z : ◌≡◌ {A = ℕ} 0 1 = cc in absurd (omega arith)
          go (given c) put a h =
              subst (λ (y : List Bytes). PutFirst (ended y) (b.len + len) out (take n mid ++ (last ++ drop (length mid - n) (drop n mid)))) (given_same (c ++ (g.line ∷ [])) a h)
              (subst (λ (y : Bytes). PutFirst y (b.len + len) out (take n mid ++ (last ++ drop (length mid - n) (drop n mid)))) (sym (ended_append c (g.line ∷ [])))
              (put_lent (ended c) (ended (g.line ∷ [])) out (put c refl) e₁ (subst (λ (y : Bytes). PutFirst (ended (g.line ∷ [])) len y last) e₂ g.put) refl))
