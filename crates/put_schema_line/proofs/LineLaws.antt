-- A schema line written piece by piece is the line of document 01; what is written at once is the same pieces. Assumes nothing.
use mathlib.Core.Path.{◌≡◌, refl, sym, ap, ap₂, subst, ◌∙◌}
use mathlib.Core.Bool.{Bool, true, false, not, ◌&&◌, ◌||◌, cond, true≢false}
use mathlib.Core.List.{[], ◌∷◌, ◌++◌, append_assoc}
use Rattle.std.specs.Prelude.{Option, None, Some, Ok}
use Prim.Native.Nat.{ℕ, suc, ◌+◌, ◌*◌, ◌≤◌, ◌<◌, ◌^◌}
use Prim.Native.Nat.{zero as first}
use native.Mathlib.Nat.{zero-add}
use native.Mathlib.Omega.{arith}
use lib.Dec.{eqb, leb, ltb}
use lib.IntN.{pos}
use lib.ListN.{length, length-append}
use borrow.Author.Tests.{eqb-true, eqb-false, ne_eqb, leb-true, ltb-true, ltb-false, lt-ltb}
use Rattle.sheets.specs.Bytes.{Bytes, line_end, space, same}
use Rattle.sheets.specs.Answer.{Answer, refused, given}
use Rattle.sheets.specs.Number.{decimal}
use Rattle.sheets.specs.Text.{hex, write_text}
use Rattle.sheets.specs.Refusal.{Refusal}
use Rattle.sheets.specs.Format.{or_empty}
use Rattle.sheets.specs.Rule.{Meets}
use Rattle.sheets.specs.Flags.{ORDERED}
use Rattle.sheets.specs.Kind
use Rattle.sheets.specs.Field.{Info, bits128, bits32, bits64, bits256, leaf, timestamp, fixed_size_binary, decimal_type, list, large_list, fixed_size_list, map, struct, union, is_leaf, text_rule, info_rule}
use Rattle.sheets.specs.FieldSheet.{Shape, of_scalar, of_nesting, of_grouping, of_dictionary, of_extension, columns, no_text, pair_text, write_list}
use Rattle.sheets.specs.FieldTrees.{shape_rule}
use Rattle.sheets.specs.Metadata.{extension_of, schema_metadata}
use Rattle.sheets.specs.Schema.{schema_line, line_of}
use Rattle.sheets.specs.Export.{flag, sorted_flag, values_info}
use Rattle.sheets.proofs.Tests.{same_given, not_given, and_left, and_right}
use Rattle.buffer.specs.Over.{over, over_at, PutAt}
use Rattle.buffer.proofs.OverLaws.{over_empty, Written, none_yet, and_then, over_at_zero, over_append}
use Rattle.hexadecimal.proofs.PartLaws.{length_hex}
use Rattle.words.specs.Words.{low_bytes}
use Rattle.words.proofs.WordLaws.{low_is, length_low}
use Rattle.decimal.proofs.WriteLaws.{decimal_start, first_digit, decimal_short}
use Rattle.field_line.specs.Columns.{column, end_piece}
use Rattle.field_line.proofs.LengthLaws.{number_short}
use Rattle.column_text.specs.ColumnText.{has_zero, TextColumn}
use Rattle.column_text.proofs.ColumnTextLaws.{column_is, column_says}
use Rattle.field_pairs.specs.Pairs.{first_place}
use Rattle.put_metadata.specs.Block.{metadata_column}
use Rattle.field_pairs.proofs.PairsLaws.{pairs_in_lem}
use Rattle.put_metadata.proofs.ColumnLaws.{no_metadata}
use Rattle.put_metadata.proofs.SizeLaws.{metadata_size}
use Rattle.put_format.specs.Formats.{Formats}
use Rattle.put_format.specs.LineFormat.{line_format}
use Rattle.put_format.proofs.SizeLaws.{format_size}
use Rattle.put_schema_line.specs.Lines.{node_name, name_piece, tail_piece, rest_piece, is_plain, line_text, other_flags, CanPutTail, CanPutRest, CanPutColumns, PutsLine, PutsColumns}
use Rattle.refusal.specs.Refusals.{Refusing, answer_of}
use Rattle.put_schema_line.specs.declared.LineNumbers.{LineNumbers}

-- a fact of five byte strings, said of their equals
pub moved : (P : Bytes → Bytes → Bytes → Bytes → Bytes → Type 0) {t t' a a' b b' c c' d d' : Bytes} → t ≡ t' → a ≡ a' → b ≡ b' → c ≡ c' → d ≡ d' → P t a b c d → P t' a' b' c' d'
moved P {t} {t'} {a} {a'} {b} {b'} {c} {c'} {d} {d'} e f g h i x =
    subst (λ (z : Bytes). P t' a' b' c' z) i
    (subst (λ (z : Bytes). P t' a' b' z d) h (subst (λ (z : Bytes). P t' a' z c d) g (subst (λ (z : Bytes). P t' z b c d) f (subst (λ (z : Bytes). P z a b c d) e x))))

-- ── the name

module _ (name : Bytes) (h : TextColumn name) where
  by_text : (o : Option Bytes) → h.text ≡ o → write_text (Some (node_name name)) ≡ write_text (Some (or_empty o))
  by_text o e = ap (λ (x : Option Bytes). write_text (Some (or_empty x))) (column_is name h ∙ e)

  pub name_one : length name ≡ 1 → write_text (Some (node_name name)) ≡ 45 ∷ []
  name_one e = go h.text refl h.is
    where
      go : (o : Option Bytes) → h.text ≡ o → name ≡ write_text o → write_text (Some (node_name name)) ≡ 45 ∷ []
      go None f g = by_text None f
      go (Some []) f g = by_text (Some []) f
      go (Some (b ∷ bs)) f g = absurd (omega (arith, e, ap length g))

  pub name_long : (length name ≡ 1 → ⊥) → write_text (Some (node_name name)) ≡ name
  name_long n = go h.text refl h.is
    where
      go : (o : Option Bytes) → h.text ≡ o → name ≡ write_text o → write_text (Some (node_name name)) ≡ name
      go None f g = absurd (n (ap length g))
      go (Some []) f g = absurd (n (ap length g))
      go (Some (b ∷ bs)) f g = by_text (Some (b ∷ bs)) f ∙ sym g

  pub name_short : length (name_piece name) ≤ 2 + length name
  unfolding name_piece
  name_short = go (eqb (length name) 1) refl
    where
      go : (t : Bool) → eqb (length name) 1 ≡ t → length ((space ∷ []) ++ write_text (Some (node_name name))) ≤ 2 + length name
      go true e = omega (arith, ap length (name_one (eqb-true (length name) 1 e)))
      go false e = omega (arith, ap length (name_long (eqb-false (length name) 1 e)))

pub name_put : (name t : Bytes) → write_text (Some (node_name name)) ≡ t → (at r : ℕ) (old out : Bytes) → PutAt at ((32 ∷ []) ++ t) r old out → PutAt at (name_piece name) r old out
unfolding name_piece
name_put name t e at r old out p = subst (λ (x : Bytes). PutAt at ((32 ∷ []) ++ x) r old out) (sym e) p

-- ── a plain tail

module _ (n : LineNumbers) (pairs extension : Bytes) where
  pub plain_as : (a b c d e : Bool) → leb (length pairs) (first_place pairs) ≡ a → same extension (126 ∷ []) ≡ b → leb n.flags 9 ≡ c → leb n.children 9 ≡ d → ltb n.dictionary 10 ≡ e
      → is_plain n pairs extension ≡ (a && (b && (c && (d && e))))
  plain_as a b c d e p q r s t = ap₂ ◌&&◌ p (ap₂ ◌&&◌ q (ap₂ ◌&&◌ r (ap₂ ◌&&◌ s t)))

  module _ (e : is_plain n pairs extension ≡ true) where
    after_pairs : (same extension (126 ∷ []) && (leb n.flags 9 && (leb n.children 9 && ltb n.dictionary 10))) ≡ true
    after_pairs = and_right (leb (length pairs) (first_place pairs)) _ e

    numbers : (leb n.flags 9 && (leb n.children 9 && ltb n.dictionary 10)) ≡ true
    numbers = and_right (same extension (126 ∷ [])) _ after_pairs

    pub plain_numbers : (n.flags ≤ 9) × (n.children ≤ 9) × (n.dictionary < 10)
    plain_numbers =
        let r = and_right (leb n.flags 9) (leb n.children 9 && ltb n.dictionary 10) numbers in
        (leb-true n.flags 9 (and_left (leb n.flags 9) _ numbers), leb-true n.children 9 (and_left (leb n.children 9) _ r), ltb-true n.dictionary 10 (and_right (leb n.children 9) _ r))

    pub plain_metadata : (more : Bytes) (at : ℕ) → CanPutTail pairs extension more at → metadata_column n.big pairs extension more ≡ 126 ∷ []
    plain_metadata more at h =
        no_metadata n.big pairs extension more at (record { column = h.column; short = h.short; named = h.extended; metadata = h.metadata; low = omega (arith, h.low) }) (first_place pairs) refl
        (and_left (same extension (126 ∷ [])) _ after_pairs) (leb-true (length pairs) (first_place pairs) (and_left (leb (length pairs) (first_place pairs)) _ e))

-- where no byte is lent, nothing is written
nothing_lent : (at : ℕ) (t out : Bytes) → length out ≡ 0 → out ≡ over_at at t out
unfolding over_at
nothing_lent first t out h = over_empty t out h
nothing_lent (suc at) t [] h = refl
nothing_lent (suc at) t (o ∷ out) h = absurd (omega arith)

-- else there is room up to the place that the bytes do not end before
pub room_to : (room end : ℕ) → (not (eqb room 0) && ltb room end) ≡ false → (room ≡ 0 → ⊥) → end ≤ room
room_to room end h lent = ltb-false room end (sym (ap (λ (b : Bool). not b && ltb room end) (ne_eqb room 0 lent)) ∙ h)

one_digit : (k : ℕ) → k < 10 → decimal k ≡ (48 + k) ∷ []
one_digit k h = decimal_start k ∙ first_digit k [] h

-- a tail without metadata, by the texts of its numbers
abbrev plain_pieces : Bytes → Bytes → Bytes → Bytes
plain_pieces f c d = (((((space ∷ []) ++ (f ++ (space ∷ []))) ++ (126 ∷ [])) ++ (space ∷ [])) ++ (c ++ (space ∷ []))) ++ (d ++ (line_end ∷ []))

module _ (n : LineNumbers) (f : n.flags ≤ 9) (c : n.children ≤ 9) (d : n.dictionary < 10) (w : ℕ) (is : w ≡ 0x302030207e203020 + (n.flags * 0x100 + n.children * 0x10000000000 + n.dictionary * 0x100000000000000)) where
  abbrev digits : Bytes
  digits = 32 ∷ (48 + n.flags) ∷ 32 ∷ 126 ∷ 32 ∷ (48 + n.children) ∷ 32 ∷ (48 + n.dictionary) ∷ []

  plain_word : low_bytes 8 w ≡ digits
  plain_word =
      low_is digits w (refl, (lt-ltb (48 + n.flags) 256 (omega arith), (refl, (refl, (refl, (lt-ltb (48 + n.children) 256 (omega arith), (refl, (lt-ltb (48 + n.dictionary) 256 (omega arith), refl)))))))) (omega (arith, is))

  plain_tail : low_bytes 8 w ++ (10 ∷ []) ≡ tail_piece n (126 ∷ [])
  unfolding tail_piece column end_piece
  plain_tail =
      ap (λ (t : Bytes). t ++ (10 ∷ [])) plain_word
      ∙ sym (ap (λ (x : Bytes). plain_pieces x (decimal n.children) (decimal n.dictionary)) (one_digit n.flags (omega arith))
      ∙ ap₂ (λ (x y : Bytes). plain_pieces ((48 + n.flags) ∷ []) x y) (one_digit n.children (omega arith)) (one_digit n.dictionary d))

  pub plain_put : (at r : ℕ) (old mid out : Bytes) → mid ≡ over_at at (low_bytes 8 w) old → PutAt (at + 8) (10 ∷ []) r mid out → PutAt at (tail_piece n (126 ∷ [])) r old out
  plain_put at r old mid out e p =
      let one : Written at (low_bytes 8 w) old (at + 8) mid = and_then (low_bytes 8 w) (none_yet at old) (ap (λ (k : ℕ). at + k) (sym (length_low 8 w)), e) in
      let two = and_then (10 ∷ []) one p in
      (two.place ∙ ap (λ (t : Bytes). at + length t) plain_tail, two.holds ∙ ap (λ (t : Bytes). over_at at t old) plain_tail)

  pub plain_counted : (at : ℕ) (out : Bytes) → length out ≡ 0 → PutAt at (tail_piece n (126 ∷ [])) (at + 9) out out
  plain_counted at out h =
      let nine : length (tail_piece n (126 ∷ [])) ≡ 9 = sym (ap length plain_tail) ∙ length-append (low_bytes 8 w) (10 ∷ []) ∙ ap (λ (k : ℕ). k + 1) (length_low 8 w) in
      (omega (arith, nine), nothing_lent at (tail_piece n (126 ∷ [])) out h)

-- ── the pieces are the line

format_text_lem : (f : Bytes) → 0 < length f → write_text (Some f) ≡ hex f
format_text_lem [] h = absurd (omega arith)
format_text_lem (b ∷ f) h = refl

pieces : (a s n f m c d e : Bytes) → a ++ ((s ++ n) ++ (((((s ++ (f ++ s)) ++ m) ++ s) ++ (c ++ s)) ++ (d ++ e))) ≡ (a ++ (s ++ (n ++ (s ++ (f ++ (s ++ (m ++ (s ++ (c ++ (s ++ d)))))))))) ++ e
pieces a s n f m c d e = simp append_assoc

line_is : (n : LineNumbers) (name pairs extension more f : Bytes) → 0 < length f → hex f ++ rest_piece n name (metadata_column n.big pairs extension more) ≡ line_text n name pairs extension more f
unfolding rest_piece name_piece tail_piece column end_piece line_text metadata_column
line_is n name pairs extension more f h =
    let s = space ∷ [] in
    let m = metadata_column n.big pairs extension more in
    let x = write_text (Some (node_name name)) in
    let rest : Bytes = s ++ (x ++ (s ++ (decimal n.flags ++ (s ++ (m ++ (s ++ (decimal n.children ++ (s ++ decimal n.dictionary)))))))) in
    pieces (hex f) s x (decimal n.flags) m (decimal n.children) (decimal n.dictionary) (line_end ∷ [])
    ∙ ap (λ (y : Bytes). (y ++ rest) ++ (line_end ∷ [])) (sym (format_text_lem f h))

-- ── flags

pub other_small : (kind p q : ℕ) → other_flags kind p q ≤ 4
other_small kind p q = go (eqb kind Kind.Map) (eqb kind Kind.Dictionary) (eqb p 1) (eqb q 1)
  where
    go : (a b c d : Bool) → cond a (flag c 4) (cond b (flag d 1) 0) ≤ 4
    go true b true d = omega arith
    go true b false d = omega arith
    go false true c true = omega arith
    go false true c false = omega arith
    go false false c d = omega arith

-- ── the format, and what stands after it

pub line_refused : (a : Answer Bytes) (name : Bytes) (text : Bytes → Bytes) (r : Refusing (ℕ × Bool)) (why : Refusal) (old mid : Bytes) → answer_of r ≡ refused why → Formats a 0 r old mid → PutsLine a name text r old mid
line_refused (refused x) name text r why old mid e h = h
line_refused (given f) name text r why old mid e h = not_given (sym e ∙ h.0)

-- a format was written
pub record Formatted (a : Answer Bytes) (at : ℕ) (zero : Bool) (old mid : Bytes) : Type 0 where
  pub format : Bytes
  pub is : a ≡ given format
  pub place : at ≡ length (hex format)
  pub zeros : zero ≡ has_zero format
  pub holds : mid ≡ over (hex format) old

pub formatted : (a : Answer Bytes) (at : ℕ) (zero : Bool) (old mid : Bytes) → Formats a 0 (Ok (at, zero)) old mid → Formatted a at zero old mid
formatted (refused x) at zero old mid h = not_given (sym h.0)
formatted (given f) at zero old mid h =
    let p = same_given h.0 in
    record { format = f; is = refl; place = ap (λ (x : ℕ × Bool). x.0) p ∙ zero-add (length (hex f)); zeros = ap (λ (x : ℕ × Bool). x.1) p; holds = h.1 ∙ over_at_zero (hex f) old }

module _ (n : LineNumbers) (text name pairs extension more : Bytes) (h : CanPutColumns n text name pairs extension more) where
  abbrev format : Answer Bytes
  format = line_format n.kind n.p n.q text n.children

  -- the pieces after the format
  abbrev rest : Bytes
  rest = rest_piece n name (metadata_column n.big pairs extension more)

  pub line_put : (at : ℕ) (zero : Bool) (old mid : Bytes) → Formatted format at zero old mid → (end : ℕ) (out : Bytes) → PutAt at rest end mid out
      → (named : Bool) → named ≡ has_zero (node_name name) → PutsColumns n text name pairs extension more (Ok (end, zero || named)) old out
  line_put at zero old mid w end out p named z =
      let f = w.format in
      let line = line_text n name pairs extension more in
      let t : hex f ++ rest ≡ line f = line_is n name pairs extension more f (format_size n.kind n.p n.q text n.children 0 h.format f w.is).0 in
      let m : end ≡ length (line f) = p.0 ∙ ap (λ (x : ℕ). x + length rest) w.place ∙ sym (length-append (hex f) rest) ∙ ap length t in
      let o : out ≡ over (line f) old = p.1 ∙ ap₂ (λ (x : ℕ) (b : Bytes). over_at x rest b) w.place w.holds ∙ sym (over_append (hex f) rest old) ∙ ap (λ (x : Bytes). over x old) t in
      subst (λ (b : Answer Bytes). PutsLine b name line (Ok (end, zero || named)) old out) (sym w.is) (ap₂ (λ (x : ℕ) (b : Bool). given (x, b)) m (ap₂ ◌||◌ w.zeros z), o)

  pub rest_low : (at : ℕ) (zero : Bool) (old mid : Bytes) → Formatted format at zero old mid → CanPutRest name pairs extension more at
  rest_low at zero old mid w =
      let l : at < 2 ^ 60 = omega (arith, w.place, length_hex w.format, (format_size n.kind n.p n.q text n.children 0 h.format w.format w.is).1, h.format.short, h.format.few) in
      record { named = record { named = h.named; low = l }; tail = record { column = h.column; short = h.short; extended = h.extended; metadata = h.metadata; low = omega (arith, l) } }

  -- how long a line is, by its columns
  pub line_size : (f : Bytes) → format ≡ given f → n.flags < 2 ^ 64 → n.dictionary < 2 ^ 64
      → length (line_text n name pairs extension more f) ≤ 323 + 2 * length text + 42 * n.children + length name + 16 * length pairs + length extension + length more
  unfolding rest_piece tail_piece end_piece
  line_size f e k l =
      let s = format_size n.kind n.p n.q text n.children 0 h.format f e in
      let m = metadata_column n.big pairs extension more in
      let a = (space ∷ []) ++ column (decimal n.flags) in
      omega (
        arith,
        ap length (sym (line_is n name pairs extension more f s.0)),
        length-append (hex f) rest,
        length_hex f,
        s.1,
        length-append (name_piece name) (tail_piece n m),
        name_short name h.named,
        length-append (((a ++ m) ++ (space ∷ [])) ++ column (decimal n.children)) (end_piece n.dictionary),
        length-append ((a ++ m) ++ (space ∷ [])) (column (decimal n.children)),
        length-append (a ++ m) (space ∷ []),
        length-append a m,
        length-append (space ∷ []) (column (decimal n.flags)),
        number_short n.flags k,
        number_short n.children (omega (arith, h.format.few)),
        length-append (decimal n.dictionary) (line_end ∷ []),
        decimal_short n.dictionary l,
        metadata_size n.big pairs extension more h.column h.extended h.metadata,
      )

-- ── for the caller: the line of a field's node

-- the node of a field, by its info and the name and metadata of its extension
abbrev field_line_text : Info → Option Bytes → Option Bytes → LineNumbers → Bytes → Bytes
field_line_text i x m n f =
    schema_line.write (line_of (record { format = Some f; name = Some i.name; flags = pos n.flags; metadata = schema_metadata n.big i.pairs (extension_of x m) }) n.children n.dictionary) ++ (line_end ∷ [])

module _ (x m : Option Bytes) (n : LineNumbers) (f : Bytes) (k : Meets (text_rule x)) (l : Meets (text_rule m)) where
  -- the columns of a line that were written from a field and its extension say that field's node
  pub node_line : (i : Info) → Meets (info_rule i) → line_text n (write_text (Some i.name)) (write_list pair_text i.pairs) (write_text x) (write_text m) f ≡ field_line_text i x m n f
  unfolding line_text
  node_line i h = rw (column_says (Some i.name) h.0, pairs_in_lem i.pairs h.1, column_says x k, column_says m l)

  -- a bare line's columns say the node of a dictionary's values
  pub bare_line : line_text n no_text no_text (write_text x) (write_text m) f ≡ field_line_text values_info x m n f
  unfolding line_text
  bare_line = rw (column_says None refl, pairs_in_lem None refl, column_says x k, column_says m l)

-- the flags that a shape has beside nullable
abbrev pub shape_flags : Shape → ℕ
shape_flags (of_scalar s) = 0
shape_flags (of_nesting g) = sorted_flag g
shape_flags (of_grouping g) = 0
shape_flags (of_dictionary ix ordered) = flag ordered ORDERED
shape_flags (of_extension a b) = 0

leaf_flags : (k p : ℕ) → is_leaf k ≡ true → other_flags k p 0 ≡ 0
leaf_flags k p h = rw (ne_eqb k Kind.Map (other Kind.Map refl), ne_eqb k Kind.Dictionary (other Kind.Dictionary refl))
  where
    other : (j : ℕ) → is_leaf j ≡ false → k ≡ j → ⊥
    other j e q = true≢false (sym h ∙ ap is_leaf q ∙ e)

pub shape_flags_lem : (s : Shape) → Meets (shape_rule s) → other_flags (columns s).kind (columns s).p (columns s).q ≡ shape_flags s
shape_flags_lem (of_scalar (leaf k u)) h = leaf_flags k u h.0
shape_flags_lem (of_scalar (timestamp u z)) h = refl
shape_flags_lem (of_scalar (fixed_size_binary n)) h = refl
shape_flags_lem (of_scalar (decimal_type bits128 p s)) h = refl
shape_flags_lem (of_scalar (decimal_type bits32 p s)) h = refl
shape_flags_lem (of_scalar (decimal_type bits64 p s)) h = refl
shape_flags_lem (of_scalar (decimal_type bits256 p s)) h = refl
shape_flags_lem (of_nesting list) h = refl
shape_flags_lem (of_nesting large_list) h = refl
shape_flags_lem (of_nesting (fixed_size_list n)) h = refl
shape_flags_lem (of_nesting (map true)) h = refl
shape_flags_lem (of_nesting (map false)) h = refl
shape_flags_lem (of_grouping struct) h = refl
shape_flags_lem (of_grouping (union m ids)) h = refl
shape_flags_lem (of_dictionary ix true) h = refl
shape_flags_lem (of_dictionary ix false) h = refl
shape_flags_lem (of_extension a b) h = refl
