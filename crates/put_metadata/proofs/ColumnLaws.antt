-- The whole column: the reserved keys on the walk, the pairs that are left, the count before them, and the two texts that are columns. Assumes
-- nothing.
use mathlib.Core.Path.{◌≡◌, refl, sym, ap, ap₂, subst, ◌∙◌}
use mathlib.Core.Bool.{Bool, true, false, cond}
use mathlib.Core.List.{List, [], ◌∷◌, ◌++◌, append_assoc}
use Rattle.std.specs.Prelude.{Option, Some}
use Prim.Native.Nat.{ℕ, zero, suc, ◌+◌, ◌*◌, ◌-◌, ◌/◌, ◌≤◌, ◌<◌}
use native.Mathlib.Nat.{zero-add, suc-add}
use native.Mathlib.Omega.{arith}
use lib.Dec.{ltb}
use lib.ListN.{length, drop, length-append, length-drop}
use borrow.Author.Tests.{lt-ltb, ltb-true}
use Rattle.sheets.specs.Rule.{Meets, each}
use Rattle.sheets.specs.Bytes.{Bytes, is_byte, all, same}
use Rattle.sheets.specs.Text.{hex_digit, hex, write_text}
use Rattle.sheets.specs.Field.{Pair, before, text_rule, metadata_rule}
use Rattle.sheets.specs.FieldSheet.{pair_text, write_list}
use Rattle.sheets.specs.Metadata.{name_key, metadata_key, extension_of, insert_over, with_metadata, or_none, metadata_to_bytes, block_of, schema_metadata}
use Rattle.sheets.proofs.Utf8Laws.{utf8_bytes}
use Rattle.sheets.proofs.MetadataLaws.{text_pair}
use Rattle.buffer.specs.Over.{over, over_at, PutAt}
use Rattle.buffer.proofs.OverLaws.{Written, and_then}
use Rattle.endian.specs.Word.{word_bytes}
use Rattle.endian.proofs.WordLaws.{length_word_text}
use Rattle.schema_line.specs.Texts.{text_in}
use Rattle.schema_line.proofs.TextLaws.{text_shorter}
use Rattle.column_text.specs.ColumnText.{column_text}
use Rattle.column_text.proofs.ColumnTextLaws.{HasText, column_none, column_some, column_says}
use Rattle.field_pairs.specs.Pairs.{Pairs, pairs_in, pairs_of, pairs_text, first_place}
use Rattle.field_pairs.proofs.PairsLaws.{pairs_rule_lem, pairs_end, pairs_of_lem, pairs_in_lem, first_pairs}
use Rattle.put_metadata.specs.Block.{metadata_column, pair_pieces, block_text, before_text, from_text, after_text, more_done, more_rest}
use Rattle.put_metadata.specs.Walks.{Moves, left_of, PutsUntil, PutsReserved, PutsMore, PutsLeft, IsAfter, CanWalk, CanPutReserved, CanPutMore, CanPutMetadata}
use Rattle.put_metadata.specs.declared.Walk.{Walk}
use Rattle.put_metadata.proofs.BlockLaws.{pieces_length, pair_block, block_append, block_none, block_whole}
use Rattle.put_metadata.proofs.WalkLaws.{no_move, then_move, as_move}
use Rattle.put_metadata.proofs.MergeLaws.{placed, after, merged}

-- ── a reserved key

module _ (big : Bool) where
  module _ (column key value : Bytes) (w a : Walk) (old mid : Bytes)
      (m : PutsUntil big column key w a old mid) where
    pub reserved_move : (end place : ℕ) (out : Bytes) → PutAt a.end (pair_pieces big key value) end mid out → IsAfter column key a.place place
        → PutsReserved big column key value w (record { place = place; end = end; count = a.count + 1 }) old out
    reserved_move end place out p s =
        let r : Walk = record { place = place; end = end; count = a.count + 1 } in
        let k = before_text key (left_of column w) in
        let rest = after_text key (from_text key (left_of column w)) in
        as_move column w r (block_text big k ++ pair_pieces big key value) (block_text big k ++ pair_pieces big key value) (length k + 1) (length k + 1) (0 + (16 + length key + length value)) (16 + length key + length value) rest rest old out refl refl (omega arith) refl
        (then_move column w a r (block_text big k) (pair_pieces big key value) (length k) 1 0 (16 + length key + length value) (from_text key (left_of column w)) rest old mid out m
        (record {
          stands = s.1;
          left = s.2 ∙ ap (after_text key) m.left;
          counted = refl;
          place = p.0;
          holds = p.1;
          room = omega (arith, p.0, pieces_length big key value, s.0);
          few = omega (arith, s.0);
        }))

  -- ── the extension's metadata

  module _ (column more : Bytes) (w : Walk) (h : CanPutMore column w more) where
    pub more_none : same more (126 ∷ []) ≡ true → (old : Bytes) → PutsMore big column more w w old old
    unfolding more_done more_rest
    more_none e old =
        let c = column_none more e in
        as_move column w w [] (block_text big (more_done (column_text more) (left_of column w))) 0 (length (more_done (column_text more) (left_of column w))) 0 (64 + length more) (left_of column w) (more_rest (column_text more) (left_of column w)) old old
        (sym (ap (λ (m : Option Bytes). block_text big (more_done m (left_of column w))) c ∙ block_none big)) (sym (ap (λ (m : Option Bytes). length (more_done m (left_of column w))) c)) (omega arith) (sym (ap (λ (m : Option Bytes). more_rest m (left_of column w)) c))
        (no_move column w old h.walk.stands)

    pub can_put_more : (value : Bytes) → value ≡ text_in more → CanPutReserved column w (hex metadata_key) value
    can_put_more value e =
        let n : length value ≤ length more = omega (arith, ap length e, text_shorter more) in
        record {
          walk = record { stands = h.walk.stands; room = omega (arith, h.walk.room, n); few = omega (arith, h.walk.few, n) };
          some_key = omega arith;
          short_key = omega arith;
          short_value = omega (arith, n, h.text.short);
        }

    pub more_some : same more (126 ∷ []) ≡ false → (value : Bytes) → value ≡ text_in more → (r : Walk) (old out : Bytes)
        → PutsReserved big column (hex metadata_key) value w r old out
        → PutsMore big column more w r old out
    unfolding more_done more_rest
    more_some e value v r old out m =
        let t = column_some more h.text e in
        let k = before_text (hex metadata_key) (left_of column w) in
        let n : length value ≤ length more = omega (arith, ap length v, text_shorter more) in
        as_move column w r (block_text big k ++ pair_pieces big (hex metadata_key) value) (block_text big (more_done (column_text more) (left_of column w))) (length k + 1) (length (more_done (column_text more) (left_of column w))) (16 + length (hex metadata_key) + length value) (64 + length more) (after_text (hex metadata_key) (from_text (hex metadata_key) (left_of column w))) (more_rest (column_text more) (left_of column w)) old out
        (ap (λ (x : Bytes). block_text big k ++ x) (ap (pair_pieces big (hex metadata_key)) (v ∙ t.is) ∙ pair_block big metadata_key t.text) ∙ sym (block_append big k ((metadata_key, t.text) ∷ [])) ∙ sym (ap (λ (o : Option Bytes). block_text big (more_done o (left_of column w))) t.says))
        (sym (ap (λ (o : Option Bytes). length (more_done o (left_of column w))) t.says ∙ length-append k ((metadata_key, t.text) ∷ [])))
        (omega (arith, n)) (sym (ap (λ (o : Option Bytes). more_rest o (left_of column w)) t.says)) m

-- ── the pairs that are left

-- `~` stands after every hexadecimal text
tilde : (k : Bytes) → Meets (all is_byte k) → before (hex k) (126 ∷ []) ≡ true
tilde [] h = refl
tilde (x ∷ k) h =
    let l : x < 256 = ltb-true x 256 h.0 in
    rw (lt-ltb (hex_digit (x / 16)) 126 (digit (x / 16) (omega arith)))
  where
    digit : (d : ℕ) → d < 16 → hex_digit d < 126
    digit d l = pick (ltb d 10)
      where
        pick : (t : Bool) → cond t (48 + d) (87 + d) < 126
        pick true = omega arith
        pick false = omega arith

all_left : (ps : List Pair) → Meets (each text_pair ps) → (before_text (126 ∷ []) ps ≡ ps) × (from_text (126 ∷ []) ps ≡ [])
unfolding before_text from_text
all_left [] h = (refl, refl)
all_left (p ∷ ps) h =
    let t = tilde p.0 (utf8_bytes p.0 h.0.0) in
    let rest = all_left ps h.1 in
    (rw t (ap (λ (l : List Pair). p ∷ l) rest.0), rw t rest.1)

module _ (big : Bool) where
  module _ (column : Bytes) (w a : Walk) (h : CanWalk column w 0) (old mid : Bytes)
      (m : PutsUntil big column (126 ∷ []) w a old mid) where
    is_all : before_text (126 ∷ []) (left_of column w) ≡ left_of column w
    is_all = (all_left (left_of column w) (pairs_rule_lem column w.place h.stands)).0

    pub left_put : (at : ℕ) (out : Bytes) → out ≡ over_at at (hex (word_bytes big a.count)) mid → PutsLeft big column at w a.end old out
    left_put at out e = (
      m.place ∙ ap (λ (l : List Pair). w.end + length (block_text big l)) is_all,
      e ∙ ap₂ (λ (n : ℕ) (b : Bytes). over_at at (hex (word_bytes big n)) b) (m.counted ∙ ap (λ (l : List Pair). w.count + length l) is_all) (m.holds ∙ ap (λ (l : List Pair). over_at w.end (block_text big l) old) is_all),
    )

-- ── the count before them

over_back : (s t out : Bytes) → over s (over_at (length s) t out) ≡ over (s ++ t) out
unfolding over over_at
over_back [] t out = refl
over_back (b ∷ s) t [] = refl
over_back (b ∷ s) t (o ∷ out) = ap (λ (l : Bytes). b ∷ l) (over_back s t out)

-- a text before one that was written already
over_at_back : (at : ℕ) (s t out : Bytes) → over_at at s (over_at (at + length s) t out) ≡ over_at at (s ++ t) out
unfolding over_at
over_at_back zero s t out = rw zero-add (over_back s t out)
over_at_back (suc at) s t [] = rw suc-add
over_at_back (suc at) s t (o ∷ out) = rw suc-add (ap (λ (l : Bytes). o ∷ l) (over_at_back at s t out))

module _ (big : Bool) where
  module _ (at : ℕ) (old : Bytes) (ps : List Pair) where
    -- the block of the pairs
    pub whole_put : (end n : ℕ) (mid out : Bytes) → end ≡ at + 8 + length (block_text big ps) → mid ≡ over_at (at + 8) (block_text big ps) old → n ≡ length ps → out ≡ over_at at (hex (word_bytes big n)) mid
        → PutAt at (write_text (Some (metadata_to_bytes big ps))) end old out
    whole_put end n mid out e f g h =
        let c = hex (word_bytes big (length ps)) in
        let l : length c ≡ 8 = length_word_text big (length ps) in (
          omega (arith, e, ap length (block_whole big ps), length-append c (block_text big ps), l),
          h
              ∙ ap₂ (λ (i : ℕ) (b : Bytes). over_at at (hex (word_bytes big i)) b) g (f ∙ ap (λ (i : ℕ). over_at (at + i) (block_text big ps) old) (sym l))
              ∙ over_at_back at c (block_text big ps) old
              ∙ ap (λ (t : Bytes). over_at at t old) (sym (block_whole big ps)),
        )

  -- pairs that were written, pairs of a reserved key, and pairs that were left
  pub joined_put : (at end last n : ℕ) (old mid out text : Bytes) (done place left all : List Pair) → all ≡ done ++ (place ++ left) → text ≡ block_text big done ++ block_text big place
      → end ≡ at + 8 + length text → mid ≡ over_at (at + 8) text old → n ≡ length done + length place
      → last ≡ end + length (block_text big left) → out ≡ over_at at (hex (word_bytes big (n + length left))) (over_at end (block_text big left) mid)
      → PutAt at (write_text (Some (metadata_to_bytes big all))) last old out
  joined_put at end last n old mid out text done place left all e t p h c l o =
      let w : Written (at + 8) (text ++ block_text big left) old last (over_at end (block_text big left) mid) = and_then {at = at + 8} {s = text} {out = old} {n = end} {l = mid} (block_text big left) {m = last} {k = over_at end (block_text big left) mid} (record { place = p; holds = h }) (l, refl) in
      let b : text ++ block_text big left ≡ block_text big all =
      ap (λ (x : Bytes). x ++ block_text big left) t
      ∙ append_assoc (block_text big done) (block_text big place) (block_text big left)
      ∙ ap (λ (x : Bytes). block_text big done ++ x) (sym (block_append big place left))
      ∙ sym (block_append big done (place ++ left))
      ∙ ap (block_text big) (sym e) in
      let k : n + length left ≡ length all = omega (arith, c, ap length e, length-append done (place ++ left), length-append place left) in
      whole_put at old all last (n + length left) (over_at end (block_text big left) mid) out (w.place ∙ ap (λ (x : Bytes). at + 8 + length x) b) (w.holds ∙ ap (λ (x : Bytes). over_at (at + 8) x old) b) k o

  -- ── the column

  some_block : (l : List Pair) → (l ≡ [] → ⊥) → write_text (block_of big l) ≡ write_text (Some (metadata_to_bytes big l))
  some_block [] h = absurd (h refl)
  some_block (p ∷ ps) h = refl

left_some : (column : Bytes) (at : ℕ) → Pairs column at → at < length column → pairs_of (drop at column) ≡ [] → ⊥
left_some column at h l e =
    let z : h.text.pairs ≡ [] = sym (pairs_of_lem h.text.pairs h.text.rule) ∙ ap pairs_of (sym h.text.is) ∙ e in
    omega (arith, l, sym (length-drop at column) ∙ ap length (h.text.is ∙ ap pairs_text z))

module _ (big : Bool) where
  module _ (pairs name more : Bytes) (at : ℕ) (h : CanPutMetadata pairs name more at) (place : ℕ) (f : place ≡ first_place pairs) where
    -- where the walk begins: the count has 8 digits
    abbrev start : Walk
    start = record { place = place; end = at + 8; count = 0 }

    pub start_stands : Pairs pairs place
    start_stands = subst (Pairs pairs) (sym f) (first_pairs pairs h.column h.short).0

    is_left : pairs_of (drop place pairs) ≡ or_none (pairs_in pairs)
    is_left = ap (λ (i : ℕ). pairs_of (drop i pairs)) f ∙ (first_pairs pairs h.column h.short).1

    said : (t : Bytes) (r : ℕ) (old out : Bytes) → metadata_column big pairs name more ≡ t → PutAt at t r old out → PutAt at (metadata_column big pairs name more) r old out
    said t r old out e p = subst (λ (x : Bytes). PutAt at x r old out) (sym e) p

    module _ (n : same name (126 ∷ []) ≡ true) where
      no_extension : metadata_column big pairs name more ≡ write_text (block_of big (pairs_of (drop place pairs)))
      unfolding metadata_column
      no_extension = ap (λ (x : Option Bytes). write_text (schema_metadata big (pairs_in pairs) (extension_of x (column_text more)))) (column_none name n) ∙ ap (λ (l : List Pair). write_text (block_of big l)) (sym is_left)

      -- no pair and no extension: no block
      pub no_metadata : length pairs ≤ place → metadata_column big pairs name more ≡ 126 ∷ []
      no_metadata l = no_extension ∙ ap (λ (l : List Pair). write_text (block_of big l)) (pairs_end pairs place l)

      pub none_put : place ≡ length pairs → (r : ℕ) (old out : Bytes) → PutAt at (126 ∷ []) r old out → PutAt at (metadata_column big pairs name more) r old out
      none_put e r old out p = said (126 ∷ []) r old out (no_metadata (omega arith)) p

      pub plain_put : (place ≡ length pairs → ⊥) → (r : ℕ) (old out : Bytes) → PutsLeft big pairs at start r old out → PutAt at (metadata_column big pairs name more) r old out
      plain_put d r old out p =
          let l = pairs_of (drop place pairs) in
          said (write_text (Some (metadata_to_bytes big l))) r old out (no_extension ∙ some_block big l (left_some pairs place start_stands (omega (arith, d, start_stands.within))))
          (whole_put big at old l r (0 + length l) (over_at (at + 8) (block_text big l) old) out p.0 refl (omega arith) p.1)

    module _ (n : same name (126 ∷ []) ≡ false) where
      abbrev named : HasText name
      named = column_some name h.named n

      pub can_more : CanPutMore pairs start more
      can_more =
          record {
            walk = record { stands = start_stands; room = omega (arith, h.low, h.short, h.metadata.short); few = omega (arith, h.short, h.metadata.short) };
            text = h.metadata;
          }

      module _ (a : Walk) (old one : Bytes)
          (m : PutsMore big pairs more start a old one)
          (value : Bytes) (v : value ≡ text_in name) where
        value_short : length value ≤ length name
        value_short = omega (arith, ap length v, text_shorter name)

        pub can_name : CanPutReserved pairs a (hex name_key) value
        can_name =
            record {
              walk = record { stands = m.stands; room = omega (arith, m.room, h.low, h.short, h.metadata.short, h.named.short, value_short); few = omega (arith, m.few, h.short, h.metadata.short, h.named.short, value_short) };
              some_key = omega arith;
              short_key = omega arith;
              short_value = omega (arith, value_short, h.named.short);
            }

        module _ (b : Walk) (two : Bytes)
            (k : PutsReserved big pairs (hex name_key) value a b one two) where
          pub can_left : CanWalk pairs b 0
          can_left =
              record {
                stands = k.stands;
                room = omega (arith, k.room, m.room, h.low, h.short, h.metadata.short, h.named.short, value_short);
                few = omega (arith, k.few, m.few, h.short, h.metadata.short, h.named.short, value_short);
              }

          all_pairs : insert_over (name_key, named.text) (with_metadata (column_text more) (or_none (pairs_in pairs)))
              ≡ more_done (column_text more) (pairs_of (drop place pairs)) ++ (placed name_key named.text (left_of pairs a) ++ left_of pairs b)
          all_pairs =
              ap (λ (l : List Pair). insert_over (name_key, named.text) (with_metadata (column_text more) l)) (sym is_left)
              ∙ merged named.text (column_text more) (pairs_of (drop place pairs)) (pairs_rule_lem pairs place start_stands) (subst (λ (l : List Pair). Meets (each text_pair l)) m.left (pairs_rule_lem pairs a.place m.stands))
              ∙ ap (λ (l : List Pair). more_done (column_text more) (pairs_of (drop place pairs)) ++ (placed name_key named.text l ++ after name_key l)) (sym m.left)
              ∙ ap (λ (l : List Pair). more_done (column_text more) (pairs_of (drop place pairs)) ++ (placed name_key named.text (left_of pairs a) ++ l)) (sym k.left)

          is_extended : metadata_column big pairs name more ≡ write_text (Some (metadata_to_bytes big (insert_over (name_key, named.text) (with_metadata (column_text more) (or_none (pairs_in pairs))))))
          unfolding metadata_column
          is_extended = ap (λ (x : Option Bytes). write_text (schema_metadata big (pairs_in pairs) (extension_of x (column_text more)))) named.says

          pub extended_put : (r : ℕ) (out : Bytes) → PutsLeft big pairs at b r two out → PutAt at (metadata_column big pairs name more) r old out
          extended_put r out p =
              let d = more_done (column_text more) (pairs_of (drop place pairs)) in
              let s = before_text (hex name_key) (left_of pairs a) in
              let g : Moves pairs start b (block_text big d ++ (block_text big s ++ pair_pieces big (hex name_key) value)) (length d + (length s + 1)) (64 + length more + (16 + length (hex name_key) + length value)) (after_text (hex name_key) (from_text (hex name_key) (left_of pairs a))) old two =
              then_move pairs start a b (block_text big d) (block_text big s ++ pair_pieces big (hex name_key) value) (length d) (length s + 1) (64 + length more) (16 + length (hex name_key) + length value) (more_rest (column_text more) (pairs_of (drop place pairs))) (after_text (hex name_key) (from_text (hex name_key) (left_of pairs a))) old one two m k in
              said (write_text (Some (metadata_to_bytes big (insert_over (name_key, named.text) (with_metadata (column_text more) (or_none (pairs_in pairs))))))) r old out is_extended
              (joined_put big at b.end r b.count old two out (block_text big d ++ (block_text big s ++ pair_pieces big (hex name_key) value)) d (placed name_key named.text (left_of pairs a)) (left_of pairs b) (insert_over (name_key, named.text) (with_metadata (column_text more) (or_none (pairs_in pairs)))) all_pairs
              (ap (λ (x : Bytes). block_text big d ++ (block_text big s ++ x)) (ap (pair_pieces big (hex name_key)) (v ∙ named.is) ∙ pair_block big name_key named.text) ∙ ap (λ (x : Bytes). block_text big d ++ x) (sym (block_append big s ((name_key, named.text) ∷ []))))
              g.place g.holds (omega (arith, g.counted, length-append s ((name_key, named.text) ∷ []))) p.0 p.1)

  -- ── for the caller: columns that were written from a field

  pub metadata_written : (ps : Option (List Pair)) (n m : Option Bytes) → Meets (metadata_rule ps) → Meets (text_rule n) → Meets (text_rule m)
      → metadata_column big (write_list pair_text ps) (write_text n) (write_text m) ≡ write_text (schema_metadata big ps (extension_of n m))
  unfolding metadata_column
  metadata_written ps n m h k l = rw (pairs_in_lem ps h, column_says n k, column_says m l)
