-- The column `pairs` written pair by pair: the first, then a comma and a pair each time. By what is left to write: the column is the text written so
-- far and the rest of it. Assumes nothing.
use mathlib.Core.Path.{◌≡◌, refl, sym, ap, ap₂, subst, ◌∙◌}
use mathlib.Core.Bool.{Bool, true, cond}
use mathlib.Core.List.{List, [], ◌∷◌, ◌++◌, map, append_assoc, append-nil}
use Rattle.std.specs.Prelude.{None, Some}
use Prim.Native.Nat.{ℕ, suc, ◌+◌, ◌-◌, ◌^◌, ◌≤◌, ◌<◌}
use native.Mathlib.Numerals.{add-one}
use native.Mathlib.Omega.{arith}
use lib.ListN.{length, get_or, take, drop, length-append, drop_of_length-le}
use lib.Seq.{drop-cons, get_or-take, length-take-le}
use borrow.Author.Tests.{ne_eqb}
use Rattle.sheets.specs.Bytes.{Bytes, comma, equals, join}
use Rattle.sheets.specs.Text.{hex, write_text}
use Rattle.sheets.specs.Field.{Pair}
use Rattle.sheets.specs.FieldSheet.{write_list, pair_text}
use Rattle.sheets.specs.Metadata.{some_pairs}
use Rattle.buffer.specs.Over.{over_at, PutAt}
use Rattle.buffer.proofs.OverLaws.{Written, none_yet, and_then}
use Rattle.hexadecimal.specs.Hex.{is_hex, bytes_of}
use Rattle.key_order.specs.Entry.{key_at}
use Rattle.field_line.specs.Columns.{pair_piece}
use Rattle.field_line.proofs.ColumnLaws.{pair_hex}
use Rattle.metadata.specs.Entry.{pair_at, pairs_at, value_at, EntryStands}
use Rattle.metadata.specs.Pairs.{pairs_column, value_column, CanPut}
use Rattle.metadata.proofs.EntryLaws.{key_text, each_at}

-- ── a pair

module _ (big : Bool) where
  -- the key of an entry, and its value
  module _ (m : Bytes) (h : is_hex m ≡ true) (e : ℕ) (s : EntryStands big (bytes_of m) e) (key value : Bytes) (k : key ≡ key_at m e) (v : value ≡ hex (pair_at big (bytes_of m) e).1) where
    is_key : key ≡ hex (pair_at big (bytes_of m) e).0
    is_key = k ∙ key_text big m h e s

    pub pair_written : pair_piece key value ≡ pair_text (pair_at big (bytes_of m) e)
    pair_written = ap₂ pair_piece is_key v ∙ pair_hex (pair_at big (bytes_of m) e).0 (pair_at big (bytes_of m) e).1

    pub pair_size : length (pair_text (pair_at big (bytes_of m) e)) ≡ 1 + length key + length value
    pair_size =
        length-append (hex (pair_at big (bytes_of m) e).0) (equals ∷ hex (pair_at big (bytes_of m) e).1)
        ∙ omega (arith, ap length is_key, ap length v)

-- ── what is left of the column

-- a comma before each of the pairs
abbrev pub after_commas : List Pair → Bytes
after_commas [] = []
after_commas (p ∷ ps) = comma ∷ (pair_text p ++ after_commas ps)

pub joined : (p : Pair) (ps : List Pair) → join comma (pair_text p ∷ map pair_text ps) ≡ pair_text p ++ after_commas ps
joined p [] = sym (append-nil (pair_text p))
joined p (q ∷ ps) = ap (λ (t : Bytes). pair_text p ++ (comma ∷ t)) (joined q ps)

-- the entries that are left after i of them
abbrev pub rest_of : Bool → Bytes → List ℕ → ℕ → ℕ → Bytes
rest_of big b es n i = after_commas (map (pair_at big b) (drop i (take n es)))

module _ (big : Bool) where
  module _ (b : Bytes) (es : List ℕ) (n : ℕ) (h : n ≤ length es) where
    next_entry : (i : ℕ) → i < n → drop i (take n es) ≡ get_or es i 0 ∷ drop (suc i) (take n es)
    next_entry i l =
        drop-cons (take n es) i 0 (omega (arith, length-take-le n es h))
        ∙ ap (λ (e : ℕ). e ∷ drop (suc i) (take n es)) (get_or-take n es i 0 l)

    pub rest_next : (i : ℕ) → i < n → rest_of big b es n i ≡ comma ∷ (pair_text (pair_at big b (get_or es i 0)) ++ rest_of big b es n (i + 1))
    rest_next i l = ap (λ (t : List ℕ). after_commas (map (pair_at big b) t)) (next_entry i l) ∙ ap (λ (j : ℕ). comma ∷ (pair_text (pair_at big b (get_or es i 0)) ++ rest_of big b es n j)) (sym (add-one i))

    pub rest_none : (i : ℕ) → n ≤ i → rest_of big b es n i ≡ []
    rest_none i l = ap (λ (t : List ℕ). after_commas (map (pair_at big b) t)) (drop_of_length-le (take n es) {i = i} (omega (arith, length-take-le n es h)))

    pub column_first : 0 < n → pairs_column big b es n ≡ pair_text (pair_at big b (get_or es 0 0)) ++ rest_of big b es n 1
    unfolding pairs_column pairs_at
    column_first l = ap (λ (t : List ℕ). write_list pair_text (some_pairs (map (pair_at big b) t))) (next_entry 0 l) ∙ joined (pair_at big b (get_or es 0 0)) (map (pair_at big b) (drop 1 (take n es)))

  pub column_none : (b : Bytes) (es : List ℕ) (n : ℕ) → n ≡ 0 → 126 ∷ [] ≡ pairs_column big b es n
  unfolding pairs_column pairs_at
  column_none b es n e = ap (λ (i : ℕ). write_list pair_text (some_pairs (map (pair_at big b) (take i es)))) (sym e)

-- ── the writing

-- an entry of those after the first
pub later : (es : List ℕ) (n i : ℕ) → i + 1 < n → get_or (take (n - 1) (drop 1 es)) i 0 ≡ get_or es (i + 1) 0
later es n i h = get_or-take (n - 1) (drop 1 es) i 0 (omega arith) ∙ rw add-one (next es)
  where
    next : (l : List ℕ) → get_or (drop 1 l) i 0 ≡ get_or l (suc i) 0
    next [] = refl
    next (x ∷ l) = refl

-- after i of the entries, of which the first was written before `start`
pub record Putting (big : Bool) (b : Bytes) (es : List ℕ) (n start : ℕ) (old out : Bytes) (end i : ℕ) : Type 0 where
  pub text : Bytes
  pub turns : i ≤ n
  pub written : Written start text old end out
  pub rest : rest_of big b es n 1 ≡ text ++ rest_of big b es n i

module _ (big : Bool) where
  module _ (m : Bytes) (es : List ℕ) (n at : ℕ) (h : CanPut big m es n at) where
    pub entry_at : (i : ℕ) → i < n → EntryStands big (bytes_of m) (get_or es i 0)
    entry_at i l =
        subst (EntryStands big (bytes_of m)) (get_or-take n es i 0 l) (each_at big (bytes_of m) (take n es) i (omega (arith, length-take-le n es h.entries.count)) h.entries.each)

    module _ (l : 0 < n) where
      first_size : length (pairs_column big (bytes_of m) es n) ≡ length (pair_text (pair_at big (bytes_of m) (get_or es 0 0))) + length (rest_of big (bytes_of m) es n 1)
      first_size =
          ap length (column_first big (bytes_of m) es n h.entries.count l)
          ∙ length-append (pair_text (pair_at big (bytes_of m) (get_or es 0 0))) (rest_of big (bytes_of m) es n 1)

      pub first_fits : at + length (pair_text (pair_at big (bytes_of m) (get_or es 0 0))) < 2 ^ 64
      first_fits = omega (arith, h.fits, first_size)

      module _ (start : ℕ) (old first : Bytes)
          (p : PutAt at (pair_text (pair_at big (bytes_of m) (get_or es 0 0))) start old first) where
        pub first_put : Putting big (bytes_of m) es n start first first start 1
        first_put = record { text = []; turns = l; written = none_yet start first; rest = refl }

        module _ (out : Bytes) (end i : ℕ) (w : Putting big (bytes_of m) es n start first out end i) where
          pub put_finished : n ≤ i → PutAt at (pairs_column big (bytes_of m) es n) end old out
          put_finished d =
              let e : w.text ≡ rest_of big (bytes_of m) es n 1 = sym (w.rest ∙ ap (λ (t : Bytes). w.text ++ t) (rest_none big (bytes_of m) es n h.entries.count i d) ∙ append-nil w.text) in
              let all = and_then w.text (and_then (pair_text (pair_at big (bytes_of m) (get_or es 0 0))) (none_yet at old) p) (w.written.place, w.written.holds) in
              let c : pair_text (pair_at big (bytes_of m) (get_or es 0 0)) ++ w.text ≡ pairs_column big (bytes_of m) es n = ap (λ (t : Bytes). pair_text (pair_at big (bytes_of m) (get_or es 0 0)) ++ t) e ∙ sym (column_first big (bytes_of m) es n h.entries.count l) in
              (all.place ∙ ap (λ (t : Bytes). at + length t) c, all.holds ∙ ap (λ (t : Bytes). over_at at t old) c)

          module _ (d : i < n) where
            rest_more : rest_of big (bytes_of m) es n 1 ≡ w.text ++ (comma ∷ (pair_text (pair_at big (bytes_of m) (get_or es i 0)) ++ rest_of big (bytes_of m) es n (i + 1)))
            rest_more = w.rest ∙ ap (λ (t : Bytes). w.text ++ t) (rest_next big (bytes_of m) es n h.entries.count i d)

            pub next_fits : end + 1 + length (pair_text (pair_at big (bytes_of m) (get_or es i 0))) < 2 ^ 64
            next_fits =
                omega (
                  arith,
                  h.fits,
                  first_size,
                  p.0,
                  w.written.place,
                  ap length rest_more,
                  length-append w.text (comma ∷ (pair_text (pair_at big (bytes_of m) (get_or es i 0)) ++ rest_of big (bytes_of m) es n (i + 1))),
                  length-append (pair_text (pair_at big (bytes_of m) (get_or es i 0))) (rest_of big (bytes_of m) es n (i + 1)),
                )

            pub next_put : (sign : ℕ) (out' : Bytes) → PutAt end (comma ∷ []) sign out out' → (end' : ℕ) (out'' : Bytes)
                → PutAt sign (pair_text (pair_at big (bytes_of m) (get_or es i 0))) end' out' out''
                → Putting big (bytes_of m) es n start first out'' end' (i + 1)
            next_put sign out' q end' out'' r =
                record {
                  text = (w.text ++ (comma ∷ [])) ++ pair_text (pair_at big (bytes_of m) (get_or es i 0));
                  turns = omega arith;
                  written = and_then (pair_text (pair_at big (bytes_of m) (get_or es i 0))) (and_then (comma ∷ []) w.written q) r;
                  rest =
                      rest_more
                      ∙ sym (append_assoc w.text (comma ∷ []) (pair_text (pair_at big (bytes_of m) (get_or es i 0)) ++ rest_of big (bytes_of m) es n (i + 1)))
                      ∙ sym (append_assoc (w.text ++ (comma ∷ [])) (pair_text (pair_at big (bytes_of m) (get_or es i 0))) (rest_of big (bytes_of m) es n (i + 1)));
                }

  -- ── a value

  pub value_none : (b : Bytes) (e : ℕ) → e ≡ 0 → 126 ∷ [] ≡ value_column big b e
  unfolding value_column value_at
  value_none b e z = ap (λ (i : ℕ). write_text (value_at big b i)) (sym z)

  module _ (b : Bytes) (e : ℕ) (d : e ≡ 0 → ⊥) where
    is_value : value_column big b e ≡ write_text (Some (pair_at big b e).1)
    unfolding value_column value_at
    is_value = ap (λ (t : Bool). write_text (cond t None (Some (pair_at big b e).1))) (ne_eqb e 0 d)

    -- by the value's text: `-` where that is empty, and else the text itself
    column_of_lem : (v : Bytes) → (length (hex v) ≡ 0 → 45 ∷ [] ≡ write_text (Some v)) × ((length (hex v) ≡ 0 → ⊥) → hex v ≡ write_text (Some v))
    column_of_lem [] = (λ z. refl, λ z. absurd (z refl))
    column_of_lem (x ∷ v) = (λ z. absurd (omega arith), λ z. refl)

    pub value_empty : (t : Bytes) → t ≡ hex (pair_at big b e).1 → length t ≡ 0 → 45 ∷ [] ≡ value_column big b e
    value_empty t f z = (column_of_lem (pair_at big b e).1).0 (sym (ap length f) ∙ z) ∙ sym is_value

    pub value_text : (t : Bytes) → t ≡ hex (pair_at big b e).1 → (length t ≡ 0 → ⊥) → t ≡ value_column big b e
    value_text t f z = f ∙ (column_of_lem (pair_at big b e).1).1 (λ y. z (ap length f ∙ y)) ∙ sym is_value
