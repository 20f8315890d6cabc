-- Pairs kept one by one, in the block's order: what is kept of pairs with one more at the end, and of entries with one more. Then what is kept means
-- what the pairs mean. Assumes nothing.
use mathlib.Core.Path.{◌≡◌, refl, sym, ap, ap₂, subst, ◌∙◌}
use mathlib.Core.Bool.{Bool, true, false, ◌||◌, not, cond, true≢false}
use mathlib.Core.List.{List, [], ◌∷◌, ◌++◌, map, map-append, append-nil}
use Rattle.std.specs.Prelude.{Option, None, Some}
use Prim.Native.Nat.{ℕ, ◌+◌, ◌*◌, ◌<◌}
use native.Mathlib.Numerals.{add-one}
use native.Mathlib.Omega.{arith}
use lib.ListN.{length, take, set, length-set}
use lib.Seq.{take-suc-set}
use Rattle.sheets.specs.Rule.{Meets}
use Rattle.sheets.specs.Bytes.{Bytes, same}
use Rattle.sheets.specs.Field.{Pair}
use Rattle.sheets.specs.Strict.{no_reserved}
use Rattle.sheets.specs.Metadata.{name_key, metadata_key, reserved, insert_new, ordinary, or_else, value_of, extension_of, some_pairs, meaning}
use Rattle.sheets.proofs.BytesLaws.{same_eq}
use Rattle.sheets.proofs.SameLaws.{lengths_differ}
use Rattle.hexadecimal.specs.Hex.{is_hex, bytes_of}
use Rattle.hexadecimal.proofs.HexLaws.{twice_length}
use Rattle.key_order.specs.Entry.{Each}
use Rattle.metadata.specs.declared.Metadata.{Metadata}
use Rattle.metadata.specs.Entry.{pair_at, pairs_at, value_at, EntryStands}
use Rattle.metadata.specs.Reading.{Kept, unreserved, kept_of, kept_at, meaning_of, EntriesStand, Adds}
use Rattle.metadata.proofs.EntryLaws.{not_none, each_more}

-- ── one more pair at the end

unreserved_append : (ps qs : List Pair) → unreserved (ps ++ qs) ≡ unreserved ps ++ unreserved qs
unreserved_append [] qs = refl
unreserved_append (p ∷ ps) qs = pick (reserved p.0) (unreserved_append ps qs)
  where
    pick : (t : Bool) → unreserved (ps ++ qs) ≡ unreserved ps ++ unreserved qs → cond t (unreserved (ps ++ qs)) (p ∷ unreserved (ps ++ qs)) ≡ cond t (unreserved ps) (p ∷ unreserved ps) ++ unreserved qs
    pick true e = e
    pick false e = ap (λ (l : List Pair). p ∷ l) e

or_assoc : (x y z : Option Bytes) → or_else (or_else x y) z ≡ or_else x (or_else y z)
or_assoc None y z = refl
or_assoc (Some x) y z = refl

or_none_lem : (x : Option Bytes) → or_else x None ≡ x
or_none_lem None = refl
or_none_lem (Some x) = refl

value_append : (k : Bytes) (ps : List Pair) (q : Pair) → value_of k (ps ++ (q ∷ [])) ≡ or_else (cond (same q.0 k) (Some q.1) None) (value_of k ps)
value_append k [] q = sym (or_none_lem (cond (same q.0 k) (Some q.1) None))
value_append k (p ∷ ps) q =
    ap (λ (x : Option Bytes). or_else x (cond (same p.0 k) (Some p.1) None)) (value_append k ps q)
    ∙ or_assoc (cond (same q.0 k) (Some q.1) None) (value_of k ps) (cond (same p.0 k) (Some p.1) None)

module _ (k : Bytes) (ps : List Pair) (q : Pair) where
  value_new : same q.0 k ≡ true → value_of k (ps ++ (q ∷ [])) ≡ Some q.1
  value_new e = value_append k ps q ∙ ap (λ (t : Bool). or_else (cond t (Some q.1) None) (value_of k ps)) e

  value_old : same q.0 k ≡ false → value_of k (ps ++ (q ∷ [])) ≡ value_of k ps
  value_old e = value_append k ps q ∙ ap (λ (t : Bool). or_else (cond t (Some q.1) None) (value_of k ps)) e

module _ (ps : List Pair) (q : Pair) where
  unreserved_old : reserved q.0 ≡ true → unreserved (ps ++ (q ∷ [])) ≡ unreserved ps
  unreserved_old e = unreserved_append ps (q ∷ []) ∙ ap (λ (t : Bool). unreserved ps ++ cond t [] (q ∷ [])) e ∙ append-nil (unreserved ps)

  unreserved_new : reserved q.0 ≡ false → unreserved (ps ++ (q ∷ [])) ≡ unreserved ps ++ (q ∷ [])
  unreserved_new e = unreserved_append ps (q ∷ []) ∙ ap (λ (t : Bool). unreserved ps ++ cond t [] (q ∷ [])) e

-- ── keys in hexadecimal

-- text of another length says another key
pub other_key : (text key : Bytes) → is_hex text ≡ true → (length text ≡ 2 * length key → ⊥) → same (bytes_of text) key ≡ false
other_key text key h d = lengths_differ (bytes_of text) key (λ e. d (omega (arith, twice_length text h, e)))

-- ── entries

module _ (big : Bool) where
  value_at_lem : (b : Bytes) (e : ℕ) → EntryStands big b e → value_at big b e ≡ Some (pair_at big b e).1
  unfolding value_at
  value_at_lem b e s = ap (λ (t : Bool). cond t None (Some (pair_at big b e).1)) (not_none big b e s)

-- no entries
abbrev pub nothing : Metadata
nothing = record { count = 0; name = 0; more = 0 }

module _ (big : Bool) where
  pub kept_none : (b : Bytes) (es : List ℕ) → kept_at big b es nothing ≡ kept_of []
  unfolding pairs_at value_at
  kept_none b es = refl

  pub none_stand : (b : Bytes) (es : List ℕ) → EntriesStand big b es nothing
  none_stand b es =
      record {
        entries = record { count = omega arith; each = tt };
        has_name = λ z. absurd (true≢false z);
        has_more = λ z. absurd (true≢false z);
      }

  module _ (b : Bytes) (es : List ℕ) (f : Metadata) (e : ℕ) (s : EntryStands big b e) (w : EntriesStand big b es f) where
    -- which of the reserved keys it is, decides what the key is
    is_reserved_lem : (t u : Bool) → same (pair_at big b e).0 name_key ≡ t → same (pair_at big b e).0 metadata_key ≡ u → reserved (pair_at big b e).0 ≡ (t || u)
    is_reserved_lem t u p q = ap₂ (λ (x y : Bool). x || y) p q

    pub adds_name : same (pair_at big b e).0 name_key ≡ true → Adds big b es f e es (record { count = f.count; name = e; more = f.more })
    adds_name n = (record { entries = w.entries; has_name = λ z. s; has_more = w.has_more }, kept)
      where
        other : same (pair_at big b e).0 metadata_key ≡ false
        other = ap (λ (k : Bytes). same k metadata_key) (same_eq (pair_at big b e).0 name_key n)

        kept : (ps : List Pair) → kept_at big b es f ≡ kept_of ps → kept_at big b es (record { count = f.count; name = e; more = f.more }) ≡ kept_of (ps ++ (pair_at big b e ∷ []))
        kept ps h =
            let x = ap (λ (k : Kept). k.pairs) h ∙ sym (unreserved_old ps (pair_at big b e) (is_reserved_lem true false n other)) in
            let y = value_at_lem big b e s ∙ sym (value_new name_key ps (pair_at big b e) n) in
            let z = ap (λ (k : Kept). k.more) h ∙ sym (value_old metadata_key ps (pair_at big b e) other) in
            λ i. record { pairs = x i; name = y i; more = z i }

    module _ (n : same (pair_at big b e).0 name_key ≡ false) where
      pub adds_more : same (pair_at big b e).0 metadata_key ≡ true → Adds big b es f e es (record { count = f.count; name = f.name; more = e })
      adds_more m = (record { entries = w.entries; has_name = w.has_name; has_more = λ z. s }, kept)
        where
          kept : (ps : List Pair) → kept_at big b es f ≡ kept_of ps → kept_at big b es (record { count = f.count; name = f.name; more = e }) ≡ kept_of (ps ++ (pair_at big b e ∷ []))
          kept ps h =
              let x = ap (λ (k : Kept). k.pairs) h ∙ sym (unreserved_old ps (pair_at big b e) (is_reserved_lem false true n m)) in
              let y = ap (λ (k : Kept). k.name) h ∙ sym (value_old name_key ps (pair_at big b e) n) in
              let z = value_at_lem big b e s ∙ sym (value_new metadata_key ps (pair_at big b e) m) in
              λ i. record { pairs = x i; name = y i; more = z i }

      module _ (m : same (pair_at big b e).0 metadata_key ≡ false) (room : f.count < length es) where
        one_more : take (f.count + 1) (set es f.count e) ≡ take f.count es ++ (e ∷ [])
        one_more = ap (λ (n : ℕ). take n (set es f.count e)) (add-one f.count) ∙ take-suc-set es f.count e room

        pairs_more : pairs_at big b (set es f.count e) (f.count + 1) ≡ pairs_at big b es f.count ++ (pair_at big b e ∷ [])
        unfolding pairs_at
        pairs_more = ap (map (pair_at big b)) one_more ∙ map-append (pair_at big b) (take f.count es) (e ∷ [])

        pub adds_pair : Adds big b es f e (set es f.count e) (record { count = f.count + 1; name = f.name; more = f.more })
        adds_pair = (
          record {
            entries =
                record {
                  count = omega (arith, length-set es f.count e);
                  each = subst (Each (EntryStands big b)) (sym one_more) (each_more big b (take f.count es) e w.entries.each s);
                };
            has_name = w.has_name;
            has_more = w.has_more;
          },
          kept,
        )
          where
            kept : (ps : List Pair) → kept_at big b es f ≡ kept_of ps
                → kept_at big b (set es f.count e) (record { count = f.count + 1; name = f.name; more = f.more }) ≡ kept_of (ps ++ (pair_at big b e ∷ []))
            kept ps h =
                let x =
                pairs_more
                ∙ ap (λ (k : Kept). k.pairs ++ (pair_at big b e ∷ [])) h
                ∙ sym (unreserved_new ps (pair_at big b e) (is_reserved_lem false false n m)) in
                let y = ap (λ (k : Kept). k.name) h ∙ sym (value_old name_key ps (pair_at big b e) n) in
                let z = ap (λ (k : Kept). k.more) h ∙ sym (value_old metadata_key ps (pair_at big b e) m) in
                λ i. record { pairs = x i; name = y i; more = z i }

-- ── what is kept means what the pairs mean

ordinary_unreserved : (ps : List Pair) → ordinary (unreserved ps) ≡ ordinary ps
ordinary_unreserved [] = refl
ordinary_unreserved (p ∷ ps) = pick (reserved p.0) refl (ordinary_unreserved ps)
  where
    pick : (t : Bool) → reserved p.0 ≡ t → ordinary (unreserved ps) ≡ ordinary ps
        → ordinary (cond t (unreserved ps) (p ∷ unreserved ps)) ≡ cond t (ordinary ps) (insert_new p (ordinary ps))
    pick true e next = next
    pick false e next = ap (λ (u : Bool). cond u (ordinary (unreserved ps)) (insert_new p (ordinary (unreserved ps)))) e ∙ ap (insert_new p) next

pub kept_means : (ps : List Pair) → meaning_of (kept_of ps) ≡ meaning ps
kept_means ps = ap (λ (l : List Pair). (some_pairs l, extension_of (value_of name_key ps) (value_of metadata_key ps))) (ordinary_unreserved ps)

pub kept_free : (ps : List Pair) → Meets (no_reserved (unreserved ps))
kept_free [] = refl
kept_free (p ∷ ps) = pick (reserved p.0) refl (kept_free ps)
  where
    pick : (t : Bool) → reserved p.0 ≡ t → Meets (no_reserved (unreserved ps)) → Meets (no_reserved (cond t (unreserved ps) (p ∷ unreserved ps)))
    pick true e next = next
    pick false e next = (ap not e, next)
