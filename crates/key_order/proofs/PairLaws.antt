-- The entries in order of keys are the pairs in order of keys, where entries' keys stand to each other as the pairs' keys do: so they do where an
-- entry's key is its pair's in hexadecimal. By induction on the entries; putting an entry in keeps what holds of each. Assumes nothing.
use mathlib.Core.Path.{◌≡◌, refl, ap, ◌∙◌}
use mathlib.Core.Bool.{Bool, true, false, cond}
use mathlib.Core.List.{List, [], ◌∷◌, map}
use Prim.Native.Nat.{ℕ}
use borrow.Author.Tests.{not-true}
use Rattle.sheets.specs.Rule.{Meets}
use Rattle.sheets.specs.Bytes.{Bytes, all, same, is_byte}
use Rattle.sheets.specs.Text.{hex}
use Rattle.sheets.specs.Field.{Pair, before}
use Rattle.sheets.specs.Metadata.{reserved, insert_new, ordinary}
use Rattle.sheets.specs.Strict.{no_reserved}
use Rattle.key_order.specs.Entry.{Each}
use Rattle.key_order.specs.Order.{insert_entry, ordered}
use Rattle.byte_order.proofs.HexOrderLaws.{before_hex, same_hex}

each_insert : (P : ℕ → Type 0) (key : ℕ → Bytes) (p : ℕ) (l : List ℕ) → P p → Each P l → Each P (insert_entry key p l)
unfolding insert_entry
each_insert P key p [] h k = (h, k)
each_insert P key p (q ∷ l) h k = go (before (key p) (key q)) (same (key p) (key q)) (each_insert P key p l h k.1)
  where
    go : (t u : Bool) → Each P (insert_entry key p l) → Each P (cond t (p ∷ q ∷ l) (cond u (q ∷ l) (q ∷ insert_entry key p l)))
    go true u next = (h, k)
    go false true next = k
    go false false next = (k.0, next)

pub each_ordered : (P : ℕ → Type 0) (key : ℕ → Bytes) (l : List ℕ) → Each P l → Each P (ordered key l)
unfolding ordered
each_ordered P key [] h = h
each_ordered P key (p ∷ l) h = each_insert P key p (ordered key l) h.0 (each_ordered P key l h.1)

module _ (key : ℕ → Bytes) (pair_of : ℕ → Pair) (P : ℕ → Type 0)
    (alike : (p q : ℕ) → P p → P q → (before (key p) (key q) ≡ before (pair_of p).0 (pair_of q).0) × (same (key p) (key q) ≡ same (pair_of p).0 (pair_of q).0)) where
  insert_pair : (p : ℕ) (l : List ℕ) → P p → Each P l → map pair_of (insert_entry key p l) ≡ insert_new (pair_of p) (map pair_of l)
  unfolding insert_entry
  insert_pair p [] h k = refl
  insert_pair p (q ∷ l) h k =
      let e = alike p q h k.0 in
      rw (← e.0, ← e.1) (go (before (key p) (key q)) (same (key p) (key q)) (insert_pair p l h k.1))
    where
      go : (t u : Bool) → map pair_of (insert_entry key p l) ≡ insert_new (pair_of p) (map pair_of l)
          → map pair_of (cond t (p ∷ q ∷ l) (cond u (q ∷ l) (q ∷ insert_entry key p l)))
          ≡ cond t (pair_of p ∷ pair_of q ∷ map pair_of l) (cond u (pair_of q ∷ map pair_of l) (pair_of q ∷ insert_new (pair_of p) (map pair_of l)))
      go true u next = refl
      go false true next = refl
      go false false next = ap (λ (m : List Pair). pair_of q ∷ m) next

  ordered_alike : (es : List ℕ) → Each P es → Meets (no_reserved (map pair_of es)) → map pair_of (ordered key es) ≡ ordinary (map pair_of es)
  unfolding ordered
  ordered_alike [] h k = refl
  ordered_alike (p ∷ es) h k =
      rw (not-true (reserved (pair_of p).0) k.0) (insert_pair p (ordered key es) h.0 (each_ordered P key es h.1) ∙ ap (insert_new (pair_of p)) (ordered_alike es h.1 k.1))

-- an entry's key is its pair's, in hexadecimal
abbrev pub HexKey : (ℕ → Bytes) → (ℕ → Pair) → ℕ → Type 0
HexKey key pair_of e = (key e ≡ hex (pair_of e).0) × Meets (all is_byte (pair_of e).0)

-- entries whose keys are their pairs' in hexadecimal
pub ordered_hex_pairs : (key : ℕ → Bytes) (pair_of : ℕ → Pair) (es : List ℕ) → Each (HexKey key pair_of) es → Meets (no_reserved (map pair_of es))
    → map pair_of (ordered key es) ≡ ordinary (map pair_of es)
ordered_hex_pairs key pair_of es h k =
    ordered_alike key pair_of (HexKey key pair_of)
    (λ p q a b. (rw (a.0, b.0) (before_hex (pair_of p).0 (pair_of q).0 a.1 b.1), rw (a.0, b.0) (same_hex (pair_of p).0 (pair_of q).0 a.1 b.1)))
    es h k
