-- What all keys share: bytes that are the same four by four, entries whose keys begin alike taken one more, and that keys which begin alike stand in the
-- order of what follows. Assumes nothing.
use mathlib.Core.Path.{◌≡◌, refl, sym, ap, ap₂, ◌∙◌}
use mathlib.Core.Bool.{Bool, cond}
use mathlib.Core.List.{List, [], ◌∷◌, ◌++◌}
use Prim.Native.Nat.{ℕ, zero, suc, ◌+◌, ◌-◌, ◌≤◌, ◌<◌}
use native.Mathlib.Nat.{not-suc-le-zero, le_of_suc-le-suc}
use native.Mathlib.Numerals.{add-one}
use lib.ListN.{length, get_or, take, drop}
use native.Mathlib.Omega.{arith}
use lib.Seq.{take-add, take-take, take_all}
use Rattle.sheets.specs.Bytes.{Bytes}
use Rattle.words.specs.Words.{WordAt}
use Rattle.words.proofs.WordLaws.{length_here, word_is}
use Rattle.byte_order.specs.Compare.{ordering}
use Rattle.byte_order.proofs.CompareLaws.{after_same}
use Rattle.key_order.specs.Entry.{key_at, rest_at, Each, Begins, Shares}
use Rattle.key_order.specs.Order.{insert_entry, ordered}
use Rattle.key_order.proofs.PairLaws.{each_ordered}

-- ── four bytes more

pub four_more : (a b : Bytes) (i x y : ℕ) → i + 4 ≤ length a → i + 4 ≤ length b → WordAt 4 a i x → WordAt 4 b i y → x ≡ y → take i a ≡ take i b → take (i + 4) a ≡ take (i + 4) b
four_more a b i x y h k p q e f =
    take-add i 4 a ∙ ap₂ ◌++◌ f (word_is p h (take 4 (drop i b)) (length_here 4 b i k) q.small (sym q.is ∙ sym e)) ∙ sym (take-add i 4 b)

-- ── one entry more

-- an entry of all but the first
pub later : (l : List ℕ) (k : ℕ) → k + 1 < length l → get_or (take (length l - 1) (drop 1 l)) k 0 ≡ get_or l (k + 1) 0
later [] k h = absurd (not-suc-le-zero h)
later (x ∷ l) k h = rw (add-one, take_all (suc (length l) - 1) l (omega arith))

module _ (text s : Bytes) where
  fewer : (m n e : ℕ) → m ≤ n → Begins text s n e → Begins text s m e
  fewer m n e h b = sym (take-take m n s h) ∙ ap (take m) b ∙ take-take m n (key_at text e) h

  pub nothing : (l : List ℕ) → Each (Begins text s 0) l
  nothing [] = _
  nothing (e ∷ l) = (refl, nothing l)

  pub one_more : (m n k : ℕ) (l : List ℕ) → m ≤ n → k < length l → Each (Begins text s n) (take k l) → Begins text s m (get_or l k 0) → Each (Begins text s m) (take (k + 1) l)
  one_more m n k l h i b next = rw add-one (go k l i b next)
    where
      go : (k : ℕ) (l : List ℕ) → k < length l → Each (Begins text s n) (take k l) → Begins text s m (get_or l k 0) → Each (Begins text s m) (take (suc k) l)
      go k [] i b next = absurd (not-suc-le-zero i)
      go zero (e ∷ l) i b next = (next, _)
      go (suc k) (e ∷ l) i b next = (fewer m n e h b.0, go k l (le_of_suc-le-suc i) b.1 next)

-- ── the order of what follows

module _ (key key' : ℕ → Bytes) (P : ℕ → Type 0) (alike : (p q : ℕ) → P p → P q → ordering (key p) (key q) ≡ ordering (key' p) (key' q)) where
  insert_alike : (p : ℕ) (l : List ℕ) → P p → Each P l → insert_entry key p l ≡ insert_entry key' p l
  unfolding insert_entry ordering
  insert_alike p [] h k = refl
  insert_alike p (q ∷ l) h k =
      ap₂ (λ (o : Bool × Bool) (m : List ℕ). cond o.0 (p ∷ q ∷ l) (cond o.1 (q ∷ l) (q ∷ m))) (alike p q h k.0) (insert_alike p l h k.1)

  ordered_alike : (l : List ℕ) → Each P l → ordered key l ≡ ordered key' l
  unfolding ordered
  ordered_alike [] h = refl
  ordered_alike (p ∷ l) h = insert_alike p (ordered key l) h.0 (each_ordered P key l h.1) ∙ ap (insert_entry key' p) (ordered_alike l h.1)

pub ordered_rests : (text : Bytes) (l : List ℕ) (n : ℕ) → Shares text l n → ordered (rest_at text n) l ≡ ordered (key_at text) l
unfolding rest_at
ordered_rests text l n h =
    ordered_alike (rest_at text n) (key_at text) (Begins text (key_at text (get_or l 0 0)) n) (λ p q a b. sym (after_same n (key_at text p) (key_at text q) (sym a ∙ b))) l h
