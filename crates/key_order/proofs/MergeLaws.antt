-- Merging lists in order. Entries put in one after the other may be put in in another order (`insert_past`), so the order of a list is the order of
-- its first part merged with that of its second (`ordered_append`). Of two lists in order the first entries decide what comes first
-- (`take_left`, `take_both`, `take_right`). Assumes nothing.
use mathlib.Core.Path.{◌≡◌, refl, sym, ap, subst, ◌∙◌}
use mathlib.Core.Bool.{Bool, true, false, cond}
use mathlib.Core.List.{List, [], ◌∷◌, ◌++◌, append_assoc}
use Prim.Native.Nat.{ℕ, zero, suc, ◌+◌, ◌-◌, ◌≤◌, ◌<◌}
use native.Mathlib.Omega.{arith}
use native.Mathlib.Nat.{not-suc-le-zero}
use native.Mathlib.Numerals.{add-one}
use lib.ListN.{length, get_or, set, take, drop, drop_of_length-le, length-drop, length-append}
use lib.Seq.{drop-cons, take_all, take_at, length-take-le, take-suc-set, append_snoc}
use Rattle.sheets.specs.Rule.{is, each, Meets}
use Rattle.sheets.specs.Bytes.{Bytes, same}
use Rattle.sheets.specs.Field.{before}
use Rattle.sheets.proofs.BytesLaws.{same_eq, same_refl}
use Rattle.key_order.specs.Order.{insert_entry, ordered}
use Rattle.key_order.specs.Merge.{all_after, ascends, precedes, merged}
use Rattle.sheets.proofs.OrderLaws.{before_trans, before_self, not_back, not_same, same_back, connected}

module _ (key : ℕ → Bytes) where
  -- ── one entry

  pub insert_nil : (p : ℕ) → insert_entry key p [] ≡ p ∷ []
  unfolding insert_entry
  insert_nil p = refl

  pub insert_first : (p q : ℕ) (l : List ℕ) → before (key p) (key q) ≡ true → insert_entry key p (q ∷ l) ≡ p ∷ q ∷ l
  unfolding insert_entry
  insert_first p q l h = rw h

  pub insert_there : (p q : ℕ) (l : List ℕ) → same (key p) (key q) ≡ true → insert_entry key p (q ∷ l) ≡ q ∷ l
  unfolding insert_entry
  insert_there p q l h = rw (same_eq (key p) (key q) h, before_self (key q), same_refl (key q))

  pub insert_later : (p q : ℕ) (l : List ℕ) → before (key q) (key p) ≡ true → insert_entry key p (q ∷ l) ≡ q ∷ insert_entry key p l
  unfolding insert_entry
  insert_later p q l h = rw (not_back (key q) (key p) h, same_back (key q) (key p) (not_same (key q) (key p) h))

  -- how two keys stand to each other
  data Sides (p q : ℕ) : Type 0 where
    less : before (key p) (key q) ≡ true → Sides p q
    equal : same (key p) (key q) ≡ true → Sides p q
    greater : before (key q) (key p) ≡ true → Sides p q

  sides : (p q : ℕ) → Sides p q
  sides p q = go (before (key p) (key q)) (same (key p) (key q)) refl refl
    where
      go : (t u : Bool) → before (key p) (key q) ≡ t → same (key p) (key q) ≡ u → Sides p q
      go true u e f = less e
      go false true e f = equal f
      go false false e f = greater (connected (key p) (key q) e f)

  -- ── two entries

  -- a key that is there stays as it is
  insert_again : (p q : ℕ) → same (key p) (key q) ≡ true → (l : List ℕ) → insert_entry key p (insert_entry key q l) ≡ insert_entry key q l
  unfolding insert_entry
  insert_again p q h [] = insert_there p q [] h
  insert_again p q h (y ∷ l) = go (sides q y) (insert_again p q h l)
    where
      to : key p ≡ key q
      to = same_eq (key p) (key q) h

      go : Sides q y → insert_entry key p (insert_entry key q l) ≡ insert_entry key q l → insert_entry key p (insert_entry key q (y ∷ l)) ≡ insert_entry key q (y ∷ l)
      go (less e) next = rw (insert_first q y l e) (insert_there p q (y ∷ l) h)
      go (equal e) next = rw (insert_there q y l e) (insert_there p y l (rw to e))
      go (greater e) next = rw (insert_later q y l e) (insert_later p y (insert_entry key q l) (rw to e) ∙ ap (λ (m : List ℕ). y ∷ m) next)

  -- entries whose keys differ may be put in in either order
  insert_past : (p q : ℕ) → before (key q) (key p) ≡ true → (l : List ℕ) → insert_entry key p (insert_entry key q l) ≡ insert_entry key q (insert_entry key p l)
  insert_past p q h [] = rw (insert_nil q, insert_nil p, insert_later p q [] h, insert_first q p [] h, insert_nil p)
  insert_past p q h (y ∷ l) = go (sides q y) (sides p y) (insert_past p q h l)
    where
      go : Sides q y → Sides p y → insert_entry key p (insert_entry key q l) ≡ insert_entry key q (insert_entry key p l)
          → insert_entry key p (insert_entry key q (y ∷ l)) ≡ insert_entry key q (insert_entry key p (y ∷ l))
      go (less e) (less f) next = rw (insert_first q y l e, insert_first p y l f, insert_first q p (y ∷ l) h, insert_later p q (y ∷ l) h, insert_first p y l f)
      go (less e) (equal f) next = rw (insert_first q y l e, insert_there p y l f, insert_first q y l e, insert_later p q (y ∷ l) h, insert_there p y l f)
      go (less e) (greater f) next =
          rw (insert_first q y l e, insert_later p y l f, insert_first q y (insert_entry key p l) e, insert_later p q (y ∷ l) h, insert_later p y l f)
      go (equal e) s next =
          let f : before (key y) (key p) ≡ true = rw (← (same_eq (key q) (key y) e)) h in
          rw (insert_there q y l e, insert_later p y l f, insert_there q y (insert_entry key p l) e)
      go (greater e) s next =
          let f : before (key y) (key p) ≡ true = before_trans (key y) (key q) (key p) e h in
          rw (insert_later q y l e, insert_later p y l f, insert_later q y (insert_entry key p l) e, insert_later p y (insert_entry key q l) f) (ap (λ (m : List ℕ). y ∷ m) next)

  -- ── the order of a list in two parts

  merged_insert : (p : ℕ) (a b : List ℕ) → insert_entry key p (merged key a b) ≡ merged key (insert_entry key p a) b
  unfolding insert_entry merged
  merged_insert p [] b = refl
  merged_insert p (q ∷ a) b = go (sides p q) (merged_insert p a b)
    where
      go : Sides p q → insert_entry key p (merged key a b) ≡ merged key (insert_entry key p a) b → insert_entry key p (merged key (q ∷ a) b) ≡ merged key (insert_entry key p (q ∷ a)) b
      go (less e) next = rw (insert_first p q a e)
      go (equal e) next = rw (insert_there p q a e) (insert_again p q e (merged key a b))
      go (greater e) next = rw (insert_later p q a e) (insert_past p q e (merged key a b) ∙ ap (insert_entry key q) next)

  pub ordered_append : (a b : List ℕ) → ordered key (a ++ b) ≡ merged key (ordered key a) (ordered key b)
  unfolding ordered merged
  ordered_append [] b = refl
  ordered_append (p ∷ a) b = ap (insert_entry key p) (ordered_append a b) ∙ merged_insert p (ordered key a) (ordered key b)

  -- ── the order of a list ascends

  after_before : (p q : ℕ) (l : List ℕ) → before (key p) (key q) ≡ true → Meets (all_after key q l) → Meets (all_after key p l)
  after_before p q [] h k = refl
  after_before p q (x ∷ l) h k = (before_trans (key p) (key q) (key x) h k.0, after_before p q l h k.1)

  after_insert : (x p : ℕ) (l : List ℕ) → before (key x) (key p) ≡ true → Meets (all_after key x l) → Meets (all_after key x (insert_entry key p l))
  unfolding insert_entry
  after_insert x p [] h k = (h, refl)
  after_insert x p (q ∷ l) h k = go (before (key p) (key q)) (same (key p) (key q)) (after_insert x p l h k.1)
    where
      go : (t u : Bool) → Meets (all_after key x (insert_entry key p l)) → Meets (all_after key x (cond t (p ∷ q ∷ l) (cond u (q ∷ l) (q ∷ insert_entry key p l))))
      go true u next = (h, k)
      go false true next = k
      go false false next = (k.0, next)

  ascends_insert : (p : ℕ) (l : List ℕ) → Meets (ascends key l) → Meets (ascends key (insert_entry key p l))
  unfolding insert_entry
  ascends_insert p [] h = (refl, refl)
  ascends_insert p (q ∷ l) h = go (sides p q) (ascends_insert p l h.1)
    where
      go : Sides p q → Meets (ascends key (insert_entry key p l)) → Meets (ascends key (insert_entry key p (q ∷ l)))
      go (less e) next = rw (insert_first p q l e) ((e, after_before p q l e h.0), h)
      go (equal e) next = rw (insert_there p q l e) h
      go (greater e) next = rw (insert_later p q l e) (after_insert q p l e h.0, next)

  pub ascends_ordered : (l : List ℕ) → Meets (ascends key (ordered key l))
  unfolding ordered
  ascends_ordered [] = refl
  ascends_ordered (p ∷ l) = ascends_insert p (ordered key l) (ascends_ordered l)

  pub ascends_drop : (i : ℕ) (l : List ℕ) → Meets (ascends key l) → Meets (ascends key (drop i l))
  ascends_drop zero l h = h
  ascends_drop (suc i) [] h = h
  ascends_drop (suc i) (x ∷ l) h = ascends_drop i l h.1

  -- ── two lists in order

  insert_all : (p : ℕ) (l : List ℕ) → Meets (all_after key p l) → insert_entry key p l ≡ p ∷ l
  unfolding insert_entry
  insert_all p [] h = refl
  insert_all p (q ∷ l) h = insert_first p q l h.0

  after_merged : (x : ℕ) (a b : List ℕ) → Meets (all_after key x a) → Meets (all_after key x b) → Meets (all_after key x (merged key a b))
  unfolding merged
  after_merged x [] b h k = k
  after_merged x (p ∷ a) b h k = after_insert x p (merged key a b) h.0 (after_merged x a b h.1 k)

  -- an entry before all of a comes first
  merged_first : (y : ℕ) (a b : List ℕ) → Meets (all_after key y a) → merged key a (y ∷ b) ≡ y ∷ merged key a b
  unfolding merged
  merged_first y [] b h = refl
  merged_first y (p ∷ a) b h = ap (insert_entry key p) (merged_first y a b h.1) ∙ insert_later p y (merged key a b) h.0

  merged_nil : (a : List ℕ) → Meets (ascends key a) → merged key a [] ≡ a
  unfolding merged
  merged_nil [] h = refl
  merged_nil (p ∷ a) h = ap (insert_entry key p) (merged_nil a h.1) ∙ insert_all p a h.0

  module _ (x : ℕ) (a : List ℕ) (y : ℕ) (b : List ℕ) (h : Meets (ascends key (x ∷ a))) (k : Meets (ascends key (y ∷ b))) where
    take_left : before (key x) (key y) ≡ true → merged key (x ∷ a) (y ∷ b) ≡ x ∷ merged key a (y ∷ b)
    unfolding merged
    take_left e = insert_all x (merged key a (y ∷ b)) (after_merged x a (y ∷ b) h.0 (e, after_before x y b e k.0))

    take_both : same (key x) (key y) ≡ true → merged key (x ∷ a) (y ∷ b) ≡ y ∷ merged key a b
    unfolding merged
    take_both e =
        let z : Meets (all_after key y a) = subst (λ (s : Bytes). Meets (each (λ q. is (before s (key q))) a)) (same_eq (key x) (key y) e) h.0 in
        ap (insert_entry key x) (merged_first y a b z) ∙ insert_there x y (merged key a b) e

    take_right : before (key y) (key x) ≡ true → merged key (x ∷ a) (y ∷ b) ≡ y ∷ merged key (x ∷ a) b
    take_right e = merged_first y (x ∷ a) b (e, after_before y x a e h.0)

  -- ── one list wholly before the other

  pub left_then_right : (a b : List ℕ) → Meets (ascends key a) → Meets (precedes key a b) → merged key a b ≡ a ++ b
  unfolding merged
  left_then_right [] b h k = refl
  left_then_right (p ∷ a) b h k = ap (insert_entry key p) (left_then_right a b h.1 k.1) ∙ insert_all p (a ++ b) (both a h.0)
    where
      both : (l : List ℕ) → Meets (all_after key p l) → Meets (all_after key p (l ++ b))
      both [] m = k.0
      both (x ∷ l) m = (m.0, both l m.1)

  pub right_then_left : (a b : List ℕ) → Meets (ascends key a) → Meets (precedes key b a) → merged key a b ≡ b ++ a
  right_then_left a [] h k = merged_nil a h
  right_then_left a (y ∷ b) h k = merged_first y a b k.0 ∙ ap (λ (m : List ℕ). y ∷ m) (right_then_left a b h k.1)

  -- the last of a before the first of b is enough
  last_first : (a : List ℕ) (q : ℕ) (b : List ℕ) → Meets (ascends key a) → Meets (ascends key (q ∷ b)) → 0 < length a
      → before (key (get_or a (length a - 1) 0)) (key q) ≡ true → Meets (precedes key a (q ∷ b))
  last_first [] q b h k n e = absurd (not-suc-le-zero n)
  last_first (p ∷ []) q b h k n e = ((e, after_before p q b e k.0), refl)
  last_first (p ∷ x ∷ a) q b h k z e =
      let n : suc (suc (length a)) - 1 ≡ suc (suc (length a) - 1) = omega arith in
      let next : Meets (precedes key (x ∷ a) (q ∷ b)) = last_first (x ∷ a) q b h.1 k (omega arith) (rw n at e) in
      ((before_trans (key p) (key x) (key q) h.0.0 next.0.0, after_before p x b h.0.0 next.0.1), next)

  pub apart : (a b : List ℕ) → Meets (ascends key a) → Meets (ascends key b) → 0 < length a → 0 < length b
      → before (key (get_or a (length a - 1) 0)) (key (get_or b 0 0)) ≡ true → Meets (precedes key a b)
  apart a [] h k m n e = absurd (not-suc-le-zero n)
  apart a (q ∷ b) h k m n e = last_first a q b h k m e

  -- ── at places of two lists in order

  module _ (a b : List ℕ) (i j : ℕ) (h : Meets (ascends key a)) (k : Meets (ascends key b)) where
    pub rest_left : length b ≤ j → merged key (drop i a) (drop j b) ≡ drop i a
    rest_left n = rw (drop_of_length-le b n) (merged_nil (drop i a) (ascends_drop i a h))

    module _ (l : i < length a) (m : j < length b) where
      left_part : Meets (ascends key (get_or a i 0 ∷ drop (suc i) a))
      left_part = subst (λ (s : List ℕ). Meets (ascends key s)) (drop-cons a i 0 l) (ascends_drop i a h)

      right_part : Meets (ascends key (get_or b j 0 ∷ drop (suc j) b))
      right_part = subst (λ (s : List ℕ). Meets (ascends key s)) (drop-cons b j 0 m) (ascends_drop j b k)

      pub step_less : before (key (get_or a i 0)) (key (get_or b j 0)) ≡ true → merged key (drop i a) (drop j b) ≡ get_or a i 0 ∷ merged key (drop (i + 1) a) (drop j b)
      step_less e = rw (add-one, drop-cons a i 0 l, drop-cons b j 0 m) (take_left (get_or a i 0) (drop (suc i) a) (get_or b j 0) (drop (suc j) b) left_part right_part e)

      pub step_equal : same (key (get_or a i 0)) (key (get_or b j 0)) ≡ true → merged key (drop i a) (drop j b) ≡ get_or b j 0 ∷ merged key (drop (i + 1) a) (drop (j + 1) b)
      step_equal e = rw (add-one, add-one, drop-cons a i 0 l, drop-cons b j 0 m) (take_both (get_or a i 0) (drop (suc i) a) (get_or b j 0) (drop (suc j) b) left_part right_part e)

      pub step_greater : before (key (get_or b j 0)) (key (get_or a i 0)) ≡ true → merged key (drop i a) (drop j b) ≡ get_or b j 0 ∷ merged key (drop i a) (drop (j + 1) b)
      step_greater e = rw (add-one, drop-cons a i 0 l, drop-cons b j 0 m) (take_right (get_or a i 0) (drop (suc i) a) (get_or b j 0) (drop (suc j) b) left_part right_part e)

  pub rest_right : (a b : List ℕ) (i j : ℕ) → length a ≤ i → merged key (drop i a) (drop j b) ≡ drop j b
  unfolding merged
  rest_right a b i j n = rw (drop_of_length-le a n)

-- s is written at a place
pub placed : (m s : List ℕ) (at : ℕ) (rest : List ℕ) → at ≤ length m → take (at + length s) (take at m ++ (s ++ rest)) ≡ take at m ++ s
placed m s at rest h = rw (← append_assoc (take at m) s rest) (take_at (take at m ++ s) rest (at + length s) (rw (length-append, length-take-le at m h)))

-- one more entry is written
pub wrote : (all out rest next : List ℕ) (k v : ℕ) → k < length out → all ≡ take k out ++ rest → rest ≡ v ∷ next → all ≡ take (k + 1) (set out k v) ++ next
wrote all out rest next k v h e f = e ∙ rw (f, add-one, take-suc-set out k v h) (sym (append_snoc (take k out) v next))

-- the rest of s is written
pub finished : (all out out' s : List ℕ) (k i r : ℕ) → all ≡ take k out ++ drop i s → take r out' ≡ take k out ++ take (length s - i) (drop i s) → take r out' ≡ all
finished all out out' s k i r e f = f ∙ ap (λ (l : List ℕ). take k out ++ l) (take_all (length s - i) (drop i s) (simp length-drop (omega arith))) ∙ sym e

-- how long the rest of s is
pub rest_length : (s : List ℕ) (i : ℕ) → length (take (length s - i) (drop i s)) ≡ length s - i
rest_length s i = rw (take_all (length s - i) (drop i s) (simp length-drop (omega arith))) (length-drop i s)
