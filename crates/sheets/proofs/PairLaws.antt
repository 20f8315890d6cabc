-- The pairs that import makes of a metadata block's pairs: THE list with strictly ascending keys in which each key that is not reserved has the value
-- that its last pair gives it, and no other list has that. By induction on the pairs, with the order of byte strings. Assumes nothing.
use mathlib.Core.Path.{◌≡◌, refl, sym, ◌∙◌, ap, subst}
use mathlib.Core.Bool.{Bool, true, false, cond}
use mathlib.Core.List.{List, [], ◌∷◌}
use Rattle.std.specs.Prelude.{Option, None, Some}
use Rattle.sheets.specs.Rule.{Rule, is, ◌and◌, Meets}
use Rattle.sheets.specs.Bytes.{Bytes, same}
use Rattle.sheets.specs.Field.{Pair, before, first_after}
use Rattle.sheets.specs.Metadata.{reserved, insert_new, ordinary, or_else, value_of}
use Rattle.sheets.proofs.Tests.{never, not_some}
use Rattle.sheets.proofs.BytesLaws.{same_eq, same_refl}
use Rattle.sheets.proofs.OrderLaws.{before_trans, not_same, same_back, connected}
use Rattle.sheets.proofs.MetadataLaws.{or_none_lem}

-- ── keys ascend

abbrev pub ascending : List Pair → Rule
ascending [] = is true
ascending (p ∷ ps) = is (first_after p.0 ps) and ascending ps

-- what follows the first key of pairs that one was put into
first_insert : (k : Bytes) (p : Pair) (qs : List Pair) → before k p.0 ≡ true → first_after k qs ≡ true → first_after k (insert_new p qs) ≡ true
first_insert k p [] h l = h
first_insert k p (q ∷ qs) h l = pick (before p.0 q.0) (same p.0 q.0)
  where
    pick : (b s : Bool) → first_after k (cond b (p ∷ q ∷ qs) (cond s (q ∷ qs) (q ∷ insert_new p qs))) ≡ true
    pick true s = h
    pick false true = l
    pick false false = l

insert_ascending : (p : Pair) (qs : List Pair) → Meets (ascending qs) → Meets (ascending (insert_new p qs))
insert_ascending p [] h = (refl, refl)
insert_ascending p (q ∷ qs) h = pick (before p.0 q.0) (same p.0 q.0) refl refl (insert_ascending p qs h.1)
  where
    pick : (b s : Bool) → before p.0 q.0 ≡ b → same p.0 q.0 ≡ s → Meets (ascending (insert_new p qs)) → Meets (ascending (cond b (p ∷ q ∷ qs) (cond s (q ∷ qs) (q ∷ insert_new p qs))))
    pick true s e f next = (e, h)
    pick false true e f next = h
    pick false false e f next = (first_insert q.0 p qs (connected p.0 q.0 e f) h.0, next)

-- the keys are strictly ascending
pub ordinary_ascending : (ps : List Pair) → Meets (ascending (ordinary ps))
ordinary_ascending [] = refl
ordinary_ascending (p ∷ ps) = pick (reserved p.0) (ordinary_ascending ps)
  where
    pick : (t : Bool) → Meets (ascending (ordinary ps)) → Meets (ascending (cond t (ordinary ps) (insert_new p (ordinary ps))))
    pick true h = h
    pick false h = insert_ascending p (ordinary ps) h

-- a pair's own word on a key
abbrev word : Pair → Bytes → Option Bytes
word p k = cond (same p.0 k) (Some p.1) None

-- a word that is kept is kept past another
or_some : (x : Option Bytes) (v : Bytes) (y : Option Bytes) → or_else (or_else x (Some v)) y ≡ or_else x (Some v)
or_some None v y = refl
or_some (Some x) v y = refl

-- a pair that is put in counts as one that stands first: it is heard where no later one has its key
insert_value : (k : Bytes) (p : Pair) (qs : List Pair) → value_of k (insert_new p qs) ≡ value_of k (p ∷ qs)
insert_value k p [] = refl
insert_value k p (q ∷ qs) = pick (before p.0 q.0) (same p.0 q.0) refl (insert_value k p qs)
  where
    equal : same p.0 q.0 ≡ true → (t : Bool) → same p.0 k ≡ t → value_of k (q ∷ qs) ≡ or_else (value_of k (q ∷ qs)) (cond t (Some p.1) None)
    equal e true f =
        let here : same q.0 k ≡ true = ap (λ (b : Bytes). same b k) (sym (same_eq p.0 q.0 e)) ∙ f in
        rw here (sym (or_some (value_of k qs) q.1 (Some p.1)))
    equal e false f = sym (or_none_lem (value_of k (q ∷ qs)))

    apart : same p.0 q.0 ≡ false → (t u : Bool) → same p.0 k ≡ t → same q.0 k ≡ u
        → or_else (or_else (value_of k qs) (cond t (Some p.1) None)) (cond u (Some q.1) None) ≡ or_else (or_else (value_of k qs) (cond u (Some q.1) None)) (cond t (Some p.1) None)
    apart e true true f g =
        let b : p.0 ≡ q.0 = same_eq p.0 k f ∙ sym (same_eq q.0 k g) in
        never (sym e ∙ ap (same p.0) (sym b) ∙ same_refl p.0)
    apart e true false f g = rw (or_none_lem (value_of k qs)) (or_none_lem (or_else (value_of k qs) (Some p.1)))
    apart e false true f g = rw (or_none_lem (value_of k qs)) (sym (or_none_lem (or_else (value_of k qs) (Some q.1))))
    apart e false false f g = refl

    pick : (b s : Bool) → same p.0 q.0 ≡ s → value_of k (insert_new p qs) ≡ value_of k (p ∷ qs) → value_of k (cond b (p ∷ q ∷ qs) (cond s (q ∷ qs) (q ∷ insert_new p qs))) ≡ value_of k (p ∷ q ∷ qs)
    pick true s e next = refl
    pick false true e next = equal e (same p.0 k) refl
    pick false false e next = rw next (apart e (same p.0 k) (same q.0 k) refl refl)

-- "The last of equal keys wins": each key that is not reserved has the value that its last pair gives it, and no other key stands there
pub ordinary_last : (k : Bytes) → reserved k ≡ false → (ps : List Pair) → value_of k (ordinary ps) ≡ value_of k ps
ordinary_last k h [] = refl
ordinary_last k h (p ∷ ps) = pick (reserved p.0) refl (ordinary_last k h ps)
  where
    other : reserved p.0 ≡ true → (t : Bool) → same p.0 k ≡ t → t ≡ false
    other e true f = sym e ∙ ap reserved (same_eq p.0 k f) ∙ h
    other e false f = refl

    pick : (t : Bool) → reserved p.0 ≡ t → value_of k (ordinary ps) ≡ value_of k ps → value_of k (cond t (ordinary ps) (insert_new p (ordinary ps))) ≡ value_of k (p ∷ ps)
    pick true e next = rw (other e (same p.0 k) refl) (next ∙ sym (or_none_lem (value_of k ps)))
    pick false e next = insert_value k p (ordinary ps) ∙ ap (λ (v : Option Bytes). or_else v (word p k)) next

-- "`ARROW:extension:name` and `ARROW:extension:metadata` are reserved": they are no pairs
pub ordinary_reserved : (k : Bytes) → reserved k ≡ true → (ps : List Pair) → value_of k (ordinary ps) ≡ None
ordinary_reserved k h [] = refl
ordinary_reserved k h (p ∷ ps) = pick (reserved p.0) refl (ordinary_reserved k h ps)
  where
    other : reserved p.0 ≡ false → (t : Bool) → same p.0 k ≡ t → t ≡ false
    other e true f = sym h ∙ ap reserved (sym (same_eq p.0 k f)) ∙ e
    other e false f = refl

    pick : (t : Bool) → reserved p.0 ≡ t → value_of k (ordinary ps) ≡ None → value_of k (cond t (ordinary ps) (insert_new p (ordinary ps))) ≡ None
    pick true e next = next
    pick false e next = insert_value k p (ordinary ps) ∙ ap (λ (v : Option Bytes). or_else v (word p k)) next ∙ ap (λ (t : Bool). cond t (Some p.1) None) (other e (same p.0 k) refl)

-- No other list has that: keys that ascend, and the values, tell the pairs.

after_next : (k : Bytes) (q : Pair) (qs : List Pair) → before k q.0 ≡ true → first_after q.0 qs ≡ true → first_after k qs ≡ true
after_next k q [] h l = refl
after_next k q (r ∷ qs) h l = before_trans k q.0 r.0 h l

-- a key before the first has no value
none_before : (k : Bytes) (qs : List Pair) → first_after k qs ≡ true → Meets (ascending qs) → value_of k qs ≡ None
none_before k [] l h = refl
none_before k (q ∷ qs) l h = rw (none_before k qs (after_next k q qs l h.0) h.1, same_back k q.0 (not_same k q.0 l))

-- the first key has its own
first_value : (q : Pair) (qs : List Pair) → Meets (ascending (q ∷ qs)) → value_of q.0 (q ∷ qs) ≡ Some q.1
first_value q qs h = rw (none_before q.0 qs h.0 h.1, same_refl q.0)

-- what is left of a key's values where the first is not its own
rest_value : (k : Bytes) (q : Pair) (qs : List Pair) → same q.0 k ≡ false → value_of k (q ∷ qs) ≡ value_of k qs
rest_value k q qs d = rw d (or_none_lem (value_of k qs))

pub ascending_unique : (qs rs : List Pair) → Meets (ascending qs) → Meets (ascending rs) → ((k : Bytes) → value_of k qs ≡ value_of k rs) → qs ≡ rs
ascending_unique [] [] a b h = refl
ascending_unique [] (r ∷ rs) a b h = not_some (h r.0 ∙ first_value r rs b)
ascending_unique (q ∷ qs) [] a b h = not_some (sym (h q.0) ∙ first_value q qs a)
ascending_unique (q ∷ qs) (r ∷ rs) a b h = pick (before q.0 r.0) (same q.0 r.0) refl refl (ascending_unique qs rs a.1 b.1)
  where
    tails : q.0 ≡ r.0 → (k : Bytes) (t : Bool) → same q.0 k ≡ t → value_of k qs ≡ value_of k rs
    tails e k true f =
        let here : q.0 ≡ k = same_eq q.0 k f in
        subst (λ (x : Bytes). value_of x qs ≡ None) here (none_before q.0 qs a.0 a.1) ∙ sym (subst (λ (x : Bytes). value_of x rs ≡ None) (sym e ∙ here) (none_before r.0 rs b.0 b.1))
    tails e k false f = sym (rest_value k q qs f) ∙ h k ∙ rest_value k r rs (ap (λ (x : Bytes). same x k) (sym e) ∙ f)

    join_up : q.0 ≡ r.0 → q.1 ≡ r.1 → qs ≡ rs → q ∷ qs ≡ r ∷ rs
    join_up e f g = λ i. (e i, f i) ∷ g i

    pick : (t u : Bool) → before q.0 r.0 ≡ t → same q.0 r.0 ≡ u → (((k : Bytes) → value_of k qs ≡ value_of k rs) → qs ≡ rs) → q ∷ qs ≡ r ∷ rs
    pick true u e f next = not_some (sym (none_before q.0 (r ∷ rs) e b) ∙ sym (h q.0) ∙ first_value q qs a)
    pick false false e f next = not_some (sym (none_before r.0 (q ∷ qs) (connected q.0 r.0 e f) a) ∙ h r.0 ∙ first_value r rs b)
    pick false true e f next =
        let k : q.0 ≡ r.0 = same_eq q.0 r.0 f in
        let v : Some q.1 ≡ Some r.1 = sym (first_value q qs a) ∙ h q.0 ∙ ap (λ (x : Bytes). value_of x (r ∷ rs)) k ∙ first_value r rs b in
        let w : q.1 ≡ r.1 = cc in
        join_up k w (next (λ x. tails k x (same q.0 x) refl))

-- so the pairs of a field are THE ascending list with the last value of each key that is not reserved, and no other
pub ordinary_unique : (ps qs : List Pair) → Meets (ascending qs) → ((k : Bytes) → reserved k ≡ false → value_of k qs ≡ value_of k ps) → ((k : Bytes) → reserved k ≡ true → value_of k qs ≡ None) → qs ≡ ordinary ps
ordinary_unique ps qs a h n = ascending_unique qs (ordinary ps) a (ordinary_ascending ps) (λ k. pick k (reserved k) refl)
  where
    pick : (k : Bytes) (t : Bool) → reserved k ≡ t → value_of k qs ≡ value_of k (ordinary ps)
    pick k true e = n k e ∙ sym (ordinary_reserved k e ps)
    pick k false e = h k e ∙ sym (ordinary_last k e ps)
