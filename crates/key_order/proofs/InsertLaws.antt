-- An entry put at its place in a slice: the search for the place at each entry, and the entries after it moved up by one. Assumes nothing.
use mathlib.Core.Path.{◌≡◌, refl, sym, ap, ◌∙◌}
use mathlib.Core.Bool.{true}
use mathlib.Core.List.{List, [], ◌∷◌, ◌++◌, append_assoc, append-nil}
use Prim.Native.Nat.{ℕ, zero, suc, ◌+◌, ◌-◌, ◌≤◌, ◌<◌}
use native.Mathlib.Nat.{not-suc-le-zero, le_of_suc-le-suc, sub-zero, suc-sub-suc}
use native.Mathlib.Numerals.{add-one}
use native.Mathlib.Omega.{arith}
use lib.ListN.{length, get_or, set, take, drop, length-drop, length-append, drop_of_length-le}
use lib.Seq.{drop-cons, take-nil, take-take, take_at, take-suc, length-take-le, append_snoc}
use Rattle.sheets.specs.Bytes.{Bytes, same}
use Rattle.sheets.specs.Field.{before}
use Rattle.key_order.specs.Order.{insert_entry, ordered}
use Rattle.key_order.proofs.MergeLaws.{insert_nil, insert_first, insert_there, insert_later}

-- ── entries moved up by one

-- a store in a list that is being copied
pub store : (src dst : List ℕ) (i : ℕ) → i < length src → i < length dst → set (take i src ++ drop i dst) i (get_or src i 0) ≡ take (i + 1) src ++ drop (i + 1) dst
store src dst i h k = rw add-one (go src dst i h k)
  where
    go : (src dst : List ℕ) (i : ℕ) → i < length src → i < length dst → set (take i src ++ drop i dst) i (get_or src i 0) ≡ take (suc i) src ++ drop (suc i) dst
    go [] dst i h k = absurd (not-suc-le-zero h)
    go (x ∷ xs) [] i h k = absurd (not-suc-le-zero k)
    go (x ∷ xs) (y ∷ ys) zero h k = refl
    go (x ∷ xs) (y ∷ ys) (suc i) h k = ap (λ (l : List ℕ). x ∷ l) (go xs ys i (le_of_suc-le-suc h) (le_of_suc-le-suc k))

pub next_of : (src dst : List ℕ) (i : ℕ) → i ≤ length src → i < length dst → get_or (take i src ++ drop i dst) i 0 ≡ get_or dst i 0
next_of src dst zero h k = refl
next_of [] dst (suc i) h k = absurd (not-suc-le-zero h)
next_of (x ∷ xs) [] (suc i) h k = absurd (not-suc-le-zero k)
next_of (x ∷ xs) (y ∷ ys) (suc i) h k = next_of xs ys i (le_of_suc-le-suc h) (le_of_suc-le-suc k)

-- v put in at j: the part from j to n + 1, which was lent, is back
pub opened : (m : List ℕ) (j n v : ℕ) (ys : List ℕ) → j ≤ n → n < length m → ys ≡ take (length (take (n + 1 - j) (drop j m))) (v ∷ take (n + 1 - j) (drop j m))
    → take (n + 1) (take j m ++ (ys ++ drop (n + 1 - j) (drop j m))) ≡ take j m ++ (v ∷ take (n - j) (drop j m))
opened m j n v ys h l e =
    let k = n + 1 - j in
    let d = drop j m in
    let q : k ≡ suc (n - j) = omega arith in
    let a : length (take k d) ≡ k = length-take-le k d (simp length-drop (omega arith)) in
    let y : ys ≡ v ∷ take (n - j) d = e ∙ rw (a, q) (ap (λ (s : List ℕ). v ∷ s) (take-take (n - j) (suc (n - j)) d (omega arith))) in
    let b : length (take j m ++ ys) ≡ n + 1 = rw (length-append, length-take-le j m (omega arith), y, length-take-le (n - j) d (simp length-drop (omega arith))) (omega arith) in
    rw (← append_assoc (take j m) ys (drop k d)) (take_at (take j m ++ ys) (drop k d) (n + 1) b ∙ ap (λ (s : List ℕ). take j m ++ s) y)

-- ── the place of an entry

-- the entries from j to n
abbrev pub between : List ℕ → ℕ → ℕ → List ℕ
between m j n = take (n - j) (drop j m)

between_cons : (m : List ℕ) (j n : ℕ) → j < n → n ≤ length m → between m j n ≡ get_or m j 0 ∷ between m (j + 1) n
between_cons m j n h k =
    let e : n - j ≡ suc (n - (j + 1)) = omega arith in
    rw (e, drop-cons m j 0 (omega arith), ← (add-one j))

between_none : (m : List ℕ) (n : ℕ) → between m n n ≡ []
between_none m n = let e : n - n ≡ 0 = omega arith in rw e

between_all : (m : List ℕ) (j n : ℕ) → j ≤ n → take n m ≡ take j m ++ between m j n
between_all m zero n h = rw sub-zero
between_all m (suc j) zero h = absurd (not-suc-le-zero h)
between_all [] (suc j) (suc n) h = sym (take-nil (suc n - suc j))
between_all (x ∷ m) (suc j) (suc n) h = rw suc-sub-suc (ap (λ (l : List ℕ). x ∷ l) (between_all m j n (le_of_suc-le-suc h)))

pub place_start : (key : ℕ → Bytes) (p : ℕ) (m : List ℕ) (n : ℕ) → insert_entry key p (take n m) ≡ insert_entry key p (between m 0 n)
place_start key p m n = rw sub-zero

module _ (key : ℕ → Bytes) (p : ℕ) (m : List ℕ) (n : ℕ) (fits : n ≤ length m) where
  pub place_here : (j : ℕ) → j < n → before (key p) (key (get_or m j 0)) ≡ true → insert_entry key p (between m j n) ≡ p ∷ between m j n
  place_here j h e = rw (between_cons m j n h fits) (insert_first key p (get_or m j 0) (between m (j + 1) n) e)

  pub place_there : (j : ℕ) → j < n → same (key p) (key (get_or m j 0)) ≡ true → take j m ++ insert_entry key p (between m j n) ≡ take n m
  place_there j h e =
      ap (λ (l : List ℕ). take j m ++ l) (ap (insert_entry key p) (between_cons m j n h fits) ∙ insert_there key p (get_or m j 0) (between m (j + 1) n) e ∙ sym (between_cons m j n h fits))
      ∙ sym (between_all m j n (omega arith))

  pub place_later : (j : ℕ) → j < n → before (key (get_or m j 0)) (key p) ≡ true
      → take j m ++ insert_entry key p (between m j n) ≡ take (j + 1) m ++ insert_entry key p (between m (j + 1) n)
  place_later j h e =
      ap (λ (l : List ℕ). take j m ++ l) (ap (insert_entry key p) (between_cons m j n h fits) ∙ insert_later key p (get_or m j 0) (between m (j + 1) n) e)
      ∙ sym (append_snoc (take j m) (get_or m j 0) (insert_entry key p (between m (j + 1) n)))
      ∙ ap (λ (l : List ℕ). l ++ insert_entry key p (between m (j + 1) n)) one
    where
      one : take j m ++ (get_or m j 0 ∷ []) ≡ take (j + 1) m
      one = rw (add-one, take-suc m j 0 (omega arith))

  pub place_last : (j : ℕ) → j ≤ n → n ≤ j → take j m ++ insert_entry key p (between m j n) ≡ take n m ++ (p ∷ between m n n)
  place_last j h k = let e : j ≡ n = omega arith in rw (e, between_none m n, insert_nil key p)

-- ── entries put in from the last to the first

pub none_yet : (key : ℕ → Bytes) (l rest : List ℕ) → rest ≡ l → (0 + length rest ≤ length l) × (rest ++ drop (length rest) l ≡ l) × ([] ≡ ordered key (drop (length rest) l))
unfolding ordered
none_yet key l rest e = rw (e, drop_of_length-le l {i = length l} (omega arith), append-nil) (omega arith, refl, refl)

pub length-push : (rest : List ℕ) (p : ℕ) → length (rest ++ p ∷ []) ≡ length rest + 1
length-push rest p = length-append rest (p ∷ [])

drop-length : (s t : List ℕ) → drop (length s) (s ++ t) ≡ t
drop-length [] t = refl
drop-length (x ∷ s) t = drop-length s t

-- the last of those that are left is the one before the others
pub one_before : (l rest rest' : List ℕ) (p : ℕ) → rest ++ drop (length rest) l ≡ l → rest ≡ rest' ++ p ∷ []
    → (p ∷ drop (length rest) l ≡ drop (length rest') l) × (rest' ++ drop (length rest') l ≡ l)
one_before l rest rest' p e f =
    let d = drop (length rest) l in
    let whole : rest' ++ p ∷ d ≡ l = sym (append_snoc rest' p d) ∙ ap (λ (s : List ℕ). s ++ d) (sym f) ∙ e in
    let tail : p ∷ d ≡ drop (length rest') l = sym (drop-length rest' (p ∷ d)) ∙ ap (drop (length rest')) whole in
    (tail, ap (λ (s : List ℕ). rest' ++ s) (sym tail) ∙ whole)

pub one_more : (key : ℕ → Bytes) (l : List ℕ) (p : ℕ) (m : List ℕ) → p ∷ l ≡ m → insert_entry key p (ordered key l) ≡ ordered key m
unfolding ordered
one_more key l p m e = ap (ordered key) e
