-- Laws of `over` and `over_at`, by recursion on the place and on both lists. `Written` carries a chain of writes, each from the place where the one
-- before ended; `over_lent` says what a call on `&mut out[n..]` leaves of the whole. Assumes nothing.
use mathlib.Core.Path.{◌≡◌, refl, sym, ap, ap₂, subst, ◌∙◌}
use mathlib.Core.List.{[], ◌∷◌, ◌++◌, append-nil}
use Prim.Native.Nat.{ℕ, zero, suc, ◌+◌, ◌-◌, ◌≤◌, ◌<◌, min}
use native.Mathlib.Nat.{not-suc-le-zero, le_of_suc-le-suc, le_of_eq, zero-add, suc-add, zero-min, min-zero, suc-min-suc, add-zero, add_assoc}
use native.Mathlib.Numerals.{add-one}
use lib.ListN.{length, get_or, set, take, drop, length-append, length-drop, drop_of_length-le}
use lib.Seq.{take_all}
use borrow.Rule.Slice.PartMut.{same_len_mid}
use Rattle.sheets.specs.Bytes.{Bytes}
use Rattle.buffer.specs.Over.{over, over_at, PutAt, PutFirst}

-- ---- over

pub over_nothing : (out : Bytes) → over [] out ≡ out
unfolding over
over_nothing out = refl

-- where nothing is lent, nothing changes
pub over_empty : (s out : Bytes) → length out ≡ 0 → out ≡ over s out
unfolding over
over_empty [] out h = refl
over_empty (b ∷ s) [] h = refl
over_empty (b ∷ s) (o ∷ out) h = absurd (not-suc-le-zero (le_of_eq h))

pub length_over : (s out : Bytes) → length (over s out) ≡ length out
unfolding over
length_over [] out = refl
length_over (b ∷ s) [] = refl
length_over (b ∷ s) (o ∷ out) = ap suc (length_over s out)

-- where all of it fits
pub over_fits : (s out : Bytes) → length s ≤ length out → over s out ≡ s ++ drop (length s) out
unfolding over
over_fits [] out h = refl
over_fits (b ∷ s) [] h = absurd (not-suc-le-zero h)
over_fits (b ∷ s) (o ∷ out) h = ap (λ (l : Bytes). b ∷ l) (over_fits s out (le_of_suc-le-suc h))

-- where it fills the buffer
pub over_fills : (s out : Bytes) → length out ≤ length s → over s out ≡ take (length out) s
unfolding over
over_fills [] [] h = refl
over_fills [] (o ∷ out) h = absurd (not-suc-le-zero h)
over_fills (b ∷ s) [] h = refl
over_fills (b ∷ s) (o ∷ out) h = ap (λ (l : Bytes). b ∷ l) (over_fills s out (le_of_suc-le-suc h))

over_suc : (s out : Bytes) (i : ℕ) → i < length s → i < length out → set (over (take i s) out) i (get_or s i 0) ≡ over (take (suc i) s) out
unfolding over
over_suc [] out i h k = absurd (not-suc-le-zero h)
over_suc (b ∷ s) [] i h k = absurd (not-suc-le-zero k)
over_suc (b ∷ s) (o ∷ out) zero h k = refl
over_suc (b ∷ s) (o ∷ out) (suc i) h k = ap (λ (l : Bytes). b ∷ l) (over_suc s out i (le_of_suc-le-suc h) (le_of_suc-le-suc k))

-- one byte more
pub over_more : (s out : Bytes) (i : ℕ) → i < length s → i < length out → set (over (take i s) out) i (get_or s i 0) ≡ over (take (i + 1) s) out
over_more s out i h k = rw add-one (over_suc s out i h k)

over_min : (s out : Bytes) → over (take (min (length s) (length out)) s) out ≡ over s out
unfolding over
over_min [] out = rw zero-min
over_min (b ∷ s) [] = rw min-zero
over_min (b ∷ s) (o ∷ out) = rw suc-min-suc (ap (λ (l : Bytes). b ∷ l) (over_min s out))

-- what fits, then what the buffer held
pub over_parts : (s out : Bytes) → take (min (length s) (length out)) s ++ drop (min (length s) (length out)) out ≡ over s out
unfolding over
over_parts [] out = rw zero-min
over_parts (b ∷ s) [] = rw min-zero
over_parts (b ∷ s) (o ∷ out) = rw suc-min-suc (ap (λ (l : Bytes). b ∷ l) (over_parts s out))

-- a text over a longer one: what stands after it is left
over_over : (s t out : Bytes) → length s ≤ length t → over s (over t out) ≡ over (s ++ drop (length s) t) out
unfolding over
over_over [] t out h = refl
over_over (b ∷ s) [] out h = absurd (not-suc-le-zero h)
over_over (b ∷ s) (c ∷ t) [] h = refl
over_over (b ∷ s) (c ∷ t) (o ∷ out) h = ap (λ (l : Bytes). b ∷ l) (over_over s t out (le_of_suc-le-suc h))

-- what stands past the end does not count
pub over_take : (s out : Bytes) (n : ℕ) → n ≡ min (length s) (length out) → over (take n s) out ≡ over s out
over_take s out n e = ap (λ (m : ℕ). over (take m s) out) e ∙ over_min s out

-- ---- over_at

pub over_at_zero : (s out : Bytes) → over_at 0 s out ≡ over s out
unfolding over_at
over_at_zero s out = refl

pub over_at_nothing : (at : ℕ) (out : Bytes) → over_at at [] out ≡ out
unfolding over over_at
over_at_nothing zero out = refl
over_at_nothing (suc at) [] = refl
over_at_nothing (suc at) (o ∷ out) = ap (λ (l : Bytes). o ∷ l) (over_at_nothing at out)

pub over_at_split : (at : ℕ) (s out : Bytes) → over_at at s out ≡ take at out ++ over s (drop at out)
unfolding over over_at
over_at_split zero s out = refl
over_at_split (suc at) [] [] = refl
over_at_split (suc at) (b ∷ s) [] = refl
over_at_split (suc at) s (o ∷ out) = ap (λ (l : Bytes). o ∷ l) (over_at_split at s out)

pub over_at_past : (at : ℕ) (s out : Bytes) → length out ≤ at → over_at at s out ≡ out
unfolding over over_at
over_at_past zero [] [] h = refl
over_at_past zero (b ∷ s) [] h = refl
over_at_past zero s (o ∷ out) h = absurd (not-suc-le-zero h)
over_at_past (suc at) s [] h = refl
over_at_past (suc at) s (o ∷ out) h = ap (λ (l : Bytes). o ∷ l) (over_at_past at s out (le_of_suc-le-suc h))

pub length_over_at : (at : ℕ) (s out : Bytes) → length (over_at at s out) ≡ length out
unfolding over_at
length_over_at zero s out = length_over s out
length_over_at (suc at) s [] = refl
length_over_at (suc at) s (o ∷ out) = ap suc (length_over_at at s out)

-- two texts, one after the other
pub over_append : (s t out : Bytes) → over (s ++ t) out ≡ over_at (length s) t (over s out)
unfolding over over_at
over_append [] t out = refl
over_append (b ∷ s) t [] = refl
over_append (b ∷ s) t (o ∷ out) = ap (λ (l : Bytes). b ∷ l) (over_append s t out)

pub over_at_append : (at : ℕ) (s t out : Bytes) → over_at at (s ++ t) out ≡ over_at (at + length s) t (over_at at s out)
unfolding over_at
over_at_append zero s t out = rw zero-add (over_append s t out)
over_at_append (suc at) s t [] = rw suc-add
over_at_append (suc at) s t (o ∷ out) = rw suc-add (ap (λ (l : Bytes). o ∷ l) (over_at_append at s t out))

-- a text over a longer one
pub over_at_over : (at : ℕ) (s t out : Bytes) → length s ≤ length t → over_at at s (over_at at t out) ≡ over_at at (s ++ drop (length s) t) out
unfolding over_at
over_at_over zero s t out h = over_over s t out h
over_at_over (suc at) s t [] h = refl
over_at_over (suc at) s t (o ∷ out) h = ap (λ (l : Bytes). o ∷ l) (over_at_over at s t out h)

-- a place past the end counts as the end
pub over_at_min : (at : ℕ) (s out : Bytes) → over_at (min at (length out)) s out ≡ over_at at s out
unfolding over over_at
over_at_min zero s out = rw zero-min
over_at_min (suc at) [] [] = rw min-zero
over_at_min (suc at) (b ∷ s) [] = rw min-zero
over_at_min (suc at) s (o ∷ out) = rw suc-min-suc (ap (λ (l : Bytes). o ∷ l) (over_at_min at s out))

-- ---- the part from a place on, lent to a callee that leaves `part` there

pub over_at_lent : (at : ℕ) (s out part : Bytes) → part ≡ over s (take (length out - at) (drop at out))
    → take at out ++ (part ++ drop (length out - at) (drop at out)) ≡ over_at at s out
over_at_lent at s out part e =
    let d : length (drop at out) ≤ length out - at = le_of_eq (length-drop at out) in
    ap (λ (x : Bytes). take at out ++ (part ++ x)) (drop_of_length-le (drop at out) d)
    ∙ ap (λ (x : Bytes). take at out ++ x) (append-nil part ∙ e ∙ ap (over s) (take_all (length out - at) (drop at out) d))
    ∙ sym (over_at_split at s out)

-- s was written over out, which is now l; the rest of l, from the place n after s on or from the end, was lent and t written over it
pub over_lent : (s t out l part : Bytes) (n w : ℕ) → l ≡ over s out → n ≡ length s → w ≡ min n (length l)
    → part ≡ over t (take (length l - w) (drop w l))
    → take w l ++ (part ++ drop (length l - w) (drop w l)) ≡ over (s ++ t) out
over_lent s t out l part n w e f g h =
    over_at_lent w t l part h
    ∙ ap (λ (x : ℕ). over_at x t l) g
    ∙ over_at_min n t l
    ∙ ap₂ (λ (x : ℕ) (y : Bytes). over_at x t y) f e
    ∙ sym (over_append s t out)

-- what was lent came back as long as it was
pub length_lent : (w : ℕ) (l part : Bytes) → length part ≡ length (take (length l - w) (drop w l))
    → length (take w l ++ (part ++ drop (length l - w) (drop w l))) ≡ length l
length_lent w l part e = same_len_mid w (length l - w) l part e

-- ---- chains of writes

-- from place at on, s has been written over out, which is now l; n is the place after it
pub record Written (at : ℕ) (s out : Bytes) (n : ℕ) (l : Bytes) : Type 0 where
  pub place : n ≡ at + length s
  pub holds : l ≡ over_at at s out

pub none_yet : (at : ℕ) (out : Bytes) → Written at [] out at out
none_yet at out = record { place = sym (add-zero at); holds = sym (over_at_nothing at out) }

-- one text more, by a call whose contract is that of `put_at`
pub and_then : {at : ℕ} {s out : Bytes} {n : ℕ} {l : Bytes} (t : Bytes) {m : ℕ} {k : Bytes} → Written at s out n l
    → PutAt n t m l k → Written at (s ++ t) out m k
and_then {at} {s} {out} t w p =
    record {
      place = p.0 ∙ ap (λ (x : ℕ). x + length t) w.place ∙ add_assoc at (length s) (length t) ∙ ap (λ (x : ℕ). at + x) (sym (length-append s t));
      holds = p.1 ∙ ap₂ (λ (x : ℕ) (y : Bytes). over_at x t y) w.place w.holds ∙ sym (over_at_append at s t out);
    }

-- one text more, by a call on the rest of the buffer, lent as `&mut out[w..]`
pub and_lent : {at : ℕ} {s out : Bytes} {n : ℕ} {l : Bytes} (t : Bytes) {w m : ℕ} {part : Bytes} → Written at s out n l → w ≡ min n (length l)
    → part ≡ over t (take (length l - w) (drop w l)) → m ≡ n + length t
    → Written at (s ++ t) out m (take w l ++ (part ++ drop (length l - w) (drop w l)))
and_lent {at} {s} {out} {n} {l} t {w} {m} {part} v g h q =
    and_then t v (q, over_at_lent w t l part h ∙ ap (λ (x : ℕ). over_at x t l) g ∙ over_at_min n t l)

pub length_written : {at : ℕ} {s out : Bytes} {n : ℕ} {l : Bytes} → Written at s out n l → length l ≡ length out
length_written {at} {s} {out} v = ap length v.holds ∙ length_over_at at s out

-- to write from place 0 on is to write over the first bytes
pub put_first : (t : Bytes) (r : ℕ) (out out' : Bytes) → PutAt 0 t r out out' ≡ PutFirst t r out out'
put_first t r out out' = ap₂ (λ (n : ℕ) (b : Bytes). (r ≡ n) × (out' ≡ b)) (zero-add (length t)) (over_at_zero t out)

pub put_over : (t out : Bytes) {r : ℕ} {out' : Bytes} → PutAt 0 t r out out' → PutFirst t r out out'
put_over t out {r} {out'} p = subst (λ (x : Type 0). x) (put_first t r out out') p

-- a chain from the first byte on
pub whole : {s out : Bytes} {n : ℕ} {l : Bytes} → Written 0 s out n l → PutFirst s n out l
whole {s} {out} v = put_over s out (v.place, v.holds)

-- s was written over out, which is now l, and t over the rest of l, lent as `&mut l[w..]`
pub put_lent : (s t out : Bytes) {l part : Bytes} {n m k w : ℕ} → PutFirst s n out l → w ≡ min n (length l) → PutFirst t m (take (length l - w) (drop w l)) part → k ≡ n + m
    → PutFirst (s ++ t) k out (take w l ++ (part ++ drop (length l - w) (drop w l)))
put_lent s t out {l} {part} {n} {m} {k} {w} a g b q =
    (q ∙ ap₂ (λ (x y : ℕ). x + y) a.0 b.0 ∙ sym (length-append s t), over_lent s t out l part n w a.1 a.0 g b.1)

-- one byte stored is one byte written over
pub stored : (at : ℕ) (b : ℕ) (out : Bytes) → at < length out → set out at b ≡ over_at at (b ∷ []) out
unfolding over over_at
stored at b [] h = absurd (not-suc-le-zero h)
stored zero b (o ∷ out) h = refl
stored (suc at) b (o ∷ out) h = ap (λ (l : Bytes). o ∷ l) (stored at b out (le_of_suc-le-suc h))
