-- A list whose halves were lent one after the other, and came back sorted: what stands in it then, and that merging the two sorted parts sorts the
-- list. Assumes nothing.
use mathlib.Core.Path.{◌≡◌, sym, ap, ◌∙◌}
use mathlib.Core.List.{List, [], ◌++◌, append-nil}
use Prim.Native.Nat.{ℕ, ◌+◌, ◌-◌, ◌≤◌}
use native.Mathlib.Omega.{arith}
use lib.ListN.{length, take, drop, take-append-drop, length-append, length-take, length-drop, drop_of_length-le}
use lib.Seq.{take_all, take_at, drop_at, take-append-le, length-take-le, length_front}
use Rattle.sheets.specs.Bytes.{Bytes}
use Rattle.key_order.specs.Order.{ordered}
use Rattle.key_order.specs.Merge.{Halves, Merges, Sorts}
use Rattle.key_order.proofs.MergeLaws.{ordered_append, ascends_ordered}

-- the second half as it is lent, the first being back as p
abbrev pub second : List ℕ → List ℕ → ℕ → List ℕ
second l p half = take (length (p ++ drop half l) - half) (drop half (p ++ drop half l))

-- the list, its first half being back as p and its second as q
abbrev pub back : List ℕ → List ℕ → List ℕ → ℕ → List ℕ
back l p q half = take half (p ++ drop half l) ++ (q ++ drop (length (p ++ drop half l) - half) (drop half (p ++ drop half l)))

module _ (l p : List ℕ) (half : ℕ) (fits : half ≤ length l) (kept : length p ≡ length (take half l)) where
  first_length : length p ≡ half
  first_length = kept ∙ length-take-le half l fits

  whole_length : length (p ++ drop half l) ≡ length l
  whole_length = length_front l p half kept

  pub second_half : second l p half ≡ drop half l
  second_half =
      rw (drop_at p (drop half l) half first_length, whole_length) (take_all (length l - half) (drop half l) (simp length-drop (omega arith)))

  pub both_halves : (q : List ℕ) → back l p q half ≡ p ++ q
  both_halves q =
      let none : drop (length l - half) (drop half l) ≡ [] = drop_of_length-le (drop half l) {i = length l - half} (simp length-drop (omega arith)) in
      rw (drop_at p (drop half l) half first_length, take_at p (drop half l) half first_length, whole_length, none, append-nil)

  pub back_length : (q : List ℕ) → length q ≡ length (second l p half) → length (back l p q half) ≡ length l
  back_length q k =
      ap length (both_halves q) ∙ length-append p q ∙ omega (arith, first_length, k, ap length second_half, length-drop half l)

module _ (key : ℕ → Bytes) (l p q : List ℕ) (half a b : ℕ) (fits : half ≤ length l) (kept : length p ≡ length (take half l)) (kept' : length q ≡ length (second l p half))
    (s : Sorts key (take half l) p a) (t : Sorts key (second l p half) q b) where
  first_part : take a (back l p q half) ≡ ordered key (take half l)
  first_part = ap (take a) (both_halves l p half fits kept q) ∙ take-append-le a p q (omega (arith, s.within)) ∙ s.entries

  second_part : take b (drop half (back l p q half)) ≡ ordered key (drop half l)
  second_part =
      ap (λ (m : List ℕ). take b (drop half m)) (both_halves l p half fits kept q)
      ∙ ap (take b) (drop_at p q half (first_length l p half fits kept))
      ∙ t.entries
      ∙ ap (ordered key) (second_half l p half fits kept)

  few : a ≤ half
  few = omega (arith, s.within, length-take-le half l fits)

  few' : half + b ≤ length l
  few' = omega (arith, t.within, ap length (second_half l p half fits kept), length-drop half l)

  few_both : length (take a (back l p q half)) + length (take b (drop half (back l p q half))) ≤ length l
  few_both = omega (arith, few, few', length-take a (back l p q half), length-take b (drop half (back l p q half)))

  pub halves : (out : List ℕ) → length out ≡ length l → Halves key (back l p q half) out half a b
  halves out e =
      record {
        first = few;
        second = omega (arith, few', back_length l p half fits kept q kept');
        parts = record {
          left = rw first_part (ascends_ordered key (take half l));
          right = rw second_part (ascends_ordered key (drop half l));
          room = omega (arith, few_both);
        };
      }

  pub sorted : (out : List ℕ) (r : ℕ) → Merges key (take a (back l p q half)) (take b (drop half (back l p q half))) out r → Sorts key l out r
  sorted out r m =
      record {
        within = omega (arith, few_both, m.within);
        entries = m.entries ∙ rw (first_part, second_part) (sym (ordered_append key (take half l) (drop half l))) ∙ ap (ordered key) (take-append-drop half l);
      }
