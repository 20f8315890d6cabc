-- Bytes copied a few at once: what is written so far (`Copying`), and a law for each step. Assumes nothing.
use mathlib.Core.Path.{◌≡◌, refl, sym, ap, ap₂, subst, ◌∙◌}
use mathlib.Core.List.{[], ◌∷◌, ◌++◌}
use Prim.Native.Nat.{ℕ, ◌+◌, ◌-◌, ◌≤◌, ◌<◌}
use native.Mathlib.Omega.{arith}
use lib.ListN.{length, get_or, set, take, drop, length-take, length-drop}
use lib.Seq.{drop-cons}
use Rattle.sheets.specs.Bytes.{Bytes}
use Rattle.buffer.specs.Over.{over_at}
use Rattle.buffer.proofs.OverLaws.{Written, none_yet, and_then, stored, over_at_append, length_over_at}
use Rattle.columns.specs.Columns.{part}
use Rattle.columns.proofs.PairsLaws.{part_append}
use Rattle.words.specs.Words.{WordAt, low_bytes}
use Rattle.words.proofs.WordLaws.{low_word}
use Rattle.copy_part.specs.Copies.{CanCopy}

-- the bytes from `from` up to i are written, and those up to end are to come
pub record Copying (out₀ : Bytes) (to : ℕ) (s : Bytes) (from end : ℕ) (out : Bytes) (i j : ℕ) : Type 0 where
  pub can : CanCopy out₀ to s from end
  pub low : from ≤ i
  pub high : i ≤ end
  pub there : j + from ≡ to + i
  pub holds : out ≡ over_at to (part s from i) out₀

module _ {out₀ : Bytes} {to : ℕ} {s : Bytes} {from end : ℕ} where
  pub copying_none : CanCopy out₀ to s from end → Copying out₀ to s from end out₀ from to
  copying_none can =
      let n : 0 ≡ from - from = omega arith in
      record {
        can = can;
        low = omega arith;
        high = can.low;
        there = refl;
        holds = subst (λ (k : ℕ). out₀ ≡ over_at to (take k (drop from s)) out₀) n (none_yet to out₀).holds;
      }

  module _ {out : Bytes} {i j : ℕ} (c : Copying out₀ to s from end out i j) where
    pub copying_length : length out ≡ length out₀
    copying_length = ap length c.holds ∙ length_over_at to (part s from i) out₀

    copied : length (part s from i) ≡ i - from
    copied = length-take (i - from) (drop from s) ∙ omega (arith, length-drop from s, c.low, c.high, c.can.high)

    -- n bytes more
    more : (n : ℕ) (l : Bytes) → i + n ≤ end → l ≡ over_at j (take n (drop i s)) out → Copying out₀ to s from end l (i + n) (j + n)
    more n l h p =
        let m : n ≡ i + n - i = omega arith in
        let place : j ≡ to + length (part s from i) = omega (arith, c.there, c.low, copied) in
        record {
          can = c.can;
          low = omega (arith, c.low);
          high = h;
          there = omega (arith, c.there);
          holds =
              p
              ∙ ap (λ (k : ℕ). over_at j (take k (drop i s)) out) m
              ∙ ap₂ (λ (k : ℕ) (b : Bytes). over_at k (part s i (i + n)) b) place c.holds
              ∙ sym (over_at_append to (part s from i) (part s i (i + n)) out₀)
              ∙ ap (λ (b : Bytes). over_at to b out₀) (sym (part_append s from i (i + n) c.low (omega arith)));
        }

    -- a word more
    pub copying_more : (n w : ℕ) (l : Bytes) → i + n ≤ end → WordAt n s i w → l ≡ over_at j (low_bytes n w) out → Copying out₀ to s from end l (i + n) (j + n)
    copying_more n w l h a p = more n l h (p ∙ ap (λ (b : Bytes). over_at j b out) (low_word a (omega (arith, c.can.high))))

    -- what is left can be copied
    pub copying_can : CanCopy out j s i end
    copying_can = record { low = c.high; high = c.can.high; room = omega (arith, c.there, c.low, c.high, c.can.room, copying_length) }

    pub copying_rest : (r : ℕ) (l : Bytes) → (r ≡ j + length (part s i end)) × (l ≡ over_at j (part s i end) out)
        → (r ≡ to + length (part s from end)) × (l ≡ over_at to (part s from end) out₀)
    copying_rest r l p =
        let w : Written to (part s from i) out₀ j out = record { place = omega (arith, c.there, c.low, copied); holds = c.holds } in
        let v = and_then (part s i end) w p in
        let whole : part s from i ++ part s i end ≡ part s from end = sym (part_append s from i end c.low c.high) in
        subst (λ (b : Bytes). (r ≡ to + length b) × (l ≡ over_at to b out₀)) whole (v.place, v.holds)

    pub copying_all : end ≤ i → (j ≡ to + length (part s from end)) × (out ≡ over_at to (part s from end) out₀)
    copying_all h =
        let e : i ≡ end = omega (arith, c.high) in
        subst (λ (k : ℕ). (j ≡ to + length (part s from k)) × (out ≡ over_at to (part s from k) out₀)) e (omega (arith, c.there, c.low, copied), c.holds)

  -- the last byte
  pub copying_last : {out : Bytes} {i j : ℕ} → Copying out₀ to s from end out i j → i < end → end < i + 2
      → (j + 1 ≡ to + length (part s from end)) × (set out j (get_or s i 0) ≡ over_at to (part s from end) out₀)
  copying_last {out} {i} {j} c h k =
      let byte : take 1 (drop i s) ≡ get_or s i 0 ∷ [] = ap (take 1) (drop-cons s i 0 (omega (arith, c.can.high))) in
      let room : j < length out = omega (arith, c.there, c.low, c.can.room, copying_length c) in
      copying_all (more c 1 (set out j (get_or s i 0)) (omega arith) (stored j (get_or s i 0) out room ∙ ap (λ (b : Bytes). over_at j b out) (sym byte))) (omega arith)
