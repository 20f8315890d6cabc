-- The ids 0, 1, .. of a union as a loop writes them: the first, then a comma and the next, until none is left. Assumes nothing.
use mathlib.Core.Path.{◌≡◌, sym, ap, ap₂, subst, ◌∙◌}
use mathlib.Core.List.{[], ◌∷◌, ◌++◌, append-nil, append_assoc}
use mathlib.Core.List.{map as map_list}
use Prim.Native.Nat.{ℕ, zero, suc, ◌+◌, ◌-◌, ◌*◌, ◌^◌, ◌≤◌, ◌<◌}
use native.Mathlib.Omega.{arith}
use lib.ListN.{length, length-append}
use Rattle.sheets.specs.Bytes.{Bytes, comma, join}
use Rattle.sheets.specs.Number.{decimal, write_signed}
use Rattle.sheets.specs.Field.{up_from}
use Rattle.buffer.specs.Over.{PutAt}
use Rattle.buffer.proofs.OverLaws.{Written, none_yet, and_then}
use Rattle.decimal.proofs.WriteLaws.{decimal_short}
use Rattle.plain_line.specs.PlainLines.{counted_ids}

-- so many ids from i on, each after a comma
abbrev pub ids_after : ℕ → ℕ → Bytes
ids_after i zero = []
ids_after i (suc k) = comma ∷ (decimal i ++ ids_after (suc i) k)

joined : (n k : ℕ) → join comma (map_list write_signed (up_from n (suc k))) ≡ decimal n ++ ids_after (suc n) k
joined n zero = sym (append-nil (decimal n))
joined n (suc k) = ap (λ (t : Bytes). decimal n ++ (comma ∷ t)) (joined (suc n) k)

ids_more : (i k : ℕ) → 0 < k → ids_after i k ≡ comma ∷ (decimal i ++ ids_after (i + 1) (k - 1))
ids_more i zero h = absurd (omega arith)
ids_more i (suc k) h =
    let a : suc i ≡ i + 1 = omega arith in
    let b : k ≡ suc k - 1 = omega arith in
    ap₂ (λ (x y : ℕ). comma ∷ (decimal i ++ ids_after x y)) a b

ids_none : (i k : ℕ) → k ≡ 0 → ids_after i k ≡ []
ids_none i k e = ap (ids_after i) e

-- numbers of 64 bits
after_short : (i k : ℕ) → i + k ≤ 2 ^ 64 → length (ids_after i k) ≤ 21 * k
after_short i zero h = omega arith
after_short i (suc k) h = omega (arith, decimal_short i (omega arith), after_short (suc i) k (omega arith), length-append (decimal i) (ids_after (suc i) k))

pub counted_none : (n : ℕ) → n ≡ 0 → 45 ∷ [] ≡ counted_ids n
counted_none n e = ap counted_ids (sym e)

counted_first : (n : ℕ) → 0 < n → counted_ids n ≡ (48 ∷ []) ++ ids_after 1 (n - 1)
unfolding decimal
counted_first zero h = absurd (omega arith)
counted_first (suc k) h =
    let e : k ≡ suc k - 1 = omega arith in
    joined 0 k ∙ ap (λ (x : ℕ). (48 ∷ []) ++ ids_after 1 x) e

pub ids_short : (n : ℕ) → n < 2 ^ 64 → length (counted_ids n) ≤ 21 * n + 1
ids_short zero h = omega arith
ids_short (suc k) h = omega (arith, ap length (counted_first (suc k) (omega arith)), after_short 1 (suc k - 1) (omega arith))

-- the ids before i are written, from place at on
pub record Listing (count at : ℕ) (old out : Bytes) (end i : ℕ) : Type 0 where
  pub text : Bytes
  pub written : Written at text old end out
  pub rest : counted_ids count ≡ text ++ ids_after i (count - i)
  pub short : length text ≤ 21 * i

module _ {count at : ℕ} {old : Bytes} where
  pub listing_first : {out : Bytes} {end : ℕ} → 0 < count → PutAt at (48 ∷ []) end old out → Listing count at old out end 1
  listing_first h p = record { text = 48 ∷ []; written = and_then (48 ∷ []) (none_yet at old) p; rest = counted_first count h; short = omega arith }

  module _ {out : Bytes} {end i : ℕ} (g : Listing count at old out end i) where
    -- no sum wraps
    pub listing_room : i < count → end ≤ at + 21 * count
    listing_room l = omega (arith, g.written.place, g.short)

    pub listing_more : i < count → count < 2 ^ 64 → {sign end' : ℕ} {mid out' : Bytes} → PutAt end (comma ∷ []) sign out mid → PutAt sign (decimal i) end' mid out'
        → Listing count at old out' end' (i + 1)
    listing_more l u p q =
        let c : count - i - 1 ≡ count - (i + 1) = omega arith in
        record {
          text = (g.text ++ (comma ∷ [])) ++ decimal i;
          written = and_then (decimal i) (and_then (comma ∷ []) g.written p) q;
          rest =
              g.rest
              ∙ ap (λ (t : Bytes). g.text ++ t) (ids_more i (count - i) (omega arith) ∙ ap (λ (x : ℕ). comma ∷ (decimal i ++ ids_after (i + 1) x)) c)
              ∙ sym (append_assoc g.text (comma ∷ []) (decimal i ++ ids_after (i + 1) (count - (i + 1))))
              ∙ sym (append_assoc (g.text ++ (comma ∷ [])) (decimal i) (ids_after (i + 1) (count - (i + 1))));
          short = omega (arith, g.short, decimal_short i (omega arith), length-append (g.text ++ (comma ∷ [])) (decimal i), length-append g.text (comma ∷ []));
        }

    pub listing_all : count ≤ i → PutAt at (counted_ids count) end old out
    listing_all l =
        let e : counted_ids count ≡ g.text = g.rest ∙ ap (λ (t : Bytes). g.text ++ t) (ids_none i (count - i) (omega arith)) ∙ append-nil g.text in
        subst (λ (t : Bytes). PutAt at t end old out) (sym e) (g.written.place, g.written.holds)
