-- `read_size` and `read_id` of document 01's definitions through `number_below`. Assumes nothing.
use mathlib.Core.Path.{◌≡◌, refl, sym, ap, ◌∙◌}
use mathlib.Core.Bool.{Bool, true, false}
use mathlib.Core.List.{[], ◌∷◌}
use Prim.Native.Nat.{ℕ, ◌+◌, ◌^◌, ◌<◌}
use native.Mathlib.Nat.{not-suc-le-zero}
use native.Mathlib.Omega.{arith}
use lib.Dec.{leb, ltb}
use lib.IntN.{ℤ, pos}
use lib.ListN.{length, get_or, drop}
use borrow.Author.Tests.{leb-true, leb-false, lt-ltb, le-ltb, eq-eqb, ne_eqb}
use Rattle.sheets.specs.Refusal.{bad_number}
use Rattle.sheets.specs.Answer.{Answer, refused, given, ◌>>=◌, decide}
use Rattle.sheets.specs.Bytes.{Bytes}
use Rattle.sheets.specs.Format.{unsigned, drop_plus, read_size, minus, read_id}
use Rattle.sheets.proofs.Tests.{chain_same}
use Rattle.parse.specs.Parse.{number_below}

-- ── the plus

pub plus : (b : Bytes) → 0 < length b → get_or b 0 0 ≡ 43 → drop 1 b ≡ drop_plus b
plus [] h e = absurd (not-suc-le-zero h)
plus (x ∷ b) h e = rw (eq-eqb x 43 e)

pub no_plus : (b : Bytes) → (0 < length b → get_or b 0 0 ≡ 43 → ⊥) → drop 0 b ≡ drop_plus b
no_plus [] h = refl
no_plus (x ∷ b) h = rw (ne_eqb x 43 (h (omega arith)))

-- ── a size

pub read_size_lem : (b : Bytes) → read_size b ≡ number_below (2 ^ 64) (drop_plus b)
unfolding number_below
read_size_lem b = refl

-- ── a value made of the number

made : (m : Answer ℕ) (limit : ℕ) (f : ℕ → ℤ) → (m >>= λ n. decide bad_number (ltb n limit) (f n)) ≡ ((m >>= λ n. decide bad_number (ltb n limit) n) >>= λ n. given (f n))
made (refused r) limit f = refl
made (given n) limit f = pick (ltb n limit)
  where
    pick : (t : Bool) → decide bad_number t (f n) ≡ (decide bad_number t n >>= λ k. given (f k))
    pick true = refl
    pick false = refl

-- at most a number is below the next one
below_leb : (n m : ℕ) → leb n m ≡ ltb n (m + 1)
below_leb n m = pick (leb n m) refl
  where
    pick : (t : Bool) → leb n m ≡ t → t ≡ ltb n (m + 1)
    pick true e = sym (lt-ltb n (m + 1) (omega (arith, leb-true n m e)))
    pick false e = sym (le-ltb n (m + 1) (omega (arith, leb-false n m e)))

pub no_id : (b : Bytes) → length b ≡ 0 → read_id b ≡ refused bad_number
no_id [] e = refl
no_id (x ∷ b) e = absurd (omega arith)

minus_id : (b : Bytes) → 0 < length b → get_or b 0 0 ≡ 45 → read_id b ≡ (number_below (2 ^ 31 + 1) (drop 1 b) >>= λ n. given (minus n))
unfolding number_below
minus_id [] h e = absurd (not-suc-le-zero h)
minus_id (x ∷ b) h e =
    rw (eq-eqb x 45 e)
    (chain_same (unsigned b) (unsigned b) (λ n. decide bad_number (leb n (2 ^ 31)) (minus n)) (λ n. decide bad_number (ltb n (2 ^ 31 + 1)) (minus n)) refl (λ n. ap (λ t. decide bad_number t (minus n)) (below_leb n (2 ^ 31)))
    ∙ made (unsigned b) (2 ^ 31 + 1) minus)

plain_id : (b : Bytes) → 0 < length b → (get_or b 0 0 ≡ 45 → ⊥) → read_id b ≡ (number_below (2 ^ 31) (drop_plus b) >>= λ n. given (pos n))
unfolding number_below
plain_id [] h e = absurd (not-suc-le-zero h)
plain_id (x ∷ b) h e = rw (ne_eqb x 45 e) (made (unsigned (drop_plus (x ∷ b))) (2 ^ 31) pos)

-- ── the id by what the digits gave

module _ (b : Bytes) (any : 0 < length b) where
  pub minus_refused : get_or b 0 0 ≡ 45 → refused bad_number ≡ number_below (2 ^ 31 + 1) (drop 1 b) → refused bad_number ≡ read_id b
  minus_refused h e = ap (λ a. a >>= λ n. given (minus n)) e ∙ sym (minus_id b any h)

  pub minus_given : (m : ℕ) → get_or b 0 0 ≡ 45 → given m ≡ number_below (2 ^ 31 + 1) (drop 1 b) → given (minus m) ≡ read_id b
  minus_given m h e = ap (λ a. a >>= λ n. given (minus n)) e ∙ sym (minus_id b any h)

  pub plain_refused_lem : (p : Bytes) → p ≡ drop_plus b → (get_or b 0 0 ≡ 45 → ⊥) → refused bad_number ≡ number_below (2 ^ 31) p → refused bad_number ≡ read_id b
  plain_refused_lem p q h e = ap (λ a. a >>= λ n. given (pos n)) (e ∙ ap (number_below (2 ^ 31)) q) ∙ sym (plain_id b any h)

  pub plain_given : (p : Bytes) (n : ℕ) → p ≡ drop_plus b → (get_or b 0 0 ≡ 45 → ⊥) → given n ≡ number_below (2 ^ 31) p → given (pos n) ≡ read_id b
  plain_given p n q h e = ap (λ a. a >>= λ n. given (pos n)) (e ∙ ap (number_below (2 ^ 31)) q) ∙ sym (plain_id b any h)
