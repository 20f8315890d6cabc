-- Lowercase hexadecimal keeps byte order: '0' to '9' stand before 'a' to 'f', so keys are compared as hexadecimal text, without decoding. The first
-- digit decides, then the second. Assumes nothing.
use mathlib.Core.Path.{◌≡◌, refl, sym, ap, ◌∙◌}
use mathlib.Core.Bool.{Bool, true, false, ◌&&◌, ◌||◌, cond}
use mathlib.Core.List.{[], ◌∷◌}
use Prim.Native.Nat.{ℕ, ◌+◌, ◌/◌, ◌%◌, ◌<◌}
use native.Mathlib.Omega.{arith}
use lib.Dec.{eqb, ltb}
use borrow.Author.Tests.{lt-ltb, le-ltb, ltb-true, ltb-false, eq-eqb, ne_eqb, eqb-true, eqb-false}
use Rattle.sheets.specs.Rule.{Meets}
use Rattle.sheets.specs.Bytes.{Bytes, all, same, is_byte}
use Rattle.sheets.specs.Text.{hex_digit, hex}
use Rattle.sheets.specs.Field.{before}

data Sides (x y : ℕ) : Type 0 where
  less : x < y → Sides x y
  equal : x ≡ y → Sides x y
  greater : y < x → Sides x y

sides : (x y : ℕ) → Sides x y
sides x y = go (ltb x y) (eqb x y) refl refl
  where
    go : (t u : Bool) → ltb x y ≡ t → eqb x y ≡ u → Sides x y
    go true u e f = less (ltb-true x y e)
    go false true e f = equal (eqb-true x y f)
    go false false e f =
        let d : x ≡ y → ⊥ = eqb-false x y f in
        let l = ltb-false x y e in
        greater (omega arith)

-- ── digits

digit_less : (x y : ℕ) → x < y → y < 16 → hex_digit x < hex_digit y
digit_less x y h k = go (ltb x 10) (ltb y 10) refl refl
  where
    go : (t u : Bool) → ltb x 10 ≡ t → ltb y 10 ≡ u → cond t (48 + x) (87 + x) < cond u (48 + y) (87 + y)
    go true true e f = omega arith
    go true false e f = omega arith
    go false true e f = absurd (omega (arith, ltb-false x 10 e, ltb-true y 10 f))
    go false false e f = omega arith

ltb_digit : (x y : ℕ) → x < 16 → y < 16 → ltb (hex_digit x) (hex_digit y) ≡ ltb x y
ltb_digit x y h k = go (sides x y)
  where
    go : Sides x y → ltb (hex_digit x) (hex_digit y) ≡ ltb x y
    go (less l) = lt-ltb (hex_digit x) (hex_digit y) (digit_less x y l k) ∙ sym (lt-ltb x y l)
    go (equal e) = le-ltb (hex_digit x) (hex_digit y) (omega (arith, ap hex_digit e)) ∙ sym (le-ltb x y (omega arith))
    go (greater l) = le-ltb (hex_digit x) (hex_digit y) (omega (arith, digit_less y x l h)) ∙ sym (le-ltb x y (omega arith))

eqb_digit : (x y : ℕ) → x < 16 → y < 16 → eqb (hex_digit x) (hex_digit y) ≡ eqb x y
eqb_digit x y h k = go (sides x y)
  where
    go : Sides x y → eqb (hex_digit x) (hex_digit y) ≡ eqb x y
    go (less l) = ne_eqb (hex_digit x) (hex_digit y) (λ e. omega (arith, e, digit_less x y l k)) ∙ sym (ne_eqb x y (λ e. omega arith))
    go (equal e) = eq-eqb (hex_digit x) (hex_digit y) (ap hex_digit e) ∙ sym (eq-eqb x y e)
    go (greater l) = ne_eqb (hex_digit x) (hex_digit y) (λ e. omega (arith, e, digit_less y x l h)) ∙ sym (ne_eqb x y (λ e. omega arith))

-- ── a byte's two digits

before_pair : (x y : ℕ) (rest : Bool)
    → (ltb (x / 16) (y / 16) || (eqb (x / 16) (y / 16) && (ltb (x % 16) (y % 16) || (eqb (x % 16) (y % 16) && rest)))) ≡ (ltb x y || (eqb x y && rest))
before_pair x y rest = go (sides (x / 16) (y / 16)) (sides (x % 16) (y % 16))
  where
    go : Sides (x / 16) (y / 16) → Sides (x % 16) (y % 16)
        → (ltb (x / 16) (y / 16) || (eqb (x / 16) (y / 16) && (ltb (x % 16) (y % 16) || (eqb (x % 16) (y % 16) && rest)))) ≡ (ltb x y || (eqb x y && rest))
    go (less l) s = rw (lt-ltb (x / 16) (y / 16) l, lt-ltb x y (omega arith))
    go (equal e) (less l) = rw (le-ltb (x / 16) (y / 16) (omega arith), eq-eqb (x / 16) (y / 16) e, lt-ltb (x % 16) (y % 16) l, lt-ltb x y (omega arith))
    go (equal e) (equal f) =
        rw (le-ltb (x / 16) (y / 16) (omega arith), eq-eqb (x / 16) (y / 16) e, le-ltb (x % 16) (y % 16) (omega arith), eq-eqb (x % 16) (y % 16) f, le-ltb x y (omega arith), eq-eqb x y (omega arith))
    go (equal e) (greater l) =
        rw (
          le-ltb (x / 16) (y / 16) (omega arith),
          eq-eqb (x / 16) (y / 16) e,
          le-ltb (x % 16) (y % 16) (omega arith),
          ne_eqb (x % 16) (y % 16) (λ f. omega arith),
          le-ltb x y (omega arith),
          ne_eqb x y (λ f. omega arith),
        )
    go (greater l) s = rw (le-ltb (x / 16) (y / 16) (omega arith), ne_eqb (x / 16) (y / 16) (λ f. omega arith), le-ltb x y (omega arith), ne_eqb x y (λ f. omega arith))

same_pair : (x y : ℕ) (rest : Bool) → (eqb (x / 16) (y / 16) && (eqb (x % 16) (y % 16) && rest)) ≡ (eqb x y && rest)
same_pair x y rest = go (eqb (x / 16) (y / 16)) (eqb (x % 16) (y % 16)) refl refl
  where
    go : (t u : Bool) → eqb (x / 16) (y / 16) ≡ t → eqb (x % 16) (y % 16) ≡ u → (t && (u && rest)) ≡ (eqb x y && rest)
    go true true e f =
        let h : x / 16 ≡ y / 16 = eqb-true (x / 16) (y / 16) e in
        let k : x % 16 ≡ y % 16 = eqb-true (x % 16) (y % 16) f in
        rw (eq-eqb x y (omega arith))
    go true false e f = rw (ne_eqb x y (λ z. eqb-false (x % 16) (y % 16) f (ap (λ (n : ℕ). n % 16) z)))
    go false u e f = rw (ne_eqb x y (λ z. eqb-false (x / 16) (y / 16) e (ap (λ (n : ℕ). n / 16) z)))

-- ── texts

pub before_hex : (a b : Bytes) → Meets (all is_byte a) → Meets (all is_byte b) → before (hex a) (hex b) ≡ before a b
before_hex [] [] h k = refl
before_hex [] (y ∷ b) h k = refl
before_hex (x ∷ a) [] h k = refl
before_hex (x ∷ a) (y ∷ b) h k =
    let p : x < 256 = ltb-true x 256 h.0 in
    let q : y < 256 = ltb-true y 256 k.0 in
    rw (
      ltb_digit (x / 16) (y / 16) (omega arith) (omega arith),
      eqb_digit (x / 16) (y / 16) (omega arith) (omega arith),
      ltb_digit (x % 16) (y % 16) (omega arith) (omega arith),
      eqb_digit (x % 16) (y % 16) (omega arith) (omega arith),
      before_hex a b h.1 k.1,
    )
    (before_pair x y (before a b))

pub same_hex : (a b : Bytes) → Meets (all is_byte a) → Meets (all is_byte b) → same (hex a) (hex b) ≡ same a b
same_hex [] [] h k = refl
same_hex [] (y ∷ b) h k = refl
same_hex (x ∷ a) [] h k = refl
same_hex (x ∷ a) (y ∷ b) h k =
    let p : x < 256 = ltb-true x 256 h.0 in
    let q : y < 256 = ltb-true y 256 k.0 in
    rw (
      eqb_digit (x / 16) (y / 16) (omega arith) (omega arith),
      eqb_digit (x % 16) (y % 16) (omega arith) (omega arith),
      same_hex a b h.1 k.1,
    )
    (same_pair x y (same a b))
