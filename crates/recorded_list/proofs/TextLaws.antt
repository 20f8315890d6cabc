-- A text says its bytes: bytes as text have one reading only, so that of two texts of as many bytes in front of the same text the bytes are the
-- same, and what follows them. By the first byte, which tells whether it stands for itself. Assumes nothing.
use mathlib.Core.Path.{◌≡◌, refl, sym, ap, ap₂, ◌∙◌}
use mathlib.Core.Bool.{Bool, true, false, cond, true≢false}
use mathlib.Core.List.{[], ◌∷◌, ◌++◌, append_assoc}
use Prim.Native.Nat.{ℕ, pred, ◌+◌, ◌/◌, ◌%◌}
use native.Mathlib.Omega.{arith}
use lib.Dec.{ltb}
use lib.ListN.{length}
use borrow.Author.Tests.{ltb-true, ltb-false}
use Rattle.sheets.specs.Bytes.{Bytes}
use Rattle.sheets.specs.Text.{hex_digit, hex}
use Rattle.sheets.proofs.BytesLaws.{same_head, same_tail}
use Rattle.recorded_list.specs.ListText.{is_plain, byte_text, bytes_text, part_text}

-- ── one byte

pub plain_text_lem : (b : ℕ) → is_plain b ≡ true → byte_text b ≡ b ∷ []
unfolding byte_text
plain_text_lem b h = rw h

pub other_text : (b : ℕ) → is_plain b ≡ false → byte_text b ≡ 92 ∷ hex (b ∷ [])
unfolding byte_text
other_text b h = rw h

digit_same : (a b : ℕ) → hex_digit a ≡ hex_digit b → a ≡ b
digit_same a b e = pick (ltb a 10) (ltb b 10) refl refl e
  where
    pick : (t u : Bool) → ltb a 10 ≡ t → ltb b 10 ≡ u → cond t (48 + a) (87 + a) ≡ cond u (48 + b) (87 + b) → a ≡ b
    pick true true h k e = omega arith
    pick true false h k e = absurd (omega (arith, ltb-true a 10 h, ltb-false b 10 k))
    pick false true h k e = absurd (omega (arith, ltb-false a 10 h, ltb-true b 10 k))
    pick false false h k e = omega arith

halves_same : (b c : ℕ) → b / 16 ≡ c / 16 → b % 16 ≡ c % 16 → b ≡ c
halves_same b c h k = omega arith

module _ (b c : ℕ) (x y : Bytes) where
  plain_same : b ∷ x ≡ c ∷ y → (b ≡ c) × (x ≡ y)
  plain_same e = (same_head e, same_tail e)

  other_same : 92 ∷ (hex (b ∷ []) ++ x) ≡ 92 ∷ (hex (c ∷ []) ++ y) → (b ≡ c) × (x ≡ y)
  other_same e =
      let d = same_tail e in
      let h = digit_same (b / 16) (c / 16) (same_head d) in
      let l = digit_same (b % 16) (c % 16) (same_head (same_tail d)) in
      (halves_same b c h l, same_tail (same_tail d))

-- the backslash stands for no byte
mixed : (b : ℕ) (x y : Bytes) → is_plain b ≡ true → b ∷ x ≡ 92 ∷ y → ⊥
mixed b x y h e = true≢false (sym h ∙ ap is_plain (same_head e))

pub byte_same : (b c : ℕ) (x y : Bytes) → byte_text b ++ x ≡ byte_text c ++ y → (b ≡ c) × (x ≡ y)
unfolding byte_text
byte_same b c x y e = pick (is_plain b) (is_plain c) refl refl e
  where
    pick : (t u : Bool) → is_plain b ≡ t → is_plain c ≡ u → cond t (b ∷ []) (92 ∷ hex (b ∷ [])) ++ x ≡ cond u (c ∷ []) (92 ∷ hex (c ∷ [])) ++ y → (b ≡ c) × (x ≡ y)
    pick true true h k e = plain_same b c x y e
    pick true false h k e = absurd (mixed b x (hex (c ∷ []) ++ y) h e)
    pick false true h k e = absurd (mixed c y (hex (b ∷ []) ++ x) k (sym e))
    pick false false h k e = other_same b c x y e

-- ── bytes

pub bytes_append : (x y : Bytes) → bytes_text (x ++ y) ≡ bytes_text x ++ bytes_text y
unfolding bytes_text
bytes_append [] y = refl
bytes_append (b ∷ x) y = ap (λ (t : Bytes). byte_text b ++ t) (bytes_append x y) ∙ sym (append_assoc (byte_text b) (bytes_text x) (bytes_text y))

-- as many bytes in front of the same text
pub bytes_same : (x y a b : Bytes) → length x ≡ length y → bytes_text x ++ a ≡ bytes_text y ++ b → (x ≡ y) × (a ≡ b)
unfolding bytes_text
bytes_same [] [] a b n e = (refl, e)
bytes_same [] (c ∷ y) a b n e = absurd (omega arith)
bytes_same (c ∷ x) [] a b n e = absurd (omega arith)
bytes_same (c ∷ x) (d ∷ y) a b n e =
    let f = byte_same c d (bytes_text x ++ a) (bytes_text y ++ b) (sym (append_assoc (byte_text c) (bytes_text x) a) ∙ e ∙ append_assoc (byte_text d) (bytes_text y) b) in
    let r = bytes_same x y a b (ap pred n) f.1 in
    (ap₂ ◌∷◌ f.0 r.0, r.1)

pub part_same : (x y a b : Bytes) → length x ≡ length y → part_text x ++ a ≡ part_text y ++ b → (x ≡ y) × (a ≡ b)
unfolding part_text
part_same x y a b n e =
    let r = bytes_same x y (10 ∷ a) (10 ∷ b) n (sym (append_assoc (bytes_text x) (10 ∷ []) a) ∙ e ∙ append_assoc (bytes_text y) (10 ∷ []) b) in
    (r.0, same_tail r.1)
