-- Heads of three bytes: two that are fixed, and a letter. By cases on the bytes. Assumes nothing.
use mathlib.Core.Path.{◌≡◌, refl, sym, ◌∙◌, ap}
use mathlib.Core.Logic.{◌≢◌}
use mathlib.Core.Bool.{Bool, true, false}
use mathlib.Core.List.{[], ◌∷◌}
use Rattle.std.specs.Prelude.{None}
use Prim.Native.Nat.{ℕ}
use native.Mathlib.Omega.{arith}
use lib.ListN.{length, take, get_or}
use borrow.Author.Tests.{ne_eqb}
use Rattle.sheets.specs.Bytes.{Bytes, ascii, same}
use Rattle.sheets.proofs.BytesLaws.{same_refl, same_eq}
use Rattle.sheets.proofs.SameLaws.{lengths_differ}
use Rattle.format_names.specs.Names.{head_unit, head_mode}

-- the first two bytes
three_is : (b : Bytes) (p q : ℕ) → length b ≡ 3 → same (take 2 b) (p ∷ q ∷ []) ≡ true → b ≡ p ∷ q ∷ get_or b 2 0 ∷ []
three_is [] p q e h = absurd (omega arith)
three_is (x ∷ []) p q e h = absurd (omega arith)
three_is (x ∷ y ∷ []) p q e h = absurd (omega arith)
three_is (x ∷ y ∷ z ∷ []) p q e h =
    let s : x ∷ y ∷ [] ≡ p ∷ q ∷ [] = same_eq (x ∷ y ∷ []) (p ∷ q ∷ []) h in
    cc
three_is (x ∷ y ∷ z ∷ w ∷ b) p q e h = absurd (omega arith)

-- other first bytes
three_not : (b : Bytes) (p q x : ℕ) → same (take 2 b) (p ∷ q ∷ []) ≡ false → same b (p ∷ q ∷ x ∷ []) ≡ false
three_not b p q x h = pick (same b (p ∷ q ∷ x ∷ [])) refl
  where
    pick : (t : Bool) → same b (p ∷ q ∷ x ∷ []) ≡ t → t ≡ false
    pick true e = sym (ap (λ (l : Bytes). same (take 2 l) (p ∷ q ∷ [])) (same_eq b (p ∷ q ∷ x ∷ []) e) ∙ same_refl (p ∷ q ∷ [])) ∙ h
    pick false e = refl

-- ── the unit of a timestamp

pub unit_length : (b : Bytes) → length b ≢ 3 → None ≡ head_unit b
unit_length b h = rw (lengths_differ b (ascii "tss") h, lengths_differ b (ascii "tsm") h, lengths_differ b (ascii "tsu") h, lengths_differ b (ascii "tsn") h)

pub unit_other : (b : Bytes) → same (take 2 b) (ascii "ts") ≡ false → None ≡ head_unit b
unit_other b h = rw (three_not b 116 115 115 h, three_not b 116 115 109 h, three_not b 116 115 117 h, three_not b 116 115 110 h)

-- the letter
pub unit_lettered : (b : Bytes) (z : ℕ) → length b ≡ 3 → same (take 2 b) (ascii "ts") ≡ true → get_or b 2 0 ≡ z → head_unit (116 ∷ 115 ∷ z ∷ []) ≡ head_unit b
unit_lettered b z e h l = ap (λ (x : ℕ). head_unit (116 ∷ 115 ∷ x ∷ [])) (sym l) ∙ ap head_unit (sym (three_is b 116 115 e h))

pub no_unit_lem : (z : ℕ) → z ≢ 115 → z ≢ 109 → z ≢ 117 → z ≢ 110 → None ≡ head_unit (116 ∷ 115 ∷ z ∷ [])
no_unit_lem z p q r s = rw (ne_eqb z 115 p, ne_eqb z 109 q, ne_eqb z 117 r, ne_eqb z 110 s)

-- ── the mode of a union

pub mode_length : (b : Bytes) → length b ≢ 3 → None ≡ head_mode b
mode_length b h = rw (lengths_differ b (ascii "+ud") h, lengths_differ b (ascii "+us") h)

pub mode_other : (b : Bytes) → same (take 2 b) (ascii "+u") ≡ false → None ≡ head_mode b
mode_other b h = rw (three_not b 43 117 100 h, three_not b 43 117 115 h)

pub mode_lettered : (b : Bytes) (z : ℕ) → length b ≡ 3 → same (take 2 b) (ascii "+u") ≡ true → get_or b 2 0 ≡ z → head_mode (43 ∷ 117 ∷ z ∷ []) ≡ head_mode b
mode_lettered b z e h l = ap (λ (x : ℕ). head_mode (43 ∷ 117 ∷ x ∷ [])) (sym l) ∙ ap head_mode (sym (three_is b 43 117 e h))

pub no_mode : (z : ℕ) → z ≢ 100 → z ≢ 115 → None ≡ head_mode (43 ∷ 117 ∷ z ∷ [])
no_mode z p q = rw (ne_eqb z 100 p, ne_eqb z 115 q)
