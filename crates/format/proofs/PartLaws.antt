-- Parts of a format: what `cut` makes of the bytes before the colon, and the text of a part. By induction on the bytes. Assumes nothing.
use mathlib.Core.Path.{◌≡◌, refl, ◌∙◌, ap, ap₂}
use mathlib.Core.Bool.{Bool, true, false}
use mathlib.Core.List.{[], ◌∷◌}
use Rattle.std.specs.Prelude.{Option, None, Some}
use Prim.Native.Nat.{ℕ, suc, ◌+◌, ◌*◌, ◌-◌, ◌/◌, ◌≤◌, ◌<◌}
use native.Mathlib.Nat.{not-suc-le-zero}
use native.Mathlib.Numerals.{add-one}
use native.Mathlib.Omega.{arith}
use lib.Dec.{eqb}
use lib.ListN.{length, take, drop, length-drop}
use lib.Seq.{take_all}
use Rattle.sheets.specs.Bytes.{Bytes}
use Rattle.sheets.specs.Parts.{bytes_before}
use Rattle.sheets.specs.Format.{cut}
use Rattle.hexadecimal.specs.Hex.{is_hex, bytes_of}
use Rattle.hexadecimal.proofs.HexLaws.{length_bytes}
use Rattle.hexadecimal.proofs.PartLaws.{hex_drop, bytes_drop, hex_part, bytes_part}
use Rattle.format.specs.Parts.{format_part}

-- ── the first colon

abbrev Cuts : Bytes → ℕ → Type 0
Cuts b k = (k < length b → cut b ≡ Some (take k b, drop (suc k) b)) × (length b ≤ k → cut b ≡ None)

abbrev cut_step : ℕ → Bytes → Option (Bytes × Bytes) → Bool → Option (Bytes × Bytes)
cut_step x b o t = elim t [ true ↦ Some ([], b) | false ↦ elim o [ None ↦ None | Some hr ↦ Some (x ∷ hr.0, hr.1) ] ]

cut_step_lem : (x : ℕ) (b : Bytes) → cut (x ∷ b) ≡ cut_step x b (cut b) (eqb x 58)
cut_step_lem x b = refl

cuts : (b : Bytes) → Cuts b (bytes_before 58 b)
cuts [] = (λ h. absurd (not-suc-le-zero h), λ h. refl)
cuts (x ∷ b) = pick (eqb x 58) refl (cuts b)
  where
    pick : (t : Bool) → eqb x 58 ≡ t → Cuts b (bytes_before 58 b) → Cuts (x ∷ b) (bytes_before 58 (x ∷ b))
    pick true e h = rw e (λ l. cut_step_lem x b ∙ ap (cut_step x b (cut b)) e, λ l. absurd (omega arith))
    pick false e h = rw e (λ l. cut_step_lem x b ∙ ap₂ (cut_step x b) (h.0 (omega arith)) e, λ l. cut_step_lem x b ∙ ap₂ (cut_step x b) (h.1 (omega arith)) e)

pub cut_at : (b : Bytes) (k : ℕ) → k ≡ bytes_before 58 b → k < length b → cut b ≡ Some (take k b, drop (k + 1) b)
cut_at b k e h = rw (add-one k, e) ((cuts b).0 (rw e at h))

pub cut_none : (b : Bytes) (k : ℕ) → k ≡ bytes_before 58 b → length b ≤ k → cut b ≡ None
cut_none b k e h = (cuts b).1 (rw e at h)

-- ── the text of a part

pub part_hex : (s : Bytes) → is_hex s ≡ true → (from to : ℕ) → is_hex (take (2 * to - 2 * from) (drop (2 * from) s)) ≡ true
part_hex s h from to =
    let e : 2 * to - 2 * from ≡ 2 * (to - from) = omega arith in
    ap (λ (n : ℕ). is_hex (take n (drop (2 * from) s))) e ∙ hex_part s h from (to - from)

pub part_bytes : (s : Bytes) → is_hex s ≡ true → (from to : ℕ) → bytes_of (take (2 * to - 2 * from) (drop (2 * from) s)) ≡ format_part from to (bytes_of s)
part_bytes s h from to =
    let e : 2 * to - 2 * from ≡ 2 * (to - from) = omega arith in
    ap (λ (n : ℕ). bytes_of (take n (drop (2 * from) s))) e ∙ bytes_part s h from (to - from)

pub rest_part : (s : Bytes) → is_hex s ≡ true → (at : ℕ) → format_part at (length s / 2) (bytes_of s) ≡ drop at (bytes_of s)
rest_part s h at = take_all (length s / 2 - at) (drop at (bytes_of s)) (omega (arith, length-drop at (bytes_of s), length_bytes s h))

pub first_part : (k : ℕ) (b : Bytes) → format_part 0 k b ≡ take k b
first_part k b = let e : k - 0 ≡ k = omega arith in ap (λ (n : ℕ). take n b) e

-- what follows the separator at byte k
pub rest_hex : (s : Bytes) → is_hex s ≡ true → (k : ℕ) → is_hex (drop (2 * k + 2) s) ≡ true
rest_hex s h k =
    let e : 2 * k + 2 ≡ 2 * (k + 1) = omega arith in
    ap (λ (n : ℕ). is_hex (drop n s)) e ∙ hex_drop s h (k + 1)

pub rest_bytes : (s : Bytes) → is_hex s ≡ true → (k : ℕ) → bytes_of (drop (2 * k + 2) s) ≡ drop (k + 1) (bytes_of s)
rest_bytes s h k =
    let e : 2 * k + 2 ≡ 2 * (k + 1) = omega arith in
    ap (λ (n : ℕ). bytes_of (drop n s)) e ∙ bytes_drop s h (k + 1)

-- the text from place k on, as the code lends it
pub from_place : (s : Bytes) (k : ℕ) → take (length s - k) (drop k s) ≡ drop k s
from_place s k = take_all (length s - k) (drop k s) (omega (arith, length-drop k s))
