-- A line's cut at a space beside its end. Assumes nothing.
use mathlib.Core.Path.{◌≡◌, refl, sym, ap, ap₂}
use mathlib.Core.List.{[], ◌∷◌, ◌++◌}
use Prim.Native.Nat.{ℕ}
use native.Mathlib.Omega.{arith}
use Rattle.sheets.specs.Rule.{Meets}
use Rattle.sheets.specs.Bytes.{Bytes, lacks}
use Rattle.sheets.proofs.BytesLaws.{same_head, same_tail, lacked}

pub lacks_front : (t : ℕ) (a b : Bytes) → Meets (lacks t (a ++ b)) → Meets (lacks t a)
lacks_front t [] b h = refl
lacks_front t (x ∷ a) b h = (h.0, lacks_front t a b h.1)

pub lacks_back : (t x : ℕ) (a b : Bytes) → Meets (lacks t (a ++ (x ∷ b))) → Meets (lacks t b)
lacks_back t x [] b h = h.1
lacks_back t x (y ∷ a) b h = lacks_back t x a b h.1

-- a space that stands before the end of a line stands in the line
pub cut_space : (a y m rest : Bytes) → a ++ (32 ∷ y) ≡ m ++ (10 ∷ rest) → Meets (lacks 10 a) → (n : Bytes) × (m ≡ a ++ (32 ∷ n)) × (y ≡ n ++ (10 ∷ rest))
cut_space [] y [] rest e h = absurd (let z : 32 ≡ 10 = same_head e in omega arith)
cut_space [] y (b ∷ m) rest e h = (m, ap (λ (x : ℕ). x ∷ m) (sym (same_head e)), same_tail e)
cut_space (c ∷ a) y [] rest e h = absurd (lacked 10 c h.0 (same_head e))
cut_space (c ∷ a) y (b ∷ m) rest e h =
    let r = cut_space a y m rest (same_tail e) h.1 in
    (r.0, ap₂ ◌∷◌ (sym (same_head e)) r.1, r.2)
