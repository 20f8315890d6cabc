-- Where no place of the column passes the test of `mentions`, no key is reserved: a reserved key has the digits of `W:` from its ninth on, and its pair is at least 41 bytes long.
-- Assumes nothing.
use mathlib.Core.Path.{◌≡◌, refl, sym, ap, subst, ◌∙◌}
use mathlib.Core.Bool.{Bool, true, false, ◌&&◌, ◌||◌, true≢false}
use mathlib.Core.List.{List, [], ◌∷◌, ◌++◌, append_assoc}
use Prim.Native.Nat.{ℕ, zero, suc, ◌+◌, ◌-◌, ◌≤◌, ◌<◌}
use native.Mathlib.Numerals.{add-one}
use native.Mathlib.Omega.{arith}
use lib.Dec.{eqb, ltb}
use lib.ListN.{length, get_or, drop, length-append, length-drop}
use lib.Seq.{drop-drop, get_or-drop}
use borrow.Author.Tests.{ltb-true, ltb-false}
use Rattle.sheets.specs.Bytes.{Bytes, comma, equals, same}
use Rattle.sheets.specs.Text.{hex}
use Rattle.sheets.specs.Field.{Pair}
use Rattle.sheets.specs.FieldSheet.{pair_text}
use Rattle.sheets.specs.Metadata.{name_key, metadata_key, reserved}
use Rattle.sheets.proofs.BytesLaws.{same_eq}
use Rattle.field_pairs.specs.Pairs.{pairs_of, after_commas, pairs_text, Pairs}
use Rattle.field_pairs.specs.Reserved.{any_reserved, has_digits, any_below, mentions_in}
use Rattle.field_pairs.proofs.PairsLaws.{pairs_of_lem}
use Rattle.field_pairs.proofs.ReservedLaws.{any_next}

-- ── the loop

abbrev pub mentions_below : Bytes → ℕ → Bool
mentions_below column n = any_below n (λ (i : ℕ). has_digits (drop i column))

module _ (column : Bytes) where
  pub mention_none : false ≡ mentions_below column 0
  unfolding any_below
  mention_none = refl

  pub mention_next : (i : ℕ) (found : Bool) → found ≡ mentions_below column i
      → (found || ((eqb (get_or column (i + 8) 0) 53 && eqb (get_or column (i + 9) 0) 55) && (eqb (get_or column (i + 10) 0) 51 && eqb (get_or column (i + 11) 0) 97))) ≡ mentions_below column (i + 1)
  unfolding any_below
  mention_next i found e = rw (add-one, e, get_or-drop i column 8 0, get_or-drop i column 9 0, get_or-drop i column 10 0, get_or-drop i column 11 0)

  pub mention_all : (n : ℕ) (found : Bool) → n ≡ length column - 40 → found ≡ mentions_below column n → found ≡ mentions_in column
  unfolding mentions_in
  mention_all n found e f = f ∙ ap (mentions_below column) e

-- ── what no mention tells

below_none : (n : ℕ) (f : ℕ → Bool) → any_below n f ≡ false → (i : ℕ) → i < n → f i ≡ false
unfolding any_below
below_none zero f e i h = absurd (omega arith)
below_none (suc n) f e i h = pick (ltb i n) refl (below_none n f (left (any_below n f) e) i)
  where
    left : (a : Bool) → (a || f n) ≡ false → a ≡ false
    left true d = d
    left false d = refl

    right : (a : Bool) → (a || f n) ≡ false → f n ≡ false
    right true d = absurd (true≢false d)
    right false d = d

    pick : (t : Bool) → ltb i n ≡ t → (i < n → f i ≡ false) → f i ≡ false
    pick true l g = g (ltb-true i n l)
    pick false l g =
        let last : i ≡ n = omega (arith, h, ltb-false i n l) in
        ap f last ∙ right (any_below n f) e

-- no place of the text passes the test
abbrev Silent : Bytes → Type 0
Silent t = (i : ℕ) → i + 41 ≤ length t → has_digits (drop i t) ≡ false

silent_after : (a b : Bytes) → Silent (a ++ b) → Silent b
silent_after [] b s = s
silent_after (x ∷ a) b s = silent_after a b (λ i h. s (suc i) (omega (arith, h)))

silent_commas : (ps : List Pair) → Silent (after_commas ps) → Silent (pairs_text ps)
silent_commas [] s = s
silent_commas (p ∷ ps) s = silent_after (comma ∷ []) (pairs_text (p ∷ ps)) s

silent_key : (k r : Bytes) → Silent (hex k ++ (equals ∷ r)) → reserved k ≡ false
silent_key k r s = pick (same k name_key) (same k metadata_key) (other name_key refl (omega arith)) (other metadata_key refl (omega arith))
  where
    other : (name : Bytes) → has_digits (hex name ++ (equals ∷ r)) ≡ true → 40 ≤ length (hex name) → same k name ≡ true → ⊥
    other name d l e =
        let t : Silent (hex name ++ (equals ∷ r)) = subst (λ (n : Bytes). Silent (hex n ++ (equals ∷ r))) (same_eq k name e) s in
        true≢false (sym d ∙ t 0 (omega (arith, l, length-append (hex name) (equals ∷ r))))

    pick : (a b : Bool) → (a ≡ true → ⊥) → (b ≡ true → ⊥) → (a || b) ≡ false
    pick true b n m = absurd (n refl)
    pick false true n m = absurd (m refl)
    pick false false n m = refl

none_silent : (ps : List Pair) → Silent (pairs_text ps) → any_reserved ps ≡ false
none_silent [] s = refl
none_silent (p ∷ ps) s =
    let r = hex p.1 ++ after_commas ps in
    let key : Silent (hex p.0 ++ (equals ∷ r)) = subst Silent (append_assoc (hex p.0) (equals ∷ hex p.1) (after_commas ps)) s in
    any_next p ps ∙ ap (λ (t : Bool). t || any_reserved ps) (silent_key p.0 r key) ∙ none_silent ps (silent_commas ps (silent_after (pair_text p) (after_commas ps) s))

pub reserved_unmentioned : (column : Bytes) (place : ℕ) → Pairs column place → mentions_in column ≡ false → any_reserved (pairs_of (drop place column)) ≡ false
unfolding mentions_in
reserved_unmentioned column place h e =
    let ps = h.text.pairs in
    let here : Silent (drop place column) = λ i l. ap has_digits (drop-drop i place column) ∙ below_none (length column - 40) (λ (j : ℕ). has_digits (drop j column)) e (place + i) (omega (arith, l, length-drop place column)) in
    ap any_reserved (ap pairs_of h.text.is ∙ pairs_of_lem ps h.text.rule) ∙ none_silent ps (subst Silent h.text.is here)
