-- A byte's text at a place of the list: what the first byte tells, and, after a backslash, the two bytes behind it. Assumes nothing.
use mathlib.Core.Path.{◌≡◌, refl, sym, ap, ap₂, ◌∙◌}
use mathlib.Core.Bool.{Bool, true, false, true≢false}
use mathlib.Core.List.{[], ◌∷◌, ◌++◌}
use Prim.Native.Nat.{ℕ, ◌+◌, ◌-◌, ◌≤◌, ◌<◌}
use native.Mathlib.Numerals.{add-one}
use native.Mathlib.Omega.{arith}
use lib.ListN.{length, get_or, take, drop, length-append, length-take, length-drop, take-append-drop, drop_of_length-le}
use lib.Seq.{drop-cons, drop-drop}
use Rattle.sheets.specs.Rule.{Meets}
use Rattle.sheets.specs.Bytes.{Bytes, all, is_byte}
use Rattle.sheets.specs.Text.{hex}
use Rattle.hexadecimal.specs.Hex.{is_hex, bytes_of}
use Rattle.hexadecimal.proofs.HexLaws.{twice_length, bytes_below}
use Rattle.hexadecimal.proofs.PartLaws.{bytes_hex, is_hex_hex, hex_bytes}
use Rattle.recorded_list.specs.ListText.{is_plain, byte_text}
use Rattle.recorded_list.specs.Reads.{TextBetween, Missing}
use Rattle.sheets.proofs.BytesLaws.{same_head, same_tail}
use Rattle.recorded_list.proofs.TextLaws.{plain_text_lem, other_text}

-- the two bytes after the first
abbrev pub pair_at : Bytes → ℕ → Bytes
pair_at s at = take (at + 3 - (at + 1)) (drop (at + 1) s)

-- one byte whose two digits are the text
pub one_byte : (t : Bytes) → is_hex t ≡ true → length t ≡ 2 → hex (get_or (bytes_of t) 0 0 ∷ []) ≡ t
one_byte t h n = ap hex (sym (single (bytes_of t) (omega (arith, twice_length t h)))) ∙ hex_bytes t h
  where
    single : (x : Bytes) → length x ≡ 1 → x ≡ get_or x 0 0 ∷ []
    single [] e = absurd (omega arith)
    single (b ∷ []) e = refl
    single (b ∷ c ∷ x) e = absurd (omega arith)

pub is_byte_lem : (t : Bytes) → is_hex t ≡ true → length t ≡ 2 → is_byte (get_or (bytes_of t) 0 0) ≡ true
is_byte_lem t h n = first (bytes_of t) (omega (arith, twice_length t h)) (bytes_below t)
  where
    first : (x : Bytes) → length x ≡ 1 → Meets (all is_byte x) → is_byte (get_or x 0 0) ≡ true
    first [] e k = absurd (omega arith)
    first (b ∷ x) e k = k.0

module _ (s : Bytes) (at : ℕ) where
  pub nothing_there : length s ≤ at → (b : ℕ) → Missing s at (byte_text b)
  nothing_there h b rest e = pick (is_plain b) refl (sym (drop_of_length-le s h) ∙ e)
    where
      pick : (t : Bool) → is_plain b ≡ t → [] ≡ byte_text b ++ rest → ⊥
      pick true k e = let z : 0 ≡ length (b ∷ rest) = ap length (e ∙ ap (λ (x : Bytes). x ++ rest) (plain_text_lem b k)) in omega arith
      pick false k e = let z : 0 ≡ length (92 ∷ hex (b ∷ []) ++ rest) = ap length (e ∙ ap (λ (x : Bytes). x ++ rest) (other_text b k)) in omega arith

  module _ (h : at < length s) where
    here : drop at s ≡ get_or s at 0 ∷ drop (at + 1) s
    here = rw add-one (drop-cons s at 0 h)

    pub itself : is_plain (get_or s at 0) ≡ true → TextBetween s at (at + 1) (byte_text (get_or s at 0))
    itself k = record { is = here ∙ ap (λ (x : Bytes). x ++ drop (at + 1) s) (sym (plain_text_lem (get_or s at 0) k)); within = omega arith }

    module _ (k : is_plain (get_or s at 0) ≡ false) where
      -- a byte's text there has a backslash first
      escaped : (b : ℕ) (rest : Bytes) → drop at s ≡ byte_text b ++ rest → (is_plain b ≡ false) × (get_or s at 0 ≡ 92) × (drop (at + 1) s ≡ hex (b ∷ []) ++ rest)
      escaped b rest e = pick (is_plain b) refl (sym here ∙ e)
        where
          pick : (t : Bool) → is_plain b ≡ t → get_or s at 0 ∷ drop (at + 1) s ≡ byte_text b ++ rest → (is_plain b ≡ false) × (get_or s at 0 ≡ 92) × (drop (at + 1) s ≡ hex (b ∷ []) ++ rest)
          pick true p e =
              let q = same_head (e ∙ ap (λ (x : Bytes). x ++ rest) (plain_text_lem b p)) in
              absurd (true≢false (sym p ∙ ap is_plain (sym q) ∙ k))
          pick false p e =
              let q = e ∙ ap (λ (x : Bytes). x ++ rest) (other_text b p) in
              (p, same_head q, same_tail q)

      pub no_backslash : (get_or s at 0 ≡ 92 → ⊥) → (b : ℕ) → Missing s at (byte_text b)
      no_backslash n b rest e = n (escaped b rest e).1

      pub cut_off : length s - at < 3 → (b : ℕ) → Missing s at (byte_text b)
      cut_off n b rest e = omega (arith, ap length (escaped b rest e).2, length-drop (at + 1) s, length-append (hex (b ∷ [])) rest)

      pair_there : (b : ℕ) (rest : Bytes) → drop at s ≡ byte_text b ++ rest → pair_at s at ≡ hex (b ∷ [])
      pair_there b rest e =
          let two : at + 3 - (at + 1) ≡ 2 = omega arith in
          rw (two, (escaped b rest e).2)

      pub no_digits : is_hex (pair_at s at) ≡ false → (b : ℕ) → is_byte b ≡ true → Missing s at (byte_text b)
      no_digits n b l rest e = true≢false (sym (is_hex_hex (b ∷ []) (l, refl)) ∙ ap is_hex (sym (pair_there b rest e)) ∙ n)

      pub plain_escaped : is_plain (get_or (bytes_of (pair_at s at)) 0 0) ≡ true → (b : ℕ) → is_byte b ≡ true → Missing s at (byte_text b)
      plain_escaped n b l rest e =
          let same : get_or (bytes_of (pair_at s at)) 0 0 ≡ b = ap (λ (t : Bytes). get_or (bytes_of t) 0 0) (pair_there b rest e) ∙ ap (λ (t : Bytes). get_or t 0 0) (bytes_hex (b ∷ []) (l, refl)) in
          true≢false (sym n ∙ ap is_plain same ∙ (escaped b rest e).0)

    module _ (n : 3 ≤ length s - at) where
      pub pair_length : length (pair_at s at) ≡ 2
      pair_length = length-take (at + 3 - (at + 1)) (drop (at + 1) s) ∙ omega (arith, length-drop (at + 1) s)

      pub by_digits : get_or s at 0 ≡ 92 → is_hex (pair_at s at) ≡ true → is_plain (get_or (bytes_of (pair_at s at)) 0 0) ≡ false
          → (is_byte (get_or (bytes_of (pair_at s at)) 0 0) ≡ true) × TextBetween s at (at + 3) (byte_text (get_or (bytes_of (pair_at s at)) 0 0))
      by_digits b d p = (is_byte_lem (pair_at s at) d pair_length, record { is = stands; within = omega arith })
        where
          after : drop (at + 3 - (at + 1)) (drop (at + 1) s) ≡ drop (at + 3) s
          after = let w : at + 1 + (at + 3 - (at + 1)) ≡ at + 3 = omega arith in drop-drop (at + 3 - (at + 1)) (at + 1) s ∙ ap (λ (m : ℕ). drop m s) w

          rest : drop (at + 1) s ≡ hex (get_or (bytes_of (pair_at s at)) 0 0 ∷ []) ++ drop (at + 3) s
          rest = sym (take-append-drop (at + 3 - (at + 1)) (drop (at + 1) s)) ∙ ap₂ ◌++◌ (sym (one_byte (pair_at s at) d pair_length)) after

          stands : drop at s ≡ byte_text (get_or (bytes_of (pair_at s at)) 0 0) ++ drop (at + 3) s
          stands =
              here ∙ ap₂ ◌∷◌ b rest ∙ ap (λ (x : Bytes). x ++ drop (at + 3) s) (sym (other_text (get_or (bytes_of (pair_at s at)) 0 0) p))
