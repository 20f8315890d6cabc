-- The text of a text's column is pairs of digits, and they say its bytes. By the column's length: one byte is a mark. Assumes nothing.
use mathlib.Core.Path.{◌≡◌, refl, sym, ap, subst, ◌∙◌}
use mathlib.Core.Bool.{Bool, true, false, ◌&&◌, cond, true≢false}
use mathlib.Core.List.{[], ◌∷◌}
use Rattle.std.specs.Prelude.{Option, None, Some}
use Prim.Native.Nat.{ℕ}
use native.Mathlib.Omega.{arith}
use lib.Dec.{eqb}
use Rattle.sheets.specs.Refusal.{Refusal, bad_lines}
use Rattle.sheets.specs.Bytes.{Bytes}
use Rattle.sheets.specs.Answer.{Answer, refused, given, ◌>>=◌}
use Rattle.sheets.specs.Text.{unhex, read_text}
use Rattle.sheets.specs.Format.{or_empty}
use Rattle.hexadecimal.specs.Hex.{gives, given_or, is_hex, bytes_of}
use Rattle.schema_line.specs.Texts.{text_in}
use Rattle.schema_line.proofs.TextLaws.{text_whole}

and-false : (t : Bool) → (t && false) ≡ false
and-false true = refl
and-false false = refl

refused_given : {A : Type 0} (r : Refusal) (a : A) → refused r ≡ given a → ⊥
refused_given r a e = true≢false (sym (ap gives e))

abbrev marked : Bool → Bool → Answer (Option Bytes)
marked t u = cond (t && true) (given None) (cond (u && true) (given (Some [])) (refused bad_lines))

abbrev or_nothing : Answer (Option Bytes) → Bytes
or_nothing a = or_empty (given_or None a)

marked_empty : (t u : Bool) (x : Option Bytes) → marked t u ≡ given x → [] ≡ or_empty x
marked_empty true u x e = ap or_nothing e
marked_empty false true x e = ap or_nothing e
marked_empty false false x e = absurd (refused_given bad_lines x e)

pairs_text_lem : (a : Answer Bytes) (x : Option Bytes) → (a >>= λ bs. given (Some bs)) ≡ given x → (gives a ≡ true) × (given_or [] a ≡ or_empty x)
pairs_text_lem (refused r) x e = absurd (refused_given r x e)
pairs_text_lem (given b) x e = (refl, ap or_nothing e)

read_pairs : (c d : ℕ) (t : Bytes) → read_text (c ∷ d ∷ t) ≡ (unhex (c ∷ d ∷ t) >>= λ bs. given (Some bs))
read_pairs c d t = simp and-false

pub text_bytes : (t : Bytes) (x : Option Bytes) → read_text t ≡ given x → (is_hex (text_in t) ≡ true) × (bytes_of (text_in t) ≡ or_empty x)
unfolding text_in is_hex bytes_of
text_bytes [] x e = absurd (refused_given bad_lines x e)
text_bytes (c ∷ []) x e = (refl, marked_empty (eqb c 126) (eqb c 45) x e)
text_bytes (c ∷ d ∷ t) x e =
    subst (λ (y : Bytes). (is_hex y ≡ true) × (bytes_of y ≡ or_empty x)) (text_whole (c ∷ d ∷ t) (λ h. absurd (omega arith)))
    (pairs_text_lem (unhex (c ∷ d ∷ t)) x (sym (read_pairs c d t) ∙ e))
