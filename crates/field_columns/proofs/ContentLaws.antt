-- What a column holds, by its length and its bytes. Assumes nothing.
use mathlib.Core.Path.{◌≡◌, refl, sym, ◌∙◌, ap, ap₂}
use mathlib.Core.Logic.{◌≢◌}
use mathlib.Core.Bool.{Bool, true, false, cond, true≢false, and-false, and-true}
use mathlib.Core.List.{[], ◌∷◌}
use Rattle.std.specs.Prelude.{Option, None, Some}
use Prim.Native.Nat.{ℕ, ◌+◌, ◌≤◌}
use native.Mathlib.Omega.{arith}
use lib.Dec.{eqb}
use lib.ListN.{length, get_or}
use borrow.Author.Tests.{eqb-true, eqb-false}
use Rattle.sheets.specs.Refusal.{bad_lines}
use Rattle.sheets.specs.Rule.{Rule, is}
use Rattle.sheets.specs.Bytes.{Bytes, same}
use Rattle.sheets.specs.Answer.{Answer, refused, given, ◌>>=◌}
use Rattle.sheets.specs.Number.{decimal, read_number}
use Rattle.sheets.specs.Text.{unhex, read_text}
use Rattle.sheets.specs.Utf8.{is_utf8}
use Rattle.sheets.specs.Field.{text_rule}
use Rattle.sheets.specs.FieldSheet.{no_text, read_some, to_nat, bool_at}
use Rattle.sheets.proofs.Tests.{and_left, not_given}
use Rattle.sheets.proofs.BytesLaws.{same_refl}
use Rattle.sheets.proofs.HeadingLaws.{turned}
use Rattle.sheets.proofs.InverseLaws.{number_read, text_read}
use Rattle.hexadecimal.specs.Hex.{gives, is_hex, bytes_of}
use Rattle.hexadecimal.proofs.HexLaws.{unhex_is, unhex_not}
use Rattle.columns.specs.TextColumns.{is_text}
use Rattle.field_columns.specs.Lists.{keeps}
use Rattle.field_columns.specs.FieldColumns.{is_nothing, is_some_text, is_optional_text, is_flag}

-- ── `~`

pub nothing_long : (c : Bytes) → length c ≢ 1 → is_nothing c ≡ false
unfolding is_nothing
nothing_long [] h = refl
nothing_long (x ∷ []) h = absurd (h refl)
nothing_long (x ∷ y ∷ c) h = and-false (eqb 126 x)

pub nothing_one : (c : Bytes) → length c ≡ 1 → is_nothing c ≡ eqb (get_or c 0 0) 126
unfolding is_nothing
nothing_one [] h = absurd (omega arith)
nothing_one (x ∷ []) h = and-true (eqb 126 x) ∙ turned 126 x
nothing_one (x ∷ y ∷ c) h = absurd (omega arith)

-- ── texts

pub text_none : (c : Bytes) → length c ≡ 0 → is_some_text c ≡ false
unfolding is_some_text
text_none [] h = refl
text_none (x ∷ c) h = absurd (omega arith)

pub text_one : (c : Bytes) → length c ≡ 1 → is_some_text c ≡ eqb (get_or c 0 0) 45
unfolding is_some_text
text_one [] h = absurd (omega arith)
text_one (x ∷ []) h = pick (eqb x 126) (eqb x 45) refl refl
  where
    pick : (t u : Bool) → eqb x 126 ≡ t → eqb x 45 ≡ u → keeps (λ (b : Bytes). is (is_utf8 b)) (read_text (x ∷ []) >>= read_some) ≡ u
    pick true true e f = absurd (let a : x ≡ 126 = eqb-true x 126 e in let b : x ≡ 45 = eqb-true x 45 f in omega arith)
    pick true false e f = rw e
    pick false true e f = rw (e, f)
    pick false false e f = rw (e, f)
text_one (x ∷ y ∷ c) h = absurd (omega arith)

text_pairs : (c : Bytes) → 2 ≤ length c → read_text c ≡ (unhex c >>= λ bs. given (Some bs))
text_pairs [] h = absurd (omega arith)
text_pairs (x ∷ []) h = absurd (omega arith)
text_pairs (x ∷ y ∷ c) h = simp and-false

module _ (c : Bytes) (h : 2 ≤ length c) where
  pub text_not : is_hex c ≡ false → is_some_text c ≡ false
  unfolding is_some_text
  text_not e = ap (λ (a : Answer (Option Bytes)). keeps (λ (b : Bytes). is (is_utf8 b)) (a >>= read_some)) (text_pairs c h ∙ ap (λ (a : Answer Bytes). a >>= λ bs. given (Some bs)) (unhex_not c e))

  pub text_long : is_hex c ≡ true → is_some_text c ≡ is_utf8 (bytes_of c)
  unfolding is_some_text
  text_long e = ap (λ (a : Answer (Option Bytes)). keeps (λ (b : Bytes). is (is_utf8 b)) (a >>= read_some)) (text_pairs c h ∙ ap (λ (a : Answer Bytes). a >>= λ bs. given (Some bs)) (unhex_is c e))

pub optional_none : (c : Bytes) → is_nothing c ≡ true → is_optional_text c ≡ true
unfolding is_optional_text is_nothing
optional_none [] h = absurd (true≢false (sym h))
optional_none (x ∷ []) h = rw (turned x 126, and_left (eqb 126 x) true h)
optional_none (x ∷ y ∷ c) h = absurd (true≢false (sym h ∙ and-false (eqb 126 x)))

pub optional_some : (c : Bytes) → is_nothing c ≡ false → is_optional_text c ≡ is_some_text c
unfolding is_optional_text is_some_text is_nothing
optional_some c h = pick (read_text c) refl
  where
    pick : (a : Answer (Option Bytes)) → read_text c ≡ a → keeps text_rule a ≡ keeps (λ (b : Bytes). is (is_utf8 b)) (a >>= read_some)
    pick (refused r) e = refl
    pick (given None) e = absurd (true≢false (sym (ap (same no_text) (sym (text_read c None e)) ∙ same_refl no_text) ∙ h))
    pick (given (Some b)) e = refl

-- ── they are texts' columns

keeps_gives : {A : Type 0} (rule : A → Rule) (a : Answer A) → keeps rule a ≡ true → gives a ≡ true
keeps_gives rule (refused r) h = h
keeps_gives rule (given x) h = refl

then_gives : (a : Answer (Option Bytes)) → gives (a >>= read_some) ≡ true → gives a ≡ true
then_gives (refused r) h = h
then_gives (given t) h = refl

module _ (c : Bytes) where
  pub optional_text : is_optional_text c ≡ true → is_text c ≡ true
  unfolding is_optional_text is_text
  optional_text h = keeps_gives text_rule (read_text c) h

  pub some_text : is_some_text c ≡ true → is_text c ≡ true
  unfolding is_some_text is_text
  some_text h = then_gives (read_text c) (keeps_gives (λ (b : Bytes). is (is_utf8 b)) (read_text c >>= read_some) h)

  pub nothing_text : is_nothing c ≡ true → is_text c ≡ true
  nothing_text h = optional_text (optional_none c h)

-- ── 0 or 1

pub bit : (n : ℕ) (b : Bool) → bool_at n ≡ given b → n ≡ to_nat b
bit n b e = pick (eqb n 0) (eqb n 1) refl refl
  where
    both : {t u : Bool} → eqb n 0 ≡ t → eqb n 1 ≡ u → cond t (given false) (cond u (given true) (refused bad_lines)) ≡ given b
    both {t} {u} f g = sym (ap₂ (λ (x y : Bool). cond x (given false) (cond y (given true) (refused bad_lines))) f g) ∙ e

    pick : (t u : Bool) → eqb n 0 ≡ t → eqb n 1 ≡ u → n ≡ to_nat b
    pick true u f g =
        let z : ◌≡◌ {A = Answer Bool} (given false) (given b) = both f refl in
        let q : false ≡ b = cc in
        eqb-true n 0 f ∙ ap to_nat q
    pick false true f g =
        let z : ◌≡◌ {A = Answer Bool} (given true) (given b) = both f g in
        let q : true ≡ b = cc in
        eqb-true n 1 g ∙ ap to_nat q
    pick false false f g = not_given (both f g)

-- the column is the digit
pub flag_digit : (c : Bytes) (n : ℕ) (b : Bool) → read_number c ≡ given n → bool_at n ≡ given b → c ≡ (48 + to_nat b) ∷ []
unfolding decimal
flag_digit c n b e f = sym (number_read c n e) ∙ ap decimal (bit n b f) ∙ written b
  where
    written : (t : Bool) → decimal (to_nat t) ≡ (48 + to_nat t) ∷ []
    written true = refl
    written false = refl

pub flag_of_lem : (c : Bytes) → is_flag c ≡ true → (n : ℕ) × (b : Bool) × (read_number c ≡ given n) × (bool_at n ≡ given b)
unfolding is_flag
flag_of_lem c h = pick (read_number c) refl h
  where
    bool : (n : ℕ) → read_number c ≡ given n → (a : Answer Bool) → bool_at n ≡ a → gives a ≡ true → (n : ℕ) × (b : Bool) × (read_number c ≡ given n) × (bool_at n ≡ given b)
    bool n e (refused r) f g = absurd (true≢false (sym g))
    bool n e (given b) f g = (n, b, e, f)

    pick : (a : Answer ℕ) → read_number c ≡ a → gives (a >>= bool_at) ≡ true → (n : ℕ) × (b : Bool) × (read_number c ≡ given n) × (bool_at n ≡ given b)
    pick (refused r) e g = absurd (true≢false (sym g))
    pick (given n) e g = bool n e (bool_at n) refl g

pub flag_long : (c : Bytes) → length c ≢ 1 → is_flag c ≡ false
flag_long c h = pick (is_flag c) refl
  where
    pick : (t : Bool) → is_flag c ≡ t → t ≡ false
    pick true e = let w = flag_of_lem c e in absurd (h (ap length (flag_digit c w.0 w.1 w.2 w.3)))
    pick false e = refl

one_byte : (c : Bytes) → length c ≡ 1 → c ≡ get_or c 0 0 ∷ []
one_byte [] h = absurd (omega arith)
one_byte (x ∷ []) h = refl
one_byte (x ∷ y ∷ c) h = absurd (omega arith)

pub flag_zero : (c : Bytes) → length c ≡ 1 → get_or c 0 0 ≡ 48 → is_flag c ≡ true
unfolding is_flag
flag_zero c h e = ap (λ (b : Bytes). gives (read_number b >>= bool_at)) (one_byte c h ∙ ap (λ (x : ℕ). x ∷ []) e)

pub flag_one : (c : Bytes) → length c ≡ 1 → get_or c 0 0 ≢ 48 → is_flag c ≡ eqb (get_or c 0 0) 49
unfolding is_flag
flag_one c h d = pick (eqb (get_or c 0 0) 49) refl
  where
    pick : (t : Bool) → eqb (get_or c 0 0) 49 ≡ t → is_flag c ≡ t
    pick true e = ap (λ (b : Bytes). gives (read_number b >>= bool_at)) (one_byte c h ∙ ap (λ (x : ℕ). x ∷ []) (eqb-true (get_or c 0 0) 49 e))
    pick false e = other (is_flag c) refl
      where
        other : (t : Bool) → is_flag c ≡ t → t ≡ false
        other false f = refl
        other true f =
            let w = flag_of_lem c f in
            let byte : get_or c 0 0 ≡ 48 + to_nat w.1 = ap (λ (l : Bytes). get_or l 0 0) (flag_digit c w.0 w.1 w.2 w.3) in
            absurd (digit w.1 byte)
          where
            digit : (b : Bool) → get_or c 0 0 ≡ 48 + to_nat b → ⊥
            digit true q = eqb-false (get_or c 0 0) 49 e q
            digit false q = d q
