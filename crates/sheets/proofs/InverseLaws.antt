-- What was read is what would be written: a number, a text, a sheet's lines have one text each. Assumes nothing.
use mathlib.Core.Path.{◌≡◌, refl, sym, ◌∙◌, ap}
use mathlib.Core.Logic.{◌≢◌}
use mathlib.Core.Bool.{Bool, true, false, ◌&&◌, cond}
use mathlib.Core.List.{List, [], ◌∷◌, ◌++◌, append_assoc}
use Rattle.std.specs.Prelude.{Option, None, Some}
use Prim.Native.Nat.{ℕ, zero, suc, ◌+◌, ◌*◌, ◌-◌, ◌/◌, ◌%◌, ◌<◌, ◌≤◌}
use native.Mathlib.Omega.{arith}
use lib.Dec.{eqb, ltb, leb}
use lib.IntN.{ℤ, pos, negsuc}
use lib.ListN.{length}
use borrow.Author.Tests.{ltb-false, lt-ltb, le-ltb, leb-true, eqb-true, eqb-false, not-true}
use Rattle.sheets.specs.Refusal.{not_sheet, bad_lines}
use Rattle.sheets.specs.Rule.{is, ◌and◌, Meets}
use Rattle.sheets.specs.Bytes.{Bytes, ascii, all, same, split, split_step, join, after}
use Rattle.sheets.specs.Answer.{refused, given, ◌>>=◌, when, found}
use Rattle.sheets.specs.Number.{is_digit, digits, decimal, value_from, lean, read_number, write_signed, negative, read_signed}
use Rattle.sheets.specs.Text.{hex_digit, hex, digit_value, unhex, write_text, read_text}
use Rattle.sheets.specs.Sheet.{ended, ended_lines, write_sheet, read_sheet}
use Rattle.sheets.proofs.Tests.{and_left, and_right, first_gave, met_when, never, not_some, not_given, same_given}
use Rattle.sheets.proofs.BytesLaws.{same_eq}
use Rattle.sheets.proofs.FormatLaws.{found_some}

-- ── numbers

-- more fuel than digits changes nothing
fuel : (k l n : ℕ) (rest : Bytes) → n < k → n < l → digits k n rest ≡ digits l n rest
fuel zero l n rest h g = absurd (omega arith)
fuel (suc k) zero n rest h g = absurd (omega arith)
fuel (suc k) (suc l) n rest h g = pick (ltb n 10) refl (fuel k l (n / 10) ((48 + n % 10) ∷ rest))
  where
    pick : (t : Bool) → ltb n 10 ≡ t → (n / 10 < k → n / 10 < l → digits k (n / 10) ((48 + n % 10) ∷ rest) ≡ digits l (n / 10) ((48 + n % 10) ∷ rest)) → digits (suc k) n rest ≡ digits (suc l) n rest
    pick true e next = rw (e, digits)
    pick false e next = rw (e, digits) (next (omega (arith, ltb-false n 10 e)) (omega (arith, ltb-false n 10 e)))

-- one digit more
push : (v c : ℕ) (rest : Bytes) → 1 ≤ v → is_digit c ≡ true → digits (suc (v * 10 + (c - 48))) (v * 10 + (c - 48)) rest ≡ digits (suc v) v (c ∷ rest)
push v c rest h d =
    let low : 48 ≤ c = leb-true 48 c (and_left (leb 48 c) (leb c 57) d) in
    let high : c ≤ 57 = leb-true c 57 (and_right (leb 48 c) (leb c 57) d) in
    let big : ltb (v * 10 + (c - 48)) 10 ≡ false = le-ltb (v * 10 + (c - 48)) 10 (omega arith) in
    let quotient : (v * 10 + (c - 48)) / 10 ≡ v = omega arith in
    let digit : 48 + (v * 10 + (c - 48)) % 10 ≡ c = omega arith in
    rw (big, digits) (rw (quotient, digit) (fuel (v * 10 + (c - 48)) (suc v) v (c ∷ rest) (omega arith) (omega arith)))

decimal_value : (b : Bytes) (v : ℕ) → 1 ≤ v → Meets (all is_digit b) → decimal (value_from v b) ≡ digits (suc v) v b
unfolding decimal
decimal_value [] v h d = refl
decimal_value (c ∷ b) v h d = decimal_value b (v * 10 + (c - 48)) (omega arith) d.1 ∙ push v c b h d.0

pub lean_decimal : (b : Bytes) → lean b ≡ true → Meets (all is_digit b) → decimal (value_from 0 b) ≡ b
unfolding decimal
lean_decimal [] l d = never l
lean_decimal (c ∷ []) l d =
    let low : 48 ≤ c = leb-true 48 c (and_left (leb 48 c) (leb c 57) d.0) in
    let high : c ≤ 57 = leb-true c 57 (and_right (leb 48 c) (leb c 57) d.0) in
    let small : ltb (c - 48) 10 ≡ true = lt-ltb (c - 48) 10 (omega arith) in
    let value : 0 * 10 + (c - 48) ≡ c - 48 = omega arith in
    let back : 48 + (c - 48) ≡ c = omega arith in
    rw value (rw (small, digits) (rw back))
lean_decimal (c ∷ e ∷ b) l d =
    let low : 48 ≤ c = leb-true 48 c (and_left (leb 48 c) (leb c 57) d.0) in
    let high : c ≤ 57 = leb-true c 57 (and_right (leb 48 c) (leb c 57) d.0) in
    let other : c ≢ 48 = eqb-false c 48 (not-true (eqb c 48) l) in
    let small : ltb (0 * 10 + (c - 48)) 10 ≡ true = lt-ltb (0 * 10 + (c - 48)) 10 (omega arith) in
    let back : 48 + (0 * 10 + (c - 48)) ≡ c = omega arith in
    decimal_value (e ∷ b) (0 * 10 + (c - 48)) (omega arith) d.1 ∙ rw (small, digits) (rw back)

pub number_read : (t : Bytes) (n : ℕ) → read_number t ≡ given n → decimal n ≡ t
number_read t n e =
    let r = met_when bad_lines (is (lean t) and all is_digit t) (value_from 0 t) n e in
    ap decimal (sym r.1) ∙ lean_decimal t r.0.0 r.0.1

negative_gave : (n : ℕ) (z : ℤ) → negative n ≡ given z → write_signed z ≡ 45 ∷ decimal n
negative_gave zero z e = not_given e
negative_gave (suc n) z e =
    let same : negsuc n ≡ z = cc in
    ap write_signed (sym same)

pub signed_read : (t : Bytes) (z : ℤ) → read_signed t ≡ given z → write_signed z ≡ t
signed_read [] z e = not_given e
signed_read (b ∷ bs) z e = pick (eqb b 45) refl e
  where
    pick : (s : Bool) → eqb b 45 ≡ s → cond s (read_number bs >>= negative) (read_number (b ∷ bs) >>= λ n. given (pos n)) ≡ given z → write_signed z ≡ b ∷ bs
    pick true s g =
        let q = first_gave (read_number bs) negative z g in
        negative_gave q.0 z q.2 ∙ ap (λ r. 45 ∷ r) (number_read bs q.0 q.1) ∙ ap (λ c. c ∷ bs) (sym (eqb-true b 45 s))
    pick false s g =
        let q = first_gave (read_number (b ∷ bs)) (λ n. given (pos n)) z g in
        let same : pos q.0 ≡ z = cc in
        ap write_signed (sym same) ∙ number_read (b ∷ bs) q.0 q.1

-- ── texts

digit_read : (x a : ℕ) → digit_value x ≡ given a → (hex_digit a ≡ x) × (a < 16)
digit_read x a e = pick (leb 48 x && leb x 57) refl e
  where
    Goal : Type 0
    Goal = (hex_digit a ≡ x) × (a < 16)

    letter : (t : Bool) → (leb 97 x && leb x 102) ≡ t → cond t (given (x - 87)) (refused bad_lines) ≡ given a → Goal
    letter true t g =
        let low : 97 ≤ x = leb-true 97 x (and_left (leb 97 x) (leb x 102) t) in
        let high : x ≤ 102 = leb-true x 102 (and_right (leb 97 x) (leb x 102) t) in
        let v : x - 87 ≡ a = cc in
        (rw (le-ltb a 10 (omega arith)) (omega arith), omega arith)
    letter false t g = not_given g

    pick : (t : Bool) → (leb 48 x && leb x 57) ≡ t → cond t (given (x - 48)) (cond (leb 97 x && leb x 102) (given (x - 87)) (refused bad_lines)) ≡ given a → Goal
    pick true t g =
        let low : 48 ≤ x = leb-true 48 x (and_left (leb 48 x) (leb x 57) t) in
        let high : x ≤ 57 = leb-true x 57 (and_right (leb 48 x) (leb x 57) t) in
        let v : x - 48 ≡ a = cc in
        (rw (lt-ltb a 10 (omega arith)) (omega arith), omega arith)
    pick false t g = letter (leb 97 x && leb x 102) refl g

hex_pair : (a b : ℕ) (r : Bytes) → a < 16 → b < 16 → hex ((16 * a + b) ∷ r) ≡ hex_digit a ∷ hex_digit b ∷ hex r
hex_pair a b r h k =
    let q : (16 * a + b) / 16 ≡ a = omega arith in
    let m : (16 * a + b) % 16 ≡ b = omega arith in
    rw (q, m)

-- two digits and what follows them
pair_read : (x y : ℕ) (r : Bytes) (a c : ℕ) (l b : Bytes) → (hex_digit a ≡ x) × (a < 16) → (hex_digit c ≡ y) × (c < 16) → given ((16 * a + c) ∷ l) ≡ given b → hex l ≡ r → hex b ≡ x ∷ y ∷ r
pair_read x y r a c l b dx dy same next =
    ap hex (sym (same_given same)) ∙ hex_pair a c l dx.1 dy.1 ∙ rw (dx.0, dy.0, next)

pub unhex_read : (t b : Bytes) → unhex t ≡ given b → hex b ≡ t
unhex_read [] b e =
    let same : [] ≡ b = cc in
    ap hex (sym same)
unhex_read (x ∷ []) b e = not_given e
unhex_read (x ∷ y ∷ r) b e =
    let p = first_gave (digit_value x) (λ a. digit_value y >>= λ c. unhex r >>= λ bs. given ((16 * a + c) ∷ bs)) b e in
    let q = first_gave (digit_value y) (λ c. unhex r >>= λ bs. given ((16 * p.0 + c) ∷ bs)) b p.2 in
    let s = first_gave (unhex r) (λ bs. given ((16 * p.0 + q.0) ∷ bs)) b q.2 in
    pair_read x y r p.0 q.0 s.0 b (digit_read x p.0 p.1) (digit_read y q.0 q.1) s.2 (unhex_read r s.0 s.1)

text_hex : (c : ℕ) (cs b : Bytes) → unhex (c ∷ cs) ≡ given b → write_text (Some b) ≡ c ∷ cs
text_hex c cs [] e =
    let z : [] ≡ c ∷ cs = unhex_read (c ∷ cs) [] e in
    absurd (let y : ◌≡◌ {A = ℕ} 0 1 = cc in omega arith)
text_hex c cs (x ∷ b) e = unhex_read (c ∷ cs) (x ∷ b) e

pub text_read : (t : Bytes) (x : Option Bytes) → read_text t ≡ given x → write_text x ≡ t
text_read [] x e = not_given e
text_read (c ∷ cs) x e = pick (same (c ∷ cs) (ascii "~")) refl (same (c ∷ cs) (ascii "-")) refl e
  where
    pick : (s : Bool) → same (c ∷ cs) (ascii "~") ≡ s → (d : Bool) → same (c ∷ cs) (ascii "-") ≡ d
        → cond s (given None) (cond d (given (Some [])) (unhex (c ∷ cs) >>= λ b. given (Some b))) ≡ given x → write_text x ≡ c ∷ cs
    pick true s d t g =
        let y : None ≡ x = cc in
        ap write_text (sym y) ∙ sym (same_eq (c ∷ cs) (ascii "~") s)
    pick false s true t g =
        let y : Some [] ≡ x = cc in
        ap write_text (sym y) ∙ sym (same_eq (c ∷ cs) (ascii "-") t)
    pick false s false t g =
        let q = first_gave (unhex (c ∷ cs)) (λ b. given (Some b)) x g in
        let y : Some q.0 ≡ x = cc in
        ap write_text (sym y) ∙ text_hex c cs q.0 q.1

-- ── lines and columns

pub split_some : (s : ℕ) (b : Bytes) → (p : Bytes) × (ps : List Bytes) × (split s b ≡ p ∷ ps)
split_some s [] = ([], [], refl)
split_some s (c ∷ b) = pick (eqb c s) (split s b)
  where
    pick : (t : Bool) (l : List Bytes) → (p : Bytes) × (ps : List Bytes) × (split_step t c l ≡ p ∷ ps)
    pick true l = ([], l, refl)
    pick false [] = (c ∷ [], [], refl)
    pick false (p ∷ ps) = (c ∷ p, ps, refl)

join_prepend : (s c : ℕ) (p : Bytes) (ps : List Bytes) → join s ((c ∷ p) ∷ ps) ≡ c ∷ join s (p ∷ ps)
join_prepend s c p [] = refl
join_prepend s c p (q ∷ ps) = refl

pub join_split : (s : ℕ) (b : Bytes) → join s (split s b) ≡ b
join_split s [] = refl
join_split s (c ∷ b) = pick (eqb c s) refl (split_some s b) (join_split s b)
  where
    pick : (t : Bool) → eqb c s ≡ t → (p : Bytes) × (ps : List Bytes) × (split s b ≡ p ∷ ps) → join s (split s b) ≡ b → join s (split_step t c (split s b)) ≡ c ∷ b
    pick true t (p, ps, e) next = rw (e) (ap (λ l. s ∷ l) (ap (join s) (sym e) ∙ next) ∙ ap (λ x. x ∷ b) (sym (eqb-true c s t)))
    pick false t (p, ps, e) next = rw e (join_prepend s c p ps ∙ ap (λ l. c ∷ l) (ap (join s) (sym e) ∙ next))

pub ended_join : (ps ls : List Bytes) → ended_lines ps ≡ given ls → ended ls ≡ join 10 ps
ended_join [] ls e = not_given e
ended_join ([] ∷ []) ls e =
    let same : [] ≡ ls = cc in
    ap ended (sym same)
ended_join ((b ∷ p) ∷ []) ls e = not_given e
ended_join (p ∷ q ∷ ps) ls e =
    let r = first_gave (ended_lines (q ∷ ps)) (λ l. given (p ∷ l)) ls e in
    let same : p ∷ r.0 ≡ ls = cc in
    ap ended (sym same) ∙ ap (λ l. p ++ (10 ∷ l)) (ended_join (q ∷ ps) r.0 r.1)

after_read : (p b r : Bytes) → after p b ≡ Some r → b ≡ p ++ r
after_read [] b r e = cc
after_read (x ∷ p) [] r e = not_some e
after_read (x ∷ p) (c ∷ b) r e = pick (eqb x c) refl (after_read p b r) e
  where
    pick : (t : Bool) → eqb x c ≡ t → (after p b ≡ Some r → b ≡ p ++ r) → cond t (after p b) None ≡ Some r → c ∷ b ≡ (x ∷ p) ++ r
    pick true t next g = ap (λ y. y ∷ b) (sym (eqb-true x c t)) ∙ ap (λ l. x ∷ l) (next g)
    pick false t next g = not_some g

pub sheet_read : (heading b : Bytes) (ls : List Bytes) → read_sheet heading b ≡ given ls → b ≡ write_sheet heading ls
sheet_read heading b ls e =
    let short = first_gave (when not_sheet (is (leb (length b) 65535)) b) (λ x. found not_sheet (after (heading ++ (10 ∷ [])) b) >>= λ body. ended_lines (split 10 body)) ls e in
    let body = first_gave (found not_sheet (after (heading ++ (10 ∷ [])) b)) (λ body. ended_lines (split 10 body)) ls short.2 in
    after_read (heading ++ (10 ∷ [])) b body.0 (found_some not_sheet (after (heading ++ (10 ∷ [])) b) body.0 body.1)
    ∙ append_assoc heading (10 ∷ []) body.0
    ∙ ap (λ l. heading ++ (10 ∷ l)) (sym (ended_join (split 10 body.0) ls body.2 ∙ join_split 10 body.0))

-- a sheet that was read may be handed in
pub sheet_length : (heading b : Bytes) (ls : List Bytes) → read_sheet heading b ≡ given ls → leb (length b) 65535 ≡ true
sheet_length heading b ls e =
    let short = first_gave (when not_sheet (is (leb (length b) 65535)) b) (λ x. found not_sheet (after (heading ++ (10 ∷ [])) b) >>= λ body. ended_lines (split 10 body)) ls e in
    (met_when not_sheet (is (leb (length b) 65535)) b short.0 short.1).0
