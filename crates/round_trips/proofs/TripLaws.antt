-- The parts of a buffer that a length tells; two steps from their contracts; and each way out of `round_trip` and `same_exports`: the two pairs of steps
-- give the answer, and the buffers are cleared or as the steps left them. A `rw` for each way; no induction. Assumes nothing.
use mathlib.Core.Path.{◌≡◌, refl, sym, ◌∙◌, ap, subst}
use mathlib.Core.Logic.{◌≢◌}
use mathlib.Core.Bool.{Bool, true, false}
use Rattle.std.specs.Prelude.{Result, Ok, Err}
use Prim.Native.Nat.{ℕ, min}
use native.Mathlib.Omega.{arith}
use lib.Dec.{leb}
use lib.ListN.{length, take, drop, replicate, length-append, length-drop, length-replicate}
use lib.Seq.{length-take-le, take_all}
use borrow.Author.Tests.{ne_eqb, leb-true, leb-false}
use Rattle.sheets.specs.Bytes.{Bytes, same}
use Rattle.sheets.specs.Answer.{Answer}
use Rattle.sheets.specs.Outcome.{Outcome, outcome, imported, exported, exported_as, import_outcome_in, export_outcome_in, export_outcome_as, plain_outcome}
use Rattle.sheets.specs.Demand3.{written}
use Rattle.sheets.specs.RoundTrip.{Steps, Buffers, step_buffers, cleared, round_trip_number, trip_steps, trip_answer, round_trip_outcome_as, same_exports_number, pair_steps, pair_answer, same_exports_outcome}
use Rattle.sheets.proofs.OutcomeLaws.{refusal_empty, Cases, turned_back, too_long, answered, cases}
use Rattle.sheets.proofs.RoundTripLaws.{after_refusal, after_answer}
use Rattle.outcome.specs.declared.Refused.{Refused}
use Rattle.outcome.proofs.AnswerLaws.{refused_some}
use Rattle.outcome.specs.Answers.{refused_number, numbers_outcome, outcome_of}
use Rattle.round_trips.specs.declared.TwoSteps.{TwoSteps}
use Rattle.round_trips.specs.declared.RoundTrip.{RoundTrip}
use Rattle.round_trips.specs.declared.SameExports.{SameExports}
use Rattle.round_trips.specs.Trips.{trip_told, pair_told, four, trip_of, pair_of, Zeros, Told}

-- ── the first n bytes, or all where there are fewer

pub part_length : (m n : ℕ) (a : Bytes) → m ≡ min n (length a) → m ≡ length (take m a)
part_length m n a h = sym (length-take-le m a (omega arith))

pub part_same : (m n : ℕ) (a : Bytes) → m ≡ min n (length a) → take m a ≡ take n a
part_same m n a h = pick (leb n (length a)) refl
  where
    pick : (t : Bool) → leb n (length a) ≡ t → take m a ≡ take n a
    pick true e =
        let k : m ≡ n = omega (arith, leb-true n (length a) e) in
        ap (λ (i : ℕ). take i a) k
    pick false e = take_all m a (omega (arith, leb-false n (length a) e)) ∙ sym (take_all n a (omega (arith, leb-false n (length a) e)))

pub parts_same : (r : Bool) (i n j m : ℕ) (a b : Bytes) → i ≡ min n (length a) → j ≡ min m (length b) → r ≡ same (take i a) (take j b) → r ≡ same (take n a) (take m b)
parts_same r i n j m a b h k e = e ∙ ap (λ (x : Bytes). same x (take j b)) (part_same i n a h) ∙ ap (same (take n a)) (part_same j m b k)

-- ── two steps, from their contracts

-- the buffer is as long as it was
outcome_length : (e : Answer Bytes) (out : Bytes) → length (outcome e out).buffer ≡ length out
outcome_length e out = go (cases e out)
  where
    go : Cases e out → length (outcome e out).buffer ≡ length out
    go (turned_back r q o) = ap (λ (y : Outcome). length y.buffer) o ∙ length-replicate (length out) 0
    go (too_long x q l o) = ap (λ (y : Outcome). length y.buffer) o ∙ length-replicate (length out) 0
    go (answered x q l o) = ap (λ (y : Outcome). length y.buffer) o ∙ length-append x (drop (length x) out) ∙ omega (arith, length-drop (length x) out)

module _ (e : Answer Bytes) (number size : ℕ) (out out' : Bytes) (told : numbers_outcome number size out' ≡ outcome e out) where
  -- cleared after the step
  cleared_later : (later : Bytes) → Zeros out' later → Zeros out later
  cleared_later later z = z ∙ ap (λ (n : ℕ). replicate n 0) (ap (λ (y : Outcome). length y.buffer) told ∙ outcome_length e out)

  -- cleared by its refusal
  cleared_self : number ≢ 0 → Zeros out out'
  cleared_self h = ap (λ (y : Outcome). y.buffer) told ∙ (refusal_empty e out (λ q. h (ap (λ (y : Outcome). y.number) told ∙ q))).1

number_of_lem : {n l : ℕ} {out : Bytes} {y : Outcome} → numbers_outcome n l out ≡ y → y.number ≡ n
number_of_lem h = ap (λ (y : Outcome). y.number) (sym h)

-- a step's outcome, where its result is known
known : {x y : Result ℕ Refused} {out : Bytes} {o : Outcome} → x ≡ y → outcome_of x out ≡ o → outcome_of y out ≡ o
known {out = out} {o = o} i h = subst (λ (r : Result ℕ Refused). outcome_of r out ≡ o) i h

module _ (e f : Answer Bytes) (a b a' : Bytes) (x : Result ℕ Refused) (one : outcome_of x a' ≡ outcome e a) where
  pub first_out : (r : Refused) → x ≡ Err r → (b' : Bytes) → Zeros b b' → Told (outcome e a) (outcome f b) a b a' b' (TwoSteps.FirstRefused r)
  first_out r i b' z =
      let o : outcome_of (Err r) a' ≡ outcome e a = known i one in (number_of_lem o, refused_some r, cleared_self e (refused_number r) 0 a a' o (refused_some r), z)

  module _ (l : ℕ) (i : x ≡ Ok l) (b' : Bytes) (y : Result ℕ Refused) (two : outcome_of y b' ≡ outcome f b) where
    wrote : outcome_of (Ok l) a' ≡ outcome e a
    wrote = known i one

    pub second_out : (r : Refused) → y ≡ Err r → (a'' : Bytes) → Zeros a' a'' → Told (outcome e a) (outcome f b) a b a'' b' (TwoSteps.SecondRefused r)
    second_out r j a'' z =
        let o : outcome_of (Err r) b' ≡ outcome f b = known j two in
        (number_of_lem wrote, number_of_lem o, refused_some r, cleared_later e 0 l a a' wrote a'' z, cleared_self f (refused_number r) 0 b b' o (refused_some r))

    pub both_out : (m : ℕ) → y ≡ Ok m → Told (outcome e a) (outcome f b) a b a' b' (TwoSteps.Written l m)
    both_out m j = (wrote, known j two)

-- what the first step wrote is handed to the second
pub handed : (f : Bytes → Answer Bytes) (n : ℕ) (a' b b' : Bytes) (x y : Result ℕ Refused) (o : Outcome) → outcome_of x a' ≡ o → (l : ℕ) → x ≡ Ok l → n ≡ min l (length a')
    → outcome_of y b' ≡ outcome (f (take n a')) b → outcome_of y b' ≡ outcome (f (written o)) b
handed f n a' b b' x y o one l i within two =
    let wrote : outcome_of (Ok l) a' ≡ o = known i one in two ∙ ap (λ (q : Bytes). outcome (f q) b) (part_same n l a' within ∙ ap written wrote)

-- ── the call, from its answer

module _ (strict big : Bool) (s : Bytes) (out : Buffers) where
  trip_refused : (bs : Buffers) (r : RoundTrip) → trip_answer (trip_steps strict big s out) ≡ trip_told r → round_trip_number (trip_told r) ≢ 0 → bs ≡ cleared out → trip_of r bs ≡ round_trip_outcome_as strict big s out
  trip_refused bs r h k e =
      let b = after_refusal (round_trip_number (trip_answer (trip_steps strict big s out))) (trip_steps strict big s out) out (λ z. k (sym (ap round_trip_number h) ∙ z)) in
      λ i. record { answer = sym h i; buffers = (e ∙ sym b) i }

  trip_answered : (t : Steps) (r : RoundTrip) → trip_steps strict big s out ≡ t → trip_answer t ≡ trip_told r → round_trip_number (trip_told r) ≡ 0 → trip_of r (step_buffers t) ≡ round_trip_outcome_as strict big s out
  trip_answered t r e h k =
      let a = ap trip_answer e ∙ h in
      let b = after_answer (round_trip_number (trip_answer (trip_steps strict big s out))) (trip_steps strict big s out) out (ap round_trip_number a ∙ k) in
      λ i. record { answer = sym a i; buffers = (ap step_buffers (sym e) ∙ sym b) i }

module _ (big : Bool) (s t : Bytes) (out : Buffers) where
  pair_refused : (bs : Buffers) (r : SameExports) → pair_answer (pair_steps big s t out) ≡ pair_told r → same_exports_number (pair_told r) ≢ 0 → bs ≡ cleared out → pair_of r bs ≡ same_exports_outcome big s t out
  pair_refused bs r h k e =
      let b = after_refusal (same_exports_number (pair_answer (pair_steps big s t out))) (pair_steps big s t out) out (λ z. k (sym (ap same_exports_number h) ∙ z)) in
      λ i. record { answer = sym h i; buffers = (e ∙ sym b) i }

  pair_answered : (u : Steps) (r : SameExports) → pair_steps big s t out ≡ u → pair_answer u ≡ pair_told r → same_exports_number (pair_told r) ≡ 0 → pair_of r (step_buffers u) ≡ same_exports_outcome big s t out
  pair_answered u r e h k =
      let a = ap pair_answer e ∙ h in
      let b = after_answer (same_exports_number (pair_answer (pair_steps big s t out))) (pair_steps big s t out) out (ap same_exports_number a ∙ k) in
      λ i. record { answer = sym a i; buffers = (ap step_buffers (sym e) ∙ sym b) i }

-- ── `round_trip`; a prime marks a buffer after its step, two primes one that was cleared later

module _ (strict big : Bool) (s a b c d a' b' : Bytes) where
  abbrev lent : Buffers
  lent = four a b c d

  abbrev Done : RoundTrip → Buffers → Type 0
  Done r bs = trip_of r bs ≡ round_trip_outcome_as strict big s lent

  abbrev Back : TwoSteps → Type 0
  Back r = Told (export_outcome_as strict big s a) (import_outcome_in big (written (export_outcome_as strict big s a)) b) a b a' b' r

  pub export_out : (r : TwoSteps) → Back r → (n : Refused) → r ≡ TwoSteps.FirstRefused n → (c' d' : Bytes) → Zeros c c' → Zeros d d' → Done (RoundTrip.ExportRefused n) (four a' b' c' d')
  export_out r h n e c' d' z y =
      let t : Back (TwoSteps.FirstRefused n) = subst Back e h in
      trip_refused strict big s lent (four a' b' c' d') (RoundTrip.ExportRefused n) (rw (t.0, ne_eqb (refused_number n) 0 t.1)) t.1 (λ i. record { first = t.2 i; second = t.3 i; third = z i; fourth = y i })

  pub import_out : (r : TwoSteps) → Back r → (n : Refused) → r ≡ TwoSteps.SecondRefused n → (c' d' : Bytes) → Zeros c c' → Zeros d d' → Done (RoundTrip.ImportRefused n) (four a' b' c' d')
  import_out r h n e c' d' z y =
      let t : Back (TwoSteps.SecondRefused n) = subst Back e h in
      trip_refused strict big s lent (four a' b' c' d') (RoundTrip.ImportRefused n) (rw (t.0, t.1, ne_eqb (refused_number n) 0 t.2)) t.2 (λ i. record { first = t.3 i; second = t.4 i; third = z i; fourth = y i })

  module _ (r : TwoSteps) (h : Back r) (l m : ℕ) (e : r ≡ TwoSteps.Written l m) (c' d' : Bytes) where
    t : Back (TwoSteps.Written l m)
    t = subst Back e h

    abbrev Again : TwoSteps → Type 0
    Again r = Told (plain_outcome s c) (export_outcome_as strict big (written (plain_outcome s c)) d) c d c' d' r

    zero_1 : (export_outcome_as strict big s a).number ≡ 0
    zero_1 = number_of_lem t.0

    zero_2 : (import_outcome_in big (written (export_outcome_as strict big s a)) b).number ≡ 0
    zero_2 = number_of_lem t.1

    module _ (a'' b'' : Bytes) (z : Zeros a' a'') (y : Zeros b' b'') where
      both_clear : Zeros a a'' × Zeros b b''
      both_clear = (cleared_later (exported_as strict big s) 0 l a a' t.0 a'' z, cleared_later (imported big (written (export_outcome_as strict big s a))) 0 m b b' t.1 b'' y)

      pub plain_out : (q : TwoSteps) → Again q → (n : Refused) → q ≡ TwoSteps.FirstRefused n → Done (RoundTrip.PlainRefused n) (four a'' b'' c' d')
      plain_out q k n f =
          let u : Again (TwoSteps.FirstRefused n) = subst Again f k in
          trip_refused strict big s lent (four a'' b'' c' d') (RoundTrip.PlainRefused n) (rw (zero_1, zero_2, u.0, ne_eqb (refused_number n) 0 u.1)) u.1
          (λ i. record { first = both_clear.0 i; second = both_clear.1 i; third = u.2 i; fourth = u.3 i })

      pub again_out : (q : TwoSteps) → Again q → (n : Refused) → q ≡ TwoSteps.SecondRefused n → Done (RoundTrip.AgainRefused n) (four a'' b'' c' d')
      again_out q k n f =
          let u : Again (TwoSteps.SecondRefused n) = subst Again f k in
          trip_refused strict big s lent (four a'' b'' c' d') (RoundTrip.AgainRefused n) (rw (zero_1, zero_2, u.0, u.1, ne_eqb (refused_number n) 0 u.2)) u.2
          (λ i. record { first = both_clear.0 i; second = both_clear.1 i; third = u.3 i; fourth = u.4 i })

    module _ (v : TwoSteps) (k : Again v) (p q : ℕ) (f : v ≡ TwoSteps.Written p q) where
      u : Again (TwoSteps.Written p q)
      u = subst Again f k

      abbrev left : Steps
      left = record { first = numbers_outcome 0 l a'; second = numbers_outcome 0 m b'; third = numbers_outcome 0 p c'; fourth = numbers_outcome 0 q d' }

      are : trip_steps strict big s lent ≡ left
      are = λ i. record { first = sym t.0 i; second = sym t.1 i; third = sym u.0 i; fourth = sym u.1 i }

      pub import_apart : same (take m b') (take p c') ≡ false → Done RoundTrip.ImportDiffers (four a' b' c' d')
      import_apart i = trip_answered strict big s lent left RoundTrip.ImportDiffers are (rw i) refl

      pub again_apart : same (take m b') (take p c') ≡ true → same (take q d') (take l a') ≡ false → Done RoundTrip.AgainDiffers (four a' b' c' d')
      again_apart i j = trip_answered strict big s lent left RoundTrip.AgainDiffers are (rw (i, j)) refl

      pub all_alike : same (take m b') (take p c') ≡ true → same (take q d') (take l a') ≡ true → Done RoundTrip.AllSame (four a' b' c' d')
      all_alike i j = trip_answered strict big s lent left RoundTrip.AllSame are (rw (i, j)) refl

-- ── `same_exports`

module _ (big : Bool) (s t a b c d a' b' : Bytes) where
  abbrev handed_in : Buffers
  handed_in = four a b c d

  abbrev Compares : SameExports → Buffers → Type 0
  Compares r bs = pair_of r bs ≡ same_exports_outcome big s t handed_in

  abbrev Exports : TwoSteps → Type 0
  Exports r = Told (export_outcome_in big s a) (export_outcome_in big t b) a b a' b' r

  pub one_export_out : (r : TwoSteps) → Exports r → (n : Refused) → r ≡ TwoSteps.FirstRefused n → (c' d' : Bytes) → Zeros c c' → Zeros d d' → Compares (SameExports.OneExportRefused n) (four a' b' c' d')
  one_export_out r h n e c' d' z y =
      let v : Exports (TwoSteps.FirstRefused n) = subst Exports e h in
      pair_refused big s t handed_in (four a' b' c' d') (SameExports.OneExportRefused n) (rw (v.0, ne_eqb (refused_number n) 0 v.1)) v.1 (λ i. record { first = v.2 i; second = v.3 i; third = z i; fourth = y i })

  pub other_export_out : (r : TwoSteps) → Exports r → (n : Refused) → r ≡ TwoSteps.SecondRefused n → (c' d' : Bytes) → Zeros c c' → Zeros d d' → Compares (SameExports.OtherExportRefused n) (four a' b' c' d')
  other_export_out r h n e c' d' z y =
      let v : Exports (TwoSteps.SecondRefused n) = subst Exports e h in
      pair_refused big s t handed_in (four a' b' c' d') (SameExports.OtherExportRefused n) (rw (v.0, v.1, ne_eqb (refused_number n) 0 v.2)) v.2 (λ i. record { first = v.3 i; second = v.4 i; third = z i; fourth = y i })

  module _ (r : TwoSteps) (h : Exports r) (l m : ℕ) (e : r ≡ TwoSteps.Written l m) (c' d' : Bytes) where
    v : Exports (TwoSteps.Written l m)
    v = subst Exports e h

    abbrev Plains : TwoSteps → Type 0
    Plains r = Told (plain_outcome s c) (plain_outcome t d) c d c' d' r

    first_zero : (export_outcome_in big s a).number ≡ 0
    first_zero = number_of_lem v.0

    second_zero : (export_outcome_in big t b).number ≡ 0
    second_zero = number_of_lem v.1

    module _ (a'' b'' : Bytes) (z : Zeros a' a'') (y : Zeros b' b'') where
      exports_clear : Zeros a a'' × Zeros b b''
      exports_clear = (cleared_later (exported big s) 0 l a a' v.0 a'' z, cleared_later (exported big t) 0 m b b' v.1 b'' y)

      pub one_plain_out : (q : TwoSteps) → Plains q → (n : Refused) → q ≡ TwoSteps.FirstRefused n → Compares (SameExports.OnePlainRefused n) (four a'' b'' c' d')
      one_plain_out q k n f =
          let u : Plains (TwoSteps.FirstRefused n) = subst Plains f k in
          pair_refused big s t handed_in (four a'' b'' c' d') (SameExports.OnePlainRefused n) (rw (first_zero, second_zero, u.0, ne_eqb (refused_number n) 0 u.1)) u.1
          (λ i. record { first = exports_clear.0 i; second = exports_clear.1 i; third = u.2 i; fourth = u.3 i })

      pub other_plain_out : (q : TwoSteps) → Plains q → (n : Refused) → q ≡ TwoSteps.SecondRefused n → Compares (SameExports.OtherPlainRefused n) (four a'' b'' c' d')
      other_plain_out q k n f =
          let u : Plains (TwoSteps.SecondRefused n) = subst Plains f k in
          pair_refused big s t handed_in (four a'' b'' c' d') (SameExports.OtherPlainRefused n) (rw (first_zero, second_zero, u.0, u.1, ne_eqb (refused_number n) 0 u.2)) u.2
          (λ i. record { first = exports_clear.0 i; second = exports_clear.1 i; third = u.3 i; fourth = u.4 i })

    pub compared_out : (w : TwoSteps) → Plains w → (p q : ℕ) → w ≡ TwoSteps.Written p q → (x y : Bool) → x ≡ same (take l a') (take m b') → y ≡ same (take p c') (take q d') → Compares (SameExports.Compared x y) (four a' b' c' d')
    compared_out w k p q g x y i j =
        let u : Plains (TwoSteps.Written p q) = subst Plains g k in
        pair_answered big s t handed_in (record { first = numbers_outcome 0 l a'; second = numbers_outcome 0 m b'; third = numbers_outcome 0 p c'; fourth = numbers_outcome 0 q d' }) (SameExports.Compared x y)
        (λ o. record { first = sym v.0 o; second = sym v.1 o; third = sym u.0 o; fourth = sym u.1 o }) (rw (i, j)) refl
