-- The impostors of document 01 are shut out, once for every defined call: two things that are handed in and look alike, whose answers have two
-- lengths, and one that is refused, tell the call from all of them (`Telling`, `shut_out`). For a call that is handed lines the two are sheets with one
-- first line and as many bytes and lines after it (`TellingLines`, `lines_shut_out`). `ImpostorSheets` has the sheets for each call. Assumes nothing.
use mathlib.Core.Path.{◌≡◌, ap, sym, ◌∙◌}
use mathlib.Core.Logic.{◌↔◌}
use mathlib.Core.List.{[], ◌∷◌, ◌++◌}
use Prim.Native.Nat.{ℕ, zero, suc, ◌≤◌, ◌<◌}
use native.Mathlib.Omega.{arith}
use lib.ListN.{length, take, replicate, get_or, length-replicate}
use Rattle.sheets.specs.Refusal.{Refusal, not_sheet, no_room, number_of}
use Rattle.sheets.specs.Bytes.{Bytes, line_end, split}
use Rattle.sheets.specs.Answer.{Answer, refused, given}
use Rattle.sheets.specs.Outcome.{Outcome, success, refusal, outcome}
use Rattle.sheets.specs.Demand3.{written}
use Rattle.sheets.specs.Impostors.{Call, Defined, CopiesStockLines, InventsLength, CriesUnmeasured, CriesAlways, GivesSame, SaysZero, TouchesNothing, RefusesAll, ShutOut, ShutOutOfLines}
use Rattle.sheets.proofs.Tests.{same_given}
use Rattle.sheets.proofs.OutcomeLaws.{number_range, turned, fits, fits_not, zero_answers, sixteen_exactly, written_success}

-- what tells: all facts are computed from the definition
pub record Telling {A S : Type 0} (answer : A → Answer Bytes) (seen : A → S) : Type 0 where
  -- two that look alike, whose answers have two lengths
  pub one : A
  pub other : A
  pub alike : seen one ≡ seen other
  pub one_sheet : Bytes
  pub other_sheet : Bytes
  pub one_answer : answer one ≡ given one_sheet
  pub other_answer : answer other ≡ given other_sheet
  pub shorter : length other_sheet < length one_sheet
  pub few : length one_sheet < 65536
  -- one that is refused
  pub wrong : A
  pub reason : Refusal
  pub wrong_answer : answer wrong ≡ refused reason

-- a buffer of n bytes v
abbrev filled : ℕ → ℕ → Bytes
filled n v = replicate n v

filled_length : (n v : ℕ) → length (filled n v) ≡ n
filled_length n v = length-replicate n v

filled_differ : (n : ℕ) → 0 < n → take n (filled n 0) ≡ take n (filled n 1) → ⊥
filled_differ zero h e = omega arith
filled_differ (suc n) h e = omega (arith, ap (λ (l : Bytes). get_or l 0 0) e)

module _ {A : Type 0} (answer : A → Answer Bytes) (f : Call A) (defined : Defined answer f) where
  number_of_lem : {a : A} {out : Bytes} {o : Outcome} → f a out ≡ o → (f a out).number ≡ o.number
  number_of_lem e = ap (λ (y : Outcome). y.number) e

  answered : (a : A) (x out : Bytes) → answer a ≡ given x → length x ≤ length out → f a out ≡ success x out
  answered a x out e h = defined a out ∙ ap (λ (y : Answer Bytes). outcome y out) e ∙ fits x out h

  too_long : (a : A) (x out : Bytes) → answer a ≡ given x → length out < length x → f a out ≡ refusal no_room out
  too_long a x out e h = defined a out ∙ ap (λ (y : Answer Bytes). outcome y out) e ∙ fits_not x out h

  turned_back_lem : (a : A) (r : Refusal) (out : Bytes) → answer a ≡ refused r → f a out ≡ refusal (number_of r) out
  turned_back_lem a r out e = defined a out ∙ ap (λ (y : Answer Bytes). outcome y out) e ∙ turned r out

  -- Whatever is handed in: a call that says 0 has the sheet of the definition in the buffer, its length, and past it what the buffer held,
  pub says_0_gives : (a : A) (out : Bytes) → (f a out).number ≡ 0 → (x : Bytes) × (answer a ≡ given x) × (length x ≤ length out) × (f a out ≡ success x out)
  says_0_gives a out h =
      let z = zero_answers (answer a) out (ap (λ (y : Outcome). y.number) (sym (defined a out)) ∙ h) in
      (z.0, z.1, z.2, defined a out ∙ z.3)

  -- it leaves the buffer as it was only if that held the sheet already,
  pub untouched_held : (a : A) (out : Bytes) → (f a out).number ≡ 0 → (f a out).buffer ≡ out → answer a ≡ given (take (f a out).size out)
  untouched_held a out h k =
      let z = says_0_gives a out h in
      let held : written (f a out) ≡ z.0 = ap written z.3 ∙ written_success z.0 out in
      z.1 ∙ ap given (sym held ∙ ap (take (f a out).size) k)

  -- "16 comes exactly if the sheet is longer than the buffer"
  pub sixteen_if_longer : (a : A) (out : Bytes) → ((f a out).number ≡ no_room) ↔ ((x : Bytes) × (answer a ≡ given x) × (length out < length x))
  sixteen_if_longer a out =
      let e : (f a out).number ≡ (outcome (answer a) out).number = ap (λ (y : Outcome). y.number) (defined a out) in
      (λ h. (sixteen_exactly (answer a) out).0 (sym e ∙ h), λ w. e ∙ (sixteen_exactly (answer a) out).1 w)

  -- two whose answers have two lengths have two sheets
  two_sheets : (a b : A) (x y out : Bytes) → f a out ≡ success x out → f b out ≡ success y out → length y < length x → written (f a out) ≡ written (f b out) → ⊥
  two_sheets a b x y out ea eb l e =
      let k : x ≡ y = sym (written_success x out) ∙ ap written (sym ea) ∙ e ∙ ap written eb ∙ written_success y out in
      omega (arith, ap length k)

  -- ── the impostors

  module _ {S : Type 0} (seen : A → S) (t : Telling answer seen) where
    -- buffers that hold both answers, and the shorter one only
    abbrev room : ℕ → Bytes
    room v = filled (length t.one_sheet) v

    abbrev tight : Bytes
    tight = filled (length t.other_sheet) 0

    one_fits : (v : ℕ) → f t.one (room v) ≡ success t.one_sheet (room v)
    one_fits v = answered t.one t.one_sheet (room v) t.one_answer (omega (arith, filled_length (length t.one_sheet) v))

    other_fits : f t.other (room 0) ≡ success t.other_sheet (room 0)
    other_fits = answered t.other t.other_sheet (room 0) t.other_answer (omega (arith, filled_length (length t.one_sheet) 0, t.shorter))

    one_tight : f t.one tight ≡ refusal no_room tight
    one_tight = too_long t.one t.one_sheet tight t.one_answer (omega (arith, filled_length (length t.other_sheet) 0, t.shorter))

    other_tight : f t.other tight ≡ success t.other_sheet tight
    other_tight = answered t.other t.other_sheet tight t.other_answer (omega (arith, filled_length (length t.other_sheet) 0))

    no_length : InventsLength seen f → ⊥
    no_length h =
        let a = h.1 t.one (room 0) (number_of_lem (one_fits 0)) in
        let b = h.1 t.other (room 0) (number_of_lem other_fits) in
        let c : h.0 (seen t.one) (length (room 0)) ≡ h.0 (seen t.other) (length (room 0)) = ap (λ (s : S). h.0 s (length (room 0))) t.alike in
        omega (arith, t.shorter, sym (ap (λ (y : Outcome). y.size) (one_fits 0)) ∙ a ∙ c ∙ sym b ∙ ap (λ (y : Outcome). y.size) other_fits)

    no_cry : CriesUnmeasured seen f → ⊥
    no_cry h =
        let a = (h.1 t.one tight).0 (number_of_lem one_tight) in
        let b = (h.1 t.other tight).1 (ap (λ (s : S). h.0 s (length tight)) (sym t.alike) ∙ a) in
        omega (arith, sym (number_of_lem other_tight) ∙ b)

    no_always : CriesAlways f → ⊥
    no_always h = omega (arith, sym (number_of_lem (one_fits 0)) ∙ h t.one (room 0) (omega (arith, filled_length (length t.one_sheet) 0, t.few)))

    no_same : GivesSame f → ⊥
    no_same h =
        two_sheets t.one t.other t.one_sheet t.other_sheet (room 0) (one_fits 0) other_fits t.shorter (h t.one t.other (room 0) (number_of_lem (one_fits 0)) (number_of_lem other_fits))

    no_zero : SaysZero f → ⊥
    no_zero h = omega (arith, sym (h t.wrong []) ∙ number_of_lem (turned_back_lem t.wrong t.reason [] t.wrong_answer), number_range t.reason)

    -- two buffers cannot both have held the sheet
    no_untouched : TouchesNothing f → ⊥
    no_untouched h = filled_differ (length t.one_sheet) (omega (arith, t.shorter)) (same_given (sym (held 0) ∙ held 1))
      where
        held : (v : ℕ) → answer t.one ≡ given (take (length t.one_sheet) (room v))
        held v =
            untouched_held t.one (room v) (number_of_lem (one_fits v)) (h t.one (room v) (number_of_lem (one_fits v)))
            ∙ ap (λ (y : Outcome). given (take y.size (room v))) (one_fits v)

    no_refusal : RefusesAll f → ⊥
    no_refusal h = h t.one (room 0) (number_of_lem (one_fits 0))

    pub shut_out : ShutOut seen f
    shut_out =
        record {
          invents_no_length = no_length;
          measures_first = no_cry;
          cries_not_always = no_always;
          gives_not_the_same = no_same;
          says_not_zero = no_zero;
          touches_something = no_untouched;
          refuses_not_all = no_refusal;
        }

-- ── a call that is handed lines

-- two sheets with one first line, and as many bytes and lines after it
pub record TellingLines {A S : Type 0} (answer : A → Answer Bytes) (sheet : Bytes → A) (seen : A → S) : Type 0 where
  pub line : Bytes
  pub rest : Bytes
  pub other_rest : Bytes
  pub bytes : length rest ≡ length other_rest
  pub lines : length (split line_end rest) ≡ length (split line_end other_rest)
  pub alike : seen (sheet (line ++ (line_end ∷ rest))) ≡ seen (sheet (line ++ (line_end ∷ other_rest)))
  pub one_sheet : Bytes
  pub other_sheet : Bytes
  pub one_answer : answer (sheet (line ++ (line_end ∷ rest))) ≡ given one_sheet
  pub other_answer : answer (sheet (line ++ (line_end ∷ other_rest))) ≡ given other_sheet
  pub shorter : length other_sheet < length one_sheet
  pub few : length one_sheet < 65536
  pub wrong : A
  pub wrong_answer : answer wrong ≡ refused not_sheet

module _ {A S : Type 0} (answer : A → Answer Bytes) (sheet : Bytes → A) (seen : A → S) (k : TellingLines answer sheet seen) (f : Call A) (defined : Defined answer f) where
  abbrev one : A
  one = sheet (k.line ++ (line_end ∷ k.rest))

  abbrev other : A
  other = sheet (k.line ++ (line_end ∷ k.other_rest))

  telling : Telling answer seen
  telling =
      record {
        one = one;
        other = other;
        alike = k.alike;
        one_sheet = k.one_sheet;
        other_sheet = k.other_sheet;
        one_answer = k.one_answer;
        other_answer = k.other_answer;
        shorter = k.shorter;
        few = k.few;
        wrong = k.wrong;
        reason = not_sheet;
        wrong_answer = k.wrong_answer;
      }

  no_stock : CopiesStockLines sheet f → ⊥
  no_stock h =
      let out = filled (length k.one_sheet) 0 in
      let a = answered answer f defined one k.one_sheet out k.one_answer (omega (arith, filled_length (length k.one_sheet) 0)) in
      let b = answered answer f defined other k.other_sheet out k.other_answer (omega (arith, filled_length (length k.one_sheet) 0, k.shorter)) in
      two_sheets answer f defined one other k.one_sheet k.other_sheet out a b k.shorter (h k.line k.rest k.other_rest out k.bytes k.lines (number_of_lem answer f defined a) (number_of_lem answer f defined b))

  pub lines_shut_out : ShutOutOfLines sheet seen f
  lines_shut_out = record { copies_no_stock = no_stock; others = shut_out answer f defined seen telling }
