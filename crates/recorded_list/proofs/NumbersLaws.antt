-- A line of numbers says its numbers: each ends at the first byte that is no digit. Assumes nothing.
use mathlib.Core.Path.{◌≡◌, refl, sym, ap, ap₂, subst, ◌∙◌}
use mathlib.Core.List.{List, [], ◌∷◌, ◌++◌, append_assoc}
use Rattle.std.specs.Prelude.{None, Some}
use Prim.Native.Nat.{ℕ, suc, pred, ◌+◌, ◌^◌, ◌≤◌, ◌<◌}
use native.Mathlib.Numerals.{add-one}
use native.Mathlib.Omega.{arith}
use lib.ListN.{length, get_or, take, drop, set, take-append-drop, drop_of_length-le}
use lib.Seq.{drop-cons, take-suc-set, set_split, length-take-le}
use Rattle.std.proofs.lemmas.List.{take-append-le}
use borrow.Author.Tests.{lt-ltb, ltb-true}
use Rattle.sheets.specs.Rule.{Meets}
use Rattle.sheets.specs.Bytes.{Bytes, all}
use Rattle.sheets.specs.Refusal.{bad_lines}
use Rattle.sheets.specs.Answer.{refused, given}
use Rattle.sheets.specs.Number.{decimal, read_number, value_from}
use Rattle.sheets.proofs.BytesLaws.{all_append}
use Rattle.sheets.proofs.NumberLaws.{value_decimal, read_decimal, decimal_lacks}
use Rattle.sheets.proofs.InverseLaws.{number_read}
use Rattle.columns.specs.Columns.{part}
use Rattle.columns.proofs.ColumnLaws.{column_of_lem, column_part}
use Rattle.columns.proofs.NumberFindLaws.{FindsNumber}
use Rattle.recorded_list.specs.ListText.{stop_before, numbers_text}
use Rattle.recorded_list.specs.Reads.{Reads, IsNumbers, is_word, Missing}
use Rattle.sheets.proofs.BytesLaws.{cut_same}
use Rattle.recorded_list.proofs.PartLaws.{all_at}

-- the numbers of a line before its last, a space after each
unfoldable pub spaced_text : List ℕ → Bytes
spaced_text [] = []
spaced_text (n ∷ ns) = decimal n ++ (32 ∷ spaced_text ns)

-- ── one number

decimal_same : (n m : ℕ) → decimal n ≡ decimal m → n ≡ m
decimal_same n m e = sym (value_decimal n) ∙ ap (value_from 0) e ∙ value_decimal m

space_same : (n m : ℕ) (a b : Bytes) → decimal n ++ (32 ∷ a) ≡ decimal m ++ (32 ∷ b) → (n ≡ m) × (a ≡ b)
space_same n m a b e =
    let r = cut_same 32 (decimal n) (decimal m) a b (decimal_lacks 32 refl n) (decimal_lacks 32 refl m) e in
    (decimal_same n m r.0, r.1)

end_same : (n m : ℕ) (a b : Bytes) → decimal n ++ (10 ∷ a) ≡ decimal m ++ (10 ∷ b) → (n ≡ m) × (a ≡ b)
end_same n m a b e =
    let r = cut_same 10 (decimal n) (decimal m) a b (decimal_lacks 10 refl n) (decimal_lacks 10 refl m) e in
    (decimal_same n m r.0, r.1)

-- ── lines

-- the numbers before one of them apart
pub numbers_split : (ns : List ℕ) (m : ℕ) (ms : List ℕ) → numbers_text (ns ++ (m ∷ ms)) ≡ spaced_text ns ++ numbers_text (m ∷ ms)
unfolding numbers_text spaced_text
numbers_split [] m ms = refl
numbers_split (n ∷ []) m ms = sym (append_assoc (decimal n) (32 ∷ []) (numbers_text (m ∷ ms)))
numbers_split (n ∷ k ∷ ns) m ms = ap (λ (t : Bytes). decimal n ++ (32 ∷ t)) (numbers_split (k ∷ ns) m ms) ∙ sym (append_assoc (decimal n) (32 ∷ spaced_text (k ∷ ns)) (numbers_text (m ∷ ms)))

first_number : (m : ℕ) (ms : List ℕ) → numbers_text (m ∷ ms) ≡ decimal m ++ (stop_before ms ∷ numbers_text ms)
unfolding numbers_text
first_number m ms = refl

no_numbers : numbers_text [] ≡ []
unfolding numbers_text
no_numbers = refl

one_spaced : (n : ℕ) → spaced_text (n ∷ []) ≡ decimal n ++ (32 ∷ [])
unfolding spaced_text
one_spaced n = refl

pub spaced_append : (ns ms : List ℕ) → spaced_text (ns ++ ms) ≡ spaced_text ns ++ spaced_text ms
unfolding spaced_text
spaced_append [] ms = refl
spaced_append (n ∷ ns) ms = ap (λ (t : Bytes). decimal n ++ (32 ∷ t)) (spaced_append ns ms) ∙ sym (append_assoc (decimal n) (32 ∷ spaced_text ns) (spaced_text ms))

pub spaced_same : (ns ms : List ℕ) (a b : Bytes) → length ns ≡ length ms → spaced_text ns ++ a ≡ spaced_text ms ++ b → (ns ≡ ms) × (a ≡ b)
unfolding spaced_text
spaced_same [] [] a b l e = (refl, e)
spaced_same [] (m ∷ ms) a b l e = absurd (omega arith)
spaced_same (n ∷ ns) [] a b l e = absurd (omega arith)
spaced_same (n ∷ ns) (m ∷ ms) a b l e =
    let f = space_same n m (spaced_text ns ++ a) (spaced_text ms ++ b) (sym (append_assoc (decimal n) (32 ∷ spaced_text ns) a) ∙ e ∙ append_assoc (decimal m) (32 ∷ spaced_text ms) b) in
    let r = spaced_same ns ms a b (ap pred l) f.1 in
    (ap₂ ◌∷◌ f.0 r.0, r.1)

pub numbers_same : (ns ms : List ℕ) (a b : Bytes) → length ns ≡ length ms → numbers_text ns ++ a ≡ numbers_text ms ++ b → (ns ≡ ms) × (a ≡ b)
unfolding numbers_text
numbers_same [] [] a b l e = (refl, e)
numbers_same [] (m ∷ ms) a b l e = absurd (omega arith)
numbers_same (n ∷ ns) [] a b l e = absurd (omega arith)
numbers_same (n ∷ []) (m ∷ []) a b l e =
    let f = end_same n m a b (sym (append_assoc (decimal n) (10 ∷ []) a) ∙ e ∙ append_assoc (decimal m) (10 ∷ []) b) in
    (ap (λ (k : ℕ). k ∷ []) f.0, f.1)
numbers_same (n ∷ []) (m ∷ j ∷ ms) a b l e = absurd (omega arith)
numbers_same (n ∷ k ∷ ns) (m ∷ []) a b l e = absurd (omega arith)
numbers_same (n ∷ k ∷ ns) (m ∷ j ∷ ms) a b l e =
    let f = space_same n m (numbers_text (k ∷ ns) ++ a) (numbers_text (j ∷ ms) ++ b) (sym (append_assoc (decimal n) (32 ∷ numbers_text (k ∷ ns)) a) ∙ e ∙ append_assoc (decimal m) (32 ∷ numbers_text (j ∷ ms)) b) in
    let r = numbers_same (k ∷ ns) (j ∷ ms) a b (ap pred l) f.1 in
    (ap₂ ◌∷◌ f.0 r.0, r.1)

-- ── a line at a place of the list

-- the first k numbers of out are read, and the text goes on at i
pub record SpacedTo (s : Bytes) (at : ℕ) (out : List ℕ) (k i : ℕ) : Type 0 where
  pub is : drop at s ≡ spaced_text (take k out) ++ drop i s
  pub words : Meets (all is_word (take k out))

pub no_number_yet : (s : Bytes) (at : ℕ) (out : List ℕ) → SpacedTo s at out 0 at
unfolding spaced_text
no_number_yet s at out = record { is = refl; words = refl }

-- the number that was found, and the byte after it
found : (s : Bytes) (i stop n e : ℕ) → FindsNumber s i stop (given (n, e)) → drop i s ≡ decimal n ++ (stop ∷ drop (e + 1) s)
found s i stop n e f = f.0.is ∙ ap (λ (t : Bytes). t ++ (stop ∷ drop (e + 1) s)) (sym (number_read (part s i e) n f.1))

not_found : (s : Bytes) (i stop m : ℕ) (r : Bytes) → FindsNumber s i stop (refused bad_lines) → m < 2 ^ 64 → drop i s ≡ decimal m ++ (stop ∷ r) → ⊥
not_found s i stop m r f small is =
    f (i + length (decimal m)) m (column_of_lem s i (decimal m) r stop is (decimal_lacks 32 refl m) (decimal_lacks 10 refl m))
    (ap read_number (column_part s i (decimal m) r stop is) ∙ read_decimal m) small

module _ (s : Bytes) (at : ℕ) (out : List ℕ) (k i : ℕ) (h : SpacedTo s at out k i) where
  words_more : (n : ℕ) → n < 2 ^ 64 → Meets (all is_word (take k out ++ (n ∷ [])))
  words_more n small = all_append is_word (take k out) (n ∷ []) h.words (lt-ltb n (2 ^ 64) small, refl)

  pub next_number : (n e : ℕ) → k < length out → FindsNumber s i 32 (given (n, e)) → SpacedTo s at (set out k n) (k + 1) (e + 1)
  next_number n e l f =
      let now : take (k + 1) (set out k n) ≡ take k out ++ (n ∷ []) = ap (λ (m : ℕ). take m (set out k n)) (add-one k) ∙ take-suc-set out k n l in
      let text : spaced_text (take (k + 1) (set out k n)) ≡ spaced_text (take k out) ++ (decimal n ++ (32 ∷ [])) = ap spaced_text now ∙ spaced_append (take k out) (n ∷ []) ∙ ap (λ (t : Bytes). spaced_text (take k out) ++ t) (one_spaced n) in
      let here : drop i s ≡ (decimal n ++ (32 ∷ [])) ++ drop (e + 1) s = found s i 32 n e f ∙ sym (append_assoc (decimal n) (32 ∷ []) (drop (e + 1) s)) in
      record {
        is = h.is ∙ ap (λ (t : Bytes). spaced_text (take k out) ++ t) here ∙ sym (append_assoc (spaced_text (take k out)) (decimal n ++ (32 ∷ [])) (drop (e + 1) s)) ∙ ap (λ (t : Bytes). t ++ drop (e + 1) s) (sym text);
        words = subst (λ (x : List ℕ). Meets (all is_word x)) (sym now) (words_more n f.2);
      }

  pub last_number_lem : (n e : ℕ) → k + 1 ≡ length out → FindsNumber s i 10 (given (n, e)) → Reads (IsNumbers (length (set out k n))) numbers_text s at (Some (set out k n, e + 1))
  last_number_lem n e l f =
      let whole : set out k n ≡ take k out ++ (n ∷ []) = set_split out k n (omega arith) ∙ ap (λ (t : List ℕ). take k out ++ (n ∷ t)) (drop_of_length-le out {i = suc k} (omega arith)) in
      let line : numbers_text (n ∷ []) ≡ decimal n ++ (10 ∷ []) = first_number n [] ∙ ap (λ (t : Bytes). decimal n ++ (10 ∷ t)) no_numbers in
      let text : numbers_text (set out k n) ≡ spaced_text (take k out) ++ (decimal n ++ (10 ∷ [])) = ap numbers_text whole ∙ numbers_split (take k out) n [] ∙ ap (λ (t : Bytes). spaced_text (take k out) ++ t) line in
      let here : drop i s ≡ (decimal n ++ (10 ∷ [])) ++ drop (e + 1) s = found s i 10 n e f ∙ sym (append_assoc (decimal n) (10 ∷ []) (drop (e + 1) s)) in (
        record { long = refl; words = subst (λ (x : List ℕ). Meets (all is_word x)) (sym whole) (words_more n f.2) },
        record {
          is = h.is ∙ ap (λ (t : Bytes). spaced_text (take k out) ++ t) here ∙ sym (append_assoc (spaced_text (take k out)) (decimal n ++ (10 ∷ [])) (drop (e + 1) s)) ∙ ap (λ (t : Bytes). t ++ drop (e + 1) s) (sym text);
          within = omega (arith, f.0.high);
        },
      )

  -- the same before other numbers
  pub spaced_before : (more : List ℕ) → k ≤ length out → SpacedTo s at (out ++ more) k i
  spaced_before more l =
      let same : take k (out ++ more) ≡ take k out = take-append-le k out more l in
      record { is = h.is ∙ ap (λ (x : List ℕ). spaced_text x ++ drop i s) (sym same); words = subst (λ (x : List ℕ). Meets (all is_word x)) (sym same) h.words }

  module _ (ns : List ℕ) (l : k ≤ length out) (m : k < length ns) (words : Meets (all is_word ns)) where
    -- what a line would have to say from here on
    left : (rest : Bytes) → drop at s ≡ numbers_text ns ++ rest → drop i s ≡ decimal (get_or ns k 0) ++ (stop_before (drop (suc k) ns) ∷ (numbers_text (drop (suc k) ns) ++ rest))
    left rest e =
        let next : drop k ns ≡ get_or ns k 0 ∷ drop (suc k) ns = drop-cons ns k 0 m in
        let split : ns ≡ take k ns ++ (get_or ns k 0 ∷ drop (suc k) ns) = sym (take-append-drop k ns) ∙ ap (λ (t : List ℕ). take k ns ++ t) next in
        let text : numbers_text ns ≡ spaced_text (take k ns) ++ numbers_text (get_or ns k 0 ∷ drop (suc k) ns) = ap numbers_text split ∙ numbers_split (take k ns) (get_or ns k 0) (drop (suc k) ns) in
        let long : length (take k out) ≡ length (take k ns) = length-take-le k out l ∙ sym (length-take-le k ns (omega arith)) in
        let here = (spaced_same (take k out) (take k ns) (drop i s) (numbers_text (get_or ns k 0 ∷ drop (suc k) ns) ++ rest) long (sym h.is ∙ e ∙ ap (λ (t : Bytes). t ++ rest) text ∙ append_assoc (spaced_text (take k ns)) (numbers_text (get_or ns k 0 ∷ drop (suc k) ns)) rest)).1 in
        here ∙ ap (λ (t : Bytes). t ++ rest) (first_number (get_or ns k 0) (drop (suc k) ns)) ∙ append_assoc (decimal (get_or ns k 0)) (stop_before (drop (suc k) ns) ∷ numbers_text (drop (suc k) ns)) rest

    stuck : (stop : ℕ) → stop_before (drop (suc k) ns) ≡ stop → FindsNumber s i stop (refused bad_lines) → Missing s at (numbers_text ns)
    stuck stop b f rest e =
        not_found s i stop (get_or ns k 0) (numbers_text (drop (suc k) ns) ++ rest) f (ltb-true (get_or ns k 0) (2 ^ 64) (all_at is_word ns k m words))
        (left rest e ∙ ap (λ (c : ℕ). decimal (get_or ns k 0) ++ (c ∷ (numbers_text (drop (suc k) ns) ++ rest))) b)

  pub no_number : (count : ℕ) → k ≤ length out → suc k < count → FindsNumber s i 32 (refused bad_lines) → Reads (IsNumbers count) numbers_text s at None
  no_number count l m f ns numbers =
      let long = numbers.long in
      stuck ns l (omega arith) numbers.words 32 (ap stop_before (drop-cons ns (suc k) 0 (omega arith))) f

  pub no_last_number : (count : ℕ) → k ≤ length out → suc k ≡ count → FindsNumber s i 10 (refused bad_lines) → Reads (IsNumbers count) numbers_text s at None
  no_last_number count l m f ns numbers =
      let long = numbers.long in
      stuck ns l (omega arith) numbers.words 10 (ap stop_before (drop_of_length-le ns {i = suc k} (omega arith))) f
