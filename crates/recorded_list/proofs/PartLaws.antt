-- A part of so many bytes at a place of the list, byte by byte: the first k are read, and the text goes on at place i. What the part's text would
-- have to say from there on follows, since bytes have one text only. Assumes nothing.
use Rattle.std.proofs.lemmas.List.{take-append-le}
use mathlib.Core.Path.{◌≡◌, refl, sym, ap, ap₂, subst, ◌∙◌}
use mathlib.Core.Bool.{Bool, true}
use mathlib.Core.List.{[], ◌∷◌, ◌++◌, append_assoc, append-nil}
use Rattle.std.specs.Prelude.{None, Some}
use Prim.Native.Nat.{ℕ, zero, suc, ◌+◌, ◌≤◌, ◌<◌}
use native.Mathlib.Nat.{not-suc-le-zero, le_of_suc-le-suc}
use native.Mathlib.Numerals.{add-one}
use native.Mathlib.Omega.{arith}
use lib.ListN.{length, get_or, take, drop, set, take-append-drop, drop_of_length-le}
use lib.Seq.{drop-cons, take-suc-set, length-take-le}
use Rattle.sheets.specs.Rule.{Meets}
use Rattle.sheets.specs.Bytes.{Bytes, all, is_byte}
use Rattle.sheets.proofs.BytesLaws.{all_append}
use Rattle.recorded_list.specs.ListText.{byte_text, bytes_text, part_text}
use Rattle.recorded_list.specs.Reads.{Reads, IsByte, IsPart}
use Rattle.sheets.proofs.BytesLaws.{same_head}
use Rattle.recorded_list.proofs.TextLaws.{bytes_append, bytes_same}

one_text : (b : ℕ) → bytes_text (b ∷ []) ≡ byte_text b
unfolding bytes_text
one_text b = append-nil (byte_text b)

first_text : (b : ℕ) (x : Bytes) → bytes_text (b ∷ x) ≡ byte_text b ++ bytes_text x
unfolding bytes_text
first_text b x = refl

no_text : bytes_text [] ≡ []
unfolding bytes_text
no_text = refl

part_apart : (x rest : Bytes) → part_text x ++ rest ≡ bytes_text x ++ (10 ∷ rest)
unfolding part_text
part_apart x rest = append_assoc (bytes_text x) (10 ∷ []) rest

pub all_at : (f : ℕ → Bool) (x : Bytes) (k : ℕ) → k < length x → Meets (all f x) → f (get_or x k 0) ≡ true
all_at f [] k l h = absurd (not-suc-le-zero l)
all_at f (b ∷ x) zero l h = h.0
all_at f (b ∷ x) (suc k) l h = all_at f x k (le_of_suc-le-suc l) h.1

-- the first k bytes of out are read, and the text goes on at i
pub record ReadTo (s : Bytes) (at : ℕ) (out : Bytes) (k i : ℕ) : Type 0 where
  pub is : drop at s ≡ bytes_text (take k out) ++ drop i s
  pub bytes : Meets (all is_byte (take k out))

pub none_yet : (s : Bytes) (at : ℕ) (out : Bytes) → ReadTo s at out 0 at
unfolding bytes_text
none_yet s at out = record { is = refl; bytes = refl }

module _ (s : Bytes) (at : ℕ) (out : Bytes) (k i : ℕ) (h : ReadTo s at out k i) where
  pub one_more : (b next : ℕ) → k < length out → Reads IsByte byte_text s i (Some (b, next)) → ReadTo s at (set out k b) (k + 1) next
  one_more b next l r =
      let now : take (k + 1) (set out k b) ≡ take k out ++ (b ∷ []) = ap (λ (m : ℕ). take m (set out k b)) (add-one k) ∙ take-suc-set out k b l in
      let text : bytes_text (take (k + 1) (set out k b)) ≡ bytes_text (take k out) ++ byte_text b = ap bytes_text now ∙ bytes_append (take k out) (b ∷ []) ∙ ap (λ (t : Bytes). bytes_text (take k out) ++ t) (one_text b) in
      record {
        is = h.is ∙ ap (λ (t : Bytes). bytes_text (take k out) ++ t) r.1.is ∙ sym (append_assoc (bytes_text (take k out)) (byte_text b) (drop next s)) ∙ ap (λ (t : Bytes). t ++ drop next s) (sym text);
        bytes = subst (λ (x : Bytes). Meets (all is_byte x)) (sym now) (all_append is_byte (take k out) (b ∷ []) h.bytes (r.0, refl));
      }

  -- the same before other bytes
  pub read_before : (more : Bytes) → k ≤ length out → ReadTo s at (out ++ more) k i
  read_before more l =
      let same : take k (out ++ more) ≡ take k out = take-append-le k out more l in
      record { is = h.is ∙ ap (λ (x : Bytes). bytes_text x ++ drop i s) (sym same); bytes = subst (λ (x : Bytes). Meets (all is_byte x)) (sym same) h.bytes }

  pub whole : (count : ℕ) → k ≡ count → count ≤ length out → i < length s → get_or s i 0 ≡ 10 → Reads (IsPart count (length out)) part_text s at (Some (take count out, i + 1))
  whole count done fit m e =
      let l : k ≤ length out = omega arith in
      let end : drop i s ≡ 10 ∷ drop (i + 1) s = drop-cons s i 0 m ∙ ap₂ ◌∷◌ e (ap (λ (n : ℕ). drop n s) (sym (add-one i))) in
      let part : IsPart k (length out) (take k out) = record { long = length-take-le k out l; fits = l; bytes = h.bytes } in
      subst (λ (n : ℕ). Reads (IsPart n (length out)) part_text s at (Some (take n out, i + 1))) done
      (part, record { is = h.is ∙ ap (λ (t : Bytes). bytes_text (take k out) ++ t) end ∙ sym (part_apart (take k out) (drop (i + 1) s)); within = omega arith })

  module _ (l : k ≤ length out) (x : Bytes) (m : k ≤ length x) (rest : Bytes) (e : drop at s ≡ part_text x ++ rest) where
    -- what a part would have to say from here on
    left : drop i s ≡ bytes_text (drop k x) ++ (10 ∷ rest)
    left =
        let split : bytes_text x ≡ bytes_text (take k x) ++ bytes_text (drop k x) = ap bytes_text (sym (take-append-drop k x)) ∙ bytes_append (take k x) (drop k x) in
        let long : length (take k out) ≡ length (take k x) = length-take-le k out l ∙ sym (length-take-le k x m) in
        (bytes_same (take k out) (take k x) (drop i s) (bytes_text (drop k x) ++ (10 ∷ rest)) long
        (sym h.is ∙ e ∙ part_apart x rest ∙ ap (λ (t : Bytes). t ++ (10 ∷ rest)) split ∙ append_assoc (bytes_text (take k x)) (bytes_text (drop k x)) (10 ∷ rest))).1

    at_end : length x ≡ k → drop i s ≡ 10 ∷ rest
    at_end n = left ∙ ap (λ (t : Bytes). bytes_text t ++ (10 ∷ rest)) (drop_of_length-le x {i = k} (omega arith)) ∙ ap (λ (t : Bytes). t ++ (10 ∷ rest)) no_text

  module _ (l : k ≤ length out) where
    pub stuck : (count room : ℕ) → k < count → Reads IsByte byte_text s i None → Reads (IsPart count room) part_text s at None
    stuck count room m missing x part rest e =
        let long = part.long in
        let next : drop k x ≡ get_or x k 0 ∷ drop (suc k) x = drop-cons x k 0 (omega arith) in
        let text : bytes_text (drop k x) ≡ byte_text (get_or x k 0) ++ bytes_text (drop (suc k) x) = ap bytes_text next ∙ first_text (get_or x k 0) (drop (suc k) x) in
        missing (get_or x k 0) (all_at is_byte x k (omega arith) part.bytes) (bytes_text (drop (suc k) x) ++ (10 ∷ rest))
        (left l x (omega arith) rest e ∙ ap (λ (t : Bytes). t ++ (10 ∷ rest)) text ∙ append_assoc (byte_text (get_or x k 0)) (bytes_text (drop (suc k) x)) (10 ∷ rest))

    pub ends_early : (count room : ℕ) → k ≡ count → length s ≤ i → Reads (IsPart count room) part_text s at None
    ends_early count room done m x part rest e =
        let long = part.long ∙ sym done in
        let z : 0 ≡ length (10 ∷ rest) = ap length (sym (drop_of_length-le s m) ∙ at_end l x (omega arith) rest e long) in
        omega arith

    pub no_end : (count room : ℕ) → k ≡ count → i < length s → (get_or s i 0 ≡ 10 → ⊥) → Reads (IsPart count room) part_text s at None
    no_end count room done m not x part rest e =
        let long = part.long ∙ sym done in
        not (same_head (sym (drop-cons s i 0 m) ∙ at_end l x (omega arith) rest e long))
