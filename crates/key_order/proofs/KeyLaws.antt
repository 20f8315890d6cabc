-- The two numbers of an entry, which division by 65536 gives back; the key of an entry as the part of the text that the code takes: past the text,
-- cut by its end, or whole; and the key without its first bytes, of which the next four stand in the text. By the laws of `take` and `drop`. Assumes nothing.
use mathlib.Core.Path.{◌≡◌, sym, ap, ◌∙◌}
use mathlib.Core.List.{[]}
use Prim.Native.Nat.{ℕ, ◌+◌, ◌-◌, ◌≤◌, ◌<◌}
use native.Mathlib.Omega.{arith}
use lib.ListN.{length, get_or, take, drop, drop_of_length-le, length-take, length-drop}
use lib.Seq.{take_all, take-nil, get_or-take, get_or-drop}
use Rattle.sheets.specs.Bytes.{Bytes}
use Rattle.byte_order.specs.Compare.{Word}
use Rattle.key_order.specs.Entry.{entry_of, start_of, size_of, key_at, rest_at, HasFour}

-- ── the two numbers

module _ (start size : ℕ) (h : size < 65536) where
  pub entry_start : start_of (entry_of start size) ≡ start
  entry_start = omega arith

  pub entry_size : size_of (entry_of start size) ≡ size
  entry_size = omega arith

-- ── the key

-- where it starts and ends
module _ (text : Bytes) (e start end : ℕ) (p : start ≡ start_of e) (q : end ≡ start_of e + size_of e) where
  pub key_past : length text ≤ start → [] ≡ key_at text e
  unfolding key_at
  key_past h = rw (drop_of_length-le text {i = start_of e} (omega arith), take-nil (size_of e))

  pub key_cut : length text < end → take (length text - start) (drop start text) ≡ key_at text e
  unfolding key_at
  key_cut h = rw p (take_all (length text - start_of e) (drop (start_of e) text) (simp length-drop (omega arith)) ∙ sym (take_all (size_of e) (drop (start_of e) text) (simp length-drop (omega arith))))

  pub key_whole : take (end - start) (drop start text) ≡ key_at text e
  unfolding key_at
  key_whole = let x : end - start ≡ size_of e = omega arith in rw (x, p)

pub key_short : (text : Bytes) (e : ℕ) → length (key_at text e) < 65536
unfolding key_at
key_short text e = omega (arith, length-take (size_of e) (drop (start_of e) text))

-- ── the key without its first bytes

module _ (text : Bytes) (shared e : ℕ) where
  pub rest_none : (key : Bytes) → key ≡ key_at text e → length key ≤ shared → [] ≡ rest_at text shared e
  unfolding rest_at
  rest_none key k h = sym (ap (drop shared) (sym k) ∙ drop_of_length-le key h)

  pub rest_some : (key : Bytes) → key ≡ key_at text e → take (length key - shared) (drop shared key) ≡ rest_at text shared e
  unfolding rest_at
  rest_some key k = take_all (length key - shared) (drop shared key) (simp length-drop (omega arith)) ∙ ap (drop shared) k

  module _ (h : HasFour text shared e) where
    pub rest_long : 4 ≤ length (rest_at text shared e)
    unfolding rest_at key_at
    rest_long =
        omega (arith, h.0, h.1, length-drop shared (take (size_of e) (drop (start_of e) text)), length-take (size_of e) (drop (start_of e) text), length-drop (start_of e) text)

    rest_byte : (j i : ℕ) → j < 4 → start_of e + shared + j ≡ i → get_or (rest_at text shared e) j 0 ≡ get_or text i 0
    unfolding rest_at key_at
    rest_byte j i l p =
        let q : start_of e + (shared + j) ≡ i = omega arith in
        get_or-drop shared (take (size_of e) (drop (start_of e) text)) j 0
        ∙ get_or-take (size_of e) (drop (start_of e) text) (shared + j) 0 (omega arith)
        ∙ get_or-drop (start_of e) text (shared + j) 0
        ∙ ap (λ (k : ℕ). get_or text k 0) q

    pub rest_word : (at w : ℕ) → at ≡ start_of e + shared → Word text at w → Word (rest_at text shared e) 0 w
    rest_word at w p word =
        let a = rest_byte 0 at (omega arith) (omega arith) in
        let b = rest_byte 1 (at + 1) (omega arith) (omega arith) in
        let c = rest_byte 2 (at + 2) (omega arith) (omega arith) in
        let d = rest_byte 3 (at + 3) (omega arith) (omega arith) in
        record {
          second = omega (arith, b, word.second);
          third = omega (arith, c, word.third);
          fourth = omega (arith, d, word.fourth);
          value = omega (arith, a, b, c, d, word.value);
        }
