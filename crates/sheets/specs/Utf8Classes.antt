-- UTF-8 "by one class for each of the 256 byte values" (document 01, 'Metadata block'): the classes, and the state that a byte's class
-- leads to. That they decide Table 3-7 is the law `utf8_by_classes` in proofs/Utf8Laws. Assumes nothing.
use Rattle.std.specs.Prelude.{Bool, cond, ◌||◌, [], ◌∷◌, ℕ, leb, eqb}
use Rattle.sheets.specs.Bytes.{Bytes}

-- 0 00..7f, 1 80..8f, 2 90..9f, 3 a0..bf, 4 in no row (c0 c1 f5..ff), 5 c2..df, 6 e0, 7 e1..ec ee ef, 8 ed, 9 f0, 10 f1..f3, 11 f4
unfoldable pub class_of : ℕ → ℕ
class_of b =
    cond (leb b 0x7f) 0
    (cond (leb b 0x8f) 1
    (cond (leb b 0x9f) 2
    (cond (leb b 0xbf) 3
    (cond (leb b 0xc1) 4
    (cond (leb b 0xdf) 5
    (cond (leb b 0xe0) 6
    (cond (leb b 0xec) 7
    (cond (leb b 0xed) 8
    (cond (leb b 0xef) 7
    (cond (leb b 0xf0) 9
    (cond (leb b 0xf3) 10
    (cond (leb b 0xf4) 11 4))))))))))))

-- the classes of 80..bf
abbrev pub follows : ℕ → Bool
follows k = eqb k 1 || eqb k 2 || eqb k 3

-- States: 0 between sequences; 1 refused; 2, 3, 7 with one, two, three bytes 80..bf to come; 4, 5, 6, 8 after e0, ed, f0, f4.
-- The state after a first byte of class k
abbrev pub start_of : ℕ → ℕ
start_of k =
    cond (eqb k 0) 0
    (cond (eqb k 5) 2
    (cond (eqb k 6) 4
    (cond (eqb k 7) 3
    (cond (eqb k 8) 5
    (cond (eqb k 9) 6
    (cond (eqb k 10) 7
    (cond (eqb k 11) 8 1)))))))

-- the state after the state q and a byte of class k
unfoldable pub next_of : ℕ → ℕ → ℕ
next_of q k =
    cond (eqb q 0) (start_of k)
    (cond (eqb q 2) (cond (follows k) 0 1)
    (cond (eqb q 3) (cond (follows k) 2 1)
    (cond (eqb q 4) (cond (eqb k 3) 2 1)
    (cond (eqb q 5) (cond (eqb k 1 || eqb k 2) 2 1)
    (cond (eqb q 6) (cond (eqb k 2 || eqb k 3) 3 1)
    (cond (eqb q 7) (cond (follows k) 3 1)
    (cond (eqb q 8) (cond (eqb k 1) 3 1) 1)))))))

-- the state after the bytes
abbrev pub state_after : ℕ → Bytes → ℕ
state_after q [] = q
state_after q (b ∷ bs) = state_after (next_of q (class_of b)) bs
