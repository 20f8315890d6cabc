-- The states at a place: what the bytes from there on have to be. Assumes nothing.
use mathlib.Core.Path.{◌≡◌, ap, ◌∙◌}
use Prim.Native.Nat.{ℕ, suc, ◌+◌, ◌≤◌, ◌<◌}
use native.Mathlib.Numerals.{add-one}
use lib.Dec.{eqb}
use lib.ListN.{length, get_or, drop, drop_of_length-le}
use lib.Seq.{drop-cons}
use Rattle.sheets.specs.Bytes.{Bytes}
use Rattle.sheets.specs.Utf8Classes.{class_of, next_of}
use Rattle.sheets.proofs.Utf8Laws.{from_state, move, finish}

pub move_at : (q : ℕ) → q < 9 → (s : Bytes) (i : ℕ) → i < length s → get_or s i 0 < 256
    → from_state q (drop i s) ≡ from_state (next_of q (class_of (get_or s i 0))) (drop (i + 1) s)
move_at q l s i h k = ap (from_state q) (drop-cons s i 0 h) ∙ move q (get_or s i 0) l k (drop (suc i) s) ∙ ap (λ n. from_state (next_of q (class_of (get_or s i 0))) (drop n s)) (next i)
  where
    next : (n : ℕ) → suc n ≡ n + 1
    next n = rw add-one

pub finish_at : (q : ℕ) → q < 9 → (s : Bytes) (i : ℕ) → length s ≤ i → from_state q (drop i s) ≡ eqb q 0
finish_at q l s i h = ap (from_state q) (drop_of_length-le s h) ∙ finish q l
