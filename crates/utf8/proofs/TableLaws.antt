-- The rule of each table follows from one test computed over all of its entries. Assumes nothing.
use mathlib.Core.Path.{◌≡◌, refl}
use mathlib.Core.Bool.{Bool, true}
use mathlib.Core.List.{List}
use Prim.Native.Nat.{ℕ, ◌+◌, ◌*◌, ◌/◌, ◌%◌, ◌^◌, ◌<◌}
use native.Mathlib.Omega.{arith}
use lib.Dec.{eqb, ltb}
use lib.ListN.{get_or}
use borrow.Author.Tests.{eqb-true, ltb-true}
use Rattle.sheets.specs.Rule.{passes}
use Rattle.sheets.specs.Utf8Classes.{class_of, next_of}
use Rattle.sheets.proofs.Tests.{every, at_each, meets}
use Rattle.utf8.specs.Tables.{ClassTable, NextTable}

-- the entry of a byte value is its class
abbrev pub class_right : List ℕ → ℕ → Bool
unfolding class_of
class_right l b = eqb (get_or l b 0) (class_of b)

pub class_rule : (l : List ℕ) → passes (every 256 (class_right l)) ≡ true → ClassTable l
unfolding class_of
class_rule l h = record { entry = λ b k. eqb-true (get_or l b 0) (class_of b) (at_each 256 (class_right l) (meets (every 256 (class_right l)) h) b k) }

-- every class is one of the 12
abbrev below_twelve : ℕ → Bool
unfolding class_of
below_twelve b = ltb (class_of b) 12

pub class_below : (b : ℕ) → b < 256 → class_of b < 12
unfolding class_of
class_below b h = ltb-true (class_of b) 12 (at_each 256 below_twelve (meets (every 256 below_twelve) refl) b h)

-- the digit of a state in the row of a class is the next state; the states and classes are counted by 12 * q + k
abbrev pub next_right : List ℕ → ℕ → Bool
unfolding next_of
next_right l j = eqb (get_or l (j % 12) 0 / 2 ^ (4 * (j / 12)) % 16) (next_of (j / 12) (j % 12))

pub next_rule : (l : List ℕ) → passes (every 108 (next_right l)) ≡ true → NextTable l
unfolding next_of
next_rule l h = record { digit = right }
  where
    right : (q k : ℕ) → q < 9 → k < 12 → get_or l k 0 / 2 ^ (4 * q) % 16 ≡ next_of q k
    right q k a b =
        let d : (12 * q + k) / 12 ≡ q = omega arith in
        let m : (12 * q + k) % 12 ≡ k = omega arith in
        let t = at_each 108 (next_right l) (meets (every 108 (next_right l)) h) (12 * q + k) (omega arith) in
        eqb-true (get_or l k 0 / 2 ^ (4 * q) % 16) (next_of q k) (rw (d, m) at t)
