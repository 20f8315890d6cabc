-- A name from its two halves; and the kind that the last arm of a `match` is left with, by a test computed over all of the kinds. Assumes nothing.
use mathlib.Core.Path.{◌≡◌, sym, ap₂, ◌∙◌}
use mathlib.Core.Bool.{Bool, true, false, not, ◌||◌, true≢false}
use mathlib.Core.List.{List, ◌++◌}
use Prim.Native.Nat.{ℕ, suc, ◌+◌, ◌≤◌}
use native.Mathlib.Omega.{arith}
use lib.Dec.{eqb, ltb}
use lib.ListN.{length, drop, take-append-drop, length-drop}
use lib.Seq.{take_all}
use borrow.Author.Tests.{eqb-true, le-ltb}
use Rattle.sheets.specs.Rule.{Meets}
use Rattle.sheets.specs.Bytes.{Bytes}
use Rattle.sheets.specs.Kind
use Rattle.sheets.specs.KindNames.{kind_name}
use Rattle.sheets.specs.Page.{kind_width, left_in}
use Rattle.sheets.proofs.Tests.{every, at_each}
use Rattle.datatypes.proofs.AtLaws.{Rest, listed, not_listed}
use Rattle.words.specs.Words.{WordAt, low_bytes}
use Rattle.words.proofs.WordLaws.{low_word}

abbrev pub padded : ℕ → Bytes
padded k = left_in kind_width (kind_name k)

-- ── the halves

-- sixteen bytes read as two words
pub halves_read : (s : Bytes) (low high : ℕ) → length s ≡ 16 → WordAt 8 s 0 low → WordAt 8 s 8 high → low_bytes 8 low ++ low_bytes 8 high ≡ s
halves_read s low high e a b =
    ap₂ ◌++◌ (low_word a (omega (arith, e))) (low_word b (omega (arith, e)) ∙ take_all 8 (drop 8 s) (omega (arith, length-drop 8 s, e)))
    ∙ take-append-drop 8 s

-- ── the last arm

-- each number from `from` up to `last` is a pattern, but the last
abbrev pub all_but : ℕ → ℕ → List (List ℕ) → ℕ → Bool
all_but from last kss k = ltb k from || (listed kss k || eqb k last)

pub last_left : (from last : ℕ) (kss : List (List ℕ)) → Meets (every (suc last) (all_but from last kss)) → (x : ℕ) → from ≤ x → x ≤ last → Rest kss x → x ≡ last
last_left from last kss h x l u r =
    eqb-true x last (pick (ltb x from) (listed kss x) (le-ltb x from l) (not_listed x kss r) (at_each (suc last) (all_but from last kss) h x (omega arith)))
  where
    pick : (a b : Bool) → a ≡ false → not b ≡ true → (a || (b || eqb x last)) ≡ true → eqb x last ≡ true
    pick true b p q t = absurd (true≢false p)
    pick false true p q t = absurd (true≢false (sym q))
    pick false false p q t = t
