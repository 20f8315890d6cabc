-- For callers: the columns from entries, and the value of an entry, which 0 has not. Assumes nothing.
use mathlib.Core.Path.{◌≡◌, refl, ap}
use mathlib.Core.Bool.{Bool, cond}
use mathlib.Core.List.{List}
use Rattle.std.specs.Prelude.{None, Some}
use Prim.Native.Nat.{ℕ}
use borrow.Author.Tests.{eq-eqb, ne_eqb}
use Rattle.sheets.specs.Bytes.{Bytes}
use Rattle.sheets.specs.Text.{write_text}
use Rattle.sheets.specs.FieldSheet.{write_list, pair_text}
use Rattle.sheets.specs.Metadata.{some_pairs}
use Rattle.metadata.specs.Entry.{pair_at, pairs_at, value_at}
use Rattle.metadata.specs.Pairs.{pairs_column, value_column}

module _ (big : Bool) where
  pub pairs_column_lem : (b : Bytes) (es : List ℕ) (n : ℕ) → pairs_column big b es n ≡ write_list pair_text (some_pairs (pairs_at big b es n))
  unfolding pairs_column
  pairs_column_lem b es n = refl

  pub value_column_lem : (b : Bytes) (e : ℕ) → value_column big b e ≡ write_text (value_at big b e)
  unfolding value_column
  value_column_lem b e = refl

  pub no_value : (b : Bytes) (e : ℕ) → e ≡ 0 → value_at big b e ≡ None
  unfolding value_at
  no_value b e z = ap (λ (t : Bool). cond t None (Some (pair_at big b e).1)) (eq-eqb e 0 z)

  pub has_value : (b : Bytes) (e : ℕ) → (e ≡ 0 → ⊥) → value_at big b e ≡ Some (pair_at big b e).1
  unfolding value_at
  has_value b e d = ap (λ (t : Bool). cond t None (Some (pair_at big b e).1)) (ne_eqb e 0 d)
