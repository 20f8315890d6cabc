-- From the end of the column to what a reader tells of it: of a column that keeps a test its end, and of any other nothing. `Finds` says it of every
-- column that could stand there, for callers that compare with one. Assumes nothing.
use mathlib.Core.Path.{◌≡◌, refl, sym, ap, subst, ◌∙◌}
use mathlib.Core.Bool.{Bool, true, false, cond}
use Rattle.std.specs.Prelude.{Option, None, Some}
use Prim.Native.Nat.{ℕ}
use Rattle.sheets.specs.Bytes.{Bytes}
use Rattle.sheets.proofs.Tests.{not_some}
use Rattle.columns.specs.Columns.{part, is_stop, column_end, keep, column_of, ColumnAt}
use Rattle.columns.proofs.ColumnLaws.{column_there, column_same}

module _ (f : Bytes → Bool) (stop : ℕ) (s : Bytes) (a : ℕ) where
  pub of_none : column_end stop s a ≡ None → column_of f stop s a ≡ None
  unfolding column_of
  of_none h = rw h

  module _ (e : ℕ) (h : column_end stop s a ≡ Some e) where
    pub of_end : column_of f stop s a ≡ cond (f (part s a e)) (Some e) None
    unfolding column_of
    of_end = ap (keep (λ (i : ℕ). f (part s a i))) h

    pub of_other : f (part s a e) ≡ false → column_of f stop s a ≡ None
    of_other k = of_end ∙ rw k

    pub of_there : f (part s a e) ≡ true → column_of f stop s a ≡ Some e
    of_there k = of_end ∙ rw k

-- the column that stands there
pub column_is : (f : Bytes → Bool) {s : Bytes} {a e stop : ℕ} → is_stop stop ≡ true → ColumnAt s a e stop → f (part s a e) ≡ true → column_of f stop s a ≡ Some e
column_is f {s} {a} {e} {stop} is c h = of_there f stop s a e (column_same is c) h

-- a column of which f holds, up to its end; else there is none
abbrev pub Finds : (Bytes → Bool) → Bytes → ℕ → ℕ → Option ℕ → Type 0
Finds f s a stop (Some e) = ColumnAt s a e stop × (f (part s a e) ≡ true)
Finds f s a stop None = (e : ℕ) → ColumnAt s a e stop → f (part s a e) ≡ true → ⊥

pub finds : (f : Bytes → Bool) (s : Bytes) (a stop : ℕ) → is_stop stop ≡ true → (o : Option ℕ) → o ≡ column_of f stop s a → Finds f s a stop o
unfolding column_of
finds f s a stop is None h = λ e c k. not_some (h ∙ column_is f is c k)
finds f s a stop is (Some e) h = go (column_end stop s a) (λ i. column_there stop s a i) h
  where
    go : (o : Option ℕ) → ((i : ℕ) → o ≡ Some i → ColumnAt s a i stop) → Some e ≡ keep (λ (i : ℕ). f (part s a i)) o → ColumnAt s a e stop × (f (part s a e) ≡ true)
    go None there q = not_some (sym q)
    go (Some i) there q = pick (f (part s a i)) refl q
      where
        pick : (t : Bool) → f (part s a i) ≡ t → Some e ≡ cond t (Some i) None → ColumnAt s a e stop × (f (part s a e) ≡ true)
        pick true k p =
            let same : i ≡ e = cc in
            subst (λ (j : ℕ). ColumnAt s a j stop × (f (part s a j) ≡ true)) same (there i refl, k)
        pick false k p = not_some (sym p)
