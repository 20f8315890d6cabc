-- A type is a row of one type. Assumes nothing.
use mathlib.Core.Path.{◌≡◌, refl, ap, subst}
use mathlib.Core.Bool.{Bool}
use mathlib.Core.List.{List, [], ◌∷◌, ◌++◌, append-nil}
use Rattle.std.specs.Prelude.{Option}
use Prim.Native.Nat.{ℕ, ◌+◌}
use native.Mathlib.Omega.{arith}
use lib.ListN.{length, drop, length-drop}
use Rattle.sheets.specs.Bytes.{Bytes}
use Rattle.sheets.specs.Answer.{Answer, refused, given, ◌>>=◌}
use Rattle.sheets.specs.Field.{Info, ArrowDataType}
use Rattle.sheets.specs.FieldSheet.{Entry}
use Rattle.sheets.specs.LineTrees.{tallest}
use Rattle.sheets.specs.FieldTrees.{Head}
use Rattle.sheets.specs.Walk.{Step, Walked, type_walk, type_visits, type_walked, row_walked}
use Rattle.sheets.proofs.FieldTrees.{fields_lawful}
use Rattle.sheets.proofs.LineTrees.{standing_many}
use Rattle.outcome.specs.declared.Size.{Size}
use Rattle.walks.specs.Places.{TypeAt, RowAt, HasType, HasRow, WroteAs, TypeWrote, RowWrote}

module _ (s : Bytes) (at levels : ℕ) (inside : Bool) where
  row_at : (i : Option Info) (t : ArrowDataType) (es : List Entry) → TypeAt s at levels inside i t es → RowAt s at 1 levels inside ((i, t) ∷ []) es
  unfolding tallest
  row_at i t es f =
      record { stands = f.stands; counted = refl; deep = omega (arith, f.deep); within = omega (arith, standing_many fields_lawful f.stands, length-drop at s); short = f.short }

  pub first_there : HasType s at levels inside → HasRow s at 1 levels inside
  first_there (i, t, es, f) = ((i, t) ∷ [], es, row_at i t es f)

  one_written : (m : Answer (List Bytes)) → (m >>= λ a. given (a ++ [])) ≡ m
  one_written (refused r) = refl
  one_written (given a) = ap given (append-nil a)

  -- one type is written, and its lines visited, as a row is
  one_walked : {S : Type 0} (step : S → Head → Answer (Step S)) (i : Option Info) (t : ArrowDataType) (σ : S) → row_walked step ((i, t) ∷ []) σ ≡ type_walked step t i σ
  one_walked step i t σ =
      let same : type_visits step t i σ + 0 ≡ type_visits step t i σ = omega arith in
      λ x. (one_written (type_walk step t i σ) x, same x)

  pub first_wrote : {S : Type 0} (step : S → Head → Answer (Step S)) (σ : S) (out out' : Bytes) (a : Answer (ℕ × Size)) → RowWrote step s at 1 levels inside σ out out' a → TypeWrote step s at levels inside σ out out' a
  first_wrote step σ out out' a h i t es f =
      subst (λ (o : Walked). WroteAs s at es o out out' a) (one_walked step i t σ) (h ((i, t) ∷ []) es (row_at i t es f))
