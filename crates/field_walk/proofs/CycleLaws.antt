-- What the answers of the walk's functions tell, taken by the case that came. Assumes nothing.
use mathlib.Core.Path.{◌≡◌, subst}
use mathlib.Core.Bool.{Bool}
use mathlib.Core.List.{List}
use Rattle.std.specs.Prelude.{Option, None, Some}
use Prim.Native.Nat.{ℕ}
use Rattle.sheets.specs.Bytes.{Bytes}
use Rattle.sheets.specs.Refusal.{Refusal}
use Rattle.sheets.specs.Answer.{Answer, refused, given}
use Rattle.sheets.specs.Field.{Info, ArrowDataType}
use Rattle.sheets.specs.FieldSheet.{Entry}
use Rattle.sheets.specs.FieldTrees.{Head}
use Rattle.sheets.specs.Walk.{Step, type_walked}
use Rattle.walks.specs.Places.{TypeAt, TypeWrote, LeafWrote, Begun, Begins, TypeBegins, one_line}

module _ {S : Type 0} (step : S → Head → Answer (Step S)) (s : Bytes) (at levels : ℕ) (inside : Bool) (σ : S) (out out' : Bytes) where
  -- the line was begun
  pub begun_below : (a : Answer (Begun S)) (b : Begun S) → a ≡ given b → TypeBegins step s at levels inside σ out out' a
      → (i : Option Info) (t : ArrowDataType) (es : List Entry) → TypeAt s at levels inside i t es → Begins step s at levels inside (type_walked step t i σ) es out out' b
  begun_below a b e h = subst (λ (x : Answer (Begun S)). TypeBegins step s at levels inside σ out out' x) e h

  -- it was refused at once
  pub begun_refused : (a : Answer (Begun S)) (q : Refusal) → a ≡ refused q → TypeBegins step s at levels inside σ out out' a → (last : Bytes) → TypeWrote step s at levels inside σ out last (refused q)
  begun_refused a q e h last = subst (λ (x : Answer (Begun S)). TypeBegins step s at levels inside σ out out' x) e h

  -- a leaf was written at once, or nothing was
  pub leaf_put : (o : Option (ℕ × ℕ)) (next len : ℕ) → o ≡ Some (next, len) → LeafWrote step s at levels inside σ out out' o → TypeWrote step s at levels inside σ out out' (given (next, one_line len))
  leaf_put o next len e h = subst (λ (x : Option (ℕ × ℕ)). LeafWrote step s at levels inside σ out out' x) e h

  pub leaf_other : (o : Option (ℕ × ℕ)) → o ≡ None → LeafWrote step s at levels inside σ out out' o → out' ≡ out
  leaf_other o e h = subst (λ (x : Option (ℕ × ℕ)). LeafWrote step s at levels inside σ out out' x) e h
