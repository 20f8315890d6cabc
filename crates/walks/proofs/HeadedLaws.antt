-- The lines of a walk after the opening of the answer: what a call puts before them, as the heading line of a sheet. The opening is written first, the
-- lines into the remainder. Assumes nothing.
use mathlib.Core.Path.{◌≡◌, refl, ap, subst}
use mathlib.Core.List.{List, ◌++◌}
use Prim.Native.Nat.{ℕ, ◌+◌, ◌-◌, min}
use lib.ListN.{length, take, drop}
use Rattle.sheets.specs.Refusal.{Refusal}
use Rattle.sheets.specs.Bytes.{Bytes}
use Rattle.sheets.specs.Answer.{Answer, refused, given, ◌>>=◌}
use Rattle.sheets.specs.Sheet.{ended}
use Rattle.sheets.specs.FieldSheet.{Entry}
use Rattle.sheets.specs.Walk.{Walked}
use Rattle.buffer.specs.Over.{PutAt, PutFirst}
use Rattle.buffer.proofs.OverLaws.{put_over, put_lent}
use Rattle.outcome.specs.Answers.{SheetTold}
use Rattle.outcome.specs.declared.Size.{Size}
use Rattle.walks.specs.Places.{WroteAs}

-- an answer of these lines
abbrev pub sheet_of : Bytes → Answer (List Bytes) → Answer Bytes
sheet_of opening o = o >>= λ ls. given (opening ++ ended ls)

module _ (opening s : Bytes) (at : ℕ) (es : List Entry) (o : Walked) (lent part : Bytes) (a : Answer (ℕ × Size)) (h : WroteAs s at es o lent part a) where
  pub headed_refused : (q : Refusal) → a ≡ refused q → sheet_of opening o.0 ≡ refused q
  headed_refused q e = ap (sheet_of opening) (subst (λ (y : Answer (ℕ × Size)). WroteAs s at es o lent part y) e h)

  pub headed_done : (next : ℕ) (size : Size) → a ≡ given (next, size) → (out mid : Bytes) (head w : ℕ) → PutAt 0 opening head out mid → w ≡ min head (length mid)
      → lent ≡ take (length mid - w) (drop w mid) → SheetTold (sheet_of opening o.0) o.1 out (take w mid ++ (part ++ drop (length mid - w) (drop w mid))) (given (next, record { len = head + size.len; lines = size.lines }))
  headed_done next size e out mid head w p e₁ e₂ =
      let (ls, is, put, there, long, within, counted, few) = subst (λ (y : Answer (ℕ × Size)). WroteAs s at es o lent part y) e h in (
        opening ++ ended ls,
        ap (sheet_of opening) is,
        put_lent opening (ended ls) out (put_over opening out p) e₁ (subst (λ (y : Bytes). PutFirst (ended ls) size.len y part) e₂ put) refl,
        counted,
      )
