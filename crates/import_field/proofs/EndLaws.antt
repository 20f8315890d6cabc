-- What is known at each place of `end_type`: the last subtrees are read. Assumes nothing.
use Rattle.std.specs.Prelude.{Ok}
use mathlib.Core.Path.{◌≡◌, refl, subst}
use mathlib.Core.List.{List}
use Prim.Native.Nat.{ℕ}
use Rattle.sheets.specs.Bytes.{Bytes}
use Rattle.sheets.specs.Answer.{given}
use Rattle.sheets.specs.Schema.{Schema}
use Rattle.schema_sheet.specs.Trees.{ReadsRow}
use Rattle.schema_sheet.proofs.ReadLaws.{reads_standing}
use Rattle.outcome.specs.declared.Size.{Size}
use Rattle.refusal.specs.Refusals.{Refusing, answer_of}
use Rattle.import_field.specs.Recursion.{LeftAt, Ends, LastRead}

module _ (s : Bytes) (at count levels : ℕ) (k : Refusing ℕ) (reads : ReadsRow s at count levels (answer_of k)) where
  pub last_read : (size : Size) (next : ℕ) → k ≡ Ok next → LastRead s at count levels size (given (next, size))
  last_read size next e = (refl, subst (λ (y : Refusing ℕ). ReadsRow s at count levels (answer_of y)) e reads)

  module _ (us ts : List Schema) (h : LeftAt s at count levels us ts) where
    -- trees that stand are read
    pub left_to : (next : ℕ) × (k ≡ Ok next)
    left_to = reads_standing s at count levels us ts h.stands h.counted h.deep k reads

    pub left_read : (size : Size) (next : ℕ) → k ≡ Ok next → Ends s at size ts (given (next, size))
    left_read size next e = let d = (last_read size next e).1.1 us ts h.stands h.counted in (refl, d.1, d.2, d.3)
