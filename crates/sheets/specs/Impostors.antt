-- Document 01, 'Agreement on the contracts': "These impostors are shut out". Each is a class of calls: from what is handed in, and what the lent
-- buffer held, to an outcome. What is handed in is a sheet, a sheet and an index, or a place alone (`A`); what an impostor may look at without
-- reading it is `seen`: a sheet's length, or nothing of a place. Each class is as wide as the sentence bears, so that more is shut out.
-- `proofs/ImpostorLaws.antt` shows once that no call with the outcomes of a definition is in any of them. Assumes nothing.
use Rattle.std.specs.Prelude.{◌≡◌, ◌↔◌, ◌≢◌, Bool, true, ◌∷◌, ◌++◌, ℕ, ◌<◌, length}
use Rattle.sheets.specs.Refusal.{no_room}
use Rattle.sheets.specs.Bytes.{Bytes, line_end, split}
use Rattle.sheets.specs.Answer.{Answer}
use Rattle.sheets.specs.Outcome.{Outcome, outcome}
use Rattle.sheets.specs.Demand3.{written}

abbrev pub Call : Type 0 → Type 0
Call A = A → Bytes → Outcome

-- "each outcome is equated with a defined one": the contract of a call that answers a sheet
abbrev pub Defined : {A : Type 0} → (A → Answer Bytes) → Call A → Type 0
Defined {A} answer f = (a : A) (out : Bytes) → f a out ≡ outcome (answer a) out

-- ── the classes

-- "an importer correct on the first line that copies stock lines after it": where it says 0, the first line and the number of bytes and of lines
-- after it tell the sheet. `sheet` puts lines under their heading. A call that is handed no lines cannot be one.
abbrev pub CopiesStockLines : {A : Type 0} → (Bytes → A) → Call A → Type 0
CopiesStockLines sheet f =
    (l a b out : Bytes)
    → length a ≡ length b
    → length (split line_end a) ≡ length (split line_end b)
    → (f (sheet (l ++ (line_end ∷ a))) out).number ≡ 0
    → (f (sheet (l ++ (line_end ∷ b))) out).number ≡ 0
    → written (f (sheet (l ++ (line_end ∷ a))) out) ≡ written (f (sheet (l ++ (line_end ∷ b))) out)

-- "one reporting an invented length": made up from what it saw and from the buffer's length
abbrev pub InventsLength : {A S : Type 0} → (A → S) → Call A → Type 0
InventsLength {A} {S} seen f = (n : S → ℕ → ℕ) × ((a : A) (out : Bytes) → (f a out).number ≡ 0 → (f a out).size ≡ n (seen a) (length out))

-- "one crying 16 before measuring, since 16 comes exactly if the sheet is longer than the buffer": by what it saw and by the buffer's length
abbrev pub CriesUnmeasured : {A S : Type 0} → (A → S) → Call A → Type 0
CriesUnmeasured {A} {S} seen f = (cries : S → ℕ → Bool) × ((a : A) (out : Bytes) → ((f a out).number ≡ no_room) ↔ (cries (seen a) (length out) ≡ true))

-- the same: at every buffer that is shorter than the 65,536 bytes of program `import`
abbrev pub CriesAlways : {A : Type 0} → Call A → Type 0
CriesAlways {A} f = (a : A) (out : Bytes) → length out < 65536 → (f a out).number ≡ no_room

-- "one giving the same field always"
abbrev pub GivesSame : {A : Type 0} → Call A → Type 0
GivesSame {A} f = (a b : A) (out : Bytes) → (f a out).number ≡ 0 → (f b out).number ≡ 0 → written (f a out) ≡ written (f b out)

-- "one that touches nothing and says 0": it says 0 to all
abbrev pub SaysZero : {A : Type 0} → Call A → Type 0
SaysZero {A} f = (a : A) (out : Bytes) → (f a out).number ≡ 0

-- the same: where it says 0, every byte of the buffer is as it was
abbrev pub TouchesNothing : {A : Type 0} → Call A → Type 0
TouchesNothing {A} f = (a : A) (out : Bytes) → (f a out).number ≡ 0 → (f a out).buffer ≡ out

-- "one that refuses all"
abbrev pub RefusesAll : {A : Type 0} → Call A → Type 0
RefusesAll {A} f = (a : A) (out : Bytes) → (f a out).number ≢ 0

-- ── the call is none of these

pub record ShutOut {A S : Type 0} (seen : A → S) (f : Call A) : Type 0 where
  pub invents_no_length : InventsLength seen f → ⊥
  pub measures_first : CriesUnmeasured seen f → ⊥
  pub cries_not_always : CriesAlways f → ⊥
  pub gives_not_the_same : GivesSame f → ⊥
  pub says_not_zero : SaysZero f → ⊥
  pub touches_something : TouchesNothing f → ⊥
  pub refuses_not_all : RefusesAll f → ⊥

-- and, if it is handed lines, no copier
pub record ShutOutOfLines {A S : Type 0} (sheet : Bytes → A) (seen : A → S) (f : Call A) : Type 0 where
  pub copies_no_stock : CopiesStockLines sheet f → ⊥
  pub others : ShutOut seen f
