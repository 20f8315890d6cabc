-- What is printed of a row's sheet has the number that the table wants: by the table's one proof, and since no answer in it is longer than the buffer.
-- Assumes nothing.
use mathlib.Core.Path.{◌≡◌, refl, sym, ap, ◌∙◌}
use mathlib.Core.Bool.{true, false}
use mathlib.Core.List.{List, [], ◌∷◌}
use Prim.Native.Nat.{ℕ, zero, suc, ◌≤◌}
use native.Mathlib.Omega.{arith}
use lib.Dec.{leb}
use lib.ListN.{length, get_or, replicate, length-replicate, get_or-map}
use borrow.Author.Tests.{le-leb, leb-true}
use Rattle.sheets.specs.Rule.{is, each, Meets}
use Rattle.sheets.specs.Bytes.{Bytes}
use Rattle.sheets.specs.Answer.{Answer, refused, given}
use Rattle.sheets.specs.Outcome.{outcome, imported}
use Rattle.sheets.specs.Bench.{Answered, Case, got, numbered, cases, bench}
use Rattle.sheets.proofs.Tests.{meets}
use Rattle.print_import.specs.Printed.{buffer_size, printed_number}
use Rattle.bench.specs.Rows.{row_at, IsRow}

abbrev none : Case
none = record { call = imported false; sheet = []; wanted = (1, []) }

-- the table's proof, at a row
row_right : (k : ℕ) → got (row_at k) ≡ (row_at k).wanted
unfolding imported
row_right k = sym (get_or-map got cases k none) ∙ ap (λ (l : List Answered). get_or l k (1, [])) bench ∙ get_or-map (λ (c : Case). c.wanted) cases k none

-- no answer of the table is longer than the buffer
short_at : (cs : List Case) (k : ℕ) → Meets (each (λ c. is (leb (length c.wanted.1) buffer_size)) cs) → leb (length (get_or cs k none).wanted.1) buffer_size ≡ true
short_at [] k h = refl
short_at (c ∷ cs) zero h = h.0
short_at (c ∷ cs) (suc k) h = short_at cs k h.1

-- the number of an answer that fits
number_of_lem : (a : Answer Bytes) (out : Bytes) (w : Answered) → numbered a ≡ w → length w.1 ≤ length out → (outcome a out).number ≡ w.0
unfolding outcome
number_of_lem (refused r) out w e l = ap (λ (v : Answered). v.0) e
number_of_lem (given x) out w e l =
    let long : length x ≡ length w.1 = ap (λ (v : Answered). length v.1) e in
    rw (le-leb (length x) (length out) (omega arith)) (ap (λ (v : Answered). v.0) e)

pub row_number : (k : ℕ) (sheet : Bytes) → IsRow k sheet → printed_number false sheet ≡ (row_at k).wanted.0
unfolding printed_number
row_number k sheet h =
    let short = leb-true (length (row_at k).wanted.1) buffer_size (short_at cases k (meets (each (λ c. is (leb (length c.wanted.1) buffer_size)) cases) refl)) in
    let answers : numbered (imported false sheet) ≡ got (row_at k) = ap (λ (b : Bytes). numbered (imported false b)) h.is ∙ ap (λ (f : Bytes → Answer Bytes). numbered (f (row_at k).sheet)) (sym h.imports) in
    number_of_lem (imported false sheet) (replicate buffer_size 0) (row_at k).wanted (answers ∙ row_right k) (omega (arith, length-replicate {A = ℕ} buffer_size 0))
