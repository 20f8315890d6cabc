-- The counts that `replay` keeps: for each of the calls the records that were replayed, then for each those that differ. A count goes round at 2^64.
-- Assumes nothing.
use Rattle.std.specs.Prelude.{ℕ, ◌+◌, ◌%◌, ◌^◌, Bool, true, false, cond, List, nat_lt, slice_index, slice_set, Option, None, Some}
use Rattle.recorded_list.specs.Codes.{calls}
use Rattle.judge.specs.declared.Numbers.{Numbers}

-- one more at place i
abbrev pub one_more : ℕ → List ℕ → List ℕ
one_more i kept = slice_set kept i ((slice_index kept i + 1) % 2 ^ 64)

-- one more for the call among the counts from a place on, if there is such a call
abbrev pub counted : ℕ → ℕ → List ℕ → List ℕ
counted from call kept = cond (nat_lt call calls) (one_more (from + call) kept) kept

-- what is kept after a record, by what was told of it
abbrev pub tallied : Option Numbers → ℕ → List ℕ → List ℕ
tallied None call kept = counted 0 call kept
tallied (Some came) call kept = counted calls call (counted 0 call kept)

abbrev pub differs : Option Numbers → Bool
differs None = false
differs (Some came) = true
