-- What the functions below `sort_keys` do: entries in order put in among entries in order. Assumes nothing.
use Rattle.std.specs.Prelude.{◌≡◌, true, List, [], ◌∷◌, ℕ, ◌+◌, ◌≤◌, length, take, drop}
use Rattle.sheets.specs.Rule.{Rule, is, ◌and◌, each, Meets}
use Rattle.sheets.specs.Bytes.{Bytes}
use Rattle.sheets.specs.Field.{before}
use Rattle.key_order.specs.Order.{insert_entry, ordered}

-- the keys of all the entries come after that of p
abbrev pub all_after : (ℕ → Bytes) → ℕ → List ℕ → Rule
all_after key p l = each (λ q. is (before (key p) (key q))) l

-- the keys ascend
abbrev pub ascends : (ℕ → Bytes) → List ℕ → Rule
ascends key [] = is true
ascends key (p ∷ l) = all_after key p l and ascends key l

-- each key of a comes before each of b
abbrev pub precedes : (ℕ → Bytes) → List ℕ → List ℕ → Rule
precedes key a b = each (λ p. all_after key p b) a

-- the entries of b, and those of a whose keys are not there
unfoldable pub merged : (ℕ → Bytes) → List ℕ → List ℕ → List ℕ
merged key [] b = b
merged key (p ∷ a) b = insert_entry key p (merged key a b)

-- two lists that can be merged, and room for both
pub record Mergeable (key : ℕ → Bytes) (a b out : List ℕ) : Type 0 where
  pub left : Meets (ascends key a)
  pub right : Meets (ascends key b)
  pub room : length a + length b ≤ length out

-- two parts of a list that can be merged: a entries from the start, b from the half
pub record Halves (key : ℕ → Bytes) (from out : List ℕ) (half a b : ℕ) : Type 0 where
  pub first : a ≤ half
  pub second : half + b ≤ length from
  pub parts : Mergeable key (take a from) (take b (drop half from)) out

-- the first r of out are those of a and b merged
pub record Merges (key : ℕ → Bytes) (a b out : List ℕ) (r : ℕ) : Type 0 where
  pub within : r ≤ length a + length b
  pub entries : take r out ≡ merged key a b

-- the first r of out are those of l in order
pub record Sorts (key : ℕ → Bytes) (l out : List ℕ) (r : ℕ) : Type 0 where
  pub within : r ≤ length l
  pub entries : take r out ≡ ordered key l
