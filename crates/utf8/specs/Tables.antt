-- The rules of the two tables of the code, and the test that all bytes are ASCII. Assumes nothing.
use Rattle.std.specs.Prelude.{◌≡◌, Bool, List, ℕ, ◌*◌, ◌/◌, ◌%◌, ◌^◌, ◌<◌, leb, get_or}
use Rattle.sheets.specs.Rule.{passes}
use Rattle.sheets.specs.Bytes.{Bytes, all}
use Rattle.sheets.specs.Utf8Classes.{class_of, next_of}

-- at each byte value its class
pub record ClassTable (l : List ℕ) : Type 0 where
  pub entry : (b : ℕ) → b < 256 → get_or l b 0 ≡ class_of b

-- at each class a row of hexadecimal digits: digit q, counted from the last, is the state after state q
pub record NextTable (l : List ℕ) : Type 0 where
  pub digit : (q k : ℕ) → q < 9 → k < 12 → get_or l k 0 / 2 ^ (4 * q) % 16 ≡ next_of q k

-- the tables are right, and q is a state
pub record Ready (class next : List ℕ) (q : ℕ) : Type 0 where
  pub classes : ClassTable class
  pub nexts : NextTable next
  pub state : q < 9

abbrev pub is_ascii : ℕ → Bool
is_ascii b = leb b 127

unfoldable pub all_ascii : Bytes → Bool
all_ascii bs = passes (all is_ascii bs)
