-- What a strict reading tells of a line and of trees of a field sheet: what a strict export answers of their lines (`Strict`), by the first that has a cause.
-- Assumes nothing.
use Rattle.std.specs.Prelude.{◌≡◌, Bool, true, ◌&&◌, ◌||◌, List, [], ◌∷◌, ◌++◌, ℕ, eqb, length, drop, Ok, Err}
use Rattle.sheets.specs.Rule.{Meets}
use Rattle.sheets.specs.Bytes.{Bytes}
use Rattle.sheets.specs.Answer.{Answer, refused, given, ◌>>=◌}
use Rattle.sheets.specs.Kind
use Rattle.sheets.specs.IntegerType
use Rattle.sheets.specs.FieldSheet.{Entry}
use Rattle.sheets.specs.LineTrees.{Standing}
use Rattle.sheets.specs.FieldTrees.{Head, fields}
use Rattle.sheets.specs.Strict.{line_returns, type_heads, lines_return}
use Rattle.refusal.specs.Refusals.{refusal_of, Refusing}
use Rattle.read_field_line.specs.FieldLines.{Shows}
use Rattle.read_field_line.specs.declared.FieldLine.{FieldLine}

-- ── a line

-- by its columns `kind` and `p`: "a 128-bit dictionary index"
abbrev pub is_wide : ℕ → ℕ → Bool
is_wide kind p = eqb kind Kind.Dictionary && (eqb p IntegerType.Int128 || eqb p IntegerType.UInt128)

-- the struct shows a line that keeps its rules
abbrev pub LineShown : Bytes → FieldLine → Type 0
LineShown s l = (h : Head) × Shows s l h × Meets (fields.own h)

-- nothing is tested where the reading is not strict
abbrev pub Tested : Bool → Head → Refusing (Unit {0}) → Type 0
Tested strict h (Ok tt) = strict ≡ true → line_returns h ≡ given tt
Tested strict h (Err q) = (strict ≡ true) × (line_returns h ≡ refused (refusal_of q))

abbrev pub LineTested : Bool → Bytes → FieldLine → Refusing (Unit {0}) → Type 0
LineTested strict s l r = (h : Head) → Shows s l h → Meets (fields.own h) → Tested strict h r

-- ── trees

abbrev pub tree_returns : Entry → Answer (Unit {0})
tree_returns e = lines_return (type_heads e.1 e.0)

-- one after the other
abbrev pub row_returns : List Entry → Answer (Unit {0})
row_returns [] = given tt
row_returns (e ∷ es) = tree_returns e >>= λ _. row_returns es

-- this is answered of the tree that stands here
abbrev pub TreeTold : Bytes → ℕ → Answer (Unit {0}) → Type 0
TreeTold s at a = (t : Entry) (ts : List Entry) → Standing fields (drop at s) (t ∷ ts) → tree_returns t ≡ a

-- and of the trees that stand here, so many of them
abbrev pub RowTold : Bytes → ℕ → ℕ → Answer (Unit {0}) → Type 0
RowTold s at count a = (us ts : List Entry) → Standing fields (drop at s) (us ++ ts) → length us ≡ count → row_returns us ≡ a
