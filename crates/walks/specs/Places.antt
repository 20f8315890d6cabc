-- What functions that walk a field sheet ask and tell, for any step of sheets/specs/Walk: the types that stand at a place of the sheet, and what is
-- written for them, laid over the lent buffer. The forms are those of import (import_field/specs/Recursion). The answer of each function is a
-- refusal or values. Assumes nothing.
use Rattle.std.specs.Prelude.{◌≡◌, Bool, List, ◌∷◌, ◌++◌, ℕ, ◌+◌, ◌*◌, ◌≤◌, ◌<◌, length, drop, Option, None, Some}
use Rattle.sheets.specs.Bytes.{Bytes}
use Rattle.sheets.specs.Answer.{Answer, refused, given, ◌>>=◌}
use Rattle.sheets.specs.Sheet.{ended}
use Rattle.sheets.specs.Field.{Info, ArrowDataType, type_levels}
use Rattle.sheets.specs.FieldSheet.{Entry}
use Rattle.sheets.specs.LineTrees.{tallest, Standing}
use Rattle.sheets.specs.FieldTrees.{Head, entry_levels, fields}
use Rattle.sheets.specs.Walk.{Step, Walked, line_measure, row_measure, row_walk, row_visits, type_walked, row_walked}
use Rattle.buffer.specs.Over.{PutFirst}
use Rattle.outcome.specs.declared.Size.{Size}

-- ── what stands at a place of a sheet

-- the type t with the columns i and at most so many levels, and then es; the flag says that it stands directly in an extension
pub record TypeAt (s : Bytes) (at levels : ℕ) (inside : Bool) (i : Option Info) (t : ArrowDataType) (es : List Entry) : Type 0 where
  pub stands : Standing fields (drop at s) ((i, t) ∷ es)
  pub deep : type_levels t inside ≤ levels
  pub short : length s ≤ 65535

-- the types us, so many and of at most so many levels, and then es
pub record RowAt (s : Bytes) (at count levels : ℕ) (inside : Bool) (us es : List Entry) : Type 0 where
  pub stands : Standing fields (drop at s) (us ++ es)
  pub counted : length us ≡ count
  pub deep : tallest (entry_levels inside) us ≤ levels
  pub within : at ≤ length s
  pub short : length s ≤ 65535

-- ── what is required

abbrev pub HasType : Bytes → ℕ → ℕ → Bool → Type 0
HasType s at levels inside = (i : Option Info) × (t : ArrowDataType) × (es : List Entry) × TypeAt s at levels inside i t es

abbrev pub HasRow : Bytes → ℕ → ℕ → ℕ → Bool → Type 0
HasRow s at count levels inside = (us : List Entry) × (es : List Entry) × RowAt s at count levels inside us es

-- ── what is told

-- More bytes than a line's own ever has, and few enough that the sum over the lines of a sheet does not wrap.
abbrev pub own_limit : ℕ
own_limit = 16777216

-- The lines of o were to be written, and so many lines visited for them, for what stands from `from` on with es after it: at most `own_limit` bytes for each
-- byte that was read, and a byte or more was read for each line.
abbrev pub WroteAs : Bytes → ℕ → List Entry → Walked → Bytes → Bytes → Answer (ℕ × Size) → Type 0
WroteAs s from es o out out' (refused q) = o.0 ≡ refused q
WroteAs s from es o out out' (given (next, size)) =
    (ls : List Bytes)
    × (o.0 ≡ given ls)
    × PutFirst (ended ls) size.len out out'
    × Standing fields (drop next s) es
    × (size.len + own_limit * from ≤ own_limit * next)
    × (next ≤ length s)
    × (size.lines ≡ o.1)
    × (size.lines + from ≤ next)

-- of a type that is visited in the state σ
abbrev pub TypeWrote : {S : Type 0} → (S → Head → Answer (Step S)) → Bytes → ℕ → ℕ → Bool → S → Bytes → Bytes → Answer (ℕ × Size) → Type 0
TypeWrote step s at levels inside σ out out' a =
    (i : Option Info) (t : ArrowDataType) (es : List Entry) → TypeAt s at levels inside i t es → WroteAs s at es (type_walked step t i σ) out out' a

-- of a row of so many types
abbrev pub RowWrote : {S : Type 0} → (S → Head → Answer (Step S)) → Bytes → ℕ → ℕ → ℕ → Bool → S → Bytes → Bytes → Answer (ℕ × Size) → Type 0
RowWrote step s at count levels inside σ out out' a =
    (us es : List Entry) → RowAt s at count levels inside us es → WroteAs s at es (row_walked step us σ) out out' a

-- what has one line
abbrev pub one_line : ℕ → Size
one_line len = record { len = len; lines = 1 }

-- of a type whose one line is written at once, or not
abbrev pub LeafWrote : {S : Type 0} → (S → Head → Answer (Step S)) → Bytes → ℕ → ℕ → Bool → S → Bytes → Bytes → Option (ℕ × ℕ) → Type 0
LeafWrote step s at levels inside σ out out' (Some (next, len)) = TypeWrote step s at levels inside σ out out' (given (next, one_line len))
LeafWrote step s at levels inside σ out out' None = out' ≡ out

-- ── what is left after a line

-- Where the types stand that it visits, how many, of how many levels, directly in an extension or not, and in which state they are visited; how many
-- bytes are written and lines visited, and what is pending.
pub record Begun (S : Type 0) : Type 0 where
  pub from : ℕ
  pub count : ℕ
  pub levels : ℕ
  pub inside : Bool
  pub state : S
  pub size : Size
  pub pending : Answer (Unit {0})

-- a line's own is written, or its refusal is pending
abbrev pub Owns : Answer (List Bytes) → Answer (Unit {0}) → ℕ → Bytes → Bytes → Type 0
Owns (given ls) (given u) len out out' = PutFirst (ended ls) len out out'
Owns (given ls) (refused q) len out out' = ⊥
Owns (refused r) (given u) len out out' = ⊥
Owns (refused r) (refused q) len out out' = r ≡ q

-- The first line of what comes to o is done with: its own is written, and the types us that it visits stand next, then es. Where it visits none, what
-- was below it is copied or skipped already.
pub record Begins {S : Type 0} (step : S → Head → Answer (Step S)) (s : Bytes) (at levels : ℕ) (inside : Bool) (o : Walked) (es : List Entry) (out out' : Bytes) (b : Begun S) : Type 0 where
  pub us : List Entry
  pub own : Answer (List Bytes)
  pub row : RowAt s b.from b.count b.levels b.inside us es
  pub falls : row_measure b.levels b.inside < line_measure levels inside
  pub becomes : o.0 ≡ (row_walk step us b.state >>= λ ls. own >>= λ a. given (a ++ ls))
  pub counts : o.1 ≡ b.size.lines + row_visits step us b.state
  pub owns : Owns own b.pending b.size.len out out'
  pub long : b.size.len + own_limit * at ≤ own_limit * b.from
  pub few : b.size.lines + at ≤ b.from

abbrev pub BeginsAs : {S : Type 0} → (S → Head → Answer (Step S)) → Bytes → ℕ → ℕ → Bool → Walked → List Entry → Bytes → Bytes → Answer (Begun S) → Type 0
BeginsAs step s at levels inside o es out out' (given b) = Begins step s at levels inside o es out out' b
BeginsAs step s at levels inside o es out out' (refused q) = o.0 ≡ refused q

abbrev pub TypeBegins : {S : Type 0} → (S → Head → Answer (Step S)) → Bytes → ℕ → ℕ → Bool → S → Bytes → Bytes → Answer (Begun S) → Type 0
TypeBegins step s at levels inside σ out out' a =
    (i : Option Info) (t : ArrowDataType) (es : List Entry) → TypeAt s at levels inside i t es → BeginsAs step s at levels inside (type_walked step t i σ) es out out' a

-- what was pending is refused now
abbrev pub ended_step : Answer (Unit {0}) → ℕ → Size → Answer (ℕ × Size)
ended_step (given u) next size = given (next, size)
ended_step (refused q) next size = refused q

-- the size of two parts
abbrev pub together : Size → Size → Size
together a b = record { len = a.len + b.len; lines = a.lines + b.lines }
