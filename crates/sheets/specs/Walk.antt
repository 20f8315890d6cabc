-- The walk of a field sheet's lines from the first on, for export, plain form, the mappings and the page: what is written for a line, and what is done with
-- the subtrees below it. A refusal may come at once, before what is below, or be pending until after it. A `Step` says it for one line of one call
-- (ExportSteps, PlainSteps, MappingSteps, PageSteps); `type_walk` is the walk of a type, and `walk_opened` (proofs/WalkLaws) the walk of its first line and
-- of the row below it. Assumes nothing.
use Rattle.std.specs.Prelude.{Bool, cond, List, [], ◌∷◌, ◌++◌, ℕ, suc, ◌+◌, ◌-◌, ◌*◌, Option, None, Some}
use Rattle.sheets.specs.Bytes.{Bytes}
use Rattle.sheets.specs.Answer.{Answer, refused, given, ◌>>=◌}
use Rattle.sheets.specs.Sheet.{write_sheet}
use Rattle.sheets.specs.Field.{Info, ArrowDataType, scalar, nested, grouped, dictionary, extension, Fields, nil, add, count_fields}
use Rattle.sheets.specs.FieldSheet.{Entry, Shape, of_scalar, of_nesting, of_grouping, of_dictionary, of_extension, field_line, line_of, type_lines, fields_lines, read_field_sheet}
use Rattle.sheets.specs.FieldTrees.{Head, is_extension, line_cost}

-- ── lines

-- a line that says this of its type, of its field (none: a bare line) and of its children
abbrev pub head_with : Shape → Option Info → ℕ → Head
head_with s i n = record { shape = s; info = i; children = n }

abbrev pub head_text : Head → Bytes
head_text x = field_line.write (line_of x.shape x.info x.children)

-- ── levels

-- the levels left below a line that has so many, its own among them; the flag says that it stands directly in an extension
abbrev pub levels_below : Shape → Bool → ℕ → ℕ
levels_below s inside levels = levels - line_cost inside (is_extension s)

-- What falls at each call: of a line, and of the row of subtrees below it. An extension that stands in none keeps its levels, and what is below it
-- stands directly in an extension; every other line costs a level.
abbrev pub line_measure : ℕ → Bool → ℕ
line_measure levels inside = cond inside (4 * levels) (4 * levels + 2)

abbrev pub row_measure : ℕ → Bool → ℕ
row_measure levels inside = line_measure levels inside + 1

-- ── steps

-- what is done with the subtrees below a line: each is visited in a state, or they are copied as they stand, or skipped
pub data Below (S : Type 0) : Type 0 where
  visit : S → Below S
  copy : Below S
  skip : Below S

-- What is done with a line: `own` is written before what is below; where it is a refusal, that comes after what is below.
pub record Step (S : Type 0) : Type 0 where
  pub own : Answer (List Bytes)
  pub below : Below S

abbrev pub writes : {S : Type 0} → Answer (List Bytes) → Below S → Step S
writes own below = record { own = own; below = below }

-- what becomes of what is below, by what visiting it gives and by its lines as they stand
abbrev pub below_written : {S : Type 0} → Below S → (S → Answer (List Bytes)) → List Bytes → Answer (List Bytes)
below_written (visit σ) visited ls = visited σ
below_written copy visited ls = given ls
below_written skip visited ls = given []

-- a line's refusal at once, else its own, then what is below, then what was pending
abbrev pub line_written : {S : Type 0} → Answer (Step S) → (S → Answer (List Bytes)) → List Bytes → Answer (List Bytes)
line_written step visited ls = step >>= λ p. below_written p.below visited ls >>= λ b. p.own >>= λ a. given (a ++ b)

-- ── the lines that are visited

-- what is written, and how many lines are visited for it
abbrev pub Walked : Type 0
Walked = Answer (List Bytes) × ℕ

abbrev pub below_visits : {S : Type 0} → Below S → (S → ℕ) → ℕ
below_visits (visit σ) visits = visits σ
below_visits copy visits = 0
below_visits skip visits = 0

abbrev pub line_visits : {S : Type 0} → Answer (Step S) → (S → ℕ) → ℕ
line_visits (refused r) visits = 0
line_visits (given p) visits = suc (below_visits p.below visits)

-- the extensions directly around a type
abbrev pub extensions_around : ArrowDataType → ℕ
extensions_around (scalar s) = 0
extensions_around (nested n j t) = 0
extensions_around (grouped g fs) = 0
extensions_around (dictionary ix ordered t) = 0
extensions_around (extension n m t) = suc (extensions_around t)

-- a line and the row below it, after so many lines that write nothing
abbrev pub line_walked : {S : Type 0} → ℕ → Answer (Step S) → (S → Walked) → List Bytes → Walked
line_walked passed step visited ls = (line_written step (λ τ. (visited τ).0) ls, line_visits step (λ τ. (visited τ).1) + passed)

-- ── the walk

module _ {S : Type 0} (step : S → Head → Answer (Step S)) where
  -- what is written for a type whose first line has these columns, in a state
  abbrev mutual
    pub type_walk : ArrowDataType → Option Info → S → Answer (List Bytes)
    type_walk (scalar s) i σ = line_written (step σ (head_with (of_scalar s) i 0)) (λ τ. given []) []
    type_walk (nested n j t) i σ = line_written (step σ (head_with (of_nesting n) i 1)) (λ τ. type_walk t (Some j) τ) (type_lines t (Some j))
    type_walk (grouped g fs) i σ = line_written (step σ (head_with (of_grouping g) i (count_fields fs))) (λ τ. fields_walk fs τ) (fields_lines fs)
    type_walk (dictionary ix ordered t) i σ = line_written (step σ (head_with (of_dictionary ix ordered) i 1)) (λ τ. type_walk t None τ) (type_lines t None)
    type_walk (extension n m t) i σ = line_written (step σ (head_with (of_extension n m) i 1)) (λ τ. type_walk t None τ) (type_lines t None)

    pub fields_walk : Fields → S → Answer (List Bytes)
    fields_walk nil σ = given []
    fields_walk (add i t fs) σ = type_walk t (Some i) σ >>= λ a. fields_walk fs σ >>= λ b. given (a ++ b)

  -- of types one after the other, all in one state
  abbrev pub row_walk : List Entry → S → Answer (List Bytes)
  row_walk [] σ = given []
  row_walk (x ∷ xs) σ = type_walk x.1 x.0 σ >>= λ a. row_walk xs σ >>= λ b. given (a ++ b)

  -- How many lines the walk of a type visits (document 02, #105): each line that is not refused at once, and those below it that are visited and not copied
  -- or skipped.
  abbrev mutual
    pub type_visits : ArrowDataType → Option Info → S → ℕ
    type_visits (scalar s) i σ = line_visits (step σ (head_with (of_scalar s) i 0)) (λ τ. 0)
    type_visits (nested n j t) i σ = line_visits (step σ (head_with (of_nesting n) i 1)) (λ τ. type_visits t (Some j) τ)
    type_visits (grouped g fs) i σ = line_visits (step σ (head_with (of_grouping g) i (count_fields fs))) (λ τ. fields_visits fs τ)
    type_visits (dictionary ix ordered t) i σ = line_visits (step σ (head_with (of_dictionary ix ordered) i 1)) (λ τ. type_visits t None τ)
    type_visits (extension n m t) i σ = line_visits (step σ (head_with (of_extension n m) i 1)) (λ τ. type_visits t None τ)

    pub fields_visits : Fields → S → ℕ
    fields_visits nil σ = 0
    fields_visits (add i t fs) σ = type_visits t (Some i) σ + fields_visits fs σ

  abbrev pub row_visits : List Entry → S → ℕ
  row_visits [] σ = 0
  row_visits (x ∷ xs) σ = type_visits x.1 x.0 σ + row_visits xs σ

  -- both
  abbrev pub type_walked : ArrowDataType → Option Info → S → Walked
  type_walked t i σ = (type_walk t i σ, type_visits t i σ)

  abbrev pub row_walked : List Entry → S → Walked
  row_walked us σ = (row_walk us σ, row_visits us σ)

  -- of a field sheet: 1, 2 and 3, then the heading of the answer and the lines
  abbrev pub sheet_walk : S → Bytes → Bytes → Answer Bytes
  sheet_walk σ heading b = read_field_sheet b >>= λ f. type_walk f.type (Some f.info) σ >>= λ ls. given (write_sheet heading ls)
