-- Trees that are written line by line, whatever the lines are: a tree is its first line and the trees below it, and a line tells of the trees below
-- it how many there are, their form, and what they stand in. A `Grammar` says it for one kind of sheet (`SchemaTrees`, `FieldTrees`). With it:
--     Standing   the bytes are the lines of these trees, which keep the rules
--     Row        so many trees stand here, and nothing after them
--     Sheet      what a whole sheet answers of its one tree
-- Assumes nothing.
use Rattle.std.specs.Prelude.{◌≡◌, List, [], ◌∷◌, ℕ, max, leb, length}
use Rattle.sheets.specs.Refusal.{bad_lines, too_deep}
use Rattle.sheets.specs.Rule.{Rule, is, each, Meets}
use Rattle.sheets.specs.Bytes.{Bytes, line_end, split}
use Rattle.sheets.specs.Answer.{Answer, refused, given, ◌>>=◌, when}
use Rattle.sheets.specs.Sheet.{level_limit, ended_lines, read_sheet, single}

-- ── lists

-- it holds of each
abbrev pub Each : {A : Type 0} → (A → Type 0) → List A → Type 0
Each P [] = Unit {0}
Each P (a ∷ l) = P a × Each P l

-- the largest of the numbers
unfoldable pub tallest : {A : Type 0} → (A → ℕ) → List A → ℕ
tallest f [] = 0
tallest f (a ∷ l) = max (f a) (tallest f l)

-- ── a kind of sheet

pub record Grammar : Type 1 where
  -- a line as it reads; a tree
  pub Line : Type 0
  pub Tree : Type 0
  -- what the line above asks of a line, as to be a bare one; what a line stands directly in, as far as its levels depend on it
  pub Form : Type 0
  pub Context : Type 0
  -- the trees of lines, from the last line to the first: a line takes the trees below it off those of the lines after it
  pub read : Bytes → Answer Line
  pub place : Line → List Tree → Answer (List Tree)
  pub trees : List Bytes → Answer (List Tree)
  pub rule : Tree → Rule
  pub levels : Context → Tree → ℕ
  -- a tree is its first line and the trees below it
  pub head : Tree → Line
  pub below : Tree → List Tree
  -- what a line says: whether its counts can be, the rule of its own values, its form
  pub counts : Line → Rule
  pub own : Line → Rule
  pub form : Line → Form
  -- of the trees below it: how many there are, the form of each, what they stand in; and what it costs itself, in levels
  pub count : Line → ℕ
  pub form_below : Line → Form
  pub context_below : Line → Context
  pub cost : Context → Line → ℕ
  -- the form of a tree that is one of several
  pub usual : Form

-- "one line per node, the heading and every line ended by byte 10"
abbrev pub lines_of : Bytes → Answer (List Bytes)
lines_of b = ended_lines (split line_end b)

module _ (g : Grammar) where
  abbrev pub form_of : g.Tree → g.Form
  form_of t = g.form (g.head t)

  -- all of this form
  abbrev pub Formed : g.Form → List g.Tree → Type 0
  Formed f ts = Each (λ (t : g.Tree). form_of t ≡ f) ts

  -- the first has this form, and the others the usual one
  abbrev pub Led : g.Form → List g.Tree → Type 0
  Led f [] = Unit {0}
  Led f (t ∷ ts) = (form_of t ≡ f) × Formed g.usual ts

  abbrev pub trees_of : Bytes → Answer (List g.Tree)
  trees_of b = lines_of b >>= λ ls. g.trees ls

-- the bytes are the lines of these trees, which keep the rules
pub record Standing (g : Grammar) (b : Bytes) (ts : List g.Tree) : Type 0 where
  pub is_read : trees_of g b ≡ given ts
  pub rules : Meets (each g.rule ts)

-- p trees stand here, the first in this form, and nothing after them
pub record Row (g : Grammar) (p : ℕ) (f : g.Form) (b : Bytes) : Type 0 where
  pub trees : List g.Tree
  pub stands : Standing g b trees
  pub count : length trees ≡ p
  pub led : Led g f trees

-- A sheet's answer is made of its one tree: it must have a form and keep the rules, else 2; then its levels are tested, "at most 32", else 3.
pub record Sheet (g : Grammar) (A : Type 0) : Type 0 where
  pub heading : Bytes
  pub top : g.Form
  pub from : g.Context
  pub value : g.Tree → A
  pub finish : g.Tree → Answer A
  pub good : (t : g.Tree) → form_of g t ≡ top → Meets (g.rule t) → finish t ≡ when too_deep (is (leb (g.levels from t) level_limit)) (value t)
  pub bad : (t : g.Tree) → (form_of g t ≡ top → Meets (g.rule t) → ⊥) → finish t ≡ refused bad_lines

abbrev pub read_whole : {g : Grammar} {A : Type 0} → Sheet g A → Bytes → Answer A
read_whole {g} {A} k b = read_sheet k.heading b >>= λ ls. g.trees ls >>= λ ts. single ts >>= k.finish
