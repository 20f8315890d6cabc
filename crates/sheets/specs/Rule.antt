-- Rules: conjunctions of tests, read as a test that computes (`passes`) and as facts to prove or to use (`Meets`). Assumes nothing.
use Rattle.std.specs.Prelude.{◌≡◌, Bool, true, ◌&&◌, List, [], ◌∷◌}

infixr 40 ◌and◌
pub data Rule : Type 0 where
  is : Bool → Rule
  ◌and◌ : Rule → Rule → Rule

-- the rule at each element
abbrev pub each : {A : Type 0} → (A → Rule) → List A → Rule
each rule [] = is true
each rule (a ∷ l) = rule a and each rule l

-- the rule as a test
abbrev pub passes : Rule → Bool
passes (is b) = b
passes (r and s) = passes r && passes s

-- the rule as facts
abbrev pub Meets : Rule → Type 0
Meets (is b) = b ≡ true
Meets (r and s) = Meets r × Meets s
