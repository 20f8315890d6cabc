-- An answer is a value or a refusal; of several refusals the first is given. Assumes nothing.
use Rattle.std.specs.Prelude.{Bool, true, false, List, [], ◌∷◌, Option, None, Some}
use Rattle.sheets.specs.Refusal.{Refusal}
use Rattle.sheets.specs.Rule.{Rule, passes}

pub data Answer (A : Type 0) : Type 0 where
  refused : Refusal → Answer A
  given : A → Answer A

infixl 20 ◌>>=◌
-- first this, then that: the first refusal is the answer
abbrev pub ◌>>=◌ : {A B : Type 0} → Answer A → (A → Answer B) → Answer B
◌>>=◌ (refused n) f = refused n
◌>>=◌ (given a) f = f a

-- the refusal where there is no value
abbrev pub found : {A : Type 0} → Refusal → Option A → Answer A
found n None = refused n
found n (Some a) = given a

-- the values of all, in order
abbrev pub read_each : {A B : Type 0} → (A → Answer B) → List A → Answer (List B)
read_each read [] = given []
read_each read (a ∷ l) = read a >>= λ b. read_each read l >>= λ bs. given (b ∷ bs)

-- the value if the test passes
abbrev pub decide : {A : Type 0} → Refusal → Bool → A → Answer A
decide n true a = given a
decide n false a = refused n

-- the value if the rule is met
abbrev pub when : {A : Type 0} → Refusal → Rule → A → Answer A
when n r a = decide n (passes r) a
