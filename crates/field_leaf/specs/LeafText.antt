-- The field line of a type that its kind alone tells, and that has no pairs, in its pieces. Assumes nothing.
use Rattle.std.specs.Prelude.{[], ◌∷◌, ◌++◌, ℕ, ◌+◌}
use Rattle.sheets.specs.Bytes.{Bytes}
use Rattle.sheets.specs.Number.{decimal}

-- after the kind: p q text more, ` 0 0 ~ ~` and a space
unfoldable pub unused_text : Bytes
unused_text = 32 ∷ 48 ∷ 32 ∷ 48 ∷ 32 ∷ 126 ∷ 32 ∷ 126 ∷ 32 ∷ []

-- kind p q text more: `kind 0 0 ~ ~` and a space
unfoldable pub head_text : ℕ → Bytes
unfolding unused_text
head_text kind = decimal kind ++ unused_text

-- after the name: nullable pairs children, ` n ~ c` and byte 10, of one digit of children
unfoldable pub tail_text : ℕ → ℕ → Bytes
tail_text n c = 32 ∷ (48 + n) ∷ 32 ∷ 126 ∷ 32 ∷ (48 + c) ∷ 10 ∷ []

-- the line of a type of this kind, with this column for its name
abbrev pub short_text : ℕ → Bytes → ℕ → ℕ → Bytes
short_text kind name n c = (head_text kind ++ name) ++ tail_text n c
