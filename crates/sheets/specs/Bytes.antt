-- Bytes as lists of numbers, texts as bytes, and the splitting of bytes at a separator. Assumes nothing.
use Rattle.std.specs.Prelude.{Bool, true, false, ◌&&◌, not, cond, List, [], ◌∷◌, ◌++◌, ℕ, zero, suc, eqb, ltb, Option, None, Some}
use Prim.Native.String as S
use Prim.Native.String.{String}
use Prim.Native.Char as C
use Rattle.sheets.specs.Rule.{Rule, is, ◌and◌}

abbrev pub Bytes : Type 0
Bytes = List ℕ

abbrev pub is_byte : ℕ → Bool
is_byte b = ltb b 256

-- the bytes that split
abbrev pub line_end : ℕ
line_end = 10

abbrev pub space : ℕ
space = 32

abbrev pub plus_sign : ℕ
plus_sign = 43

abbrev pub comma : ℕ
comma = 44

abbrev pub minus_sign : ℕ
minus_sign = 45

abbrev pub colon : ℕ
colon = 58

abbrev pub equals : ℕ
equals = 61

-- the bytes of an ASCII text
abbrev pub ascii : String → Bytes
ascii S.[] = []
ascii (S.◌∷◌ c s) = C.code c ∷ ascii s

-- each byte passes the test
abbrev pub all : (ℕ → Bool) → Bytes → Rule
all f [] = is true
all f (b ∷ bs) = is (f b) and all f bs

-- the byte s does not stand in the bytes
abbrev pub lacks : ℕ → Bytes → Rule
lacks s bs = all (λ b. not (eqb b s)) bs

-- two byte strings are equal
abbrev pub same : Bytes → Bytes → Bool
same [] [] = true
same [] (y ∷ ys) = false
same (x ∷ xs) [] = false
same (x ∷ xs) (y ∷ ys) = eqb x y && same xs ys

-- one more byte in front of the first part
abbrev pub prepend : ℕ → List Bytes → List Bytes
prepend b [] = (b ∷ []) ∷ []
prepend b (p ∷ ps) = (b ∷ p) ∷ ps

abbrev pub split_step : Bool → ℕ → List Bytes → List Bytes
split_step true b ps = [] ∷ ps
split_step false b ps = prepend b ps

-- the parts between the separators s: one more than there are separators
abbrev pub split : ℕ → Bytes → List Bytes
split s [] = [] ∷ []
split s (b ∷ bs) = split_step (eqb b s) b (split s bs)

-- the parts with a separator between each two
abbrev pub join : ℕ → List Bytes → Bytes
join s [] = []
join s (p ∷ []) = p
join s (p ∷ q ∷ ps) = p ++ (s ∷ join s (q ∷ ps))

-- what follows the prefix, if the bytes begin with it
abbrev pub after : Bytes → Bytes → Option Bytes
after [] bs = Some bs
after (p ∷ ps) [] = None
after (p ∷ ps) (b ∷ bs) = cond (eqb p b) (after ps bs) None
