-- Document 01, 'Bench cases': A1 to A11, one table with one proof from the definitions. Assumes nothing.
use Rattle.std.specs.Prelude.{◌≡◌, refl, false, List, [], ◌∷◌, ◌++◌, map, ℕ, zero, suc}
use Rattle.sheets.specs.Refusal.{number_of}
use Rattle.sheets.specs.Bytes.{Bytes, line_end, ascii}
use Rattle.sheets.specs.Answer.{Answer, refused, given}
use Rattle.sheets.specs.Schema.{schema_heading}
use Rattle.sheets.specs.FieldSheet.{field_heading}
use Rattle.sheets.specs.Outcome.{imported, exported}

-- a number and the bytes that come with it
abbrev pub Answered : Type 0
Answered = ℕ × Bytes

abbrev pub numbered : Answer Bytes → Answered
numbered (refused r) = (number_of r, [])
numbered (given x) = (0, x)

-- a call, the sheet that is handed in, and what it is to answer
pub record Case : Type 0 where
  pub call : Bytes → Answer Bytes
  pub sheet : Bytes
  pub wanted : Answered

-- what it answers
abbrev pub got : Case → Answered
got c = numbered (c.call c.sheet)

-- the lines under their heading
abbrev pub schema_sheet : Bytes → Bytes
schema_sheet ls = schema_heading ++ (line_end ∷ ls)

abbrev pub field_sheet : Bytes → Bytes
field_sheet ls = field_heading ++ (line_end ∷ ls)

-- import of these lines gives those
abbrev pub imports : Bytes → Bytes → Case
imports a b = record { call = imported false; sheet = schema_sheet a; wanted = (0, field_sheet b) }

-- import of these lines is refused with this number
abbrev pub import_refuses : Bytes → ℕ → Case
import_refuses a n = record { call = imported false; sheet = schema_sheet a; wanted = (n, []) }

-- export of these lines gives those
abbrev pub exports : Bytes → Bytes → Case
exports a b = record { call = exported false; sheet = field_sheet a; wanted = (0, schema_sheet b) }

-- the lines n times
abbrev pub times : ℕ → Bytes → Bytes
times zero ls = []
times (suc n) ls = ls ++ times n ls

abbrev pub cases : List Case
cases =
    -- A1 the above
    imports (ascii "2b6c 7065616b 2 ~ 1 0\n67 6974656d 0 ~ 0 0\n") (ascii "27 0 0 ~ ~ 7065616b 1 ~ 1\n14 0 0 ~ ~ 6974656d 0 ~ 0\n")
    -- A2 flags -3 not nullable (document 02, #102), 4 not
    ∷ imports (ascii "67 - -3 ~ 0 0\n") (ascii "14 0 0 ~ ~ - 0 ~ 0\n")
    ∷ imports (ascii "67 - 4 ~ 0 0\n") (ascii "14 0 0 ~ ~ - 0 ~ 0\n")
    -- A3 `w:+16` is size 16, exported `w:16`
    ∷ imports (ascii "773a2b3136 - 0 ~ 0 0\n") (ascii "23 16 0 ~ ~ - 0 ~ 0\n")
    ∷ exports (ascii "23 16 0 ~ ~ - 0 ~ 0\n") (ascii "773a3136 - 0 ~ 0 0\n")
    -- A4 `tss:` has no zone, `tss` is 6
    ∷ imports (ascii "7473733a - 0 ~ 0 0\n") (ascii "15 0 0 ~ ~ - 0 ~ 0\n")
    ∷ import_refuses (ascii "747373 - 0 ~ 0 0\n") 6
    -- A5 `d:19,10,100` is Decimal, `d:5` is 8
    ∷ imports (ascii "643a31392c31302c313030 - 0 ~ 0 0\n") (ascii "33 19 10 ~ ~ - 0 ~ 0\n")
    ∷ import_refuses (ascii "643a35 - 0 ~ 0 0\n") 8
    -- A6 `+us:` is 7
    ∷ import_refuses (ascii "2b75733a - 0 ~ 0 0\n") 7
    -- A7 two pairs of one key: the last wins
    ∷ imports (ascii "67 - 0 02000000010000006d0100000031010000006d0100000032 0 0\n") (ascii "14 0 0 ~ ~ - 0 6d=32 0\n")
    -- A8 count ffffffff gives none
    ∷ imports (ascii "67 - 0 ffffffff 0 0\n") (ascii "14 0 0 ~ ~ - 0 ~ 0\n")
    -- A9 `+w:z` without children is 7, `+w:3` is 10
    ∷ import_refuses (ascii "2b773a7a - 0 ~ 0 0\n") 7
    ∷ import_refuses (ascii "2b773a33 - 0 ~ 0 0\n") 10
    -- A10 `l` over a child of null format is accepted
    ∷ imports (ascii "6c - 0 ~ 1 0\n~ - 0 ~ 0 0\n") (ascii "5 0 0 ~ ~ - 0 ~ 0\n")
    -- A11 32 levels pass, 33 are 3
    ∷ imports (times 31 (ascii "2b6c 70 2 ~ 1 0\n") ++ ascii "67 69 0 ~ 0 0\n") (times 31 (ascii "27 0 0 ~ ~ 70 1 ~ 1\n") ++ ascii "14 0 0 ~ ~ 69 0 ~ 0\n")
    ∷ import_refuses (times 32 (ascii "2b6c 70 2 ~ 1 0\n") ++ ascii "67 69 0 ~ 0 0\n") 3
    ∷ []

-- each call answers what it is to answer
abbrev pub Right : List Case → Type 0
Right cs = map got cs ≡ map (λ (c : Case). c.wanted) cs

pub bench : Right cases
unfolding imported exported
bench = refl
