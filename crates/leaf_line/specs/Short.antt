-- A short line, as most lines are: `F.. NN.. d ~ c 0`, a format of a fixed name, a name in ASCII, one digit of flags, no metadata, one digit of children and no
-- dictionary. What `Leaf` and `Nested` say of their lines is said here once, over the digits of the format and the children. Assumes nothing.
use Rattle.std.specs.Prelude.{◌≡◌, Bool, true, cond, [], ◌∷◌, ◌++◌, ℕ, ◌+◌, ◌-◌, ◌≤◌, ◌<◌, eqb, ltb, pos, length, get_or, Option, None, Some}
use Rattle.sheets.specs.Rule.{Rule, is, ◌and◌, passes, Meets}
use Rattle.sheets.specs.Bytes.{Bytes, space, line_end, ascii, lacks, same}
use Rattle.sheets.specs.Answer.{given}
use Rattle.sheets.specs.Number.{is_digit}
use Rattle.sheets.specs.Text.{hex}
use Rattle.sheets.specs.Format.{Format, read_format}
use Rattle.sheets.specs.Kind
use Rattle.sheets.specs.Utf8.{is_utf8}
use Rattle.columns.specs.Columns.{part, part_of}
use Rattle.schema_line.specs.declared.SchemaLine.{SchemaLine}
use Rattle.schema_line.specs.Lines.{LineAt}

-- ── the line

-- after the digit of the flags: metadata, c children, dictionary, and the line's end
abbrev pub short_tail : ℕ → Bytes
short_tail c = ascii " ~ " ++ ((48 + c) ∷ (ascii " 0" ++ (line_end ∷ [])))

-- the bytes after a name that ends at e, from the digit of the flags on
abbrev pub tail_rule : Bytes → ℕ → ℕ → Rule
tail_rule s e c = is (is_digit (get_or s (e + 1) 0)) and is (same (part s (e + 2) (e + 9)) (short_tail c))

-- the bytes from `at` on beside the format's n digits and the name's, which ends at e
abbrev pub short_rule : ℕ → Bytes → ℕ → ℕ → ℕ → Rule
short_rule n s at e c =
    is (eqb (get_or s (at + n) 0) space)
    and (is (ltb (at + (n + 1)) e)
    and (is (eqb (get_or s e 0) space)
    and tail_rule s e c))

abbrev pub flags_at : Bytes → ℕ → ℕ
flags_at s e = get_or s (e + 1) 0 - 48

-- the flags after a name that ends at e, if the line ends as one with c children does
unfoldable pub flags_in : Bytes → ℕ → ℕ → Option ℕ
flags_in s e c = cond (passes (tail_rule s e c)) (Some (flags_at s e)) None

-- its kind, the end of its name, its flags, its children
abbrev pub Told : Type 0
Told = ℕ × (ℕ × (ℕ × ℕ))

-- the line of this kind whose name ends at e and which has c children, if it keeps the rule
abbrev pub short_from : Rule → Bytes → ℕ → ℕ → Option ℕ → Option Told
short_from r s e c None = None
short_from r s e c (Some kind) = cond (passes r) (Some (kind, (e, (flags_at s e, c)))) None

-- ── what is known of such a line

-- a format: how many digits its name has, the kind of its type, and the type
pub record ShortFormat : Type 0 where
  pub digits : ℕ
  pub kind : ℕ
  pub type : Format

-- the name of one byte or more that tells it: in ASCII, so UTF-8, and without byte 00
pub record Names (f : ShortFormat) (name : Bytes) : Type 0 where
  pub some : 0 < length name
  pub nonzero : Meets (lacks 0 name)
  pub utf8 : is_utf8 name ≡ true
  pub means : (sorted : Bool) → read_format sorted name ≡ given f.type
  pub known : f.kind ≤ Kind.Struct

-- the line as `read_line` shows it
abbrev pub short_line : ℕ → ℕ → ℕ → ℕ → ℕ → SchemaLine
short_line n at e flags c =
    record {
      format = part_of at (at + n);
      name = part_of (at + (n + 1)) e;
      flags = pos flags;
      metadata = part_of (e + 3) (e + 4);
      children = c;
      dictionary = 0;
      end = e + 9;
    }

-- a short line stands at `at`: its format is of this name, its own name these bytes, which are UTF-8
pub record ShortAt (f : ShortFormat) (s : Bytes) (at e flags c : ℕ) : Type 0 where
  pub line : LineAt s at (short_line f.digits at e flags c)
  pub format : Bytes
  pub names : Names f format
  pub is_format : part s at (at + f.digits) ≡ hex format
  pub bytes : Bytes
  pub name : part s (at + (f.digits + 1)) e ≡ hex bytes
  pub some : at + (f.digits + 1) < e
  pub metadata : part s (e + 3) (e + 4) ≡ 126 ∷ []
  pub utf8 : is_utf8 bytes ≡ true
  pub digit : flags ≤ 9
  pub high : e + 9 ≤ length s
