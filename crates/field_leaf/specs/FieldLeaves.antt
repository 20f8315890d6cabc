-- The short line of a leaf in a field sheet, as most lines are: `K 0 0 ~ ~ NN.. n ~ 0`, a kind that has no unit, a name in ASCII, `nullable` 0 or 1, no pairs
-- and nothing below. Assumes nothing.
use Rattle.std.specs.Prelude.{◌≡◌, Bool, true, ◌&&◌, not, cond, [], ◌∷◌, ℕ, ◌+◌, ◌-◌, ◌≤◌, ◌<◌, eqb, leb, ltb, length, get_or, Option, None, Some}
use Rattle.sheets.specs.Rule.{Rule, is, ◌and◌, passes, Meets}
use Rattle.sheets.specs.Bytes.{Bytes, space, same, all, lacks}
use Rattle.sheets.specs.Answer.{Answer, refused, given}
use Rattle.sheets.specs.Number.{read_number}
use Rattle.sheets.specs.Text.{hex}
use Rattle.sheets.specs.Utf8.{is_utf8}
use Rattle.sheets.specs.Field.{Info, leaf, scalar, Field, has_unit, is_leaf}
use Rattle.sheets.specs.FieldSheet.{of_scalar, field_line, line_of}
use Rattle.sheets.specs.FieldTrees.{Head, fields}
use Rattle.sheets.specs.TreeWalks.{LineAt}
use Rattle.columns.specs.Columns.{part}
use Rattle.columns.specs.Pairs.{pairs_from}
use Rattle.field_leaf.specs.LeafText.{unused_text, tail_text}
use Rattle.field_leaf.specs.declared.FieldLeaf.{FieldLeaf}

-- ── its kind

-- a type that its place alone tells: it has no unit, so `p` is 0
abbrev pub is_short : ℕ → Bool
is_short kind = is_leaf kind && not (has_unit kind)

abbrev pub short_kind : Answer ℕ → Option ℕ
short_kind (refused r) = None
short_kind (given kind) = cond (is_short kind) (Some kind) None

-- the kind that the column's digits say
abbrev pub kind_of : Bytes → Option ℕ
kind_of t = short_kind (read_number t)

-- where its one or two digits end
abbrev pub kind_end : Bytes → ℕ → ℕ
kind_end s at = cond (eqb (get_or s (at + 1) 0) space) (at + 1) (at + 2)

-- ── the line

-- the digit of `nullable`, after the name that ends at e
abbrev pub nullable_at : Bytes → ℕ → ℕ
nullable_at s e = get_or s (e + 1) 0 - 48

-- the bytes after the kind, which ends at k, beside the name's, which ends at e
abbrev pub leaf_rule : Bytes → ℕ → ℕ → Rule
leaf_rule s k e =
    is (same (part s k (k + 9)) unused_text)
    and (is (ltb (k + 9) e)
    and (is (ltb (nullable_at s e) 2)
    and is (same (part s e (e + 7)) (tail_text (nullable_at s e) 0))))

-- its kind, where its name begins, where that ends, `nullable`
abbrev pub Told : Type 0
Told = ℕ × (ℕ × (ℕ × ℕ))

abbrev pub leaf_from : Bytes → ℕ → ℕ → Option ℕ → Option Told
leaf_from s k e None = None
leaf_from s k e (Some kind) = cond (passes (leaf_rule s k e)) (Some (kind, (k + 9, (e, nullable_at s e)))) None

-- the short line of a leaf from `at` on, if one stands there
unfoldable pub field_leaf_in : Bytes → ℕ → Option Told
field_leaf_in s at = leaf_from s (kind_end s at) (pairs_from s (kind_end s at + 9)) (kind_of (part s at (kind_end s at)))

-- what `FieldLeaf` says
abbrev pub leaf_option : Option FieldLeaf → Option Told
leaf_option (Some l) = Some (l.kind, (l.start, (l.end, l.nullable)))
leaf_option None = None

-- ── what is known of such a line

-- what it says of its field; the field; the line as a reader of lines tells it, and its bytes
abbrev pub leaf_info : Bytes → ℕ → Info
leaf_info name nullable = record { name = name; nullable = eqb nullable 1; pairs = None }

abbrev pub leaf_field : ℕ → Bytes → ℕ → Field
leaf_field kind name nullable = record { info = leaf_info name nullable; type = scalar (leaf kind 0) }

abbrev pub leaf_head : ℕ → Bytes → ℕ → Head
leaf_head kind name nullable = record { shape = of_scalar (leaf kind 0); info = Some (leaf_info name nullable); children = 0 }

abbrev pub leaf_line : ℕ → Bytes → ℕ → Bytes
leaf_line kind name nullable = field_line.write (line_of (of_scalar (leaf kind 0)) (Some (leaf_info name nullable)) 0)

-- such a line stands at `at`, and its name is these bytes, of which there is one or more: ASCII, so UTF-8, and none is 00
pub record FieldLeafAt (s : Bytes) (at kind from e nullable : ℕ) : Type 0 where
  pub bytes : Bytes
  pub line : LineAt fields s at (leaf_head kind bytes nullable) (e + 7)
  pub text : line.bytes ≡ leaf_line kind bytes nullable
  pub short : is_short kind ≡ true
  pub name : part s from e ≡ hex bytes
  pub some : 0 < length bytes
  pub ascii : Meets (all (λ b. leb b 127) bytes)
  pub utf8 : is_utf8 bytes ≡ true
  pub nonzero : Meets (lacks 0 bytes)
  pub flag : nullable < 2
  pub begins : at + 10 ≤ from
  pub near : from ≤ at + 11
  pub long : from < e
  pub high : e + 7 ≤ length s
