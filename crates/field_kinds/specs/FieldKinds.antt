-- What a field line's columns must be, by its kind, as tests. Assumes nothing.
use Rattle.std.specs.Prelude.{◌≡◌, Bool, true, false, ◌||◌, cond, ℕ, ◌^◌, eqb, leb, ltb}
use Rattle.sheets.specs.Kind
use Rattle.sheets.specs.Field.{has_unit, is_leaf}
use Rattle.sheets.specs.FieldSheet.{Columns, Own}
use Rattle.sheets.specs.FieldTrees.{kind_bare}
use Rattle.field_columns.specs.FieldColumns.{is_nothing, is_optional_text, is_content}
use Rattle.field_columns.specs.declared.Content.{Content}
use Rattle.field_columns.specs.declared.Content.TheVariants as C

-- ── numbers, by kind

abbrev pub unit_fits : ℕ → ℕ → Bool
unit_fits k p = cond (has_unit k) (ltb p 4) (eqb p 0)

abbrev pub is_decimal : ℕ → Bool
is_decimal k = eqb k Kind.Decimal || (eqb k Kind.Decimal32 || (eqb k Kind.Decimal64 || eqb k Kind.Decimal256))

abbrev pub is_sized : ℕ → Bool
is_sized k = eqb k Kind.FixedSizeBinary || (eqb k Kind.FixedSizeList || is_decimal k)

-- "`p`, `q` are unsigned 64-bit: size; precision and scale; unit; map sorted in `p`; dictionary index type and ordered; union mode", "Unused `p`, `q`
-- are 0"; kinds go to Union
abbrev pub p_fits : ℕ → ℕ → Bool
p_fits k p =
    cond (is_leaf k) (unit_fits k p)
    (cond (eqb k Kind.Timestamp) (ltb p 4)
    (cond (is_sized k) (ltb p (2 ^ 64))
    (cond (eqb k Kind.Map) (ltb p 2)
    (cond (eqb k Kind.Dictionary) (ltb p 10)
    (cond (eqb k Kind.Union) (ltb p 2)
    (cond (leb k Kind.Union) (eqb p 0) false))))))

abbrev pub q_fits : ℕ → ℕ → Bool
q_fits k q = cond (is_decimal k) (ltb q (2 ^ 64)) (cond (eqb k Kind.Dictionary) (ltb q 2) (eqb q 0))

-- ── texts, by kind

-- "`text` is the timezone, the extension's name, or the union's ids", "unused texts `~`"
abbrev pub text_content : ℕ → Content
text_content k = cond (eqb k Kind.Timestamp) C.OptionalText (cond (eqb k Kind.Extension) C.Text (cond (eqb k Kind.Union) C.Ids C.Nothing))

-- "`more` is the extension's metadata"
abbrev pub more_content : ℕ → Content
more_content k = cond (eqb k Kind.Extension) C.OptionalText C.Nothing

-- ── the lines below, by kind

abbrev pub has_one : ℕ → Bool
has_one k = eqb k Kind.List || (eqb k Kind.FixedSizeList || (eqb k Kind.LargeList || (eqb k Kind.Map || kind_bare k)))

-- "`children` is 1 for lists, map, dictionary and extension, free for struct and union, else 0"
abbrev pub children_fit : ℕ → ℕ → Bool
children_fit k n = cond (eqb k Kind.Struct) true (cond (eqb k Kind.Union) true (cond (has_one k) (eqb n 1) (eqb n 0)))

-- ── a line's columns

-- the columns kind p q text more are those of a type that keeps the rules
pub record Fits (c : Columns) : Type 0 where
  pub p_fit : p_fits c.kind c.p ≡ true
  pub q_fit : q_fits c.kind c.q ≡ true
  pub text_fit : is_content (text_content c.kind) c.text ≡ true
  pub more_fit : is_content (more_content c.kind) c.more ≡ true

-- "bare lines: `name`, `nullable` and `pairs` all `~`. All other lines have a name and `nullable` 0 or 1"
abbrev pub flag_content : Bool → Content
flag_content bare = cond bare C.Nothing C.Flag

abbrev pub pairs_content : Bool → Content
pairs_content bare = cond bare C.Nothing C.Pairs

-- the columns name nullable pairs are those of a field or of a bare line, and keep the rules
pub record OwnFits (o : Own) : Type 0 where
  pub name_fit : is_optional_text o.0 ≡ true
  pub flag_fit : is_content (flag_content (is_nothing o.0)) o.1.0 ≡ true
  pub pairs_fit : is_content (pairs_content (is_nothing o.0)) o.1.1 ≡ true
