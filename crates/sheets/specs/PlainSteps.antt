-- Plain form line by line (`Walk`), as code does it that writes a line's own output before it goes on to the lines below. It refuses nothing. Assumes nothing.
use Rattle.std.specs.Prelude.{Bool, true, false, ◌&&◌, cond, List, [], ◌∷◌, ℕ, ◌+◌, Option, None, Some}
use Rattle.sheets.specs.Bytes.{Bytes, ascii, same}
use Rattle.sheets.specs.Answer.{Answer, given}
use Rattle.sheets.specs.Number.{write_signed}
use Rattle.sheets.specs.Kind
use Rattle.sheets.specs.Field.{Info, leaf, timestamp, fixed_size_binary, decimal_type, struct, union, ArrowDataType, scalar, nested, grouped, dictionary, extension, Fields, nil, add, up_from}
use Rattle.sheets.specs.FieldSheet.{Entry, Shape, of_scalar, of_nesting, of_grouping, of_dictionary, of_extension, no_text, write_list}
use Rattle.sheets.specs.FieldTrees.{Head}
use Rattle.sheets.specs.Plain.{plain_scalar, plain_grouping, plain_info}
use Rattle.sheets.specs.Walk.{head_with, head_text, visit, skip, Step, writes}

-- the columns of the field; a bare line stays bare
abbrev pub plain_own : Option Info → Option Info
plain_own None = None
plain_own (Some i) = Some (plain_info i)

-- one line
abbrev line_own : Head → Answer (List Bytes)
line_own x = given (head_text x ∷ [])

-- The state says that the line stands directly in an extension. There an extension vanishes, and a dictionary "leaves a bare line of that type's kind,
-- with `p`, `q` 0, both texts `~` and no children"; its values are skipped.
abbrev pub plain_step_of : Shape → ℕ → Option Info → Bool → Step Bool
plain_step_of (of_scalar s) n i inside = writes (line_own (head_with (of_scalar (plain_scalar s)) (plain_own i) 0)) skip
plain_step_of (of_nesting g) n i inside = writes (line_own (head_with (of_nesting g) (plain_own i) 1)) (visit false)
plain_step_of (of_grouping g) n i inside = writes (line_own (head_with (of_grouping (plain_grouping g n)) (plain_own i) n)) (visit false)
plain_step_of (of_dictionary ix ordered) n i false = writes (line_own (head_with (of_dictionary ix ordered) (plain_own i) 1)) (visit false)
plain_step_of (of_dictionary ix ordered) n i true = writes (line_own (head_with (of_scalar (leaf (ix + Kind.Int8) 0)) None 0)) skip
plain_step_of (of_extension a m) n i false = writes (line_own (head_with (of_extension a m) (plain_own i) 1)) (visit true)
plain_step_of (of_extension a m) n i true = writes (given []) (visit true)

abbrev pub plain_step : Bool → Head → Answer (Step Bool)
plain_step inside x = given (plain_step_of x.shape x.children x.info inside)

-- ── columns

-- "Timezone Some-empty becomes None; pairs Some-empty become None": `-` becomes `~`
abbrev pub empty_to_none : Bytes → Bytes
empty_to_none t = cond (same t (ascii "-")) no_text t

-- "Union ids None become 0, 1, .. one per field"
abbrev pub plain_ids : Bytes → ℕ → Bytes
plain_ids t count = cond (same t no_text) (write_list write_signed (Some (up_from 0 count))) t

-- ── what is plain already

abbrev pub plain_text : {A : Type 0} → Option (List A) → Bool
plain_text None = true
plain_text (Some []) = false
plain_text (Some (a ∷ l)) = true

abbrev pub is_plain_own : Option Info → Bool
is_plain_own None = true
is_plain_own (Some i) = plain_text i.pairs

-- the line stands in the plain form as it is
abbrev pub is_plain_shape : Shape → Bool → Bool
is_plain_shape (of_scalar (leaf k u)) inside = true
is_plain_shape (of_scalar (timestamp u zone)) inside = plain_text zone
is_plain_shape (of_scalar (fixed_size_binary n)) inside = true
is_plain_shape (of_scalar (decimal_type w p s)) inside = true
is_plain_shape (of_nesting g) inside = true
is_plain_shape (of_grouping struct) inside = true
is_plain_shape (of_grouping (union mode None)) inside = false
is_plain_shape (of_grouping (union mode (Some ids))) inside = true
is_plain_shape (of_dictionary ix ordered) false = true
is_plain_shape (of_dictionary ix ordered) true = false
is_plain_shape (of_extension a m) false = true
is_plain_shape (of_extension a m) true = false

-- and so do all lines below it
abbrev mutual
  pub is_plain : ArrowDataType → Bool → Bool
  is_plain (scalar s) inside = is_plain_shape (of_scalar s) inside
  is_plain (nested n i t) inside = is_plain_own (Some i) && is_plain t false
  is_plain (grouped g fs) inside = is_plain_shape (of_grouping g) inside && are_plain fs
  is_plain (dictionary ix ordered t) inside = is_plain_shape (of_dictionary ix ordered) inside && is_plain t false
  is_plain (extension n m t) inside = is_plain_shape (of_extension n m) inside && is_plain t true

  pub are_plain : Fields → Bool
  are_plain nil = true
  are_plain (add i t fs) = is_plain_own (Some i) && (is_plain t false && are_plain fs)

-- types one after the other; the flag says that the first stands directly in an extension
abbrev pub row_plain : List Entry → Bool → Bool
row_plain [] inside = true
row_plain (x ∷ xs) inside = (is_plain_own x.0 && is_plain x.1 inside) && row_plain xs false
