-- The mappings that answer sheets, line by line (`Walk`), as code does it that writes a line's own output before it goes on to the lines below. Assumes nothing.
use Rattle.std.specs.Prelude.{Bool, true, false, List, [], ◌∷◌, ℕ, zero, suc, Option, None, Some}
use Rattle.sheets.specs.Refusal.{undefined_mapping}
use Rattle.sheets.specs.Bytes.{Bytes}
use Rattle.sheets.specs.Answer.{Answer, refused, given, ◌>>=◌}
use Rattle.sheets.specs.Field.{Info, Scalar, ArrowDataType, scalar, nested, grouped, dictionary, extension}
use Rattle.sheets.specs.FieldSheet.{Shape, of_scalar, of_nesting, of_grouping, of_dictionary, of_extension, Entry, type_lines}
use Rattle.sheets.specs.FieldTrees.{Head, type_below}
use Rattle.sheets.specs.Plain.{index_type}
use Rattle.sheets.specs.Mappings.{is_map, is_union, unless, scalar_under}
use Rattle.sheets.specs.Walk.{head_with, head_text, visit, copy, skip, Step, writes}

-- The state of the three that change a type: the columns of the field that the line is written with, or none: its own. "The three that change a type
-- answer the field with its type replaced": an extension's line writes nothing, and its inner line gets its columns.
abbrev pub Borne : Type 0
Borne = Option (Option Info)

abbrev pub info_borne : Borne → Option Info → Option Info
info_borne None i = i
info_borne (Some j) i = j

-- the line with these columns of the field
abbrev pub own_written : Shape → Option Info → ℕ → Answer (List Bytes)
own_written s i n = given (head_text (head_with s i n) ∷ [])

-- ── `to_storage`: the first line that is no extension's, then a copy

abbrev pub to_storage_step_of : Shape → ℕ → Option Info → Step Borne
to_storage_step_of (of_scalar s) n i = writes (own_written (of_scalar s) i n) copy
to_storage_step_of (of_nesting g) n i = writes (own_written (of_nesting g) i n) copy
to_storage_step_of (of_grouping g) n i = writes (own_written (of_grouping g) i n) copy
to_storage_step_of (of_dictionary ix ordered) n i = writes (own_written (of_dictionary ix ordered) i n) copy
to_storage_step_of (of_extension a m) n i = writes (given []) (visit (Some i))

abbrev pub to_storage_step : Borne → Head → Answer (Step Borne)
to_storage_step b x = given (to_storage_step_of x.shape x.children (info_borne b x.info))

-- ── `to_storage_recursive` and `underlying_physical_type`: 15 comes at once, at a map and a union, and at scalars that have no underlying type

-- what becomes of a scalar type, and whether a dictionary's values are looked at: else its index type is all that is left of it
pub record Change : Type 0 where
  pub of_scalars : Scalar → Answer ArrowDataType
  pub values : Bool

abbrev pub storage_change : Change
storage_change = record { of_scalars = λ s. given (scalar s); values = true }

abbrev pub underlying_change : Change
underlying_change = record { of_scalars = scalar_under; values = false }

abbrev pub dictionary_step : Bool → ℕ → Bool → Option Info → Step Borne
dictionary_step true ix ordered i = writes (own_written (of_dictionary ix ordered) i 1) (visit None)
dictionary_step false ix ordered i = writes (given (type_lines (index_type ix) i)) skip

abbrev pub change_step_of : Change → Shape → ℕ → Option Info → Answer (Step Borne)
change_step_of c (of_scalar s) n i = c.of_scalars s >>= λ u. given (writes (given (type_lines u i)) skip)
change_step_of c (of_nesting g) n i = unless (is_map g) (given (writes (own_written (of_nesting g) i 1) (visit None)))
change_step_of c (of_grouping g) n i = unless (is_union g) (given (writes (own_written (of_grouping g) i n) (visit None)))
change_step_of c (of_dictionary ix ordered) n i = given (dictionary_step c.values ix ordered i)
change_step_of c (of_extension a m) n i = given (writes (given []) (visit (Some i)))

abbrev pub change_step : Change → Borne → Head → Answer (Step Borne)
change_step c b x = change_step_of c x.shape x.children (info_borne b x.info)

-- ── `inner_dtype`: the first line writes nothing, or 15; the line below it is made bare, then a copy. The state says that the line is the first.

abbrev pub inner_dtype_step_of : Shape → Answer (Step Bool)
inner_dtype_step_of (of_scalar s) = refused undefined_mapping
inner_dtype_step_of (of_nesting g) = unless (is_map g) (given (writes (given []) (visit false)))
inner_dtype_step_of (of_grouping g) = refused undefined_mapping
inner_dtype_step_of (of_dictionary ix ordered) = refused undefined_mapping
inner_dtype_step_of (of_extension a m) = refused undefined_mapping

abbrev pub inner_dtype_step : Bool → Head → Answer (Step Bool)
inner_dtype_step true x = inner_dtype_step_of x.shape
inner_dtype_step false x = given (writes (own_written x.shape None x.children) copy)

-- ── `get_child`: extensions write nothing; of the first other line's subtrees so many are skipped, and of the next one the first line is made bare

-- 15 "no such child"
abbrev pub child_of : ℕ → List Entry → Answer ArrowDataType
child_of k [] = refused undefined_mapping
child_of zero (x ∷ xs) = given x.1
child_of (suc k) (x ∷ xs) = child_of k xs

-- the subtrees below a line among which a child is looked for: those of lists, map, struct and union
abbrev pub children_at : ArrowDataType → List Entry
children_at (scalar s) = []
children_at (nested n i t) = type_below (nested n i t)
children_at (grouped g fs) = type_below (grouped g fs)
children_at (dictionary ix ordered t) = []
children_at (extension n m t) = children_at t
