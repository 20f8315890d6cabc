-- The calls of a recorded list by their codes, as the table of differential/ANSWERS.md has them. Assumes nothing.
use Rattle.std.specs.Prelude.{ℕ}

abbrev pub import_call : ℕ
import_call = 0

abbrev pub export_call : ℕ
export_call = 1

abbrev pub plain_call : ℕ
plain_call = 2

abbrev pub to_physical_type_call : ℕ
to_physical_type_call = 3

abbrev pub underlying_physical_type_call : ℕ
underlying_physical_type_call = 4

abbrev pub to_storage_call : ℕ
to_storage_call = 5

abbrev pub to_storage_recursive_call : ℕ
to_storage_recursive_call = 6

abbrev pub inner_dtype_call : ℕ
inner_dtype_call = 7

abbrev pub get_child_call : ℕ
get_child_call = 8

abbrev pub is_nested_call : ℕ
is_nested_call = 9

abbrev pub contains_dictionary_call : ℕ
contains_dictionary_call = 10

abbrev pub from_integer_type_call : ℕ
from_integer_type_call = 11

abbrev pub from_primitive_type_call : ℕ
from_primitive_type_call = 12

abbrev pub page_call : ℕ
page_call = 13

abbrev pub measure_import_call : ℕ
measure_import_call = 14

abbrev pub measure_export_call : ℕ
measure_export_call = 15

abbrev pub strict_export_call : ℕ
strict_export_call = 16

-- the codes are the numbers below this
abbrev pub calls : ℕ
calls = 17
