-- What a record tells of a call, and what is told of the answer that came (differential/ANSWERS.md, at its end of 'Format'). Assumes nothing.
use Rattle.std.specs.Prelude.{ℕ, zero, suc, ◌-◌, Bool, cond, ◌&&◌, ◌||◌, ◌++◌, length, replicate, ◌==◌, Option, None, Some}
use Rattle.sheets.specs.Bytes.{Bytes, same}
use Rattle.sheets.specs.Outcome.{Outcome, Measure, Places, YesNo, is_yes, import_outcome_in, export_outcome_in, strict_export_outcome, plain_outcome, to_physical_type_outcome, underlying_physical_type_outcome, to_storage_outcome, to_storage_recursive_outcome, inner_dtype_outcome, get_child_outcome, is_nested_outcome, contains_dictionary_outcome, from_integer_type_outcome, from_primitive_type_outcome, page_outcome, measure_import_outcome, measure_export_outcome}
use Rattle.recorded_list.specs.Codes.{import_call, export_call, plain_call, to_physical_type_call, underlying_physical_type_call, to_storage_call, to_storage_recursive_call, inner_dtype_call, get_child_call, is_nested_call, contains_dictionary_call, from_integer_type_call, page_call, measure_import_call, measure_export_call, strict_export_call}
use Rattle.recorded_list.specs.ListText.{Record}
use Rattle.recorded_list.specs.declared.records.Header.{Header}
use Rattle.judge.specs.declared.Numbers.{Numbers}

-- ── calls that write a sheet into a lent buffer

-- "fills `room` bytes with what it likes (no zeros)": a byte that no sheet has
abbrev pub filler : ℕ
filler = 165

-- what a lent buffer holds before a call
abbrev pub filled : ℕ → Bytes
filled room = replicate room filler

-- "on success the first `output` bytes, and that all bytes after them are as before; on refusal that all `room` bytes are 0"
abbrev pub buffer_after : ℕ → Bytes → ℕ → Bytes
buffer_after zero x room = x ++ filled (room - length x)
buffer_after (suc n) x room = replicate room 0

abbrev pub recorded : Header → Bytes → ℕ → Outcome
recorded h x room = record { number = h.number; size = h.first; buffer = buffer_after h.number x room }

-- "the number, the length", and every byte of the buffer
abbrev pub same_outcome : Outcome → Outcome → Bool
same_outcome a b = a.number == b.number && (a.size == b.size && same a.buffer b.buffer)

-- the number and the length that came, if what came is not what was to come
abbrev pub difference : Outcome → Outcome → Option Numbers
difference came told = cond (same_outcome came told) None (Some (record { number = came.number; first = came.size; second = 0 }))

-- the outcome of each, by its code. The definition's outcome stands for the answer, since the call is proved to have it. The last has the code that is left
abbrev pub sheet_outcome : ℕ → ℕ → Bytes → Bytes → Outcome
sheet_outcome call argument s out =
    cond (call == import_call) (import_outcome_in (is_yes argument) s out)
    (cond (call == export_call) (export_outcome_in (is_yes argument) s out)
    (cond (call == plain_call) (plain_outcome s out)
    (cond (call == underlying_physical_type_call) (underlying_physical_type_outcome s out)
    (cond (call == to_storage_call) (to_storage_outcome s out)
    (cond (call == to_storage_recursive_call) (to_storage_recursive_outcome s out)
    (cond (call == inner_dtype_call) (inner_dtype_outcome s out)
    (cond (call == get_child_call) (get_child_outcome s argument out)
    (cond (call == page_call) (page_outcome s out)
    (cond (call == strict_export_call) (strict_export_outcome (is_yes argument) s out)
    (cond (call == from_integer_type_call) (from_integer_type_outcome argument out)
    (from_primitive_type_outcome argument out)))))))))))

-- ── calls that answer numbers

abbrev pub answers_numbers : ℕ → Bool
answers_numbers call = call == to_physical_type_call || (call == is_nested_call || (call == contains_dictionary_call || (call == measure_import_call || call == measure_export_call)))

abbrev pub recorded_numbers : Header → Numbers
recorded_numbers h = record { number = h.number; first = h.first; second = h.second }

abbrev pub same_numbers : Numbers → Numbers → Bool
same_numbers a b = a.number == b.number && (a.first == b.first && a.second == b.second)

abbrev pub numbers_difference : Numbers → Numbers → Option Numbers
numbers_difference came told = cond (same_numbers came told) None (Some came)

abbrev pub places_numbers : Places → Numbers
places_numbers p = record { number = p.number; first = p.place; second = p.inner }

-- "for yes and no 1 and 0", and no second number
abbrev pub yes_no_numbers : YesNo → Numbers
yes_no_numbers y = record { number = y.number; first = y.answer; second = 0 }

-- the length, and the lines as the second number
abbrev pub measure_numbers : Measure → Numbers
measure_numbers m = record { number = m.number; first = m.size; second = m.lines }

abbrev pub numbers_outcome : ℕ → ℕ → Bytes → Numbers
numbers_outcome call argument s =
    cond (call == to_physical_type_call) (places_numbers (to_physical_type_outcome s))
    (cond (call == is_nested_call) (yes_no_numbers (is_nested_outcome s))
    (cond (call == contains_dictionary_call) (yes_no_numbers (contains_dictionary_outcome s))
    (cond (call == measure_import_call) (measure_numbers (measure_import_outcome (is_yes argument) s))
    (measure_numbers (measure_export_outcome (is_yes argument) s)))))

-- ── a record

-- what is told of a record whose code is one of the list's, for a buffer of so many bytes: nothing if it agrees
abbrev pub replayed : ℕ → Record → Option Numbers
replayed room r =
    cond (answers_numbers r.header.call)
    (numbers_difference (numbers_outcome r.header.call r.header.argument r.input) (recorded_numbers r.header))
    (difference (sheet_outcome r.header.call r.header.argument r.input (filled room)) (recorded r.header r.output room))
