-- How long a page can be: at most 73 bytes for each 18 of the field sheet. A page has 73 bytes for each line (`page_length`), and a line of a field sheet
-- has 18 or more, by induction on the field. Assumes nothing.
use mathlib.Core.Path.{◌≡◌}
use mathlib.Core.List.{[]}
use Rattle.std.specs.Prelude.{Option, None, Some}
use Prim.Native.Nat.{ℕ, ◌*◌, ◌≤◌}
use native.Mathlib.Omega.{arith}
use lib.ListN.{length, length-append}
use Rattle.sheets.specs.Bytes.{Bytes}
use Rattle.sheets.specs.Answer.{given}
use Rattle.sheets.specs.Field.{Info, ArrowDataType, scalar, nested, grouped, dictionary, extension, Fields, nil, add, Field, count_fields}
use Rattle.sheets.specs.FieldSheet.{of_scalar, of_nesting, of_grouping, of_dictionary, of_extension, type_lines, fields_lines, read_field_sheet}
use Rattle.sheets.specs.Page.{page}
use Rattle.sheets.specs.Outcome.{paged, page_outcome}
use Rattle.sheets.proofs.PageLaws.{page_count, page_length}
use Rattle.rooms.specs.Room.{page_room, Fits, HasRoom}
use Rattle.rooms.proofs.RoomLaws.{Gives, gives_given, gives_then, AtMost, answer_fits, answer_has_room}
use Rattle.rooms.proofs.Sizes.{line_least, type_size, fields_size, add_size, FieldRead, field_gives}

-- 18 bytes or more for each line
mutual
  type_lines_lem : (t : ArrowDataType) (i : Option Info) → 18 * length (type_lines t i) ≤ type_size t i
  type_lines_lem (scalar s) i = omega (arith, line_least (of_scalar s) i 0 [])
  type_lines_lem (nested n j t) i = omega (arith, line_least (of_nesting n) i 1 (type_lines t (Some j)), type_lines_lem t (Some j))
  type_lines_lem (grouped g fs) i = omega (arith, line_least (of_grouping g) i (count_fields fs) (fields_lines fs), fields_lines_lem fs)
  type_lines_lem (dictionary ix ordered t) i = omega (arith, line_least (of_dictionary ix ordered) i 1 (type_lines t None), type_lines_lem t None)
  type_lines_lem (extension n m t) i = omega (arith, line_least (of_extension n m) i 1 (type_lines t None), type_lines_lem t None)

  fields_lines_lem : (fs : Fields) → 18 * length (fields_lines fs) ≤ fields_size fs
  fields_lines_lem nil = omega arith
  fields_lines_lem (add i t fs) =
      omega (arith, length-append (type_lines t (Some i)) (fields_lines fs), add_size i t fs, type_lines_lem t (Some i), fields_lines_lem fs)

-- ── the page and the call

page_at_most : (b : Bytes) → AtMost (page_room (length b)) (paged b)
unfolding paged
page_at_most b = gives_then read (λ f h. gives_given h)
  where
    read : Gives (λ f. length (page f) ≤ page_room (length b)) (read_field_sheet b)
    read = record { gave = λ f e. let r = (field_gives b).gave f e in omega (arith, r.whole, page_length b f e, page_count f, type_lines_lem f.type (Some f.info)) }

pub page_fits : (b out : Bytes) → Fits (page_room (length b)) (page_outcome b out)
page_fits b out = answer_fits (page_room (length b)) (paged b) out (page_at_most b)

pub page_has_room : (b out : Bytes) → HasRoom (page_room (length b)) out (page_outcome b out)
page_has_room b out = answer_has_room (page_room (length b)) (paged b) out (page_at_most b)
