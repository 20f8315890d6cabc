-- How long a plain form can be: at most 23 bytes for each 18 of the field sheet. By induction on the field: 18 times the bytes of a type's plain lines,
-- and 90 more, are at most 23 times the bytes of its lines. A line keeps its length but where a union's ids are None, and there the 90 of each field
-- are its id's five bytes; the 90 of a line itself are 5 times its 18 bytes or more. Lines that vanish only help. Assumes nothing.
use mathlib.Core.Path.{◌≡◌, refl, ap}
use mathlib.Core.Bool.{Bool, true, false}
use mathlib.Core.List.{List, [], ◌∷◌}
use Rattle.std.specs.Prelude.{Option, None, Some}
use Prim.Native.Nat.{ℕ, ◌+◌, ◌*◌, ◌≤◌}
use native.Mathlib.Omega.{arith}
use lib.ListN.{length}
use Rattle.sheets.specs.Bytes.{Bytes}
use Rattle.sheets.specs.Number.{decimal}
use Rattle.sheets.specs.Sheet.{sheet_limit}
use Rattle.sheets.specs.Field.{Pair, Info, Scalar, leaf, timestamp, fixed_size_binary, decimal_type, Grouping, struct, union, ArrowDataType, scalar, nested, grouped, dictionary, extension, Fields, nil, add, Field, count_fields}
use Rattle.sheets.specs.FieldSheet.{Shape, of_scalar, of_nesting, of_grouping, of_dictionary, of_extension, pair_text, write_list, field_line, line_of, type_lines, fields_lines, field_heading, write_field_sheet}
use Rattle.sheets.specs.Plain.{plain_pairs, plain_info, plain_scalar, plain_grouping, plain_type, plain_fields, plain}
use Rattle.sheets.specs.Outcome.{plained, plain_outcome}
use Rattle.sheets.proofs.PlainLaws.{count_plain}
use Rattle.rooms.specs.Room.{plain_room, Fits, HasRoom}
use Rattle.rooms.proofs.RoomLaws.{gives_given, gives_then, AtMost, answer_fits, answer_has_room}
use Rattle.rooms.proofs.Sizes.{parts_size, sheet_size, decimal_order, shape_size, own_size, line_size, line_least, type_size, fields_size, add_size, fields_least, index_size, counted_size, FieldRead, field_gives}

-- ── the columns

pairs_plain : (ps : Option (List Pair)) → length (write_list pair_text (plain_pairs ps)) ≡ length (write_list pair_text ps)
pairs_plain None = refl
pairs_plain (Some []) = refl
pairs_plain (Some (p ∷ ps)) = refl

-- the plain form of what a line says of its field
abbrev plain_own : Option Info → Option Info
plain_own None = None
plain_own (Some i) = Some (plain_info i)

own_plain : (i : Option Info) → own_size (plain_own i) ≡ own_size i
own_plain None = refl
own_plain (Some i) = omega (arith, pairs_plain i.pairs)

scalar_plain : (s : Scalar) → shape_size (of_scalar (plain_scalar s)) ≡ shape_size (of_scalar s)
scalar_plain (leaf k u) = refl
scalar_plain (timestamp u None) = refl
scalar_plain (timestamp u (Some [])) = refl
scalar_plain (timestamp u (Some (b ∷ bs))) = refl
scalar_plain (fixed_size_binary n) = refl
scalar_plain (decimal_type w p s) = refl

-- only ids that are None add bytes
grouping_plain : (g : Grouping) (count : ℕ) → count ≤ 10000 → shape_size (of_grouping (plain_grouping g count)) ≤ shape_size (of_grouping g) + 5 * count
grouping_plain struct count h = omega arith
grouping_plain (union mode None) count h = omega (arith, counted_size count h)
grouping_plain (union mode (Some ids)) count h = omega arith

-- ── the lines

-- The step of the induction: a line s, o its own columns and n its children, that becomes t with m children; `fields` of those below may need an id.
line_plain : (s t : Shape) (o : Option Info) (n m : ℕ) (below plain_below : List Bytes) (fields : ℕ)
    → shape_size t ≤ shape_size s + 5 * fields → length (decimal m) ≤ length (decimal n) → 18 * parts_size plain_below + 90 * fields ≤ 23 * parts_size below
    → 18 * parts_size (field_line.write (line_of t (plain_own o) m) ∷ plain_below) + 90 ≤ 23 * parts_size (field_line.write (line_of s o n) ∷ below)
line_plain s t o n m below plain_below fields h k l =
    omega (arith, line_size t (plain_own o) m plain_below, line_size s o n below, own_plain o, line_least s o n below)

-- a type that stands directly in an extension has a bare line
abbrev bare_in : Bool → Option Info → Option Info
bare_in true i = None
bare_in false i = i

mutual
  type_plain : (t : ArrowDataType) (inside : Bool) (i : Option Info) → type_size t (bare_in inside i) ≤ sheet_limit
      → 18 * type_size (plain_type t inside) (plain_own (bare_in inside i)) + 90 ≤ 23 * type_size t (bare_in inside i)
  type_plain (scalar s) inside i l =
      line_plain (of_scalar s) (of_scalar (plain_scalar s)) (bare_in inside i) 0 0 [] [] 0 (omega (arith, scalar_plain s)) (omega arith) (omega arith)
  type_plain (nested n j t) inside i l =
      let o = bare_in inside i in
      let s = of_nesting n in
      let below = type_lines t (Some j) in
      let child = type_plain t false (Some j) (omega (arith, line_least s o 1 below)) in
      line_plain s s o 1 1 below (type_lines (plain_type t false) (Some (plain_info j))) 0 (omega arith) (omega arith) (omega (arith, child))
  type_plain (grouped g fs) inside i l =
      let o = bare_in inside i in
      let count = count_fields fs in
      let least = line_least (of_grouping g) o count (fields_lines fs) in
      let few : count ≤ 10000 = omega (arith, least, fields_least fs) in
      let plain_count = count_fields (plain_fields fs) in
      line_plain (of_grouping g) (of_grouping (plain_grouping g count)) o count plain_count (fields_lines fs) (fields_lines (plain_fields fs)) count
      (grouping_plain g count few) (omega (arith, ap (λ (k : ℕ). length (decimal k)) (count_plain fs))) (fields_plain fs (omega (arith, least)))
  type_plain (dictionary ix ordered t) false i l =
      let s = of_dictionary ix ordered in
      let below = type_lines t None in
      let values = type_plain t false None (omega (arith, line_least s i 1 below)) in
      line_plain s s i 1 1 below (type_lines (plain_type t false) None) 0 (omega arith) (omega arith) (omega (arith, values))
  type_plain (dictionary ix ordered t) true i l =
      line_plain (of_dictionary ix ordered) (of_scalar (leaf (ix + 2) 0)) None 1 0 (type_lines t None) [] 0
      (omega (arith, index_size ix ordered)) (decimal_order 0 1 (omega arith)) (omega arith)
  type_plain (extension n m t) false i l =
      let s = of_extension n m in
      let below = type_lines t None in
      let inner = type_plain t true None (omega (arith, line_least s i 1 below)) in
      line_plain s s i 1 1 below (type_lines (plain_type t true) None) 0 (omega arith) (omega arith) (omega (arith, inner))
  type_plain (extension n m t) true i l =
      let least = line_least (of_extension n m) None 1 (type_lines t None) in
      omega (arith, least, type_plain t true None (omega (arith, least)))

  fields_plain : (fs : Fields) → fields_size fs ≤ sheet_limit → 18 * fields_size (plain_fields fs) + 90 * count_fields fs ≤ 23 * fields_size fs
  fields_plain nil l = omega arith
  fields_plain (add i t fs) l =
      let a = add_size i t fs in
      omega (
        arith,
        a,
        add_size (plain_info i) (plain_type t false) (plain_fields fs),
        type_plain t false (Some i) (omega (arith, a)),
        fields_plain fs (omega (arith, a)),
      )

-- ── the sheet and the call

plain_at_most : (b : Bytes) → AtMost (plain_room (length b)) (plained b)
unfolding plained
plain_at_most b = gives_then (field_gives b) (λ f r. gives_given (fits f r))
  where
    fits : (f : Field) → FieldRead b f → length (write_field_sheet (plain f)) ≤ plain_room (length b)
    fits f r =
        omega (
          arith,
          r.whole,
          sheet_size field_heading (type_lines (plain_type f.type false) (Some (plain_info f.info))),
          type_plain f.type false (Some f.info) (omega (arith, r.whole, r.short)),
        )

pub plain_fits : (b out : Bytes) → Fits (plain_room (length b)) (plain_outcome b out)
plain_fits b out = answer_fits (plain_room (length b)) (plained b) out (plain_at_most b)

pub plain_has_room : (b out : Bytes) → HasRoom (plain_room (length b)) out (plain_outcome b out)
plain_has_room b out = answer_has_room (plain_room (length b)) (plained b) out (plain_at_most b)
