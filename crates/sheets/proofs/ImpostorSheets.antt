-- The sheets that tell each public call from the impostors (`ImpostorLaws`): import, export, plain form, the page, each mapping that answers a sheet, and the
-- two conversions. Each by computation from its definition. Assumes nothing.
use mathlib.Core.Path.{◌≡◌, refl}
use mathlib.Core.Bool.{Bool}
use Prim.Native.Nat.{ℕ, ◌+◌}
use native.Mathlib.Omega.{arith}
use lib.ListN.{length}
use Rattle.sheets.specs.Refusal.{not_sheet, undefined_mapping}
use Rattle.sheets.specs.Number.{decimal}
use Rattle.sheets.specs.Format.{rows}
use Rattle.sheets.specs.Bytes.{Bytes, ascii}
use Rattle.sheets.specs.Answer.{Answer, refused, given}
use Rattle.sheets.specs.IntegerType
use Rattle.sheets.specs.PrimitiveType
use Rattle.sheets.specs.Mappings.{leaf_rows, underlying_physical_type, to_storage, to_storage_recursive, inner_dtype, get_child, from_integer_type, from_primitive_type}
use Rattle.sheets.specs.KindNames.{kind_rows}
use Rattle.sheets.specs.Outcome.{imported, exported, plained, paged, mapped, picked, converted}
use Rattle.sheets.specs.Bench.{schema_sheet, field_sheet}
use Rattle.sheets.specs.Impostors.{Call, Defined, ShutOut, ShutOutOfLines}
use Rattle.sheets.proofs.ImpostorLaws.{Telling, TellingLines, shut_out, lines_shut_out}

-- ── import, export, plain form

-- a list of floats, and one of nulls
import_telling : (big : Bool) → TellingLines (imported big) schema_sheet length
unfolding rows decimal imported
import_telling big =
    record {
      line = ascii "2b6c 70 2 ~ 1 0";
      rest = ascii "67 69 0 ~ 0 0\n";
      other_rest = ascii "6e 69 0 ~ 0 0\n";
      bytes = refl;
      lines = refl;
      alike = refl;
      one_sheet = field_sheet (ascii "27 0 0 ~ ~ 70 1 ~ 1\n14 0 0 ~ ~ 69 0 ~ 0\n");
      other_sheet = field_sheet (ascii "27 0 0 ~ ~ 70 1 ~ 1\n0 0 0 ~ ~ 69 0 ~ 0\n");
      one_answer = refl;
      other_answer = refl;
      shorter = omega arith;
      few = omega arith;
      wrong = ascii "";
      wrong_answer = refl;
    }

pub import_shuts_out : (big : Bool) (f : Call Bytes) → Defined (imported big) f → ShutOutOfLines schema_sheet length f
import_shuts_out big f defined = lines_shut_out (imported big) schema_sheet length (import_telling big) f defined

-- a list of dates, and one of floats
export_telling : (big : Bool) → TellingLines (exported big) field_sheet length
unfolding rows decimal exported
export_telling big =
    record {
      line = ascii "27 0 0 ~ ~ 70 1 ~ 1";
      rest = ascii "16 0 0 ~ ~ 69 0 ~ 0\n";
      other_rest = ascii "14 0 0 ~ ~ 69 0 ~ 0\n";
      bytes = refl;
      lines = refl;
      alike = refl;
      one_sheet = schema_sheet (ascii "2b6c 70 2 ~ 1 0\n746444 69 0 ~ 0 0\n");
      other_sheet = schema_sheet (ascii "2b6c 70 2 ~ 1 0\n67 69 0 ~ 0 0\n");
      one_answer = refl;
      other_answer = refl;
      shorter = omega arith;
      few = omega arith;
      wrong = ascii "";
      wrong_answer = refl;
    }

pub export_shuts_out : (big : Bool) (f : Call Bytes) → Defined (exported big) f → ShutOutOfLines field_sheet length f
export_shuts_out big f defined = lines_shut_out (exported big) field_sheet length (export_telling big) f defined

-- a list of unions without ids over two fields, and one of structs
plain_telling : TellingLines plained field_sheet length
unfolding decimal plained
plain_telling =
    record {
      line = ascii "27 0 0 ~ ~ 70 1 ~ 1";
      rest = ascii "41 0 0 ~ ~ - 0 ~ 2\n0 0 0 ~ ~ - 0 ~ 0\n0 0 0 ~ ~ - 0 ~ 0\n";
      other_rest = ascii "30 0 0 ~ ~ - 0 ~ 2\n0 0 0 ~ ~ - 0 ~ 0\n0 0 0 ~ ~ - 0 ~ 0\n";
      bytes = refl;
      lines = refl;
      alike = refl;
      one_sheet = field_sheet (ascii "27 0 0 ~ ~ 70 1 ~ 1\n41 0 0 0,1 ~ - 0 ~ 2\n0 0 0 ~ ~ - 0 ~ 0\n0 0 0 ~ ~ - 0 ~ 0\n");
      other_sheet = field_sheet (ascii "27 0 0 ~ ~ 70 1 ~ 1\n30 0 0 ~ ~ - 0 ~ 2\n0 0 0 ~ ~ - 0 ~ 0\n0 0 0 ~ ~ - 0 ~ 0\n");
      one_answer = refl;
      other_answer = refl;
      shorter = omega arith;
      few = omega arith;
      wrong = ascii "";
      wrong_answer = refl;
    }

pub plain_shuts_out : (f : Call Bytes) → Defined plained f → ShutOutOfLines field_sheet length f
plain_shuts_out f defined = lines_shut_out plained field_sheet length plain_telling f defined

-- a struct of one null, and a null whose name makes its one line as long: a page's length goes by the lines alone, so the two differ in these. That no line of
-- a page is stock is `page_from_sheet` (`PageLaws`).
page_telling : Telling paged length
unfolding decimal kind_rows paged
page_telling =
    record {
      one = field_sheet (ascii "30 0 0 ~ ~ - 0 ~ 1\n0 0 0 ~ ~ - 0 ~ 0\n");
      other = field_sheet (ascii "0 0 0 ~ ~ 61616161616161616161 0 ~ 0\n");
      alike = refl;
      one_sheet = ascii "  1 Struct           n                                                  \n  2 Null             n                                                  \n";
      other_sheet = ascii "  1 Null             n 61616161616161616161                             \n";
      one_answer = refl;
      other_answer = refl;
      shorter = omega arith;
      few = omega arith;
      wrong = ascii "";
      reason = not_sheet;
      wrong_answer = refl;
    }

pub page_shuts_out : (f : Call Bytes) → Defined paged f → ShutOut length f
page_shuts_out f defined = shut_out paged f defined length page_telling

-- ── the three mappings that change a type

-- an extension over a list of floats, and one over an extension over a float: all three take the extensions off
abbrev over_list : Bytes
over_list = field_sheet (ascii "37 0 0 65 ~ 61 0 ~ 1\n27 0 0 ~ ~ ~ ~ ~ 1\n14 0 0 ~ ~ - 0 ~ 0\n")

abbrev over_float : Bytes
over_float = field_sheet (ascii "37 0 0 65 ~ 61 0 ~ 1\n37 0 0 - ~ ~ ~ ~ 1\n14 0 0 ~ ~ ~ ~ ~ 0\n")

abbrev list_left : Bytes
list_left = field_sheet (ascii "27 0 0 ~ ~ 61 0 ~ 1\n14 0 0 ~ ~ - 0 ~ 0\n")

abbrev float_left : Bytes
float_left = field_sheet (ascii "14 0 0 ~ ~ 61 0 ~ 0\n")

storage_telling : (answer : Bytes → Answer Bytes) → answer over_list ≡ given list_left → answer over_float ≡ given float_left → answer (ascii "") ≡ refused not_sheet → TellingLines answer field_sheet length
storage_telling answer one other wrong =
    record {
      line = ascii "37 0 0 65 ~ 61 0 ~ 1";
      rest = ascii "27 0 0 ~ ~ ~ ~ ~ 1\n14 0 0 ~ ~ - 0 ~ 0\n";
      other_rest = ascii "37 0 0 - ~ ~ ~ ~ 1\n14 0 0 ~ ~ ~ ~ ~ 0\n";
      bytes = refl;
      lines = refl;
      alike = refl;
      one_sheet = list_left;
      other_sheet = float_left;
      one_answer = one;
      other_answer = other;
      shorter = omega arith;
      few = omega arith;
      wrong = ascii "";
      wrong_answer = wrong;
    }

pub to_storage_shuts_out : (f : Call Bytes) → Defined (mapped (λ t. given (to_storage t))) f → ShutOutOfLines field_sheet length f
unfolding decimal
to_storage_shuts_out f defined = lines_shut_out (mapped (λ t. given (to_storage t))) field_sheet length (storage_telling (mapped (λ t. given (to_storage t))) refl refl refl) f defined

pub to_storage_recursive_shuts_out : (f : Call Bytes) → Defined (mapped to_storage_recursive) f → ShutOutOfLines field_sheet length f
unfolding decimal
to_storage_recursive_shuts_out f defined = lines_shut_out (mapped to_storage_recursive) field_sheet length (storage_telling (mapped to_storage_recursive) refl refl refl) f defined

pub underlying_physical_type_shuts_out : (f : Call Bytes) → Defined (mapped underlying_physical_type) f → ShutOutOfLines field_sheet length f
unfolding decimal leaf_rows
underlying_physical_type_shuts_out f defined = lines_shut_out (mapped underlying_physical_type) field_sheet length (storage_telling (mapped underlying_physical_type) refl refl refl) f defined

-- ── the two that pick a type

-- the child of a list: a float without a name, and a null with one
abbrev float_child : Bytes
float_child = field_sheet (ascii "14 0 0 ~ ~ ~ ~ ~ 0\n")

abbrev null_child : Bytes
null_child = field_sheet (ascii "0 0 0 ~ ~ ~ ~ ~ 0\n")

inner_telling : TellingLines (picked inner_dtype) field_sheet length
unfolding decimal
inner_telling =
    record {
      line = ascii "27 0 0 ~ ~ 70 1 ~ 1";
      rest = ascii "14 0 0 ~ ~ - 0 ~ 0\n";
      other_rest = ascii "0 0 0 ~ ~ 69 0 ~ 0\n";
      bytes = refl;
      lines = refl;
      alike = refl;
      one_sheet = float_child;
      other_sheet = null_child;
      one_answer = refl;
      other_answer = refl;
      shorter = omega arith;
      few = omega arith;
      wrong = ascii "";
      wrong_answer = refl;
    }

pub inner_dtype_shuts_out : (f : Call Bytes) → Defined (picked inner_dtype) f → ShutOutOfLines field_sheet length f
inner_dtype_shuts_out f defined = lines_shut_out (picked inner_dtype) field_sheet length inner_telling f defined

-- `get_child` is handed a sheet and an index, and may see both the length and the index. It is no impostor as one call; at each index by
-- itself that would be false: a sheet has at most 65,535 bytes and so fewer children, and at an index past them the call refuses all, and rightly.
abbrev child_of : Bytes × ℕ → Answer Bytes
child_of a = picked (get_child a.1) a.0

abbrev first_child : Bytes → Bytes × ℕ
first_child ls = (field_sheet ls, 0)

abbrev length_and_index : Bytes × ℕ → ℕ × ℕ
length_and_index a = (length a.0, a.1)

child_telling : TellingLines child_of first_child length_and_index
unfolding decimal
child_telling =
    record {
      line = ascii "27 0 0 ~ ~ 70 1 ~ 1";
      rest = ascii "14 0 0 ~ ~ - 0 ~ 0\n";
      other_rest = ascii "0 0 0 ~ ~ 69 0 ~ 0\n";
      bytes = refl;
      lines = refl;
      alike = refl;
      one_sheet = float_child;
      other_sheet = null_child;
      one_answer = refl;
      other_answer = refl;
      shorter = omega arith;
      few = omega arith;
      wrong = (ascii "", 0);
      wrong_answer = refl;
    }

pub get_child_shuts_out : (f : Call (Bytes × ℕ)) → Defined child_of f → ShutOutOfLines first_child length_and_index f
get_child_shuts_out f defined = lines_shut_out child_of first_child length_and_index child_telling f defined

-- ── the two conversions: they are handed a place and no sheet, so there are no lines to copy, and there is nothing to see but the buffer's length

abbrev nothing : ℕ → Unit {0}
nothing place = tt

-- UInt64 and Int8; 15 after the last place
integer_telling : Telling (λ p. converted (from_integer_type p)) nothing
unfolding decimal
integer_telling =
    record {
      one = IntegerType.UInt64;
      other = IntegerType.Int8;
      alike = refl;
      one_sheet = field_sheet (ascii "10 0 0 ~ ~ ~ ~ ~ 0\n");
      other_sheet = field_sheet (ascii "2 0 0 ~ ~ ~ ~ ~ 0\n");
      one_answer = refl;
      other_answer = refl;
      shorter = omega arith;
      few = omega arith;
      wrong = IntegerType.UInt128 + 1;
      reason = undefined_mapping;
      wrong_answer = refl;
    }

pub from_integer_type_shuts_out : (f : Call ℕ) → Defined (λ p. converted (from_integer_type p)) f → ShutOut nothing f
from_integer_type_shuts_out f defined = shut_out (λ p. converted (from_integer_type p)) f defined nothing integer_telling

-- Int256, which is Decimal256(32, 32), and Int8; 15 after the last place
primitive_telling : Telling (λ p. converted (from_primitive_type p)) nothing
unfolding decimal
primitive_telling =
    record {
      one = PrimitiveType.Int256;
      other = PrimitiveType.Int8;
      alike = refl;
      one_sheet = field_sheet (ascii "36 32 32 ~ ~ ~ ~ ~ 0\n");
      other_sheet = field_sheet (ascii "2 0 0 ~ ~ ~ ~ ~ 0\n");
      one_answer = refl;
      other_answer = refl;
      shorter = omega arith;
      few = omega arith;
      wrong = PrimitiveType.MonthDayMillis + 1;
      reason = undefined_mapping;
      wrong_answer = refl;
    }

pub from_primitive_type_shuts_out : (f : Call ℕ) → Defined (λ p. converted (from_primitive_type p)) f → ShutOut nothing f
from_primitive_type_shuts_out f defined = shut_out (λ p. converted (from_primitive_type p)) f defined nothing primitive_telling
