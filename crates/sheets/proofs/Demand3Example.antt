-- The conditions of demand 3 can be met: a field that meets them (an extension in an extension over a dictionary, an empty timezone, pairs that are
-- Some of nothing), another with the same plain form, and the demand used at both, in each order of the metadata; and what it does not promise, that an
-- export under one order comes back under the other. By computation. Assumes nothing.
use mathlib.Core.Path.{◌≡◌, refl}
use mathlib.Core.Bool.{Bool, true, false}
use mathlib.Core.List.{[], ◌∷◌}
use Rattle.std.specs.Prelude.{None, Some}
use lib.ListN.{length, replicate}
use borrow.Author.Tests.{leb-true}
use Rattle.sheets.specs.Number.{decimal}
use Rattle.sheets.specs.Format.{rows}
use Rattle.sheets.specs.IntegerType
use Rattle.sheets.specs.Kind
use Rattle.sheets.specs.Field.{Field, leaf, timestamp, nanosecond, struct, scalar, grouped, dictionary, extension, nil, add}
use Rattle.sheets.specs.Bytes.{Bytes, ascii}
use Rattle.sheets.specs.Outcome.{success, refusal, imported, exported, outcome, import_outcome_in, export_outcome_in, import_outcome, export_outcome}
use Rattle.sheets.specs.Demand3.{IsShort, written, Exportable, export_of, plain_form_of, every_line, no_rule}
use Rattle.sheets.specs.Strict.{own_keys, narrow_index}
use Rattle.sheets.proofs.Tests.{meets}
use Rattle.sheets.proofs.Demand3.{demand3}

abbrev pub field_text : Bytes
field_text = ascii "kind p q text more name nullable pairs children\n30 0 0 ~ ~ 73 1 - 2\n37 0 0 65 ~ 61 0 6b=76 1\n37 0 0 66 - ~ ~ ~ 1\n32 2 1 ~ ~ ~ ~ ~ 1\n25 0 0 ~ ~ ~ ~ ~ 0\n15 3 0 - ~ 62 0 ~ 0\n"

abbrev pub schema_text : Bytes
schema_text = ascii "format name flags metadata children dictionary\n2b73 73 2 ~ 2 0\n69 61 0 02000000140000004152524f573a657874656e73696f6e3a6e616d650100000065010000006b0100000076 0 0\n74736e3a 62 0 ~ 0 0\n"

-- big-endian: the count and the lengths in the other direction
abbrev pub big_schema_text : Bytes
big_schema_text = ascii "format name flags metadata children dictionary\n2b73 73 2 ~ 2 0\n69 61 0 00000002000000144152524f573a657874656e73696f6e3a6e616d650000000165000000016b0000000176 0 0\n74736e3a 62 0 ~ 0 0\n"

abbrev pub plain_text : Bytes
plain_text = ascii "kind p q text more name nullable pairs children\n30 0 0 ~ ~ 73 1 ~ 2\n37 0 0 65 ~ 61 0 6b=76 1\n4 0 0 ~ ~ ~ ~ ~ 0\n15 3 0 ~ ~ 62 0 ~ 0\n"

-- the field of that sheet
abbrev pub the_field : Field
the_field =
    record {
      info = record { name = ascii "s"; nullable = true; pairs = Some [] };
      type =
          grouped struct
          (add (record { name = ascii "a"; nullable = false; pairs = Some ((ascii "k", ascii "v") ∷ []) })
          (extension (ascii "e") None (extension (ascii "f") (Some []) (dictionary IntegerType.Int32 true (scalar (leaf Kind.Utf8 0)))))
          (add (record { name = ascii "b"; nullable = false; pairs = None }) (scalar (timestamp nanosecond (Some []))) nil));
    }

-- a buffer of 999 bytes that held sevens
abbrev pub full : Bytes
full = replicate 999 7

-- the field, where its export is answered and short
abbrev exportable : (big : Bool) → (export_outcome_in big field_text full).number ≡ 0 → IsShort (written (export_outcome_in big field_text full)) → Exportable big
unfolding rows decimal
exportable big answers short =
    record {
      sheet = field_text;
      field = the_field;
      is_field = refl;
      no_reserved_key = meets (every_line own_keys no_rule the_field) refl;
      no_wide_index = meets (every_line no_rule narrow_index the_field) refl;
      buffer = full;
      answers_zero = answers;
      short_export = short;
    }

abbrev pub here : Exportable false
unfolding rows decimal exported outcome
here = exportable false refl (leb-true (length schema_text) 65535 refl)

abbrev pub here_big : Exportable true
unfolding rows decimal exported outcome
here_big = exportable true refl (leb-true (length big_schema_text) 65535 refl)

-- its exports and its plain form
pub its_exports : (export_of here ≡ schema_text) × (export_of here_big ≡ big_schema_text)
unfolding rows decimal exported outcome
its_exports = (refl, refl)

pub its_plain_form : plain_form_of here ≡ plain_text
unfolding rows decimal exported outcome
its_plain_form = refl

-- the demand at it
pub comes_back : import_outcome schema_text full ≡ success plain_text full
unfolding rows decimal exported outcome
comes_back = (demand3 false).imports_back here full (leb-true (length plain_text) 999 refl)

pub goes_again : export_outcome plain_text full ≡ success schema_text full
unfolding rows decimal exported outcome
goes_again = (demand3 false).exports_again here (leb-true (length plain_text) 65535 refl) full (leb-true (length schema_text) 999 refl)

pub comes_back_big : import_outcome_in true big_schema_text full ≡ success plain_text full
unfolding rows decimal exported outcome
comes_back_big = (demand3 true).imports_back here_big full (leb-true (length plain_text) 999 refl)

pub goes_again_big : export_outcome_in true plain_text full ≡ success big_schema_text full
unfolding rows decimal exported outcome
goes_again_big = (demand3 true).exports_again here_big (leb-true (length plain_text) 65535 refl) full (leb-true (length big_schema_text) 999 refl)

-- written in one order and read in the other: two pairs become 33,554,432, and the block is cut short
pub other_order : (import_outcome_in true schema_text full ≡ refusal 11 full) × (import_outcome_in false big_schema_text full ≡ refusal 11 full)
unfolding rows decimal imported outcome
other_order = (refl, refl)
