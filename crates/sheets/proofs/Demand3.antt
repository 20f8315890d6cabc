-- Demand 3, proved, once for both orders of the metadata. Export and import undo each other up to plain form on trees (RoundTrip, PlainLaws); sheets are read back as the trees they
-- were written from (SchemaLaws, FieldSheetLaws); what export writes keeps the rules of a schema sheet and fits 32 levels (ExportLaws), and a
-- sheet of 65,535 bytes holds no text that a 32-bit length would not count (SizeLaws). Assumes nothing.
use mathlib.Core.Path.{◌≡◌, sym, ◌∙◌, ap, subst}
use mathlib.Core.Bool.{Bool, true}
use Prim.Native.Nat.{◌≤◌}
use native.Mathlib.Omega.{arith}
use lib.Dec.{leb}
use lib.ListN.{length}
use borrow.Author.Tests.{le-leb, leb-true}
use Rattle.sheets.specs.Rule.{Meets}
use Rattle.sheets.specs.Bytes.{Bytes}
use Rattle.sheets.specs.Answer.{Answer, given, ◌>>=◌}
use Rattle.sheets.specs.Schema.{Schema, schema_levels, write_schema_sheet}
use Rattle.sheets.specs.Field.{Field, field_rule, field_levels}
use Rattle.sheets.specs.Plain.{plain}
use Rattle.sheets.specs.Export.{schema_new}
use Rattle.sheets.specs.FieldSheet.{read_field_sheet, write_field_sheet}
use Rattle.sheets.specs.Outcome.{imported, exported, outcome}
use Rattle.sheets.specs.Demand3.{IsShort, written, Exportable, export_of, plain_form_of, Demand3}
use Rattle.sheets.proofs.Tests.{first_gave}
use Rattle.sheets.proofs.ConditionLaws.{field_free, free}
use Rattle.sheets.proofs.OutcomeLaws.{fits, zero_answers, written_success}
use Rattle.sheets.proofs.SchemaLaws.{read_schema_sheet_lem}
use Rattle.sheets.proofs.FieldSheetLaws.{read_field_sheet_lem, sheet_field, field_read, field_sheet_short}
use Rattle.sheets.proofs.RoundTrip.{import_export}
use Rattle.sheets.proofs.PlainLaws.{export_plain, plain_rule, plain_levels}
use Rattle.sheets.proofs.ExportLaws.{export_good}
use Rattle.sheets.proofs.SizeLaws.{sheet_short, field_few}

-- ── what export answered, as a schema

module _ {big : Bool} where
  pub exported_given : (e : Exportable big) → exported big e.sheet ≡ given (export_of e)
  exported_given e =
      let z = zero_answers (exported big e.sheet) e.buffer e.answers_zero in
      z.1 ∙ ap given (sym (ap written z.3 ∙ written_success z.0 e.buffer))

module _ (big : Bool) where
  record Export (e : Exportable big) : Type 0 where
    schema : Schema
    is_exported : schema_new big e.field ≡ given schema
    is_written : write_schema_sheet schema ≡ export_of e

  schema_of : (b x : Bytes) (f : Field) → read_field_sheet b ≡ given f → exported big b ≡ given x → (s : Schema) × (schema_new big f ≡ given s) × (write_schema_sheet s ≡ x)
  unfolding exported
  schema_of b x f r e =
      let g : (schema_new big f >>= λ s. given (write_schema_sheet s)) ≡ given x = rw r at e in
      let s = first_gave (schema_new big f) (λ s. given (write_schema_sheet s)) x g in
      (s.0, s.1, cc)

  export_of_lem : (e : Exportable big) → Export e
  export_of_lem e =
      let s = schema_of e.sheet (export_of e) e.field e.is_field (exported_given e) in
      record { schema = s.0; is_exported = s.1; is_written = s.2 }

  rule_of : (e : Exportable big) → Meets (field_rule e.field)
  rule_of e = (field_read e.sheet e.field e.is_field).0

  levels_of : (e : Exportable big) → field_levels e.field ≤ 32
  levels_of e = leb-true (field_levels e.field) 32 (field_read e.sheet e.field e.is_field).1

  -- its plain form keeps the rules
  plain_of : (e : Exportable big) → Meets (field_rule (plain e.field))
  plain_of e = plain_rule e.field (field_few e.field (field_sheet_short e.sheet e.field e.is_field)) (rule_of e)

  -- ── the three parts, on sheets

  import_schema : (f : Field) (s : Schema) → Meets (field_rule f) → field_levels f ≤ 32 → Meets (field_free f) → schema_new big f ≡ given s → IsShort (write_schema_sheet s) → imported big (write_schema_sheet s) ≡ given (write_field_sheet (plain f))
  unfolding imported
  import_schema f s h l k g short =
      let a = export_good big f s h g in
      let fit : leb (length (write_schema_sheet s)) 65535 ≡ true = le-leb (length (write_schema_sheet s)) 65535 short in
      rw (read_schema_sheet_lem s a.1 a.0 (le-leb (schema_levels s) 32 (omega (arith, a.2))) fit, import_export big f s h k g (sheet_short s fit))

  -- a sheet whose field meets both conditions: its export comes back as its plain form
  pub returned : (b x : Bytes) (f : Field) → read_field_sheet b ≡ given f → Meets (field_free f) → exported big b ≡ given x → IsShort x → imported big x ≡ given (write_field_sheet (plain f))
  returned b x f r m g =
      let s = schema_of b x f r g in
      let k = field_read b f r in
      subst (λ y. IsShort y → imported big y ≡ given (write_field_sheet (plain f))) s.2 (import_schema f s.0 k.0 (leb-true (field_levels f) 32 k.1) m s.1)

  pub comes_back : (e : Exportable big) → imported big (export_of e) ≡ given (plain_form_of e)
  comes_back e = returned e.sheet (export_of e) e.field e.is_field (free e.field e.no_reserved_key e.no_wide_index) (exported_given e) e.short_export

  pub goes_again : (e : Exportable big) → IsShort (plain_form_of e) → exported big (plain_form_of e) ≡ given (export_of e)
  unfolding exported
  goes_again e short =
      let f = e.field in
      let x = export_of_lem e in
      let levels : leb (field_levels (plain f)) 32 ≡ true = le-leb (field_levels (plain f)) 32 (omega (arith, plain_levels f, levels_of e)) in
      rw (read_field_sheet_lem (plain f) (plain_of e) levels (le-leb (length (plain_form_of e)) 65535 short), export_plain big f, x.is_exported) (ap given x.is_written)

  pub same_plain : (d e : Exportable big) → export_of d ≡ export_of e → plain_form_of d ≡ plain_form_of e
  same_plain d e p =
      let both : ◌≡◌ {A = Answer Bytes} (given (plain_form_of d)) (given (plain_form_of e)) = sym (comes_back d) ∙ ap (imported big) p ∙ comes_back e in
      cc

  pub same_export : (d e : Exportable big) → plain_form_of d ≡ plain_form_of e → export_of d ≡ export_of e
  same_export d e p =
      let x = export_of_lem d in
      let y = export_of_lem e in
      let q : plain d.field ≡ plain e.field = sheet_field (plain d.field) (plain e.field) (plain_of d) (plain_of e) p in
      let both : ◌≡◌ {A = Answer Schema} (given x.schema) (given y.schema) =
      sym x.is_exported ∙ sym (export_plain big d.field) ∙ ap (schema_new big) q ∙ export_plain big e.field ∙ y.is_exported in
      let s : x.schema ≡ y.schema = cc in
      sym x.is_written ∙ ap write_schema_sheet s ∙ y.is_written

-- ── the demand

pub demand3 : (big : Bool) → Demand3 big
demand3 big =
    record {
      imports_back = λ e out room. ap (λ (a : Answer Bytes). outcome a out) (comes_back big e) ∙ fits (plain_form_of e) out room;
      exports_again = λ e short out room. ap (λ (a : Answer Bytes). outcome a out) (goes_again big e short) ∙ fits (export_of e) out room;
      same_exports = λ d e. (same_plain big d e, same_export big d e);
    }
