-- `to_physical_type` of a field's type is that of the kind and `p` of the line inside all extensions. Assumes nothing.
use mathlib.Core.Path.{◌≡◌, ap, ap₂, ◌∙◌}
use mathlib.Core.Bool.{false}
use mathlib.Core.List.{[]}
use Rattle.std.specs.Prelude.{Some, Ok}
use Prim.Native.Nat.{ℕ}
use Rattle.sheets.specs.Rule.{Meets}
use Rattle.sheets.specs.Bytes.{Bytes}
use Rattle.sheets.specs.Answer.{Answer}
use Rattle.sheets.specs.Sheet.{level_limit}
use Rattle.sheets.specs.Field.{ArrowDataType, scalar, nested, grouped, dictionary, extension, Field, type_rule}
use Rattle.sheets.specs.FieldSheet.{columns}
use Rattle.sheets.specs.FieldTrees.{type_shape}
use Rattle.sheets.specs.Mappings.{to_storage, to_physical_type}
use Rattle.sheets.specs.Mappings.{PhysicalType as HostPhysical}
use Rattle.sheets.specs.Outcome.{places, to_physical_type_outcome}
use Rattle.sheets.proofs.MappingLaws.{physical_storage}
use Rattle.datatypes.specs.Physical.{kind_physical}
use Rattle.datatypes.proofs.PhysicalLaws.{scalar_kind, nesting_kind, grouping_kind, dictionary_kind}
use Rattle.field_sheet.specs.Sheets.{sheet_body}
use Rattle.line_below.proofs.LineLaws.{line_kind, line_p}
use Rattle.storage_line.specs.StorageLines.{StorageTold}
use Rattle.storage_line.specs.declared.StorageLine.{StorageLine}
use Rattle.refusal.specs.Refusals.{Refusing, answer_of}
use Rattle.mapping_calls.proofs.CallLaws.{read, read_type, sheet_read}

storage_kind_lem : (t : ArrowDataType) → Meets (type_rule (to_storage t)) → kind_physical (columns (type_shape (to_storage t))).kind (columns (type_shape (to_storage t))).p ≡ to_physical_type (to_storage t)
storage_kind_lem (scalar s) h = scalar_kind s h
storage_kind_lem (nested n i t) h = nesting_kind n
storage_kind_lem (grouped g fs) h = grouping_kind g
storage_kind_lem (dictionary ix ordered t) h = dictionary_kind ix ordered t h
storage_kind_lem (extension n m t) h = storage_kind_lem t h

module _ (s : Bytes) (k : Refusing ℕ) (h : answer_of k ≡ sheet_body s) (at : ℕ) (e : k ≡ Ok at) where
  pub physical_told : (r : StorageLine) → StorageTold s (record { at = at; levels = level_limit; inside = false }) r → (a : Answer HostPhysical) → a ≡ kind_physical r.line.kind r.line.p
      → places a ≡ to_physical_type_outcome s
  physical_told r told a is =
      let f = (read s k h at e).0 in
      let w = told (Some f.info) f.type [] (read_type s k h at e) in
      let st = w.type.stands in
      ap places
      (sheet_read s k h at e (λ (g : Field). to_physical_type g.type) a
      (is ∙ ap₂ kind_physical (line_kind st w.line) (line_p st w.line) ∙ storage_kind_lem f.type st.rules.0.1 ∙ physical_storage f.type))
