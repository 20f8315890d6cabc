-- Document 02, #102: "Every line that export writes has flags from 0 to 7, so the way back is as before". Where both readings of nullable say the same on
-- every line, the source's import (`Source`) is ours, by induction on the schema; they say the same but for odd negative flags, and export writes none
-- (`ExportLaws.export_flags`). The source's metadata is little-endian. Assumes nothing.
use mathlib.Core.Path.{◌≡◌, refl, ◌∙◌}
use mathlib.Core.Bool.{false}
use mathlib.Core.List.{List}
use Rattle.std.specs.Prelude.{Option}
use lib.IntN.{ℤ, pos, negsuc}
use Rattle.sheets.specs.Rule.{Rule, Meets}
use Rattle.sheets.specs.Bytes.{Bytes}
use Rattle.sheets.specs.Answer.{Answer, given, ◌>>=◌}
use Rattle.sheets.specs.Flags.{nullable, nullable_by_division}
use Rattle.sheets.specs.Schema.{Node, Schema, schema, Schemas, end, ◌&◌, Dictionary, absent, present, each_node, each_child, each_values, write_schema_sheet}
use Rattle.sheets.specs.Field.{Field, field_rule}
use Rattle.sheets.specs.FieldSheet.{read_field_sheet}
use Rattle.sheets.specs.Metadata.{metadata_from_bytes}
use Rattle.sheets.specs.Import.{format_text, name_text, to_dtype, to_field_node, to_field, to_fields, to_values}
use Rattle.sheets.specs.Source.{with_nullable, source_field, source_fields, source_values, even_if_negative, read_alike}
use Rattle.sheets.specs.Export.{schema_new, zero_to_seven, few_flags}
use Rattle.sheets.specs.Outcome.{exported}
use Rattle.sheets.proofs.Tests.{never, first_gave, chained, chain_same}
use Rattle.sheets.proofs.FieldSheetLaws.{field_read}
use Rattle.sheets.proofs.ExportLaws.{export_flags}
use Rattle.sheets.proofs.StandardFlagLaws.{division_natural, division_even}

-- what changes no answer of the second step changes none of both
after : {A B : Type 0} (a : Answer A) (g : A → Answer B) (k : B → Answer B) → ((x : A) → (g x >>= k) ≡ g x) → ((a >>= g) >>= k) ≡ (a >>= g)
after a g k h = chained a g k ∙ chain_same a a (λ x. g x >>= k) g refl h

-- a field's own nullable put in again
again : (n : Node) (cs : List (Answer Field)) (d : Option (Answer Field)) → (to_field_node false n cs d >>= λ f. given (with_nullable (nullable n.flags) f)) ≡ to_field_node false n cs d
again n cs d =
    let put : Field → Answer Field = λ f. given (with_nullable (nullable n.flags) f) in
    after (format_text n.format) _ put
    (λ f. after (to_dtype f n.flags cs d) _ put (λ t. after (metadata_from_bytes false n.metadata) _ put (λ p. after (name_text n.name) _ put (λ m. refl))))

-- both readings say the same on every line that keeps the rule
module _ (rule : Node → Rule) (alike : (n : Node) → Meets (rule n) → nullable_by_division n.flags ≡ nullable n.flags) where
  mutual
    same_field : (s : Schema) → Meets (each_node rule s) → source_field s ≡ to_field false s
    same_field (schema n cs d) h = rw (same_fields cs h.1.0, same_values d h.1.1, alike n h.0) (again n (to_fields false cs) (to_values false d))

    same_fields : (cs : Schemas) → Meets (each_child rule cs) → source_fields cs ≡ to_fields false cs
    same_fields end h = refl
    same_fields (s & ss) h = rw (same_field s h.0, same_fields ss h.1)

    same_values : (d : Dictionary) → Meets (each_values rule d) → source_values d ≡ to_values false d
    same_values absent h = refl
    same_values (present s) h = rw (same_field s h)

-- ── where no flags are negative and odd

alike_even : (z : ℤ) → Meets (even_if_negative z) → nullable_by_division z ≡ nullable z
alike_even (pos n) h = division_natural n
alike_even (negsuc n) h = division_even n h

-- import is the source's
pub import_as_source : (s : Schema) → Meets (each_node read_alike s) → source_field s ≡ to_field false s
import_as_source s h = same_field read_alike (λ n. alike_even n.flags) s h

-- ── what export writes

alike_few : (z : ℤ) → Meets (zero_to_seven z) → nullable_by_division z ≡ nullable z
alike_few (pos n) h = division_natural n
alike_few (negsuc n) h = never h

-- of the tree,
pub way_back : (f : Field) (s : Schema) → Meets (field_rule f) → schema_new false f ≡ given s → source_field s ≡ to_field false s
way_back f s h g = same_field few_flags (λ n. alike_few n.flags) s (export_flags false f s h g)

-- and of the sheet that the call answers
pub exported_flags : (b x : Bytes) → exported false b ≡ given x → (s : Schema) × (write_schema_sheet s ≡ x) × Meets (each_node few_flags s) × (source_field s ≡ to_field false s)
unfolding exported
exported_flags b x e =
    let f = first_gave (read_field_sheet b) (λ f. schema_new false f >>= λ s. given (write_schema_sheet s)) x e in
    let s = first_gave (schema_new false f.0) (λ s. given (write_schema_sheet s)) x f.2 in
    let rule = (field_read b f.0 f.1).0 in
    (s.0, cc, export_flags false f.0 s.0 rule s.1, way_back f.0 s.0 rule s.1)
