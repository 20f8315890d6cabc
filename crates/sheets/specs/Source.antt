-- Import with nullable as the source reads it, by division: ours was so before document 02, #102. All else is Import's; the metadata is little-endian, as the
-- source's is on the machines of the differential runs. No call gives it; laws say where it is import still. Assumes nothing.
use Rattle.std.specs.Prelude.{Bool, true, false, List, [], ◌∷◌, ℤ, pos, negsuc, Option, None, Some}
use Rattle.sheets.specs.Rule.{Rule, is}
use Rattle.sheets.specs.Answer.{Answer, given, ◌>>=◌}
use Rattle.sheets.specs.Flags.{odd, nullable_by_division}
use Rattle.sheets.specs.Schema.{Node, Schema, schema, Schemas, end, ◌&◌, Dictionary, absent, present}
use Rattle.sheets.specs.Field.{Field}
use Rattle.sheets.specs.Import.{to_field_node}

abbrev pub with_nullable : Bool → Field → Field
with_nullable b f = record { info = record { name = f.info.name; nullable = b; pairs = f.info.pairs }; type = f.type }

abbrev mutual
  pub source_field : Schema → Answer Field
  source_field (schema n cs d) = to_field_node false n (source_fields cs) (source_values d) >>= λ f. given (with_nullable (nullable_by_division n.flags) f)

  pub source_fields : Schemas → List (Answer Field)
  source_fields end = []
  source_fields (s & ss) = source_field s ∷ source_fields ss

  pub source_values : Dictionary → Option (Answer Field)
  source_values absent = None
  source_values (present s) = Some (source_field s)

-- the flags that both readings read alike: -(n + 1) is even where n is odd
abbrev pub even_if_negative : ℤ → Rule
even_if_negative (pos n) = is true
even_if_negative (negsuc n) = is (odd n)

abbrev pub read_alike : Node → Rule
read_alike n = even_if_negative n.flags
