-- The lines that are written at once: how long they are (`short_length`), and that the line of a list, a large list or a struct is the one that its field is
-- written as (`nested_text`), of the type that import reads from its format (`nested_shape_lem`). What the schema's line says is `short_says` of `leaf_line`. Assumes nothing.
use mathlib.Core.Path.{◌≡◌, refl, ap, ◌∙◌}
use mathlib.Core.List.{[], ◌∷◌, ◌++◌}
use Rattle.std.specs.Prelude.{None, Some}
use Prim.Native.Nat.{ℕ, zero, suc, ◌+◌, ◌-◌, ◌/◌, ◌%◌, ◌≤◌, ◌<◌}
use native.Mathlib.Omega.{arith}
use lib.IntN.{pos}
use lib.ListN.{length, length-append}
use Rattle.sheets.specs.Bytes.{Bytes}
use Rattle.sheets.specs.Sheet.{ended}
use Rattle.sheets.specs.Number.{decimal}
use Rattle.sheets.specs.Flags.{is_sorted, nullable}
use Rattle.sheets.specs.Answer.{Answer, given, ◌>>=◌}
use Rattle.sheets.specs.Format.{Format}
use Rattle.sheets.specs.ImportLines.{needed, node_shape}
use Rattle.sheets.specs.Field.{Info, leaf}
use Rattle.sheets.specs.FieldSheet.{of_scalar, columns, field_line, line_of}
use Rattle.decimal.proofs.WriteLaws.{decimal_length}
use Rattle.columns.specs.Columns.{part}
use Rattle.leaf_line.specs.Short.{ShortFormat, ShortAt}
use Rattle.leaf_line.specs.Nested.{NestedType, list_type, large_list_type, struct_type, nested_type, nested_shape, nested_kind}
use Rattle.leaf_line.proofs.ShortLaws.{name_size, name_some}
use Rattle.field_leaf.specs.LeafText.{unused_text, head_text, tail_text, short_text}
use Rattle.field_leaf.proofs.LeafLaws.{short_text_lem}
use Rattle.put_leaf.specs.Written.{NestedWritten}
use Rattle.put_leaf.proofs.PutLaws.{decimal_one}

-- it is not much longer than its name
pub short_length : {f : ShortFormat} {s : Bytes} {at e flags c : ℕ} → ShortAt f s at e flags c → (kind n count : ℕ) → kind < 100
    → length (short_text kind (part s (at + (f.digits + 1)) e) n count) ≤ 18 + (e - (at + (f.digits + 1)))
unfolding unused_text head_text tail_text
short_length {f} {s} {at} {e} k kind n count h =
    let name = part s (at + (f.digits + 1)) e in
    let a : length (head_text kind) ≡ length (decimal kind) + 9 = length-append (decimal kind) unused_text in
    let b : length (decimal kind) ≤ 2 = decimal_length 2 kind (omega arith) (omega arith) in
    omega (arith, name_size k, length-append (head_text kind ++ name) (tail_text n count), length-append (head_text kind) name)

-- a type that its kind alone tells
kind_columns : (t : NestedType) → columns (nested_shape t) ≡ columns (of_scalar (leaf (nested_kind t) 0))
kind_columns list_type = refl
kind_columns large_list_type = refl
kind_columns struct_type = refl

with_child : (t : NestedType) (c : ℕ) → 0 < c → needed (nested_type t) c ≡ given (nested_shape t)
with_child t zero h = absurd (omega arith)
with_child list_type (suc c) h = refl
with_child large_list_type (suc c) h = refl
with_child struct_type (suc c) h = refl

module _ {s : Bytes} {at : ℕ} {out out' : Bytes} {next len count last : ℕ} (w : NestedWritten s at out out' next len count last) where
  -- the field that it becomes, without its type
  abbrev pub nested_info : Info
  nested_info = record { name = w.nested.short.bytes; nullable = nullable (pos w.flags); pairs = None }

  pub nested_text : short_text (nested_kind w.type) (part s (at + 5) w.e) (w.flags / 2 % 2) count
      ≡ ended (field_line.write (line_of (nested_shape w.type) (Some nested_info) count) ∷ [])
  nested_text =
      let k = w.nested.short in
      ap (λ (b : Bytes). short_text (nested_kind w.type) b (w.flags / 2 % 2) count) k.name
      ∙ short_text_lem (nested_shape w.type) (nested_kind w.type) (kind_columns w.type) k.bytes (w.flags / 2 % 2) count
      (decimal_one count (omega (arith, w.all, w.nested.digit))) (name_some k) (omega arith)

  -- what import makes of its format over its children
  pub nested_shape_lem : node_shape w.nested.short.format (pos w.flags) w.children 0 ≡ given (nested_shape w.type)
  nested_shape_lem =
      ap (λ (a : Answer Format). a >>= λ g. needed g w.children) (w.nested.short.names.means (is_sorted (pos w.flags))) ∙ with_child w.type w.children w.nested.child
