-- The lines that import visits, as code counts them that goes through a schema row by row: a node's lines are its own, then those of the schemas that its
-- type visits (`visited`, specs/ImportLines). By cases of the format, which asks for the same children as the type that it tells. Assumes nothing.
use mathlib.Core.Path.{◌≡◌, refl, ap, ◌∙◌}
use mathlib.Core.List.{[]}
use Prim.Native.Nat.{ℕ, suc, ◌+◌}
use native.Mathlib.Omega.{arith}
use lib.ListN.{length, length-append}
use Rattle.sheets.specs.Bytes.{Bytes}
use Rattle.sheets.specs.Answer.{Answer, refused, given, ◌>>=◌}
use Rattle.sheets.specs.Schema.{Node, Schema, schema, Schemas, end, ◌&◌, Dictionary, absent, present, count_schemas, count_dictionary}
use Rattle.sheets.specs.FieldSheet.{Shape, of_dictionary}
use Rattle.sheets.specs.Flags.{is_ordered, is_sorted}
use Rattle.sheets.specs.Format.{Format, of_scalar, of_nesting, of_grouping, read_format, to_integer_type}
use Rattle.sheets.specs.Import.{format_text}
use Rattle.sheets.specs.ImportLines.{needed, node_shape, visited}
use Rattle.sheets.specs.Visits.{format_of, every_line, lines_asked, import_visits, children_visits, import_lines, below_lines, row_lines}
use Rattle.sheets.proofs.Tests.{same_given, first_gave}

-- the node's own line
pub own_line : (n : Node) (cs : Schemas) (d : Dictionary) → import_lines (schema n cs d) ≡ suc (below_lines (schema n cs d))
unfolding import_lines below_lines
own_line n cs d = refl

-- nothing stands below it
pub no_line_below : (n : Node) → below_lines (schema n end absent) ≡ 0
unfolding below_lines
no_line_below n = go (format_of n)
  where
    go : (a : Answer Format) → length (lines_asked a []) ≡ 0
    go (refused r) = refl
    go (given (of_scalar s)) = refl
    go (given (of_nesting m)) = refl
    go (given (of_grouping g)) = refl

one_schema : (s : Schema) → length (import_visits s) ≡ row_lines (s & end)
unfolding import_lines
one_schema s = omega arith

every_schema : (cs : Schemas) → length (every_line (children_visits cs)) ≡ row_lines cs
unfolding import_lines
every_schema end = refl
every_schema (s & ss) = length-append (import_visits s) (every_line (children_visits ss)) ∙ ap (λ (k : ℕ). length (import_visits s) + k) (every_schema ss)

-- the children that a format asks for
asked : (g : Format) (cs : Schemas) (sh : Shape) → needed g (count_schemas cs) ≡ given sh → length (lines_asked (given g) (children_visits cs)) ≡ row_lines (visited sh cs absent)
asked (of_scalar s) cs sh e = ap (λ (y : Shape). row_lines (visited y cs absent)) (same_given e)
asked (of_nesting m) end sh e = let z : ◌≡◌ {A = ℕ} 0 1 = cc in absurd (omega arith)
asked (of_nesting m) (c & cs) sh e = one_schema c ∙ ap (λ (y : Shape). row_lines (visited y (c & cs) absent)) (same_given e)
asked (of_grouping m) cs sh e = every_schema cs ∙ ap (λ (y : Shape). row_lines (visited y cs absent)) (same_given e)

module _ (n : Node) (f : Bytes) (text : format_text n.format ≡ given f) (cs : Schemas) (sh : Shape) where
  -- the schemas that the type visits
  pub visited_below : (d : Dictionary) → node_shape f n.flags (count_schemas cs) (count_dictionary d) ≡ given sh → below_lines (schema n cs d) ≡ row_lines (visited sh cs d)
  unfolding below_lines
  visited_below absent e =
      let (g, reads, told) = first_gave (read_format (is_sorted n.flags) f) (λ g. needed g (count_schemas cs)) sh e in
      ap (λ (a : Answer Format). length (lines_asked a (children_visits cs))) (ap (λ (a : Answer Bytes). a >>= λ b. read_format (is_sorted n.flags) b) text ∙ reads) ∙ asked g cs sh told
  visited_below (present v) e =
      let (ix, reads, told) = first_gave (to_integer_type f) (λ ix. given (of_dictionary ix (is_ordered n.flags))) sh e in
      one_schema v ∙ ap (λ (y : Shape). row_lines (visited y cs (present v))) (same_given told)
