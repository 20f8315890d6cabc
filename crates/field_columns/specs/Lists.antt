-- A column's list: a union's ids, a field's pairs. What `read_list` of document 01's definitions gives and the rules keep, as a test. Assumes nothing.
use Rattle.std.specs.Prelude.{Bool, false, ◌||◌, cond, List, ℕ, ◌+◌, ℤ, drop, Option, None, Some}
use Rattle.sheets.specs.Rule.{Rule, is, ◌and◌, each, passes}
use Rattle.sheets.specs.Bytes.{Bytes, comma, equals, ascii, same}
use Rattle.sheets.specs.Parts.{bytes_before}
use Rattle.sheets.specs.Answer.{Answer, refused, given, read_each}
use Rattle.sheets.specs.Number.{read_signed}
use Rattle.sheets.specs.Text.{unhex}
use Rattle.sheets.specs.Utf8.{is_utf8}
use Rattle.sheets.specs.Field.{Pair, union, id_rule, grouping_rule, first_after, pair_rule, pairs_rule, metadata_rule}
use Rattle.sheets.specs.FieldSheet.{no_text, read_list, read_pair}
use Rattle.columns.specs.Columns.{part}

-- the answer is a value that keeps the rule
abbrev pub keeps : {A : Type 0} → (A → Rule) → Answer A → Bool
keeps rule (refused r) = false
keeps rule (given a) = passes (rule a)

-- ── what a column is

abbrev pub ids_rule : Option (List ℤ) → Rule
ids_rule ids = grouping_rule (union false ids)

-- "the union's ids as signed 32-bit numbers joined by commas": the mode changes no rule
unfoldable pub is_ids : Bytes → Bool
is_ids c = keeps ids_rule (read_list read_signed c)

-- "`key=value` in hexadecimal, joined by commas, keys strictly ascending by byte", both sides UTF-8
unfoldable pub is_pairs : Bytes → Bool
is_pairs c = keeps metadata_rule (read_list read_pair c)

-- "`~` is None, `-` is Some of nothing"
unfoldable pub is_mark : Bytes → Bool
is_mark c = same c no_text || same c (ascii "-")

-- ── elements

unfoldable pub are_ids : List Bytes → Bool
are_ids ps = keeps (each id_rule) (read_each read_signed ps)

-- hexadecimal of UTF-8
unfoldable pub is_digits : Bytes → Bool
is_digits t = keeps (λ (b : Bytes). is (is_utf8 b)) (unhex t)

unfoldable pub is_pair : Bytes → Bool
is_pair t = keeps pair_rule (read_pair t)

-- where the key of a pair ends
unfoldable pub key_end : Bytes → Option ℕ
key_end t = cond (is_pair t) (Some (bytes_before equals t)) None

-- where the part from a on ends: at a comma, or with the list
abbrev pub part_end : Bytes → ℕ → ℕ
part_end c a = a + bytes_before comma (drop a c)

abbrev pub places : ℕ → ℕ → Option ℕ → Option (ℕ × ℕ)
places a e None = None
places a e (Some k) = Some (a + k, e)

-- where the key of the pair from a on ends, and where the pair does
unfoldable pub pair_at : Bytes → ℕ → Option (ℕ × ℕ)
pair_at c a = places a (part_end c a) (key_end (part c a (part_end c a)))

unfoldable pub are_pairs : List Bytes → Bool
are_pairs ps = keeps pairs_rule (read_each read_pair ps)

-- the pairs after one with the key k
unfoldable pub follow_pairs : Bytes → List Bytes → Bool
follow_pairs k ps = keeps (λ (l : List Pair). is (first_after k l) and pairs_rule l) (read_each read_pair ps)
