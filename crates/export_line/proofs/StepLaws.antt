-- What export does at the line of the type in all extensions (`schema_step_of`), by the numbers that are written for it: one law for the five kinds of types. An
-- index type alone is written as the integer type that it is. Assumes nothing.
use mathlib.Core.Path.{◌≡◌, refl, sym, ap, ◌∙◌}
use mathlib.Core.Bool.{Bool, true, false, not, ◌&&◌, ◌||◌, cond, true≢false}
use mathlib.Core.List.{[], ◌∷◌}
use Rattle.std.specs.Prelude.{Option, None, Some}
use Prim.Native.Nat.{ℕ, ◌+◌, ◌≤◌, ◌<◌}
use native.Mathlib.Omega.{arith}
use lib.Dec.{eqb}
use borrow.Author.Tests.{ltb-true}
use Rattle.sheets.specs.Refusal.{zero_byte}
use Rattle.sheets.specs.Rule.{Meets}
use Rattle.sheets.specs.Bytes.{Bytes}
use Rattle.sheets.specs.Answer.{given, ◌>>=◌, decide}
use Rattle.sheets.specs.Sheet.{ended, is_some}
use Rattle.sheets.specs.Kind
use Rattle.sheets.specs.Field.{Info, bits128, bits32, bits64, bits256, leaf, timestamp, fixed_size_binary, decimal_type, list, large_list, fixed_size_list, map, struct, union, ArrowDataType, scalar, nested, grouped, dictionary, extension}
use Rattle.sheets.specs.FieldSheet.{Shape, of_scalar, of_nesting, of_grouping, of_dictionary, of_extension, columns}
use Rattle.sheets.specs.FieldTrees.{is_extension, shape_rule, type_shape, type_count, type_below}
use Rattle.sheets.specs.Metadata.{Extension}
use Rattle.sheets.specs.Walk.{Below, visit, skip, writes}
use Rattle.sheets.specs.ExportSteps.{Bearer, schema_own, schema_step_of, extension_in}
use Rattle.sheets.proofs.FieldTrees.{is_dictionary, dictionary_kind}
use Rattle.buffer.specs.Over.{PutFirst}
use Rattle.walks.specs.Places.{Owns}
use Rattle.put_format.specs.LineFormat.{shape_format}
use Rattle.put_format.proofs.ArmLaws.{can_index}
use Rattle.put_schema_line.specs.declared.LineNumbers.{LineNumbers}
use Rattle.put_schema_line.proofs.LineLaws.{shape_flags}
use Rattle.storage_line.proofs.BelowLaws.{Leaves, visited, nothing, passed}
use Rattle.export_line.specs.Begins.{numbers_with, numbers_of, zero_pending}

-- ── by the column `kind`

-- the index type of a dictionary's line
pub index_small : (s : Shape) → Meets (shape_rule s) → is_dictionary s ≡ true → (columns s).p < 10
index_small (of_scalar s) h e = absurd (true≢false (sym e))
index_small (of_nesting g) h e = absurd (true≢false (sym e))
index_small (of_grouping g) h e = absurd (true≢false (sym e))
index_small (of_dictionary ix ordered) h e = ltb-true ix 10 h
index_small (of_extension a m) h e = absurd (true≢false (sym e))

pub extended : (s : Shape) → is_extension s ≡ is_some (extension_in s)
extended (of_scalar s) = refl
extended (of_nesting g) = refl
extended (of_grouping g) = refl
extended (of_dictionary ix ordered) = refl
extended (of_extension a m) = refl

-- ── the step

-- the type that is written for the type v, under the extension e, and its step
pub record WrittenType (big : Bool) (v : ArrowDataType) (i : Info) (e : Option Extension) (n : LineNumbers) : Type 0 where
  pub shape : Shape
  pub children : ℕ
  pub values : ℕ
  pub below : Below (Option Bearer)
  pub plain : is_extension shape ≡ false
  pub rule : Meets (shape_rule shape)
  pub text : (columns shape).text ≡ (columns (type_shape v)).text
  pub is : n ≡ numbers_with i.nullable (columns shape).kind (columns shape).p (columns shape).q children values big
  pub few : children ≤ type_count v
  pub one : values ≤ 1
  pub step : schema_step_of big (type_shape v) (type_count v) i e ≡ (shape_format shape children >>= λ f. given (writes (schema_own big i e f (shape_flags shape) children values) below))
  pub left : Leaves {S = Option Bearer} None (type_below v) below (is_dictionary (type_shape v) && is_some e)

module _ (big : Bool) (i : Info) where
  abbrev numbers_for : ArrowDataType → Option Extension → LineNumbers
  numbers_for v e =
      numbers_of i.nullable (is_dictionary (type_shape v) && is_some e) (columns (type_shape v)).kind (columns (type_shape v)).p (columns (type_shape v)).q (type_count v) big

  -- no dictionary
  other : (s : Shape) → Meets (shape_rule s) → is_dictionary s ≡ false → (n : ℕ) → numbers_of i.nullable false (columns s).kind (columns s).p (columns s).q n big ≡ numbers_with i.nullable (columns s).kind (columns s).p (columns s).q n 0 big
  other s h d n =
      ap (λ (b : Bool). cond b (numbers_with i.nullable (columns s).kind (columns s).p (columns s).q 0 1 big) (numbers_with i.nullable (columns s).kind (columns s).p (columns s).q n 0 big)) (dictionary_kind s h ∙ d)

  pub written : (v : ArrowDataType) → is_extension (type_shape v) ≡ false → Meets (shape_rule (type_shape v)) → (e : Option Extension) → WrittenType big v i e (numbers_for v e)
  written (scalar s) p h e =
      record { shape = of_scalar s; children = 0; values = 0; below = skip; plain = refl; rule = h; text = refl; is = other (of_scalar s) h refl 0; few = omega arith; one = omega arith; step = refl; left = nothing refl refl refl }
  written (nested n j t) p h e =
      record { shape = of_nesting n; children = 1; values = 0; below = visit None; plain = refl; rule = h; text = refl; is = other (of_nesting n) h refl 1; few = omega arith; one = omega arith; step = refl; left = visited refl refl }
  written (grouped g fs) p h e =
      record {
        shape = of_grouping g;
        children = type_count (grouped g fs);
        values = 0;
        below = visit None;
        plain = refl;
        rule = h;
        text = refl;
        is = other (of_grouping g) h refl (type_count (grouped g fs));
        few = omega arith;
        one = omega arith;
        step = refl;
        left = visited refl refl;
      }
  written (dictionary ix ordered t) p h None =
      record { shape = of_dictionary ix ordered; children = 0; values = 1; below = visit None; plain = refl; rule = h; text = refl; is = refl; few = omega arith; one = omega arith; step = refl; left = visited refl refl }
  written (dictionary ix ordered t) p h (Some e) =
      record {
        shape = of_scalar (leaf (ix + Kind.Int8) 0);
        children = 0;
        values = 0;
        below = skip;
        plain = refl;
        rule = (can_index ix 0 (ltb-true ix 10 h) (omega arith)).rule;
        text = refl;
        is = refl;
        few = omega arith;
        one = omega arith;
        step = refl;
        left = passed refl refl;
      }
  written (extension a m t) p h e = absurd (true≢false p)

-- ── a line's own

-- by byte 00 in the name and in the format
pub own_put : (named clean : Bool) (line : Bytes) (len : ℕ) (old out : Bytes) → PutFirst (ended (line ∷ [])) len old out
    → Owns (decide zero_byte (named && clean) (line ∷ [])) (zero_pending (not clean || not named)) len old out
own_put true true line len old out p = p
own_put true false line len old out p = refl
own_put false true line len old out p = refl
own_put false false line len old out p = refl
