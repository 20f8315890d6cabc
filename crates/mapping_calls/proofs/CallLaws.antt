-- A field sheet that was read, or not: what a call answers of its field. Assumes nothing.
use mathlib.Core.Path.{◌≡◌, refl, sym, ap, subst, ◌∙◌}
use mathlib.Core.Bool.{Bool, true, false}
use mathlib.Core.List.{[]}
use Rattle.std.specs.Prelude.{Option, None, Some, Ok, Err}
use Prim.Native.Nat.{ℕ}
use Rattle.sheets.specs.Bytes.{Bytes}
use Rattle.sheets.specs.Answer.{Answer, refused, given, ◌>>=◌}
use Rattle.sheets.specs.Sheet.{level_limit}
use Rattle.sheets.specs.Field.{list, large_list, fixed_size_list, map, ArrowDataType, scalar, nested, grouped, dictionary, extension, Field}
use Rattle.sheets.specs.FieldSheet.{read_field_sheet}
use Rattle.sheets.specs.FieldTrees.{fields}
use Rattle.sheets.specs.TreeWalks.{HasTree}
use Rattle.sheets.specs.Mappings.{is_nested, contains_dictionary}
use Rattle.sheets.specs.Outcome.{yes_no, is_nested_outcome, contains_dictionary_outcome}
use Rattle.refusal.specs.declared.Refusal.{Refusal as Reason}
use Rattle.refusal.specs.Refusals.{refusal_of, Refusing, answer_of}
use Rattle.read_field_line.specs.FieldLines.{FieldLineAt}
use Rattle.read_field_line.specs.declared.FieldLine.{FieldLine}
use Rattle.field_sheet.specs.Sheets.{sheet_body}
use Rattle.field_sheet.proofs.SheetLaws.{Opens, sheet_opens, sheet_refused}
use Rattle.nesting.specs.Nestings.{type_nesting, kind_nesting}
use Rattle.nesting.specs.declared.Nesting.{Nesting}
use Rattle.nesting.proofs.NestingLaws.{line_nesting}
use Rattle.walks.specs.Places.{TypeAt, HasType}
use Rattle.mapping_calls.specs.Answers.{nesting_nested}
use Rattle.mapping_calls.specs.Searches.{TypeSearched}

nested_is : (t : ArrowDataType) → nesting_nested (type_nesting t) ≡ is_nested t
nested_is (scalar s) = refl
nested_is (nested list i t) = refl
nested_is (nested large_list i t) = refl
nested_is (nested (fixed_size_list n) i t) = refl
nested_is (nested (map sorted) i t) = refl
nested_is (grouped g fs) = refl
nested_is (dictionary ix ordered t) = refl
nested_is (extension n m t) = refl

module _ (s : Bytes) (k : Refusing ℕ) (h : answer_of k ≡ sheet_body s) where
  -- no field sheet
  pub sheet_unread : {A : Type 0} (q : Reason) → k ≡ Err q → (pick : Field → Answer A) → refused (refusal_of q) ≡ (read_field_sheet s >>= pick)
  sheet_unread {A} q e pick = ap (λ (a : Answer Field). a >>= pick) (sym (sheet_refused s (sym h ∙ ap answer_of e)))

  module _ (at : ℕ) (e : k ≡ Ok at) where
    pub read : (f : Field) × Opens s at f
    read = sheet_opens s (sym h ∙ ap answer_of e)

    pub read_type : TypeAt s at level_limit false (Some read.0.info) read.0.type []
    read_type = let o = read.1 in record { stands = o.stands; deep = o.levels; short = o.short }

    pub read_there : HasType s at level_limit false
    read_there = (Some read.0.info, read.0.type, [], read_type)

    pub read_tree : HasTree fields s at
    read_tree = ((Some read.0.info, read.0.type), [], read_type.stands)

    -- what is made of the field that was read
    pub sheet_read : {A : Type 0} (pick : Field → Answer A) (a : Answer A) → a ≡ pick read.0 → a ≡ (read_field_sheet s >>= pick)
    sheet_read {A} pick a g = g ∙ ap (λ (b : Answer Field). b >>= pick) (sym read.1.is_read)

    pub nested_told : (l : FieldLine) → FieldLineAt s at l → (n : Nesting) → n ≡ kind_nesting l.kind → (b : Bool) → b ≡ nesting_nested n → yes_no (given b) ≡ is_nested_outcome s
    nested_told l there n m b c =
        ap yes_no (sheet_read (λ f. given (is_nested f.type)) (given b) (ap given (c ∙ ap nesting_nested (line_nesting read_type.stands there m) ∙ nested_is read.0.type)))

    module _ (r : Option ℕ) (w : TypeSearched s (record { at = at; levels = level_limit; inside = false }) r) where
      told : (o : Option ℕ) → r ≡ o → TypeSearched s (record { at = at; levels = level_limit; inside = false }) o
      told o c = subst (TypeSearched s (record { at = at; levels = level_limit; inside = false })) c w

      pub found_told : r ≡ None → yes_no (given true) ≡ contains_dictionary_outcome s
      found_told c =
          ap yes_no (sheet_read (λ f. given (contains_dictionary f.type)) (given true) (ap given (sym (told None c (Some read.0.info) read.0.type [] read_type))))

      pub absent_told : (next : ℕ) → r ≡ Some next → yes_no (given false) ≡ contains_dictionary_outcome s
      absent_told next c =
          ap yes_no (sheet_read (λ f. given (contains_dictionary f.type)) (given false) (ap given (sym (told (Some next) c (Some read.0.info) read.0.type [] read_type).0)))
