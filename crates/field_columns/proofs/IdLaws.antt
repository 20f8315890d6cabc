-- A union's ids: one and those after it. By cases of the answers. Assumes nothing.
use mathlib.Core.Path.{◌≡◌, refl, sym, ◌∙◌, ap}
use mathlib.Core.Bool.{Bool, true, false, ◌&&◌, and-false}
use mathlib.Core.List.{List, [], ◌∷◌}
use Prim.Native.Nat.{◌^◌}
use lib.Dec.{ltb}
use lib.IntN.{ℤ}
use lib.Signed.{mag}
use borrow.Author.Tests.{lt-ltb, ltb-true}
use Rattle.sheets.specs.Refusal.{bad_lines}
use Rattle.sheets.specs.Rule.{each}
use Rattle.sheets.specs.Bytes.{Bytes, split}
use Rattle.sheets.specs.Answer.{Answer, refused, given, ◌>>=◌, read_each}
use Rattle.sheets.specs.Number.{read_signed}
use Rattle.sheets.specs.Field.{id_rule}
use Rattle.sheets.proofs.Tests.{not_given}
use Rattle.decimal.specs.Column.{signed_column}
use Rattle.decimal.proofs.ColumnLaws.{signed_within, signed_given}
use Rattle.field_columns.specs.Lists.{keeps, ids_rule, is_ids, is_mark, are_ids}
use Rattle.field_columns.proofs.ListLaws.{list_mark, list_parts, some_keeps}

more : (z : ℤ) (a : Answer (List ℤ)) → keeps (each id_rule) (a >>= λ zs. given (z ∷ zs)) ≡ (ltb (mag z) (2 ^ 31) && keeps (each id_rule) a)
more z (refused r) = sym (and-false (ltb (mag z) (2 ^ 31)))
more z (given zs) = refl

-- one id and those after it, by what was read of it
module _ (p : Bytes) (ps : List Bytes) where
  pub id_there : (z : ℤ) → signed_column (2 ^ 31) p ≡ given z → are_ids (p ∷ ps) ≡ are_ids ps
  unfolding are_ids
  id_there z e =
      let w = signed_given (2 ^ 31) p z e in
      ap (λ (a : Answer ℤ). keeps (each id_rule) (a >>= λ y. read_each read_signed ps >>= λ zs. given (y ∷ zs))) w.0 ∙ more z (read_each read_signed ps) ∙ ap (λ (t : Bool). t && keeps (each id_rule) (read_each read_signed ps)) (lt-ltb (mag z) (2 ^ 31) w.1)

  pub id_not : signed_column (2 ^ 31) p ≡ refused bad_lines → are_ids (p ∷ ps) ≡ false
  unfolding are_ids
  id_not e = pick (read_signed p) refl
    where
      wide : (z : ℤ) → read_signed p ≡ given z → (t : Bool) → ltb (mag z) (2 ^ 31) ≡ t → (t && keeps (each id_rule) (read_each read_signed ps)) ≡ false
      wide z g true u = not_given (sym e ∙ signed_within (2 ^ 31) p z g (ltb-true (mag z) (2 ^ 31) u))
      wide z g false u = refl

      pick : (a : Answer ℤ) → read_signed p ≡ a → keeps (each id_rule) (a >>= λ y. read_each read_signed ps >>= λ zs. given (y ∷ zs)) ≡ false
      pick (refused q) g = refl
      pick (given z) g = more z (read_each read_signed ps) ∙ wide z g (ltb (mag z) (2 ^ 31)) refl

pub ids_none : are_ids [] ≡ true
unfolding are_ids
ids_none = refl

pub ids_mark : (c : Bytes) → is_mark c ≡ true → is_ids c ≡ true
unfolding is_ids
ids_mark c m = list_mark ids_rule read_signed c refl refl m

pub ids_parts : (c : Bytes) → is_mark c ≡ false → is_ids c ≡ are_ids (split 44 c)
unfolding is_ids are_ids
ids_parts c m = ap (keeps ids_rule) (list_parts ids_rule read_signed c m) ∙ some_keeps ids_rule (read_each read_signed (split 44 c))
