-- A list that was read from a column is written as that column. Once for every element. Assumes nothing.
use mathlib.Core.Path.{◌≡◌, refl, sym, ◌∙◌, ap, ap₂}
use mathlib.Core.Bool.{Bool, true, false, cond, true≢false}
use mathlib.Core.List.{List, [], ◌∷◌, map}
use Rattle.std.specs.Prelude.{Option, None, Some}
use Rattle.sheets.specs.Rule.{Rule, Meets}
use Rattle.sheets.specs.Bytes.{Bytes, ascii, same, split, join}
use Rattle.sheets.specs.Answer.{Answer, refused, given, ◌>>=◌, read_each}
use Rattle.sheets.specs.FieldSheet.{no_text, read_list, write_list}
use Rattle.sheets.proofs.Tests.{first_gave, same_given, meets}
use Rattle.sheets.proofs.BytesLaws.{same_eq}
use Rattle.sheets.proofs.InverseLaws.{split_some, join_split}
use Rattle.field_columns.specs.Lists.{keeps}

-- what a column's value is, where it keeps a rule
pub keeps_given : {A : Type 0} (rule : A → Rule) (a : Answer A) → keeps rule a ≡ true → (x : A) × (a ≡ given x) × Meets (rule x)
keeps_given rule (refused r) h = absurd (true≢false (sym h))
keeps_given rule (given x) h = (x, refl, meets (rule x) h)

module _ {A : Type 0} (write : A → Bytes) (read : Bytes → Answer A) (once : (t : Bytes) (a : A) → read t ≡ given a → write a ≡ t) where
  each_once : (ts : List Bytes) (l : List A) → read_each read ts ≡ given l → map write l ≡ ts
  each_once [] l e = ap (map write) (sym (same_given e))
  each_once (t ∷ ts) l e =
      let p = first_gave (read t) (λ a. read_each read ts >>= λ x. given (a ∷ x)) l e in
      let q = first_gave (read_each read ts) (λ x. given (p.0 ∷ x)) l p.2 in
      ap (map write) (sym (same_given q.2)) ∙ ap₂ ◌∷◌ (once t p.0 p.1) (each_once ts q.0 q.1)

  -- no column has no parts
  joined : (t : Bytes) (l : List A) → map write l ≡ split 44 t → write_list write (Some l) ≡ t
  joined t [] e = let s = split_some 44 t in absurd (empty (e ∙ s.2))
    where
      empty : {p : Bytes} {ps : List Bytes} → ◌≡◌ {A = List Bytes} [] (p ∷ ps) → ⊥
      empty q = true≢false (ap (λ (x : List Bytes). elim x [ [] ↦ true | ◌∷◌ y z ↦ false ]) q)
  joined t (a ∷ l) e = ap (join 44) e ∙ join_split 44 t

  pub list_once : (t : Bytes) (l : Option (List A)) → read_list read t ≡ given l → write_list write l ≡ t
  list_once t l e = pick (same t no_text) (same t (ascii "-")) refl refl e
    where
      pick : (x y : Bool) → same t no_text ≡ x → same t (ascii "-") ≡ y → cond x (given None) (cond y (given (Some [])) (read_each read (split 44 t) >>= λ v. given (Some v))) ≡ given l → write_list write l ≡ t
      pick true y f g h = ap (write_list write) (sym (same_given h)) ∙ sym (same_eq t no_text f)
      pick false true f g h = ap (write_list write) (sym (same_given h)) ∙ sym (same_eq t (ascii "-") g)
      pick false false f g h =
          let q = first_gave (read_each read (split 44 t)) (λ v. given (Some v)) l h in
          ap (write_list write) (sym (same_given q.2)) ∙ joined t q.0 (each_once (split 44 t) q.0 q.1)
