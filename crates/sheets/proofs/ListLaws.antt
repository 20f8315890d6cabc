-- A list in a column, and each element's text, read back: once for every element type. Assumes nothing.
use mathlib.Core.Path.{◌≡◌, refl, sym, ◌∙◌, ap}
use mathlib.Core.Bool.{Bool, true, false, not}
use mathlib.Core.List.{List, [], ◌∷◌, map}
use Rattle.std.specs.Prelude.{Option, None, Some}
use Prim.Native.Nat.{ℕ, zero, suc}
use native.Mathlib.Omega.{arith}
use lib.Dec.{eqb}
use Rattle.sheets.specs.Refusal.{bad_lines}
use Rattle.sheets.specs.Rule.{Rule, is, each, Meets}
use Rattle.sheets.specs.Bytes.{Bytes, ascii, lacks, same, split, join}
use Rattle.sheets.specs.Answer.{Answer, refused, given, read_each}
use Rattle.sheets.specs.FieldSheet.{write_list, read_list, no_text}
use Rattle.sheets.proofs.BytesLaws.{same_eq, split_join, each_lacks, join_lacks}

module _ {A : Type 0} (rule : A → Rule) (write : A → Bytes) (read : Bytes → Answer A) (back : (a : A) → Meets (rule a) → read (write a) ≡ given a) where
  pub read_each_lem : (l : List A) → Meets (each rule l) → read_each read (map write l) ≡ given l
  read_each_lem [] h = refl
  read_each_lem (a ∷ l) h = rw (back a h.0, read_each_lem l h.1)

module _ {A : Type 0} (rule : A → Rule) (write : A → Bytes) (s : ℕ) (free : (a : A) → Meets (rule a) → Meets (lacks s (write a))) where
  pub each_free : (l : List A) → Meets (each rule l) → Meets (each_lacks s (map write l))
  each_free [] h = refl
  each_free (a ∷ l) h = (free a h.0, each_free l h.1)

-- the rule at each element, where there is a list
abbrev pub list_rule : {A : Type 0} → (A → Rule) → Option (List A) → Rule
list_rule rule None = is true
list_rule rule (Some l) = each rule l

module _ {A : Type 0} (rule : A → Rule) (write : A → Bytes) (read : Bytes → Answer A) (back : (a : A) → Meets (rule a) → read (write a) ≡ given a)
    (comma : (a : A) → Meets (rule a) → Meets (lacks 44 (write a))) (tilde : read no_text ≡ refused bad_lines) (dash : read (ascii "-") ≡ refused bad_lines) where
  -- joined texts are no token that reads as no element
  not_token : (w : Bytes) → split 44 w ≡ w ∷ [] → read w ≡ refused bad_lines → (a : A) (l : List A) → Meets (each rule (a ∷ l)) → same (join 44 (write a ∷ map write l)) w ≡ false
  not_token w one unread a l h = pick (same (join 44 (write a ∷ map write l)) w) refl
    where
      pick : (t : Bool) → same (join 44 (write a ∷ map write l)) w ≡ t → t ≡ false
      pick true e =
          let parts : write a ∷ map write l ≡ w ∷ [] =
          sym (split_join 44 (write a) (map write l) (each_free rule write 44 comma (a ∷ l) h)) ∙ ap (split 44) (same_eq (join 44 (write a ∷ map write l)) w e) ∙ one in
          cc (back a h.0, unread)
      pick false e = refl

  pub read_list_lem : (l : Option (List A)) → Meets (list_rule rule l) → read_list read (write_list write l) ≡ given l
  read_list_lem None h = refl
  read_list_lem (Some []) h = refl
  read_list_lem (Some (a ∷ l)) h =
      rw (not_token no_text refl tilde a l h, not_token (ascii "-") refl dash a l h, split_join 44 (write a) (map write l) (each_free rule write 44 comma (a ∷ l) h), read_each_lem rule write read back (a ∷ l) h)

pub list_lacks : {A : Type 0} (rule : A → Rule) (write : A → Bytes) (s : ℕ) → not (eqb 44 s) ≡ true → Meets (lacks s no_text) → Meets (lacks s (ascii "-"))
    → ((a : A) → Meets (rule a) → Meets (lacks s (write a))) → (l : Option (List A)) → Meets (list_rule rule l) → Meets (lacks s (write_list write l))
list_lacks rule write s c t d free None h = t
list_lacks rule write s c t d free (Some []) h = d
list_lacks rule write s c t d free (Some (a ∷ l)) h = join_lacks s 44 c (write a ∷ map write l) (each_free rule write s free (a ∷ l) h)
