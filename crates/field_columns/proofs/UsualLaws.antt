-- Columns that are told at once: the one byte that most are (`usual_column`), and ASCII where any text may stand (`ascii_content`). Assumes nothing.
use mathlib.Core.Path.{◌≡◌, refl, sym, ap, ◌∙◌}
use mathlib.Core.Bool.{Bool, true, false, ◌||◌}
use mathlib.Core.List.{[], ◌∷◌}
use Rattle.std.specs.Prelude.{Some}
use Prim.Native.Nat.{ℕ, ◌+◌}
use lib.Dec.{eqb}
use lib.ListN.{get_or, drop}
use borrow.Author.Tests.{eqb-true, eqb-false}
use Rattle.sheets.specs.Bytes.{Bytes}
use Rattle.sheets.proofs.Tests.{never}
use Rattle.columns.specs.Columns.{one_of, past_space, column_of}
use Rattle.columns.specs.Pairs.{are_pairs}
use Rattle.columns.proofs.FindLaws.{column_is}
use Rattle.columns.proofs.OneByteLaws.{One, one_told, one_part, one_column}
use Rattle.columns.proofs.PairsColumnLaws.{ascii_column, pairs_hold}
use Rattle.field_columns.specs.FieldColumns.{is_some_text, is_optional_text, is_content, is_usual, takes_text}
use Rattle.field_columns.specs.declared.Content.{Content}
use Rattle.field_columns.specs.declared.Content.TheVariants as C
use Rattle.field_columns.proofs.ContentLaws.{nothing_one, optional_none, flag_zero, flag_one}
use Rattle.field_columns.proofs.ListLaws.{mark_null}
use Rattle.field_columns.proofs.IdLaws.{ids_mark}
use Rattle.field_columns.proofs.PairLaws.{pairs_mark}

-- ── one byte

flag_usual : (b : ℕ) → (eqb b 48 || eqb b 49) ≡ true → is_content C.Flag (b ∷ []) ≡ true
flag_usual b h = pick (eqb b 48) refl h
  where
    pick : (t : Bool) → eqb b 48 ≡ t → (t || eqb b 49) ≡ true → is_content C.Flag (b ∷ []) ≡ true
    pick true e k = flag_zero (b ∷ []) refl (eqb-true b 48 e)
    pick false e k = flag_one (b ∷ []) refl (eqb-false b 48 e) ∙ k

usual_content : (k : Content) (b : ℕ) → is_usual k b ≡ true → is_content k (b ∷ []) ≡ true
usual_content C.Nothing b h = nothing_one (b ∷ []) refl ∙ h
usual_content C.OptionalText b h = optional_none (b ∷ []) (nothing_one (b ∷ []) refl ∙ h)
usual_content C.Text b h = never h
usual_content C.Ids b h = ids_mark (b ∷ []) (sym (mark_null (b ∷ []) refl (eqb-true b 126 h)))
usual_content C.Flag b h = flag_usual b h
usual_content C.Pairs b h = pairs_mark (b ∷ []) (sym (mark_null (b ∷ []) refl (eqb-true b 126 h)))

module _ (k : Content) (s : Bytes) (a : ℕ) (one : one_of past_space 32 (drop a s) ≡ true) where
  told : One past_space s a 32
  told = one_told past_space 32 s a one

  pub usual_column : is_usual k (get_or s a 0) ≡ true → Some (a + 1) ≡ column_of (is_content k) 32 s a
  usual_column h = sym (column_is (is_content k) refl (one_column told) (ap (is_content k) (one_part told) ∙ usual_content k (get_or s a 0) h))

-- ── ASCII

optional_ascii : (c : Bytes) → are_pairs c ≡ true → is_optional_text c ≡ true
unfolding is_optional_text
optional_ascii c h = let a = ascii_column c h in rw a.reads a.utf8

some_ascii : (c : Bytes) → are_pairs c ≡ true → is_some_text c ≡ true
unfolding is_some_text
some_ascii c h = let a = ascii_column c h in rw a.reads a.utf8

content_ascii : (k : Content) → takes_text k ≡ true → (c : Bytes) → are_pairs c ≡ true → is_content k c ≡ true
content_ascii C.Nothing h c p = never h
content_ascii C.OptionalText h c p = optional_ascii c p
content_ascii C.Text h c p = some_ascii c p
content_ascii C.Ids h c p = never h
content_ascii C.Flag h c p = never h
content_ascii C.Pairs h c p = never h

pub ascii_content : (k : Content) (s : Bytes) (a e : ℕ) → takes_text k ≡ true → Some e ≡ column_of are_pairs 32 s a → Some e ≡ column_of (is_content k) 32 s a
ascii_content k s a e h = pairs_hold (is_content k) s a e (content_ascii k h)
