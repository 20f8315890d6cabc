-- A text's column: what it says, its hexadecimal text, and byte 00 in it. Assumes nothing.
use mathlib.Core.Path.{◌≡◌, refl, sym, ap, subst, ◌∙◌}
use mathlib.Core.Bool.{true, false, true≢false}
use mathlib.Core.List.{[], ◌∷◌}
use Rattle.std.specs.Prelude.{Option, None, Some}
use native.Mathlib.Omega.{arith}
use Rattle.sheets.specs.Rule.{passes, Meets}
use Rattle.sheets.specs.Bytes.{Bytes, same, lacks, all, is_byte}
use Rattle.sheets.specs.Text.{hex, write_text, read_text}
use Rattle.sheets.specs.Format.{or_empty}
use Rattle.sheets.specs.Field.{text_rule}
use Rattle.sheets.proofs.BytesLaws.{same_eq, same_refl}
use Rattle.sheets.proofs.TextLaws.{bytes_rule, read_text_lem}
use Rattle.sheets.proofs.Utf8Laws.{text_bytes}
use Rattle.hexadecimal.specs.Hex.{given_or, is_hex, bytes_of}
use Rattle.hexadecimal.proofs.PartLaws.{bytes_hex, is_hex_hex}
use Rattle.schema_line.specs.Texts.{text_in}
use Rattle.schema_line.proofs.TextLaws.{text_whole}
use Rattle.column_text.specs.ColumnText.{column_text, TextColumn}

-- ── what it says

pub column_says : (t : Option Bytes) → Meets (text_rule t) → column_text (write_text t) ≡ t
unfolding column_text
column_says t h = ap (given_or None) (read_text_lem t (text_bytes t h))

pub column_is : (c : Bytes) (h : TextColumn c) → column_text c ≡ h.text
column_is c h = ap column_text h.is ∙ column_says h.text h.rule

-- `~` is none
pub column_none : (c : Bytes) → same c (126 ∷ []) ≡ true → column_text c ≡ None
unfolding column_text
column_none c e = ap (λ (t : Bytes). given_or None (read_text t)) (same_eq c (126 ∷ []) e)

-- any other column has a text
pub record HasText (c : Bytes) : Type 0 where
  pub text : Bytes
  pub says : column_text c ≡ Some text
  pub is : text_in c ≡ hex text

text_in_lem : (b : Bytes) → text_in (write_text (Some b)) ≡ hex b
unfolding text_in
text_in_lem [] = refl
text_in_lem (x ∷ b) = sym (text_whole (hex (x ∷ b)) (λ e. omega (arith, e)))

text_none : text_in (write_text None) ≡ []
unfolding text_in
text_none = refl

pub column_some : (c : Bytes) → TextColumn c → same c (126 ∷ []) ≡ false → HasText c
column_some c h e = go h.text h.is h.rule
  where
    go : (t : Option Bytes) → c ≡ write_text t → Meets (text_rule t) → HasText c
    go None f r = absurd (true≢false (sym (same_refl (126 ∷ [])) ∙ ap (λ (x : Bytes). same x (126 ∷ [])) (sym f) ∙ e))
    go (Some b) f r = record { text = b; says = ap column_text f ∙ column_says (Some b) r; is = ap text_in f ∙ text_in_lem b }

-- the hexadecimal text of any column
pub text_of_column : (c : Bytes) → TextColumn c → text_in c ≡ hex (or_empty (column_text c))
text_of_column c h = ap text_in h.is ∙ go h.text ∙ ap (λ (o : Option Bytes). hex (or_empty o)) (sym (column_is c h))
  where
    go : (t : Option Bytes) → text_in (write_text t) ≡ hex (or_empty t)
    go None = text_none
    go (Some b) = text_in_lem b

-- its bytes
column_bytes : (c : Bytes) (h : TextColumn c) → Meets (all is_byte (or_empty (column_text c)))
column_bytes c h = subst (λ (o : Option Bytes). Meets (all is_byte (or_empty o))) (sym (column_is c h)) (go h.text (text_bytes h.text h.rule))
  where
    go : (t : Option Bytes) → Meets (bytes_rule t) → Meets (all is_byte (or_empty t))
    go None r = r
    go (Some b) r = r

-- ── byte 00

-- the text of a column is hexadecimal
pub column_hex : (c : Bytes) → TextColumn c → is_hex (text_in c) ≡ true
column_hex c h = ap is_hex (text_of_column c h) ∙ is_hex_hex (or_empty (column_text c)) (column_bytes c h)

-- and byte 00 stands in what it says exactly if it stands in what the column says
pub column_zero : (c : Bytes) → TextColumn c → passes (lacks 0 (bytes_of (text_in c))) ≡ passes (lacks 0 (or_empty (column_text c)))
column_zero c h = ap (λ (t : Bytes). passes (lacks 0 t)) (ap bytes_of (text_of_column c h) ∙ bytes_hex (or_empty (column_text c)) (column_bytes c h))
