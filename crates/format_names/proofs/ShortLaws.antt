-- The fixed names of one byte: two digits say a name exactly if it has the first byte that they say, and what the digits of a format of one byte say is what the row
-- of its name tells. The rule of the rows is one computed test. Assumes nothing.
use mathlib.Core.Path.{◌≡◌, refl, sym, ap, ◌∙◌}
use mathlib.Core.Bool.{Bool, true, false, ◌&&◌, cond}
use mathlib.Core.List.{List, [], ◌∷◌}
use Rattle.std.specs.Prelude.{Option, None, Some}
use Prim.Native.Nat.{ℕ, ◌/◌}
use native.Mathlib.Omega.{arith}
use lib.Dec.{eqb}
use lib.ListN.{length}
use borrow.Author.Tests.{eqb-true, eqb-false}
use Rattle.sheets.specs.Rule.{Rule, is, ◌and◌, each, Meets}
use Rattle.sheets.specs.Bytes.{Bytes, all, is_byte, same}
use Rattle.sheets.specs.Text.{hex}
use Rattle.sheets.specs.Format.{FormatRow, row_named}
use Rattle.sheets.specs.FixedNames.{fixed_rows, starts_alike, cell_of, chosen}
use Rattle.sheets.proofs.Tests.{meets}
use Rattle.sheets.proofs.BytesLaws.{same_refl, same_eq}
use Rattle.sheets.proofs.SameLaws.{lengths_differ}
use Rattle.hexadecimal.specs.Hex.{is_hex, bytes_of}
use Rattle.hexadecimal.proofs.HexLaws.{length_bytes, unhex_not}
use Rattle.hexadecimal.proofs.PartLaws.{bytes_hex, hex_bytes, is_hex_hex}
use Rattle.format_names.specs.Names.{leaf_of, leaf_named}
use Rattle.format_names.specs.ShortNames.{of_one_byte, short_rows, kind_among, without_unit}
use Rattle.format_names.proofs.NameLaws.{byte_rule, rows_bytes}

-- ── digits and bytes

-- digits are a name's exactly if the bytes that they say are the name
same_text : (t b : Bytes) → is_hex t ≡ true → Meets (all is_byte b) → same t (hex b) ≡ same (bytes_of t) b
same_text t b h k = pick (same (bytes_of t) b) refl
  where
    other : (u : Bool) → same t (hex b) ≡ u → same (bytes_of t) b ≡ false → u ≡ false
    other true e f = sym (ap (λ (x : Bytes). same x b) (ap bytes_of (same_eq t (hex b) e) ∙ bytes_hex b k) ∙ same_refl b) ∙ f
    other false e f = refl

    pick : (u : Bool) → same (bytes_of t) b ≡ u → same t (hex b) ≡ u
    pick true e = ap (λ (x : Bytes). same x (hex b)) (sym (hex_bytes t h) ∙ ap hex (same_eq (bytes_of t) b e)) ∙ same_refl (hex b)
    pick false e = other (same t (hex b)) refl e

-- no bytes where there are no digits
pub no_bytes : (t : Bytes) → is_hex t ≡ false → bytes_of t ≡ []
unfolding is_hex bytes_of
no_bytes t h = rw (unhex_not t h)

-- two digits are those of one byte exactly if they say a byte, and it is the same
two_digits : (t : Bytes) (x : ℕ) → length t / 2 ≡ 1 → Meets (all is_byte (x ∷ [])) → same t (hex (x ∷ [])) ≡ starts_alike (bytes_of t) (x ∷ [])
two_digits t x n k = pick (is_hex t) refl
  where
    one : (b : Bytes) → length b ≡ 1 → same b (x ∷ []) ≡ starts_alike b (x ∷ [])
    one [] h = absurd (omega arith)
    one (y ∷ []) h = both (eqb y x)
      where
        both : (u : Bool) → (u && true) ≡ u
        both true = refl
        both false = refl
    one (y ∷ z ∷ b) h = absurd (omega arith)

    other : (u : Bool) → same t (hex (x ∷ [])) ≡ u → is_hex t ≡ false → u ≡ false
    other true s e = sym (ap is_hex (same_eq t (hex (x ∷ [])) s) ∙ is_hex_hex (x ∷ []) k) ∙ e
    other false s e = refl

    pick : (u : Bool) → is_hex t ≡ u → same t (hex (x ∷ [])) ≡ starts_alike (bytes_of t) (x ∷ [])
    pick true h = same_text t (x ∷ []) h k ∙ one (bytes_of t) (length_bytes t h ∙ n)
    pick false h = other (same t (hex (x ∷ []))) refl h ∙ ap (λ (b : Bytes). starts_alike b (x ∷ [])) (sym (no_bytes t h))

-- ── the names of one byte

-- none of one byte tells a unit
abbrev row_rule : FormatRow → Rule
row_rule r = byte_rule r and is (eqb r.unit 0)

rows_rule : Meets (each row_rule short_rows)
unfolding short_rows
rows_rule = meets (each row_rule short_rows) refl

abbrev pub first_kind : List FormatRow → Option ℕ
first_kind [] = None
first_kind (r ∷ rs) = Some r.kind

module _ (t : Bytes) (n : length t / 2 ≡ 1) where
  -- the name of a row that has one byte
  alike : (name : Bytes) → length name ≡ 1 → Meets (all is_byte name) → same t (hex name) ≡ starts_alike (bytes_of t) name
  alike [] h k = absurd (omega arith)
  alike (x ∷ []) h k = two_digits t x n k
  alike (x ∷ y ∷ b) h k = absurd (omega arith)

  among_first : (l : List FormatRow) → Meets (each byte_rule l) → kind_among t (of_one_byte l) ≡ first_kind (cell_of 1 (bytes_of t) l)
  among_first [] m = refl
  among_first (r ∷ l) m = pick (eqb (length r.name) 1) refl (among_first l m.1)
    where
      here : (u : Bool) (o : Option ℕ) (rs : List FormatRow) → o ≡ first_kind rs → cond u (Some r.kind) o ≡ first_kind (cond u (r ∷ rs) rs)
      here true o rs e = refl
      here false o rs e = e

      pick : (u : Bool) → eqb (length r.name) 1 ≡ u → kind_among t (of_one_byte l) ≡ first_kind (cell_of 1 (bytes_of t) l)
          → kind_among t (cond u (r ∷ of_one_byte l) (of_one_byte l)) ≡ first_kind (cond (u && starts_alike (bytes_of t) r.name) (r ∷ cell_of 1 (bytes_of t) l) (cell_of 1 (bytes_of t) l))
      pick true e next = rw (alike r.name (eqb-true (length r.name) 1 e) m.0) (here (starts_alike (bytes_of t) r.name) (kind_among t (of_one_byte l)) (cell_of 1 (bytes_of t) l) next)
      pick false e next = next

  -- the kind of the one name that is chosen
  pub kind_first : kind_among t short_rows ≡ first_kind (chosen 1 (bytes_of t))
  unfolding short_rows
  kind_first = among_first fixed_rows rows_bytes

-- ── what a format of one byte says

among_named : (t : Bytes) → is_hex t ≡ true → (rs : List FormatRow) → Meets (each row_rule rs) → without_unit (kind_among t rs) ≡ leaf_of (row_named (bytes_of t) rs)
among_named t h [] m = refl
among_named t h (r ∷ rs) m = rw (same_text t r.name h m.0.0) (pick (same (bytes_of t) r.name) (among_named t h rs m.1))
  where
    pick : (u : Bool) → without_unit (kind_among t rs) ≡ leaf_of (row_named (bytes_of t) rs) → without_unit (cond u (Some r.kind) (kind_among t rs)) ≡ leaf_of (cond u (Some r) (row_named (bytes_of t) rs))
    pick true next = ap (λ (u : ℕ). Some (r.kind, u)) (sym (eqb-true r.unit 0 m.0.1))
    pick false next = next

-- a byte finds its row among the names of one byte
among_short : (b : Bytes) → length b ≡ 1 → (l : List FormatRow) → row_named b (of_one_byte l) ≡ row_named b l
among_short b n [] = refl
among_short b n (r ∷ l) = pick (eqb (length r.name) 1) refl (among_short b n l)
  where
    pick : (u : Bool) → eqb (length r.name) 1 ≡ u → row_named b (of_one_byte l) ≡ row_named b l → row_named b (cond u (r ∷ of_one_byte l) (of_one_byte l)) ≡ cond (same b r.name) (Some r) (row_named b l)
    pick true e next = ap (λ (o : Option FormatRow). cond (same b r.name) (Some r) o) next
    pick false e next = rw (lengths_differ b r.name (λ d. eqb-false (length r.name) 1 e (sym d ∙ n))) next

pub short_named : (f : Bytes) → is_hex f ≡ true → length f / 2 ≡ 1 → without_unit (kind_among f short_rows) ≡ leaf_named (bytes_of f)
unfolding short_rows
short_named f h n = among_named f h short_rows rows_rule ∙ ap leaf_of (among_short (bytes_of f) (length_bytes f h ∙ n) fixed_rows)
