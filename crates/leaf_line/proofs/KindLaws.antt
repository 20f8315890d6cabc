-- The format of a short line: digits that say a fixed name of one byte say a byte of ASCII, which means the type of its kind. The rule of the rows is one computed
-- test. Assumes nothing.
use mathlib.Core.Path.{◌≡◌, refl, sym, ap, subst, ◌∙◌}
use mathlib.Core.Bool.{Bool, true, false, not, cond}
use mathlib.Core.List.{List, [], ◌∷◌}
use Rattle.std.specs.Prelude.{Some}
use Prim.Native.Nat.{ℕ, ◌≤◌, ◌<◌}
use native.Mathlib.Omega.{arith}
use lib.Dec.{eqb, leb, ltb}
use lib.ListN.{length, get_or}
use borrow.Author.Tests.{eqb-true, leb-true, ltb-true, lt-ltb, le-leb, ne_eqb}
use Rattle.sheets.specs.Rule.{Rule, is, ◌and◌, each, Meets}
use Rattle.sheets.specs.Bytes.{Bytes, all, is_byte, same}
use Rattle.sheets.specs.Text.{hex}
use Rattle.sheets.specs.Answer.{given}
use Rattle.sheets.specs.Field.{leaf}
use Rattle.sheets.specs.Format.{FormatRow, of_scalar}
use Rattle.sheets.specs.FixedNames.{named_format}
use Rattle.sheets.specs.Kind
use Rattle.sheets.proofs.Tests.{not_some, meets}
use Rattle.sheets.proofs.BytesLaws.{same_eq}
use Rattle.sheets.proofs.Utf8Laws.{ascii_utf8}
use Rattle.hexadecimal.proofs.PartLaws.{is_hex_hex, bytes_hex}
use Rattle.format_names.specs.Names.{leaf_named}
use Rattle.format_names.specs.ShortNames.{short_rows, kind_among, without_unit}
use Rattle.format_names.proofs.NameLaws.{name_says}
use Rattle.format_names.proofs.ShortLaws.{short_named}
use Rattle.leaf_line.specs.Short.{Names}
use Rattle.leaf_line.specs.Leaf.{leaf_format}

abbrev row_rule : FormatRow → Rule
row_rule r = is (eqb (length r.name) 1) and (is (ltb 0 (get_or r.name 0 0)) and (is (ltb (get_or r.name 0 0) 128) and is (leb r.kind Kind.LargeUtf8)))

rows_rule : Meets (each row_rule short_rows)
unfolding short_rows
rows_rule = meets (each row_rule short_rows) refl

one_byte : (b : Bytes) → length b ≡ 1 → b ≡ get_or b 0 0 ∷ []
one_byte [] h = absurd (omega arith)
one_byte (x ∷ []) h = refl
one_byte (x ∷ y ∷ b) h = absurd (omega arith)

-- the name that digits say
record Said (t : Bytes) (kind : ℕ) : Type 0 where
  pub byte : ℕ
  pub digits : t ≡ hex (byte ∷ [])
  pub some : 0 < byte
  pub ascii : byte < 128
  pub known : kind ≤ Kind.LargeUtf8

among : (t : Bytes) (kind : ℕ) (rs : List FormatRow) → Meets (each row_rule rs) → kind_among t rs ≡ Some kind → Said t kind
among t kind [] m e = not_some e
among t kind (r ∷ rs) m e = pick (same t (hex r.name)) refl e (among t kind rs m.1)
  where
    here : r.kind ≡ kind → t ≡ hex r.name → Said t kind
    here same_kind q =
        let k = m.0 in
        record {
          byte = get_or r.name 0 0;
          digits = q ∙ ap hex (one_byte r.name (eqb-true (length r.name) 1 k.0));
          some = ltb-true 0 (get_or r.name 0 0) k.1.0;
          ascii = ltb-true (get_or r.name 0 0) 128 k.1.1.0;
          known = subst (λ (i : ℕ). i ≤ Kind.LargeUtf8) same_kind (leb-true r.kind Kind.LargeUtf8 k.1.1.1);
        }

    pick : (u : Bool) → same t (hex r.name) ≡ u → cond u (Some r.kind) (kind_among t rs) ≡ Some kind → (kind_among t rs ≡ Some kind → Said t kind) → Said t kind
    pick true q f next = here (cc) (same_eq t (hex r.name) q)
    pick false q f next = next f

-- what its byte means
means : (byte kind : ℕ) → byte < 128 → kind_among (hex (byte ∷ [])) short_rows ≡ Some kind → Some (kind, 0) ≡ leaf_named (byte ∷ [])
means byte kind h e =
    let m : Meets (all is_byte (byte ∷ [])) = (lt-ltb byte 256 (omega arith), refl) in
    sym (ap without_unit e) ∙ short_named (hex (byte ∷ [])) (is_hex_hex (byte ∷ []) m) refl ∙ ap leaf_named (bytes_hex (byte ∷ []) m)

-- the kinds of these names come before the first that has children
leaf_kind : (sorted : Bool) (kind : ℕ) → kind ≤ Kind.LargeUtf8 → named_format sorted kind 0 ≡ of_scalar (leaf kind 0)
leaf_kind sorted kind h =
    rw (ne_eqb kind Kind.List (λ e. omega arith), ne_eqb kind Kind.LargeList (λ e. omega arith), ne_eqb kind Kind.Map (λ e. omega arith), ne_eqb kind Kind.Struct (λ e. omega arith))

-- the byte that the digits of a format say
pub kind_names : (t : Bytes) (kind : ℕ) → kind_among t short_rows ≡ Some kind → (byte : ℕ) × (t ≡ hex (byte ∷ [])) × Names (leaf_format kind) (byte ∷ [])
kind_names t kind e =
    let s = among t kind short_rows rows_rule e in
    let n = means s.byte kind s.ascii (ap (λ (b : Bytes). kind_among b short_rows) (sym s.digits) ∙ e) in (
      s.byte,
      s.digits,
      record {
        some = omega arith;
        nonzero = (ap not (ne_eqb s.byte 0 (λ z. omega (arith, s.some))), refl);
        utf8 = ascii_utf8 (s.byte ∷ []) (le-leb s.byte 127 (omega (arith, s.ascii)), refl);
        means = λ sorted. sym (name_says sorted (s.byte ∷ []) kind 0 n) ∙ ap given (leaf_kind sorted kind s.known);
        known = omega (arith, s.known);
      },
    )
