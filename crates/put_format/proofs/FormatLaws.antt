-- Formats written piece by piece in hexadecimal, and byte 00 in them. Assumes nothing.
use mathlib.Core.Path.{◌≡◌, refl, sym, ap, ap₂, ◌∙◌}
use mathlib.Core.Bool.{Bool, true, false, not, ◌&&◌, true≢false}
use mathlib.Core.List.{List, [], ◌∷◌, ◌++◌, map}
use Rattle.std.specs.Prelude.{Option, None, Some, Ok}
use Prim.Native.Nat.{ℕ, zero, suc, ◌+◌, ◌<◌}
use native.Mathlib.Omega.{arith}
use lib.Dec.{eqb}
use lib.IntN.{ℤ}
use lib.ListN.{length}
use Rattle.sheets.specs.Refusal.{no_union_ids}
use Rattle.sheets.specs.Rule.{passes, Meets}
use Rattle.sheets.specs.Bytes.{Bytes, comma, same, lacks, join}
use Rattle.sheets.specs.Answer.{Answer, refused, given}
use Rattle.sheets.specs.Number.{decimal, write_signed, read_signed}
use Rattle.sheets.specs.Text.{hex}
use Rattle.sheets.specs.Field.{up_from}
use Rattle.sheets.specs.FieldSheet.{write_list, read_list}
use Rattle.sheets.specs.Format.{write_ids}
use Rattle.sheets.proofs.Tests.{passing}
use Rattle.sheets.proofs.BytesLaws.{same_eq, same_refl, each_lacks, join_lacks}
use Rattle.sheets.proofs.NumberLaws.{decimal_lacks, signed_lacks}
use Rattle.buffer.specs.Over.{over_at, PutAt}
use Rattle.buffer.proofs.OverLaws.{Written as Puts, none_yet, and_then}
use Rattle.hexadecimal.specs.Hex.{given_or}
use Rattle.hexadecimal.proofs.PartLaws.{hex_append}
use Rattle.column_text.specs.ColumnText.{has_zero}
use Rattle.put_format.specs.Counted.{counted_text}
use Rattle.put_format.specs.Formats.{Formats}
use Rattle.put_format.specs.LineFormat.{ids_in, union_format, IdsColumn}

-- ── byte 00

pub zero_append : (a b : Bytes) → has_zero a ≡ false → has_zero (a ++ b) ≡ has_zero b
zero_append [] b h = refl
zero_append (x ∷ a) b h = pick (eqb x 0) refl h (zero_append a b)
  where
    pick : (t : Bool) → eqb x 0 ≡ t → not (not t && passes (lacks 0 a)) ≡ false → (has_zero a ≡ false → has_zero (a ++ b) ≡ has_zero b) → has_zero ((x ∷ a) ++ b) ≡ has_zero b
    pick true e k next = absurd (true≢false k)
    pick false e k next = rw e (next k)

clean : (f : Bytes) → Meets (lacks 0 f) → has_zero f ≡ false
clean f h = ap not (passing (lacks 0 f) h)

pub decimal_clean : (n : ℕ) → has_zero (decimal n) ≡ false
decimal_clean n = clean (decimal n) (decimal_lacks 0 refl n)

signed_clean : (l : List ℤ) → Meets (each_lacks 0 (map write_signed l))
signed_clean [] = refl
signed_clean (z ∷ l) = (signed_lacks 0 refl z, signed_clean l)

joined_clean : (l : List ℤ) → has_zero (join comma (map write_signed l)) ≡ false
joined_clean l = clean (join comma (map write_signed l)) (join_lacks 0 44 refl (map write_signed l) (signed_clean l))

-- ── pieces

pub hex_start : (at : ℕ) (out : Bytes) → Puts at (hex []) out at out
hex_start at out = none_yet at out

-- one piece more, written in hexadecimal
pub hex_then : {at : ℕ} (f : Bytes) {out : Bytes} {n : ℕ} {l : Bytes} (g : Bytes) {m : ℕ} {k : Bytes} → Puts at (hex f) out n l
    → PutAt n (hex g) m l k → Puts at (hex (f ++ g)) out m k
hex_then {at} f {out} {n} {l} g {m} {k} w p =
    let v : Puts at (hex f ++ hex g) out m k = and_then (hex g) w p in
    record { place = v.place ∙ ap (λ (t : Bytes). at + length t) (sym (hex_append f g)); holds = v.holds ∙ ap (λ (t : Bytes). over_at at t out) (sym (hex_append f g)) }

pub formats_put : (f : Bytes) (at r : ℕ) (z : Bool) (old out : Bytes) → Puts at (hex f) old r out → z ≡ has_zero f → Formats (given f) at (Ok (r, z)) old out
formats_put f at r z old out w e = (ap₂ (λ (n : ℕ) (b : Bool). given (n, b)) w.place e, w.holds)

-- ── ids

module _ (name text : Bytes) (fields : ℕ) where
  pub ids_empty : same text (45 ∷ []) ≡ true → refused no_union_ids ≡ union_format name (ids_in text) fields
  unfolding ids_in
  ids_empty e = ap (λ (t : Bytes). union_format name (given_or None (read_list read_signed t)) fields) (sym (same_eq text (45 ∷ []) e))

  ids_none : same text (126 ∷ []) ≡ true → None ≡ ids_in text
  unfolding ids_in
  ids_none e = ap (λ (t : Bytes). given_or None (read_list read_signed t)) (sym (same_eq text (126 ∷ []) e))

  pub no_fields : same text (126 ∷ []) ≡ true → fields ≡ 0 → refused no_union_ids ≡ union_format name (ids_in text) fields
  no_fields e f = ap (λ (n : ℕ). write_ids name (up_from 0 n)) (sym f) ∙ ap (λ (o : Option (List ℤ)). union_format name o fields) (ids_none e)

  counted_ids_lem : (n : ℕ) → 0 < n → given (name ++ counted_text n) ≡ write_ids name (up_from 0 n)
  unfolding counted_text
  counted_ids_lem zero h = absurd (omega arith)
  counted_ids_lem (suc n) h = refl

  pub counted : same text (126 ∷ []) ≡ true → 0 < fields → given (name ++ counted_text fields) ≡ union_format name (ids_in text) fields
  counted e h = counted_ids_lem fields h ∙ ap (λ (o : Option (List ℤ)). union_format name o fields) (ids_none e)

  module _ (h : IdsColumn text) (d : same text (45 ∷ []) ≡ false) (t : same text (126 ∷ []) ≡ false) where
    is_ids_lem : (o : Option (List ℤ)) → text ≡ write_list write_signed o → (given (name ++ text) ≡ union_format name o fields) × (has_zero text ≡ false)
    is_ids_lem None e = absurd (true≢false (sym (same_refl (126 ∷ [])) ∙ ap (λ (x : Bytes). same x (126 ∷ [])) (sym e) ∙ t))
    is_ids_lem (Some []) e = absurd (true≢false (sym (same_refl (45 ∷ [])) ∙ ap (λ (x : Bytes). same x (45 ∷ [])) (sym e) ∙ d))
    is_ids_lem (Some (z ∷ zs)) e = (ap (λ (x : Bytes). given (name ++ x)) e, ap has_zero e ∙ joined_clean (z ∷ zs))

    pub listed_ids : given (name ++ text) ≡ union_format name (ids_in text) fields
    unfolding ids_in
    listed_ids = (is_ids_lem h.ids h.is).0 ∙ ap (λ (a : Answer (Option (List ℤ))). union_format name (given_or None a) fields) (sym h.read)

    pub listed_clean : has_zero text ≡ false
    listed_clean = (is_ids_lem h.ids h.is).1

pub counted_clean : (n : ℕ) → has_zero (counted_text n) ≡ false
unfolding counted_text
counted_clean n = joined_clean (up_from 0 n)
