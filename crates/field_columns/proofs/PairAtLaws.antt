-- The pair from a place of a list on: what its key's end and its own tell (`Told`), and that ASCII bytes before `=` and after it are a pair
-- (`ascii_pair`). Assumes nothing.
use mathlib.Core.Path.{◌≡◌, refl, sym, ◌∙◌, ap, ap₂, subst}
use mathlib.Core.Bool.{Bool, true, false, ◌&&◌, cond}
use mathlib.Core.List.{[], ◌∷◌, ◌++◌}
use Rattle.std.specs.Prelude.{Option, None, Some}
use Prim.Native.Nat.{ℕ, suc, ◌+◌, ◌-◌, ◌≤◌, ◌<◌}
use native.Mathlib.Numerals.{add-one}
use native.Mathlib.Omega.{arith}
use lib.Dec.{eqb, ltb}
use lib.ListN.{length, get_or, take, drop, length-take, length-drop, take-append-drop}
use lib.Seq.{drop-cons, drop-drop}
use borrow.Author.Tests.{not-true, ltb-true, ltb-false}
use Rattle.sheets.specs.Rule.{is, Meets}
use Rattle.sheets.specs.Bytes.{Bytes, all, lacks, is_byte}
use Rattle.sheets.specs.Parts.{bytes_before}
use Rattle.sheets.specs.Utf8.{is_utf8}
use Rattle.sheets.proofs.Tests.{not_some}
use Rattle.sheets.proofs.BytesLaws.{all_append}
use Rattle.sheets.proofs.PartLaws.{PartEnds, part_ends, before_here, before_past}
use Rattle.sheets.proofs.TextLaws.{hex_lacks, unhex_hex}
use Rattle.sheets.proofs.Utf8Laws.{ascii_utf8, utf8_bytes}
use Rattle.columns.specs.Columns.{part}
use Rattle.columns.specs.Pairs.{pairs, pairs_from}
use Rattle.columns.proofs.PairsLaws.{plain, pairs_are, pairs_within, part_append}
use Rattle.field_columns.specs.Lists.{keeps, is_digits, is_pair, key_end, part_end, places, pair_at}
use Rattle.field_columns.proofs.PairLaws.{pair_text_lem}

-- ── what the places tell

pub record Told (c : Bytes) (a k e : ℕ) : Type 0 where
  pub key : ℕ
  pub at : a + key ≡ k
  pub ends : PartEnds c a e
  pub is : key_end (part c a e) ≡ Some key

module _ (c : Bytes) (a : ℕ) (h : a ≤ length c) where
  pub ends_there : PartEnds c a (part_end c a)
  ends_there = part_ends c a (part_end c a) h refl

  pub pair_told_lem : (k e : ℕ) → pair_at c a ≡ Some (k, e) → Told c a k e
  unfolding pair_at
  pair_told_lem k e p = pick (key_end (part c a (part_end c a))) refl p
    where
      pick : (o : Option ℕ) → key_end (part c a (part_end c a)) ≡ o → places a (part_end c a) o ≡ Some (k, e) → Told c a k e
      pick None f q = not_some q
      pick (Some n) f q =
          let same : ◌≡◌ {A = ℕ × ℕ} (a + n, part_end c a) (k, e) = cc in
          subst (λ (x : ℕ × ℕ). Told c a x.0 x.1) same (record { key = n; at = refl; ends = ends_there; is = f })

pub pair_bad : (c : Bytes) (a : ℕ) → pair_at c a ≡ None → key_end (part c a (part_end c a)) ≡ None
unfolding pair_at
pair_bad c a p = pick (key_end (part c a (part_end c a))) p
  where
    pick : (o : Option ℕ) → places a (part_end c a) o ≡ None → o ≡ None
    pick None q = refl
    pick (Some n) q = not_some (sym q)

-- ── where the part's end is known

module _ (c : Bytes) (a e : ℕ) (end : e ≡ part_end c a) where
  pub pair_none : key_end (part c a e) ≡ None → pair_at c a ≡ None
  unfolding pair_at
  pair_none h = ap (places a (part_end c a)) (ap (λ (i : ℕ). key_end (part c a i)) (sym end) ∙ h)

  pub pair_there : (k : ℕ) → key_end (part c a e) ≡ Some k → pair_at c a ≡ Some (a + k, e)
  unfolding pair_at
  pair_there k h = ap (places a (part_end c a)) (ap (λ (i : ℕ). key_end (part c a i)) (sym end) ∙ h) ∙ ap (λ (i : ℕ). Some (a + k, i)) (sym end)

-- ── ASCII

before_skip : (x : ℕ) (t r : Bytes) → Meets (lacks x t) → bytes_before x (t ++ r) ≡ length t + bytes_before x r
before_skip x [] r h = omega arith
before_skip x (y ∷ t) r h = rw (not-true (eqb y x) h.0) (omega (arith, before_skip x t r h.1))

-- pairs of ASCII bytes are digits, and no comma or `=` stands in them
record Side (t : Bytes) : Type 0 where
  digits : is_digits t ≡ true
  equals : Meets (lacks 61 t)
  commas : Meets (lacks 44 t)

side : (t : Bytes) → Meets (pairs t) → Side t
unfolding is_digits
side t h =
    let p = plain t h in
    let utf8 : is_utf8 p.bytes ≡ true = ascii_utf8 p.bytes p.ascii in
    let bytes : Meets (all is_byte p.bytes) = utf8_bytes p.bytes utf8 in
    record {
      digits = ap is_digits p.is ∙ ap (keeps (λ (b : Bytes). is (is_utf8 b))) (unhex_hex p.bytes bytes) ∙ utf8;
      equals = subst (λ (y : Bytes). Meets (lacks 61 y)) (sym p.is) (hex_lacks 61 refl p.bytes bytes);
      commas = subst (λ (y : Bytes). Meets (lacks 44 y)) (sym p.is) (hex_lacks 44 refl p.bytes bytes);
    }

key_of : (k v : Bytes) → Side k → Side v → key_end (k ++ (61 ∷ v)) ≡ Some (length k)
unfolding key_end
key_of k v h j =
    let pair : is_pair (k ++ (61 ∷ v)) ≡ true = pair_text_lem k v h.equals ∙ ap₂ ◌&&◌ h.digits j.digits in
    let size : bytes_before 61 (k ++ (61 ∷ v)) ≡ length k = before_skip 61 k (61 ∷ v) h.equals ∙ omega arith in
    ap₂ (λ (t : Bool) (n : ℕ). cond t (Some n) None) pair size

part_long : (c : Bytes) (a e : ℕ) → e ≤ length c → length (part c a e) ≡ e - a
part_long c a e h = length-take (e - a) (drop a c) ∙ omega (arith, length-drop a c)

module _ (c : Bytes) (a k e : ℕ) (h : a ≤ length c) (key : k ≡ pairs_from c a) (l : k < length c) (q : get_or c k 0 ≡ 61) (value : e ≡ pairs_from c (k + 1)) where
  above : e ≤ length c
  above = pairs_within c (k + 1) e value (omega arith)

  equals_first : part c k e ≡ 61 ∷ part c (k + 1) e
  equals_first =
      let n : e - k ≡ suc (e - (k + 1)) = omega arith in
      ap₂ take n (drop-cons c k 0 l ∙ ap₂ (λ (x i : ℕ). x ∷ drop i c) q (sym (add-one k)))

  text : part c a e ≡ part c a k ++ (61 ∷ part c (k + 1) e)
  text = part_append c a k e (omega arith) (omega arith) ∙ ap (λ (l : Bytes). part c a k ++ l) equals_first

  key_side : Side (part c a k)
  key_side = side (part c a k) (pairs_are c a k key)

  value_side : Side (part c (k + 1) e)
  value_side = side (part c (k + 1) e) (pairs_are c (k + 1) e value)

  free : Meets (lacks 44 (part c a e))
  free = subst (λ (y : Bytes). Meets (lacks 44 y)) (sym text) (all_append _ (part c a k) (61 ∷ part c (k + 1) e) key_side.commas (refl, value_side.commas))

  ending : (e < length c → get_or c e 0 ≡ 44) → e ≡ part_end c a
  ending m =
      let n : a + (e - a) ≡ e = omega arith in
      let cut : drop a c ≡ part c a e ++ drop e c = sym (take-append-drop (e - a) (drop a c)) ∙ ap (λ (l : Bytes). part c a e ++ l) (drop-drop (e - a) a c ∙ ap (λ (i : ℕ). drop i c) n) in
      let none_left : bytes_before 44 (drop e c) ≡ 0 = pick (ltb e (length c)) refl in
      omega (arith, ap (bytes_before 44) cut, before_skip 44 (part c a e) (drop e c) free, none_left, part_long c a e above)
    where
      pick : (t : Bool) → ltb e (length c) ≡ t → bytes_before 44 (drop e c) ≡ 0
      pick true f = before_here 44 c e (ltb-true e (length c) f) (m (ltb-true e (length c) f))
      pick false f = before_past 44 c e (ltb-false e (length c) f)

  -- the key ends at `=`, and the value at a comma or with the list
  pub ascii_pair : (e < length c → get_or c e 0 ≡ 44) → Some (k, e) ≡ pair_at c a
  ascii_pair m =
      let n : a + length (part c a k) ≡ k = omega (arith, part_long c a k (omega arith)) in
      sym (pair_there c a e (ending m) (length (part c a k)) (ap key_end text ∙ key_of (part c a k) (part c (k + 1) e) key_side value_side) ∙ ap (λ (i : ℕ). Some (i, e)) n)
