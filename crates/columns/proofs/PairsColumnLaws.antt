-- A column of pairs that say ASCII bytes: it ends where the pairs end, at a space (`column_pairs`, `pairs_column_lem`), and is a C string and UTF-8
-- (`Ascii`). Assumes nothing.
use mathlib.Core.Path.{◌≡◌, refl, sym, ap, ap₂, subst, ◌∙◌}
use mathlib.Core.Bool.{Bool, true, ◌&&◌}
use mathlib.Core.List.{[], ◌∷◌, ◌++◌}
use Rattle.std.specs.Prelude.{Option, None, Some}
use Prim.Native.Nat.{ℕ, suc, ◌+◌, ◌-◌, ◌≤◌, ◌<◌}
use native.Mathlib.Numerals.{add-one}
use native.Mathlib.Omega.{arith}
use lib.Dec.{ltb}
use lib.ListN.{length, get_or, drop}
use lib.Seq.{drop-cons}
use borrow.Author.Tests.{ltb-true, lt-ltb}
use Rattle.sheets.specs.Rule.{passes, Meets}
use Rattle.sheets.specs.Bytes.{Bytes, all, lacks, is_byte}
use Rattle.sheets.specs.Answer.{given}
use Rattle.sheets.specs.Text.{hex, read_text}
use Rattle.sheets.specs.Utf8.{is_utf8}
use Rattle.sheets.proofs.Tests.{and_left, and_right, meets, passing}
use Rattle.sheets.proofs.TextLaws.{hex_lacks}
use Rattle.sheets.proofs.Utf8Laws.{ascii_utf8, utf8_bytes}
use Rattle.columns.specs.Columns.{part, column_of, ColumnAt}
use Rattle.columns.specs.Pairs.{pairs, pairs_length, pairs_from, are_pairs}
use Rattle.columns.specs.TextColumns.{is_cstring}
use Rattle.columns.proofs.ColumnLaws.{column_size, column_stop}
use Rattle.columns.proofs.FindLaws.{column_is, finds}
use Rattle.columns.proofs.PairsLaws.{Plain, plain, pairs_on, pairs_are, part_rest, part_size}
use Rattle.columns.proofs.TextLaws.{hex_text}

-- no pair begins with a space
space_stops : (r : Bytes) → pairs_length (32 ∷ r) ≡ 0
unfolding pairs_length
space_stops [] = refl
space_stops (x ∷ r) = refl

-- ── what pairs say

-- the bytes of a column of pairs
pub record Ascii (c : Bytes) : Type 0 where
  pub bytes : Bytes
  pub reads : read_text c ≡ given (Some bytes)
  pub utf8 : is_utf8 bytes ≡ true
  pub some : Meets (lacks 0 bytes)
  pub spaces : Meets (lacks 32 c)
  pub ends : Meets (lacks 10 c)

ascii_pairs : (c : Bytes) → 0 < length c → Meets (pairs c) → Ascii c
ascii_pairs c n h =
    let p = plain c h in
    let utf8 : is_utf8 p.bytes ≡ true = ascii_utf8 p.bytes p.ascii in
    let bytes : Meets (all is_byte p.bytes) = utf8_bytes p.bytes utf8 in
    record {
      bytes = p.bytes;
      reads = hex_text c p.bytes n p.is bytes;
      utf8 = utf8;
      some = p.some;
      spaces = subst (λ (y : Bytes). Meets (lacks 32 y)) (sym p.is) (hex_lacks 32 refl p.bytes bytes);
      ends = subst (λ (y : Bytes). Meets (lacks 10 y)) (sym p.is) (hex_lacks 10 refl p.bytes bytes);
    }

pub ascii_column : (c : Bytes) → are_pairs c ≡ true → Ascii c
unfolding are_pairs
ascii_column c h =
    ascii_pairs c (ltb-true 0 (length c) (and_left (ltb 0 (length c)) (passes (pairs c)) h)) (meets (pairs c) (and_right (ltb 0 (length c)) (passes (pairs c)) h))

pub ascii_c_string : (c : Bytes) → are_pairs c ≡ true → is_cstring c ≡ true
unfolding is_cstring
ascii_c_string c h = let a = ascii_column c h in rw a.reads (passing (lacks 0 a.bytes) a.some)

-- what holds of every column of pairs holds of this one
pub pairs_hold : (f : Bytes → Bool) (s : Bytes) (a e : ℕ) → ((c : Bytes) → are_pairs c ≡ true → f c ≡ true) → Some e ≡ column_of are_pairs 32 s a → Some e ≡ column_of f 32 s a
pairs_hold f s a e all h = let k = finds are_pairs s a 32 refl (Some e) h in sym (column_is f refl k.0 (all (part s a e) k.1))

-- ── where they end

module _ (s : Bytes) (a : ℕ) where
  -- a column of pairs ends where pairs end
  record Ends (e : ℕ) : Type 0 where
    is : e ≡ pairs_from s a
    low : a < e
    high : e < length s
    stops : get_or s e 0 ≡ 32

  column_pairs : (e : ℕ) → Some e ≡ column_of are_pairs 32 s a → Ends e
  unfolding are_pairs
  column_pairs e h =
      let f = finds are_pairs s a 32 refl (Some e) h in
      let size : 0 < length (part s a e) = ltb-true 0 (length (part s a e)) (and_left (ltb 0 (length (part s a e))) (passes (pairs (part s a e))) f.1) in
      let are : Meets (pairs (part s a e)) = meets (pairs (part s a e)) (and_right (ltb 0 (length (part s a e))) (passes (pairs (part s a e))) f.1) in
      let n : pairs_length (drop a s) ≡ length (part s a e) + 0 = ap pairs_length f.0.is ∙ pairs_on (part s a e) (32 ∷ drop (e + 1) s) are ∙ ap (λ (m : ℕ). length (part s a e) + m) (space_stops (drop (e + 1) s)) in
      record { is = omega (arith, n, column_size f.0, f.0.low); low = omega (arith, size, column_size f.0, f.0.low); high = f.0.high; stops = column_stop f.0 }

  no_column : ((e : ℕ) → Ends e → ⊥) → None ≡ column_of are_pairs 32 s a
  no_column h = pick (column_of are_pairs 32 s a) refl
    where
      pick : (o : Option ℕ) → o ≡ column_of are_pairs 32 s a → None ≡ column_of are_pairs 32 s a
      pick None e = e
      pick (Some e) f = absurd (h e (column_pairs e f))

  pub pairs_past : length s ≤ a → None ≡ column_of are_pairs 32 s a
  pairs_past h = no_column (λ e k. omega (arith, k.low, k.high))

  module _ (e : ℕ) (is : e ≡ pairs_from s a) where
    pub pairs_last : length s ≤ e → None ≡ column_of are_pairs 32 s a
    pairs_last h = no_column (λ i k. omega (arith, is, k.is, k.high))

    pub pairs_other : (get_or s e 0 ≡ 32 → ⊥) → None ≡ column_of are_pairs 32 s a
    pairs_other h = no_column (λ i k. h (ap (λ (j : ℕ). get_or s j 0) (is ∙ sym k.is) ∙ k.stops))

    pub pairs_none : e ≡ a → None ≡ column_of are_pairs 32 s a
    pairs_none h = no_column (λ i k. omega (arith, is, k.is, k.low))

    pub pairs_column_lem : (e ≡ a → ⊥) → e < length s → get_or s e 0 ≡ 32 → Some e ≡ column_of are_pairs 32 s a
    unfolding are_pairs
    pairs_column_lem other high stop =
        let low : a < e = omega (arith, is, other) in
        let are : Meets (pairs (part s a e)) = pairs_are s a e is in
        let size : 0 < length (part s a e) = omega (arith, part_size s a e (omega arith)) in
        let c = ascii_pairs (part s a e) size are in
        let there : ColumnAt s a e 32 =
        record {
          low = omega arith;
          high = high;
          is = part_rest s a e (omega arith) ∙ ap (λ (l : Bytes). part s a e ++ l) (drop-cons s e 0 high ∙ ap₂ (λ (x i : ℕ). x ∷ drop i s) stop (sym (add-one e)));
          spaces = c.spaces;
          ends = c.ends;
        } in
        sym (column_is are_pairs refl there (ap₂ ◌&&◌ (lt-ltb 0 (length (part s a e)) size) (passing (pairs (part s a e)) are)))
