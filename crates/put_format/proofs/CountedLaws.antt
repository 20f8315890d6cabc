-- Ids counted from 0: the first, then a comma and a number each time. By what is left to write. Assumes nothing.
use mathlib.Core.Path.{◌≡◌, refl, sym, ap, ap₂, ◌∙◌}
use mathlib.Core.List.{[], ◌∷◌, ◌++◌, map, append_assoc, append-nil}
use Prim.Native.Nat.{ℕ, zero, suc, ◌+◌, ◌*◌, ◌-◌, ◌^◌, ◌≤◌, ◌<◌}
use native.Mathlib.Numerals.{add-one}
use native.Mathlib.Omega.{arith}
use lib.ListN.{length, take, drop}
use lib.Seq.{take-append_seam}
use Rattle.sheets.specs.Bytes.{Bytes, comma, join}
use Rattle.sheets.specs.Number.{decimal, write_signed}
use Rattle.sheets.specs.Text.{hex}
use Rattle.sheets.specs.Field.{up_from}
use Rattle.buffer.specs.Over.{over_at, PutAt}
use Rattle.buffer.proofs.OverLaws.{Written, none_yet, and_then, over_at_zero, over_fits}
use Rattle.hexadecimal.proofs.PartLaws.{hex_append}
use Rattle.decimal.proofs.WriteLaws.{decimal_short}
use Rattle.put_format.specs.Counted.{counted_text, CanCount}

-- ── a number

module _ (n : ℕ) (h : n < 2 ^ 64) (out : Bytes) (k : length out ≡ 20) (end : ℕ) (out' : Bytes) (p : PutAt 0 (decimal n) end out out') where
  pub digits_are : take end out' ≡ decimal n
  digits_are =
      let e : end ≡ length (decimal n) = omega (arith, p.0) in
      ap₂ take e (p.1 ∙ over_at_zero (decimal n) out ∙ over_fits (decimal n) out (omega (arith, decimal_short n h)))
      ∙ take-append_seam (decimal n) (drop (length (decimal n)) out)

-- ── what is left

-- a comma before each of the numbers from n on
abbrev after_commas : ℕ → ℕ → Bytes
after_commas n zero = []
after_commas n (suc count) = comma ∷ (decimal n ++ after_commas (suc n) count)

joined : (n count : ℕ) → join comma (map write_signed (up_from n (suc count))) ≡ decimal n ++ after_commas (suc n) count
joined n zero = sym (append-nil (decimal n))
joined n (suc count) = ap (λ (t : Bytes). decimal n ++ (comma ∷ t)) (joined (suc n) count)

-- after the first i of them, of which the first was written before `start`
pub record Counting (count start : ℕ) (old : Bytes) (end i : ℕ) (out : Bytes) : Type 0 where
  pub text : Bytes
  pub turns : i ≤ count
  pub some : 0 < i
  pub written : Written start (hex text) old end out
  pub rest : after_commas 1 (count - 1) ≡ text ++ after_commas i (count - i)
  pub room : end + 42 ≤ start + 42 * i

counted_first : (count : ℕ) → 0 < count → counted_text count ≡ decimal 0 ++ after_commas 1 (count - 1)
unfolding counted_text
counted_first zero l = absurd (omega arith)
counted_first (suc c) l =
    let e : suc c - 1 ≡ c = omega arith in
    joined 0 c ∙ ap (λ (k : ℕ). decimal 0 ++ after_commas 1 k) (sym e)

pub counting_start : (count at : ℕ) → CanCount count at → (start : ℕ) (old : Bytes) → Counting count start old start 1 old
counting_start count at h start old = record { text = []; turns = h.some; some = omega arith; written = none_yet start old; rest = refl; room = omega arith }

module _ (count at : ℕ) (h : CanCount count at) (start : ℕ) (old : Bytes) (end i : ℕ) (out : Bytes) (w : Counting count start old end i out) where
  pub counting_end : (first : Bytes) → PutAt at (hex (decimal 0)) start first old × (start ≤ at + 40) → count ≤ i → PutAt at (hex (counted_text count)) end first out × (end ≤ at + 42 * count)
  counting_end first p l =
      let z : count - i ≡ 0 = omega arith in
      let e : w.text ≡ after_commas 1 (count - 1) = sym (w.rest ∙ ap (λ (k : ℕ). w.text ++ after_commas i k) z ∙ append-nil w.text) in
      let all = and_then (hex w.text) (and_then (hex (decimal 0)) (none_yet at first) p.0) (w.written.place, w.written.holds) in
      let c : hex (decimal 0) ++ hex w.text ≡ hex (counted_text count) = sym (hex_append (decimal 0) w.text) ∙ ap (λ (t : Bytes). hex (decimal 0 ++ t)) e ∙ ap hex (sym (counted_first count h.some)) in
      ((all.place ∙ ap (λ (t : Bytes). at + length t) c, all.holds ∙ ap (λ (t : Bytes). over_at at t first) c), omega (arith, w.room, w.turns, p.1))

  pub counting_more : i < count → (next : ℕ) (out' : Bytes) → PutAt end (hex (comma ∷ [])) next out out'
      → (end' : ℕ) (out'' : Bytes) → PutAt next (hex (decimal i)) end' out' out'' × (end' ≤ next + 40)
      → Counting count start old end' (i + 1) out''
  counting_more l next out' q end' out'' r =
      let z : count - i ≡ suc (count - (i + 1)) = omega arith in
      let all = and_then (hex (decimal i)) (and_then (hex (comma ∷ [])) w.written q) r.0 in
      let t : (hex w.text ++ hex (comma ∷ [])) ++ hex (decimal i) ≡ hex ((w.text ++ (comma ∷ [])) ++ decimal i) = ap (λ (x : Bytes). x ++ hex (decimal i)) (sym (hex_append w.text (comma ∷ []))) ∙ sym (hex_append (w.text ++ (comma ∷ [])) (decimal i)) in
      record {
        text = (w.text ++ (comma ∷ [])) ++ decimal i;
        turns = omega arith;
        some = omega arith;
        written = record { place = all.place ∙ ap (λ (x : Bytes). start + length x) t; holds = all.holds ∙ ap (λ (x : Bytes). over_at start x old) t };
        rest =
            w.rest
            ∙ ap (λ (k : ℕ). w.text ++ after_commas i k) z
            ∙ ap (λ (k : ℕ). w.text ++ (comma ∷ (decimal i ++ after_commas k (count - (i + 1))))) (sym (add-one i))
            ∙ sym (append_assoc w.text (comma ∷ []) (decimal i ++ after_commas (i + 1) (count - (i + 1))))
            ∙ sym (append_assoc (w.text ++ (comma ∷ [])) (decimal i) (after_commas (i + 1) (count - (i + 1))));
        room = omega (arith, w.room, q.0, r.1);
      }
