-- A line of the page in its pieces. The level with its space is one word, by a test computed over all of the levels; the front is a chain of writes; a name
-- is cut, or written over spaces; and the pieces one after the other are the line. Assumes nothing.
use mathlib.Core.Path.{◌≡◌, refl, sym, ap, ap₂, ◌∙◌}
use mathlib.Core.Bool.{Bool, cond}
use mathlib.Core.List.{[], ◌∷◌, ◌++◌, append_assoc, append-nil}
use Prim.Native.Nat.{ℕ, ◌+◌, ◌-◌, ◌*◌, ◌/◌, ◌%◌, ◌≤◌, ◌<◌}
use native.Mathlib.Omega.{arith}
use lib.Dec.{ltb}
use lib.ListN.{length, take, drop, set, replicate, length-append, length-take, drop_of_length-le}
use lib.Seq.{take_all}
use borrow.Author.Tests.{lt-ltb, le-ltb}
use Rattle.sheets.specs.Bytes.{Bytes, same, line_end, space, plus_sign}
use Rattle.sheets.specs.Number.{decimal}
use Rattle.sheets.specs.Sheet.{ended}
use Rattle.sheets.specs.Page.{level_width, name_width, right_in, name_column, cut_mark, line_shown}
use Rattle.sheets.proofs.Tests.{every, at_each, meets}
use Rattle.sheets.proofs.BytesLaws.{same_eq}
use Rattle.sheets.proofs.PageLaws.{kind_column, shown_ended}
use Rattle.buffer.specs.Over.{over, over_at}
use Rattle.buffer.proofs.OverLaws.{Written, none_yet, and_then, length_written, whole, stored, over_fits, over_append, over_at_over}
use Rattle.words.specs.Words.{low_bytes}
use Rattle.words.proofs.WordLaws.{length_low}
use Rattle.kind_names.proofs.NameLaws.{padded}
use Rattle.columns.specs.Columns.{part}
use Rattle.page_line.specs.PageLines.{level_text, front_text, blank_name, name_text}

-- ── the level

-- a level of one digit, and of two
abbrev short_level : ℕ → ℕ
short_level n = 540024864 + n * 65536

abbrev long_level : ℕ → ℕ
long_level n = 540028960 + n / 10 * 256 + n % 10 * 65536

abbrev level_right : ℕ → Bool
level_right n = same (low_bytes 4 (cond (ltb n 10) (short_level n) (long_level n))) (level_text n)

level_bytes : (n : ℕ) → n < 100 → low_bytes 4 (cond (ltb n 10) (short_level n) (long_level n)) ≡ level_text n
unfolding decimal low_bytes
level_bytes n h = same_eq (low_bytes 4 (cond (ltb n 10) (short_level n) (long_level n))) (level_text n) (at_each 100 level_right (meets (every 100 level_right) refl) n h)

pub short_level_lem : (n : ℕ) → n < 10 → low_bytes 4 (short_level n) ≡ level_text n
short_level_lem n h = rw (lt-ltb n 10 h) at (level_bytes n (omega arith))

pub long_level_lem : (n : ℕ) → 10 ≤ n → n < 100 → low_bytes 4 (long_level n) ≡ level_text n
long_level_lem n l h = rw (le-ltb n 10 l) at (level_bytes n h)

-- ── the front

module _ (w kind mark : ℕ) where
  pub front_put : (low high : ℕ) (out a b c : Bytes) → low_bytes 8 low ++ low_bytes 8 high ≡ padded kind → 23 ≤ length out
      → a ≡ over_at 0 (low_bytes 4 w) out → b ≡ over_at 4 (low_bytes 8 low) a → c ≡ over_at 12 (low_bytes 8 high) b
      → set (set (set c 20 space) 21 mark) 22 space ≡ over (front_text (low_bytes 4 w) kind mark) out
  unfolding front_text
  front_put low high out a b c k room p q r =
      let first = and_then (low_bytes 4 w) {m = 4} {k = a} (none_yet 0 out) (omega (arith, length_low 4 w), p) in
      let second = and_then (low_bytes 8 low) {m = 12} {k = b} first (omega (arith, length_low 8 low), q) in
      let third = and_then (low_bytes 8 high) {m = 20} {k = c} second (omega (arith, length_low 8 high), r) in
      let fourth = and_then (space ∷ []) {m = 21} {k = set c 20 space} third (refl, stored 20 space c (omega (arith, length_written third))) in
      let fifth = and_then (mark ∷ []) {m = 22} {k = set (set c 20 space) 21 mark} fourth (refl, stored 21 mark (set c 20 space) (omega (arith, length_written fourth))) in
      let last = and_then (space ∷ []) {m = 23} {k = set (set (set c 20 space) 21 mark) 22 space} fifth (refl, stored 22 space (set (set c 20 space) 21 mark) (omega (arith, length_written fifth))) in
      (whole last).1 ∙ ap (λ (t : Bytes). over t out) (joined (low_bytes 4 w) (low_bytes 8 low) (low_bytes 8 high) ∙ ap (λ (y : Bytes). (low_bytes 4 w ++ y) ++ (space ∷ mark ∷ space ∷ [])) k)
    where
      joined : (x y z : Bytes) → ((((x ++ y) ++ z) ++ (space ∷ [])) ++ (mark ∷ [])) ++ (space ∷ []) ≡ (x ++ (y ++ z)) ++ (space ∷ mark ∷ space ∷ [])
      joined x y z = simp append_assoc

  front_length : length (front_text (low_bytes 4 w) kind mark) ≡ 23
  unfolding front_text
  front_length =
      omega (arith, length-append (low_bytes 4 w ++ padded kind) (space ∷ mark ∷ space ∷ []), length-append (low_bytes 4 w) (padded kind), length_low 4 w, kind_column kind)

-- ── the name

-- eight spaces as one number
abbrev spaces : ℕ
spaces = 2314885530818453536

eight : {s out : Bytes} {n : ℕ} {l : Bytes} (k : Bytes) → Written 23 s out n l → k ≡ over_at n (low_bytes 8 spaces) l → Written 23 (s ++ replicate 8 space) out (n + 8) k
unfolding low_bytes
eight k w e = and_then (replicate 8 space) w (refl, e)

pub blank_put : (out a b c d e f l : Bytes) → a ≡ over_at 23 (low_bytes 8 spaces) out → b ≡ over_at 31 (low_bytes 8 spaces) a → c ≡ over_at 39 (low_bytes 8 spaces) b
    → d ≡ over_at 47 (low_bytes 8 spaces) c → e ≡ over_at 55 (low_bytes 8 spaces) d → f ≡ over_at 63 (low_bytes 8 spaces) e → l ≡ over_at 71 (low_bytes 2 2592) f
    → l ≡ over_at 23 blank_name out
unfolding low_bytes blank_name
blank_put out a b c d e f l p q r s t u v =
    let w = eight f (eight e (eight d (eight c (eight b (eight a (none_yet 23 out) p) q) r) s) t) u in
    (and_then (space ∷ line_end ∷ []) {m = 73} {k = l} w (refl, v)).holds

-- after n digits, the spaces that are left of the column, the mark of a name that is not cut and the line's end
abbrev after_digits : ℕ → Bytes
after_digits n = replicate (name_width - n) space ++ (space ∷ line_end ∷ [])

abbrev tail_right : ℕ → Bool
tail_right n = same (drop n blank_name) (after_digits n)

tail_is : (n : ℕ) → n ≤ name_width → drop n blank_name ≡ after_digits n
unfolding blank_name
tail_is n h = same_eq (drop n blank_name) (after_digits n) (at_each 49 tail_right (meets (every 49 tail_right) refl) n (omega arith))

blank_length : length blank_name ≡ 50
unfolding blank_name
blank_length = refl

module _ (digits : Bytes) where
  whole_name : length digits ≤ name_width → digits ++ drop (length digits) blank_name ≡ name_text digits
  unfolding name_text
  whole_name h =
      let e : take name_width digits ≡ digits = take_all name_width digits h in
      rw (e, le-ltb name_width (length digits) h, tail_is (length digits) h) (sym (append_assoc digits (replicate (name_width - length digits) space) (space ∷ line_end ∷ [])))

  cut_name : name_width < length digits → take name_width digits ++ (plus_sign ∷ line_end ∷ []) ≡ name_text digits
  unfolding name_text
  cut_name h =
      let n : name_width - length (take name_width digits) ≡ 0 = omega (arith, length-take name_width digits) in
      rw (n, lt-ltb name_width (length digits) h) (ap (λ (b : Bytes). b ++ (plus_sign ∷ line_end ∷ [])) (sym (append-nil (take name_width digits))))

  -- the digits over spaces
  pub whole_put : (out blank l : Bytes) → length digits ≤ name_width → blank ≡ over_at 23 blank_name out → l ≡ over_at 23 (part digits 0 (length digits)) blank → l ≡ over_at 23 (name_text digits) out
  whole_put out blank l h e f =
      f
      ∙ ap₂ (over_at 23) (take_all (length digits - 0) digits (omega arith)) e
      ∙ over_at_over 23 digits blank_name out (omega (arith, blank_length))
      ∙ ap (λ (t : Bytes). over_at 23 t out) (whole_name h)

  -- the first 48 and `+`
  pub cut_put : (out first l : Bytes) → name_width < length digits → first ≡ over_at 23 (part digits 0 name_width) out → l ≡ over_at 71 (low_bytes 2 2603) first → l ≡ over_at 23 (name_text digits) out
  unfolding low_bytes
  cut_put out first l h e f =
      let v = and_then (take name_width digits) {m = 71} {k = first} (none_yet 23 out) (omega (arith, length-take name_width digits), e) in
      let w = and_then (plus_sign ∷ line_end ∷ []) {m = 73} {k = l} v (refl, f) in
      w.holds ∙ ap (λ (t : Bytes). over_at 23 t out) (cut_name h)

-- ── the line

-- the front, then the name
pub line_put : (w kind mark : ℕ) (digits out front l : Bytes) → front ≡ over (front_text (low_bytes 4 w) kind mark) out → l ≡ over_at 23 (name_text digits) front
    → l ≡ over (front_text (low_bytes 4 w) kind mark ++ name_text digits) out
line_put w kind mark digits out front l e f =
    f ∙ ap₂ (λ (n : ℕ) (b : Bytes). over_at n (name_text digits) b) (sym (front_length w kind mark)) e ∙ sym (over_append (front_text (low_bytes 4 w) kind mark) (name_text digits) out)

module _ (level kind mark : ℕ) (digits : Bytes) where
  abbrev text : Bytes
  text = ended (line_shown level kind mark digits ∷ [])

  -- the pieces as writers one after the other leave them
  line_pieces : front_text (level_text level) kind mark ++ name_text digits ≡ text
  unfolding front_text name_text
  line_pieces = joined (right_in level_width (decimal level)) (padded kind) (name_column digits) (cut_mark digits)
    where
      joined : (l k n : Bytes) (cut : ℕ)
          → (((l ++ (space ∷ [])) ++ k) ++ (space ∷ mark ∷ space ∷ [])) ++ (n ++ (cut ∷ line_end ∷ []))
          ≡ (l ++ (space ∷ k ++ (space ∷ mark ∷ space ∷ n ++ (cut ∷ [])))) ++ (line_end ∷ [])
      joined l k n cut = simp append_assoc

  pub line_is : (w : ℕ) → low_bytes 4 w ≡ level_text level → front_text (low_bytes 4 w) kind mark ++ name_text digits ≡ text
  line_is w e = ap (λ (t : Bytes). front_text t kind mark ++ name_text digits) e ∙ line_pieces

  pub line_length : level < 100 → 73 ≡ length text
  line_length h = sym (shown_ended level kind mark digits (omega arith))

  -- written over as many bytes, it is all that is there
  pub line_alone : (w : ℕ) (zeros l : Bytes) → level < 100 → low_bytes 4 w ≡ level_text level → length zeros ≡ 73 → l ≡ over (front_text (low_bytes 4 w) kind mark ++ name_text digits) zeros → l ≡ text
  line_alone w zeros l h k n e =
      e
      ∙ ap (λ (t : Bytes). over t zeros) (line_is w k)
      ∙ over_fits text zeros (omega (arith, n, line_length h))
      ∙ ap (λ (b : Bytes). text ++ b) (drop_of_length-le zeros {i = length text} (omega (arith, n, line_length h)))
      ∙ append-nil text
