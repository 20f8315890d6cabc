-- A column at a place of a sheet: where it ends, found by looking at one byte after the other, and that there is one such place only. By the bytes
-- from the place on as a list, cut at the first byte that ends a column. Assumes nothing.
use mathlib.Core.Path.{◌≡◌, refl, sym, ap, ap₂, subst, ◌∙◌}
use mathlib.Core.Bool.{Bool, true, false, ◌&&◌, ◌||◌, not, cond, and-true, and_assoc}
use mathlib.Core.List.{[], ◌∷◌, ◌++◌}
use Rattle.std.specs.Prelude.{None, Some}
use Prim.Native.Nat.{ℕ, zero, suc, ◌+◌, ◌-◌, ◌≤◌, ◌<◌, min}
use native.Mathlib.Numerals.{add-one}
use native.Mathlib.Omega.{arith}
use lib.Dec.{eqb, ltb}
use lib.ListN.{length, get_or, take, drop, length-append, length-take, length-drop, take-append-drop, drop_of_length-le}
use lib.Seq.{drop-cons, drop-drop, drop_at, length-take-le, take-append_seam, drop-append-add}
use borrow.Author.Tests.{eq-eqb, ne_eqb, eqb-true, not-true, lt-ltb, le-ltb, ltb-true}
use Rattle.sheets.specs.Rule.{passes, Meets}
use Rattle.sheets.specs.Bytes.{Bytes, all, lacks}
use Rattle.sheets.proofs.Tests.{not_some, and_left, and_right, meets}
use Rattle.columns.specs.Columns.{part, is_stop, past_space, column_length, stop_from, column_end, ColumnAt}

-- ── one byte

pub space_stops : (b : ℕ) → b ≡ 32 → is_stop b ≡ true
space_stops b e = rw (eq-eqb b 32 e)

pub not_space : (b : ℕ) → (b ≡ 32 → ⊥) → eqb b 10 ≡ is_stop b
not_space b h = rw (ne_eqb b 32 h)

pub other_goes_on : (b : ℕ) → (b ≡ 32 → ⊥) → (b ≡ 10 → ⊥) → is_stop b ≡ false
other_goes_on b h k = rw (ne_eqb b 32 h, ne_eqb b 10 k)

-- ── at a place

module _ (s : Bytes) (i : ℕ) where
  pub length_none : length s ≤ i → column_length (drop i s) ≡ 0
  unfolding column_length
  length_none h = rw (drop_of_length-le s h)

  pub length_stop : i < length s → is_stop (get_or s i 0) ≡ true → column_length (drop i s) ≡ 0
  unfolding column_length
  length_stop h e = rw (drop-cons s i 0 h, e)

  pub length_more : i < length s → is_stop (get_or s i 0) ≡ false → column_length (drop i s) ≡ suc (column_length (drop (i + 1) s))
  unfolding column_length
  length_more h e = rw (drop-cons s i 0 h, e, add-one)

-- ── the bytes before the first that ends a column

cut_short : (b : Bytes) → column_length b ≤ length b
unfolding column_length
cut_short [] = omega arith
cut_short (x ∷ b) = pick (is_stop x) (cut_short b)
  where
    pick : (t : Bool) → column_length b ≤ length b → cond t 0 (suc (column_length b)) ≤ suc (length b)
    pick true h = omega arith
    pick false h = omega arith

cut_free : (b : Bytes) → Meets (lacks 32 (take (column_length b) b)) × Meets (lacks 10 (take (column_length b) b))
unfolding column_length
cut_free [] = (refl, refl)
cut_free (x ∷ b) = pick (eqb x 32) (eqb x 10) refl refl (cut_free b)
  where
    pick : (t u : Bool) → eqb x 32 ≡ t → eqb x 10 ≡ u → Meets (lacks 32 (take (column_length b) b)) × Meets (lacks 10 (take (column_length b) b))
        → Meets (lacks 32 (take (cond (t || u) 0 (suc (column_length b))) (x ∷ b))) × Meets (lacks 10 (take (cond (t || u) 0 (suc (column_length b))) (x ∷ b)))
    pick true u e f h = (refl, refl)
    pick false true e f h = (refl, refl)
    pick false false e f h = ((ap not e, h.0), (ap not f, h.1))

-- the first byte that ends a column is the one after bytes that do not
cut_at : (c r : Bytes) (stop : ℕ) → is_stop stop ≡ true → Meets (lacks 32 c) → Meets (lacks 10 c) → column_length (c ++ (stop ∷ r)) ≡ length c
unfolding column_length
cut_at [] r stop e h k = rw e
cut_at (x ∷ c) r stop e h k = rw (not-true (eqb x 32) h.0, not-true (eqb x 10) k.0, cut_at c r stop e h.1 k.1)

-- in bytes past the space no column ends
past_pass : (c : Bytes) → Meets (all past_space c) → column_length c ≡ length c
unfolding column_length
past_pass [] h = refl
past_pass (x ∷ c) h =
    let d : 32 < x = ltb-true 32 x h.0 in
    let on : is_stop x ≡ false = other_goes_on x (λ e. omega arith) (λ e. omega arith) in
    rw (on, past_pass c h.1)

-- the first n bytes hold the end, or have none
cut_take : (n : ℕ) (b : Bytes) → column_length (take n b) ≡ min n (column_length b)
unfolding column_length
cut_take zero b = omega arith
cut_take (suc n) [] = omega arith
cut_take (suc n) (x ∷ b) = pick (is_stop x) (cut_take n b)
  where
    pick : (t : Bool) → column_length (take n b) ≡ min n (column_length b) → cond t 0 (suc (column_length (take n b))) ≡ min (suc n) (cond t 0 (suc (column_length b)))
    pick true h = omega arith
    pick false h = omega arith

-- from a byte before the end on, the end is the same
cut_on : (n : ℕ) (b : Bytes) → n ≤ column_length b → column_length b ≡ n + column_length (drop n b)
unfolding column_length
cut_on zero b h = omega arith
cut_on (suc n) [] h = absurd (omega arith)
cut_on (suc n) (x ∷ b) h = pick (is_stop x) h (cut_on n b)
  where
    pick : (t : Bool) → suc n ≤ cond t 0 (suc (column_length b)) → (n ≤ column_length b → column_length b ≡ n + column_length (drop n b))
        → cond t 0 (suc (column_length b)) ≡ suc n + column_length (drop n b)
    pick true h i = absurd (omega arith)
    pick false h i = omega (arith, i (omega arith))

pub stop_on : (s : Bytes) (a i : ℕ) → a ≤ i → i ≤ stop_from s a → stop_from s i ≡ stop_from s a
stop_on s a i low h =
    let n : a + (i - a) ≡ i = omega arith in
    omega (arith, cut_on (i - a) (drop a s) (omega arith), ap column_length (drop-drop (i - a) a s ∙ ap (λ (m : ℕ). drop m s) n))

module _ (s : Bytes) (a e : ℕ) (below : a ≤ e) (high : e ≤ length s) where
  near_size : length (part s a e) ≡ e - a
  near_size = length-take (e - a) (drop a s) ∙ omega (arith, length-drop a s)

  pub near_short : column_length (part s a e) ≤ e - a
  near_short = omega (arith, cut_take (e - a) (drop a s))

  pub near_end : column_length (part s a e) < e - a → column_length (drop a s) ≡ column_length (part s a e)
  near_end h = omega (arith, cut_take (e - a) (drop a s))

  pub near_passed : e - a ≤ column_length (part s a e) → stop_from s a ≡ stop_from s e
  near_passed h = sym (stop_on s a e below (omega (arith, cut_take (e - a) (drop a s))))

  pub past_passed : passes (all past_space (part s a e)) ≡ true → stop_from s a ≡ stop_from s e
  past_passed h = near_passed (omega (arith, past_pass (part s a e) (meets (all past_space (part s a e)) h), near_size))

-- bytes past the space, one more of them
module _ (ok : Bool) (s : Bytes) (i : ℕ) where
  pub past_next : i < length s → (ok && passes (all past_space (drop i s))) ≡ ((ok && past_space (get_or s i 0)) && passes (all past_space (drop (i + 1) s)))
  past_next h =
      ap (λ (c : Bytes). ok && passes (all past_space c)) (drop-cons s i 0 h)
      ∙ sym (and_assoc ok (past_space (get_or s i 0)) (passes (all past_space (drop (suc i) s))))
      ∙ ap (λ (j : ℕ). (ok && past_space (get_or s i 0)) && passes (all past_space (drop j s))) (sym (add-one i))

  pub past_end : length s ≤ i → (ok && passes (all past_space (drop i s))) ≡ ok
  past_end h = ap (λ (c : Bytes). ok && passes (all past_space c)) (drop_of_length-le s {i = i} h) ∙ and-true ok

-- ── columns

-- bytes in front of the byte that ends them are a column
module _ (s : Bytes) (a : ℕ) (c r : Bytes) (stop : ℕ) (is : drop a s ≡ c ++ (stop ∷ r)) where
  room : a + length c < length s
  room = omega (arith, length-drop a s, ap length is, length-append c (stop ∷ r))

  pub column_part : part s a (a + length c) ≡ c
  column_part =
      let n : a + length c - a ≡ length c = omega arith in
      rw (n, is) (take-append_seam c (stop ∷ r))

  pub column_rest : drop (a + length c + 1) s ≡ r
  column_rest =
      let n : a + length c + 1 ≡ a + (length c + 1) = omega arith in
      ap (λ (m : ℕ). drop m s) n ∙ sym (drop-drop (length c + 1) a s) ∙ ap (drop (length c + 1)) is ∙ drop-append-add c (stop ∷ r) 1

  pub column_of_lem : Meets (lacks 32 c) → Meets (lacks 10 c) → ColumnAt s a (a + length c) stop
  column_of_lem h k =
      record {
        low = omega arith;
        high = room;
        is = is ∙ ap₂ (λ (x y : Bytes). x ++ (stop ∷ y)) (sym column_part) (sym column_rest);
        spaces = subst (λ (x : Bytes). Meets (lacks 32 x)) (sym column_part) h;
        ends = subst (λ (x : Bytes). Meets (lacks 10 x)) (sym column_part) k;
      }

-- the first byte that ends a column ends the column from here on
pub column_here : (s : Bytes) (a e stop : ℕ) → e ≡ a + column_length (drop a s) → e < length s → get_or s e 0 ≡ stop → ColumnAt s a e stop
column_here s a e stop at h b =
    let n = column_length (drop a s) in
    let c = take n (drop a s) in
    let size : length c ≡ n = length-take-le n (drop a s) (cut_short (drop a s)) in
    let place : a + length c ≡ e = omega arith in
    let after : drop n (drop a s) ≡ stop ∷ drop (suc e) s =
    drop-drop n a s ∙ ap (λ (m : ℕ). drop m s) (sym at) ∙ drop-cons s e 0 h ∙ ap (λ (x : ℕ). x ∷ drop (suc e) s) b in
    let is : drop a s ≡ c ++ (stop ∷ drop (suc e) s) = sym (take-append-drop n (drop a s)) ∙ ap (λ (y : Bytes). c ++ y) after in
    let f = cut_free (drop a s) in
    subst (λ (m : ℕ). ColumnAt s a m stop) place (column_of_lem s a c (drop (suc e) s) stop is f.0 f.1)

module _ {s : Bytes} {a e stop : ℕ} (c : ColumnAt s a e stop) where
  pub column_size : length (part s a e) ≡ e - a
  column_size = length-take (e - a) (drop a s) ∙ omega (arith, length-drop a s, c.low, c.high)

  -- there is no other end
  pub column_end_lem : is_stop stop ≡ true → e ≡ a + column_length (drop a s)
  column_end_lem h =
      let n : column_length (drop a s) ≡ length (part s a e) = ap column_length c.is ∙ cut_at (part s a e) (drop (e + 1) s) stop h c.spaces c.ends in
      omega (arith, n, column_size, c.low)

  pub column_after : drop e s ≡ stop ∷ drop (e + 1) s
  column_after =
      let n : e ≡ a + (e - a) = omega (arith, c.low) in
      ap (λ (m : ℕ). drop m s) n ∙ sym (drop-drop (e - a) a s) ∙ ap (drop (e - a)) c.is ∙ drop_at (part s a e) (stop ∷ drop (e + 1) s) (e - a) column_size

  pub column_stop : get_or s e 0 ≡ stop
  column_stop = ap (λ (l : Bytes). get_or l 0 0) (sym (drop-cons s e 0 c.high) ∙ column_after)

-- ── where a column ends

module _ (stop : ℕ) (s : Bytes) (a : ℕ) where
  pub end_none : length s ≤ stop_from s a → column_end stop s a ≡ None
  unfolding column_end
  end_none h = rw (le-ltb (stop_from s a) (length s) h)

  module _ (h : stop_from s a < length s) where
    pub end_other : (get_or s (stop_from s a) 0 ≡ stop → ⊥) → column_end stop s a ≡ None
    unfolding column_end
    end_other k = rw (lt-ltb (stop_from s a) (length s) h, ne_eqb (get_or s (stop_from s a) 0) stop k)

    pub end_there : get_or s (stop_from s a) 0 ≡ stop → column_end stop s a ≡ Some (stop_from s a)
    unfolding column_end
    end_there k = rw (lt-ltb (stop_from s a) (length s) h, eq-eqb (get_or s (stop_from s a) 0) stop k)

  pub column_there : (e : ℕ) → column_end stop s a ≡ Some e → ColumnAt s a e stop
  unfolding column_end
  column_there e h = pick (ltb (stop_from s a) (length s)) (eqb (get_or s (stop_from s a) 0) stop) refl refl h
    where
      pick : (t u : Bool) → ltb (stop_from s a) (length s) ≡ t → eqb (get_or s (stop_from s a) 0) stop ≡ u → cond (t && u) (Some (stop_from s a)) None ≡ Some e → ColumnAt s a e stop
      pick true true l k q =
          let same : stop_from s a ≡ e = cc in
          subst (λ (i : ℕ). ColumnAt s a i stop) same (column_here s a (stop_from s a) stop refl (ltb-true (stop_from s a) (length s) l) (eqb-true (get_or s (stop_from s a) 0) stop k))
      pick true false l k q = not_some q
      pick false u l k q = not_some q

-- there is no other
pub column_same : {s : Bytes} {a e stop : ℕ} → is_stop stop ≡ true → ColumnAt s a e stop → column_end stop s a ≡ Some e
column_same {s} {a} {e} {stop} is c =
    let n : e ≡ stop_from s a = column_end_lem c is in
    end_there stop s a (omega (arith, c.high)) (ap (λ (i : ℕ). get_or s i 0) (sym n) ∙ column_stop c) ∙ ap Some (sym n)
