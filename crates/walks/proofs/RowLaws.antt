-- What is known in a loop that writes one type of a row after the other, all in one state, and a law for each way of a turn. Assumes nothing.
use mathlib.Core.Path.{◌≡◌, refl, sym, ap, subst, ◌∙◌}
use mathlib.Core.Bool.{Bool}
use mathlib.Core.List.{List, [], ◌∷◌, ◌++◌, append_assoc, append-nil}
use Prim.Native.Nat.{ℕ, ◌+◌, ◌-◌, ◌*◌, ◌<◌, ◌≤◌, min, max}
use native.Mathlib.Omega.{arith}
use lib.ListN.{length, take, drop, length-append}
use Rattle.sheets.specs.Refusal.{Refusal}
use Rattle.sheets.specs.Bytes.{Bytes}
use Rattle.sheets.specs.Answer.{Answer, refused, given, ◌>>=◌}
use Rattle.sheets.specs.Sheet.{ended}
use Rattle.sheets.specs.FieldSheet.{Entry}
use Rattle.sheets.specs.LineTrees.{tallest}
use Rattle.sheets.specs.FieldTrees.{Head, entry_levels}
use Rattle.sheets.specs.Walk.{Step, row_walk, row_visits, row_walked}
use Rattle.sheets.proofs.SheetLaws.{ended_append}
use Rattle.sheets.proofs.WalkLaws.{nothing_own}
use Rattle.buffer.specs.Over.{over}
use Rattle.buffer.proofs.OverLaws.{over_nothing, over_lent}
use Rattle.outcome.specs.declared.Size.{Size}
use Rattle.walks.specs.Places.{own_limit, TypeAt, RowAt, HasType, WroteAs, TypeWrote}

both_before : (a b : List Bytes) (m : Answer (List Bytes)) → ((m >>= λ ls. given (b ++ ls)) >>= λ ls. given (a ++ ls)) ≡ (m >>= λ ls. given ((a ++ b) ++ ls))
both_before a b (refused r) = refl
both_before a b (given ls) = ap given (sym (append_assoc a b ls))

pub tallest_cons : (inside : Bool) (x : Entry) (xs : List Entry) → tallest (entry_levels inside) (x ∷ xs) ≡ max (entry_levels inside x) (tallest (entry_levels inside) xs)
unfolding tallest
tallest_cons inside x xs = refl

-- k of the n types us, which stood at `at` with es after them, are written: their lines are laid over out₀, so many lines were seen for them, and vs are left at here
pub record Going {S : Type 0} (step : S → Head → Answer (Step S)) (s : Bytes) (at n levels : ℕ) (inside : Bool) (σ : S) (out₀ out : Bytes) (here sum seen k : ℕ) (us es : List Entry) : Type 0 where
  pub vs : List Entry
  pub lines : List Bytes
  pub left : RowAt s here (n - k) levels inside vs es
  pub becomes : row_walk step us σ ≡ (row_walk step vs σ >>= λ ls. given (lines ++ ls))
  pub counts : row_visits step us σ ≡ seen + row_visits step vs σ
  pub sum_is : sum ≡ length (ended lines)
  pub laid : out ≡ over (ended lines) out₀
  pub long : sum + own_limit * at ≤ own_limit * here
  pub few : seen + at ≤ here

module _ {S : Type 0} (step : S → Head → Answer (Step S)) (s : Bytes) (at n levels : ℕ) (inside : Bool) (σ : S) (out₀ : Bytes) (us es : List Entry) where
  pub going_none : RowAt s at n levels inside us es → Going step s at n levels inside σ out₀ out₀ at 0 0 0 us es
  going_none h =
      record {
        vs = us;
        lines = [];
        left = record { stands = h.stands; counted = omega (arith, h.counted); deep = h.deep; within = h.within; short = h.short };
        becomes = sym (nothing_own (row_walk step us σ));
        counts = omega arith;
        sum_is = refl;
        laid = sym (over_nothing out₀);
        long = omega arith;
        few = omega arith;
      }

  module _ (out : Bytes) (here sum seen k : ℕ) (g : Going step s at n levels inside σ out₀ out here sum seen k us es) where
    -- the first type that is left
    first_at : (x : Entry) (vs : List Entry) → RowAt s here (n - k) levels inside (x ∷ vs) es → TypeAt s here levels inside x.0 x.1 (vs ++ es)
    first_at x vs h = record { stands = h.stands; deep = omega (arith, h.deep, tallest_cons inside x vs); short = h.short }

    pub going_type : k < n → HasType s here levels inside
    going_type l = go g.vs g.left
      where
        go : (vs : List Entry) → RowAt s here (n - k) levels inside vs es → HasType s here levels inside
        go [] h = absurd (omega (arith, h.counted))
        go (x ∷ vs) h = (x.0, x.1, vs ++ es, first_at x vs h)

    -- no sum wraps
    pub going_short : sum ≤ own_limit * 65535
    going_short = omega (arith, g.long, g.left.within, g.left.short)

    pub going_few : seen ≤ 65535
    going_few = omega (arith, g.few, g.left.within, g.left.short)

    -- it is written
    pub going_more : k < n → (w : ℕ) → w ≡ min sum (length out) → (part : Bytes) (a : Answer (ℕ × Size)) (next : ℕ) (size : Size) → a ≡ given (next, size)
        → TypeWrote step s here levels inside σ (take (length out - w) (drop w out)) part a
        → Going step s at n levels inside σ out₀ (take w out ++ (part ++ drop (length out - w) (drop w out))) next (sum + size.len) (seen + size.lines) (k + 1) us es
    going_more l w e part a next size is_done wrote = go g.vs g.left g.becomes g.counts
      where
        go : (vs : List Entry) → RowAt s here (n - k) levels inside vs es → row_walk step us σ ≡ (row_walk step vs σ >>= λ ls. given (g.lines ++ ls)) → row_visits step us σ ≡ seen + row_visits step vs σ
            → Going step s at n levels inside σ out₀ (take w out ++ (part ++ drop (length out - w) (drop w out))) next (sum + size.len) (seen + size.lines) (k + 1) us es
        go [] h b v = absurd (omega (arith, h.counted))
        go (x ∷ vs) h b v =
            let f : TypeWrote step s here levels inside σ (take (length out - w) (drop w out)) part (given (next, size)) =
            subst (λ (y : Answer (ℕ × Size)). TypeWrote step s here levels inside σ (take (length out - w) (drop w out)) part y) is_done wrote in
            let (ls, is, put, there, long, within, counted, least) = f x.0 x.1 (vs ++ es) (first_at x vs h) in
            record {
              vs = vs;
              lines = g.lines ++ ls;
              left = record { stands = there; counted = omega (arith, h.counted); deep = omega (arith, h.deep, tallest_cons inside x vs); within = within; short = h.short };
              becomes =
                  b
                  ∙ ap (λ (o : Answer (List Bytes)). (o >>= λ a. row_walk step vs σ >>= λ b. given (a ++ b)) >>= λ b. given (g.lines ++ b)) is
                  ∙ both_before g.lines ls (row_walk step vs σ);
              counts = omega (arith, v, counted);
              sum_is = omega (arith, g.sum_is, put.0, ap length (ended_append g.lines ls), length-append (ended g.lines) (ended ls));
              laid =
                  over_lent (ended g.lines) (ended ls) out₀ out part sum w g.laid g.sum_is e put.1
                  ∙ ap (λ (x : Bytes). over x out₀) (sym (ended_append g.lines ls));
              long = omega (arith, g.long, long);
              few = omega (arith, g.few, least);
            }

    -- it is refused
    pub going_refused : k < n → (lent part : Bytes) (a : Answer (ℕ × Size)) (q : Refusal) → a ≡ refused q → TypeWrote step s here levels inside σ lent part a → row_walk step us σ ≡ refused q
    going_refused l lent part a q is_refused wrote = go g.vs g.left g.becomes
      where
        go : (vs : List Entry) → RowAt s here (n - k) levels inside vs es → row_walk step us σ ≡ (row_walk step vs σ >>= λ ls. given (g.lines ++ ls)) → row_walk step us σ ≡ refused q
        go [] h b = absurd (omega (arith, h.counted))
        go (x ∷ vs) h b =
            let f : TypeWrote step s here levels inside σ lent part (refused q) = subst (λ (y : Answer (ℕ × Size)). TypeWrote step s here levels inside σ lent part y) is_refused wrote in
            b ∙ ap (λ (o : Answer (List Bytes)). (o >>= λ a. row_walk step vs σ >>= λ b. given (a ++ b)) >>= λ b. given (g.lines ++ b)) (f x.0 x.1 (vs ++ es) (first_at x vs h))

    -- all are written
    pub going_all : n ≤ k → WroteAs s at es (row_walked step us σ) out₀ out (given (here, record { len = sum; lines = seen }))
    going_all l = go g.vs g.left g.becomes g.counts
      where
        go : (vs : List Entry) → RowAt s here (n - k) levels inside vs es → row_walk step us σ ≡ (row_walk step vs σ >>= λ ls. given (g.lines ++ ls)) → row_visits step us σ ≡ seen + row_visits step vs σ
            → WroteAs s at es (row_walked step us σ) out₀ out (given (here, record { len = sum; lines = seen }))
        go [] h b v = (g.lines, b ∙ ap given (append-nil g.lines), (g.sum_is, g.laid), h.stands, omega (arith, g.long), h.within, omega (arith, v), g.few)
        go (x ∷ vs) h b v = absurd (omega (arith, h.counted))
