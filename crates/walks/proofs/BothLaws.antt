-- Two lines begun at once: a line that leaves one type to be visited, and that type's own first line, written into the remainder. What is left is what
-- the second line leaves (`both_begun`), or its refusal (`both_refused`). Assumes nothing.
use mathlib.Core.Path.{◌≡◌, refl, sym, ap, ap₂, subst, ◌∙◌}
use mathlib.Core.Bool.{Bool}
use mathlib.Core.List.{List, [], ◌∷◌, ◌++◌, append-nil, append_assoc}
use Prim.Native.Nat.{ℕ, ◌+◌, ◌-◌, ◌*◌, ◌≤◌, ◌<◌, min}
use native.Mathlib.Omega.{arith}
use lib.ListN.{length, take, drop, length-append}
use Rattle.sheets.specs.Refusal.{Refusal}
use Rattle.sheets.specs.Bytes.{Bytes}
use Rattle.sheets.specs.Answer.{Answer, refused, given, ◌>>=◌}
use Rattle.sheets.specs.Sheet.{ended}
use Rattle.sheets.specs.FieldSheet.{Entry}
use Rattle.sheets.specs.LineTrees.{tallest, Standing}
use Rattle.sheets.specs.FieldTrees.{Head, entry_levels, fields}
use Rattle.sheets.specs.Walk.{Step, Walked, line_measure, row_measure, type_walk, row_walk, row_visits, type_walked}
use Rattle.sheets.proofs.SheetLaws.{ended_append}
use Rattle.sheets.proofs.WalkLaws.{line_falls}
use Rattle.buffer.specs.Over.{over}
use Rattle.buffer.proofs.OverLaws.{over_lent}
use Rattle.walks.specs.Places.{own_limit, TypeAt, RowAt, HasType, Owns, Begun, Begins, TypeBegins, together}

-- a list of one
single : (us : List Entry) → length us ≡ 1 → (x : Entry) × (us ≡ x ∷ [])
single [] e = absurd (omega arith)
single (x ∷ []) e = (x, refl)
single (x ∷ y ∷ us) e = absurd (omega arith)

module _ {S : Type 0} {step : S → Head → Answer (Step S)} {s : Bytes} {at levels : ℕ} {inside : Bool} {o : Walked} {es : List Entry} {out mid : Bytes} {b : Begun S}
    (g : Begins step s at levels inside o es out mid b) (one : b.count ≡ 1) where
  left : (x : Entry) × (g.us ≡ x ∷ [])
  left = single g.us (g.row.counted ∙ one)

  -- the type that is left
  inner_at : TypeAt s b.from b.levels b.inside left.0.0 left.0.1 es
  unfolding tallest
  inner_at =
      let deep : tallest (entry_levels b.inside) (left.0 ∷ []) ≤ b.levels = subst (λ (us : List Entry). tallest (entry_levels b.inside) us ≤ b.levels) left.1 g.row.deep in
      record { stands = subst (λ (us : List Entry). Standing fields _ (us ++ es)) left.1 g.row.stands; deep = omega (arith, deep); short = g.row.short }

  pub inner_there : HasType s b.from b.levels b.inside
  inner_there = (left.0.0, left.0.1, es, inner_at)

  abbrev inner : Answer (List Bytes)
  inner = type_walk step left.0.1 left.0.0 b.state

  -- the line's own is written
  module _ (free : b.pending ≡ given tt) where
    own_is : (a : List Bytes) × (g.own ≡ given a)
    own_is = go g.own b.pending refl free g.owns
      where
        go : (w : Answer (List Bytes)) (p : Answer (Unit {0})) → g.own ≡ w → p ≡ given tt → Owns w p b.size.len out mid → (a : List Bytes) × (g.own ≡ given a)
        go (given a) p e f k = (a, e)
        go (refused r) (given u) e f k = absurd k
        go (refused r) (refused q) e f k = absurd (let z : ◌≡◌ {A = ℕ} 0 1 = cc in omega arith)

    chain : o.0 ≡ (inner >>= λ ls. given (own_is.0 ++ ls))
    chain = g.becomes ∙ ap₂ (λ (us : List Entry) (w : Answer (List Bytes)). row_walk step us b.state >>= λ ls. w >>= λ a. given (a ++ ls)) left.1 own_is.1 ∙ go inner
      where
        go : (w : Answer (List Bytes)) → ((w >>= λ a. given (a ++ [])) >>= λ ls. given (own_is.0 ++ ls)) ≡ (w >>= λ ls. given (own_is.0 ++ ls))
        go (refused r) = refl
        go (given a) = ap (λ (l : List Bytes). given (own_is.0 ++ l)) (append-nil a)

    module _ (lent part : Bytes) where
      pub both_refused : (q : Refusal) → TypeBegins step s b.from b.levels b.inside b.state lent part (refused q) → o.0 ≡ refused q
      both_refused q h = chain ∙ ap (λ (w : Answer (List Bytes)). w >>= λ ls. given (own_is.0 ++ ls)) (h left.0.0 left.0.1 es inner_at)

      module _ (c : Begun S) (h : TypeBegins step s b.from b.levels b.inside b.state lent part (given c)) where
        next : Begins step s b.from b.levels b.inside (type_walked step left.0.1 left.0.0 b.state) es lent part c
        next = h left.0.0 left.0.1 es inner_at

        -- the sum of both lengths does not wrap
        pub both_short : b.size.len + c.size.len ≤ own_limit * 65535
        both_short = omega (arith, g.long, next.long, next.row.within, next.row.short)

        pub both_few : b.size.lines + c.size.lines ≤ 65535
        both_few = omega (arith, g.few, next.few, next.row.within, next.row.short)

        -- the lines of both, and those that are left
        both_visited : o.1 ≡ b.size.lines + c.size.lines + row_visits step next.us c.state
        both_visited = omega (arith, g.counts, ap (λ (us : List Entry). row_visits step us b.state) left.1, next.counts)

        own_both : Answer (List Bytes)
        own_both = next.own >>= λ y. given (own_is.0 ++ y)

        pub both_begun : (w : ℕ) → w ≡ min b.size.len (length mid) → lent ≡ take (length mid - w) (drop w mid)
            → Begins step s at levels inside o es out (take w mid ++ (part ++ drop (length mid - w) (drop w mid)))
            (record { from = c.from; count = c.count; levels = c.levels; inside = c.inside; state = c.state; size = together b.size c.size; pending = c.pending })
        unfolding own_both
        both_begun w e₁ e₂ =
            record {
              us = next.us;
              own = own_both;
              row = next.row;
              falls = omega (arith, g.falls, next.falls, line_falls b.inside b.levels);
              becomes = chain ∙ ap (λ (m : Answer (List Bytes)). m >>= λ ls. given (own_is.0 ++ ls)) next.becomes ∙ go (row_walk step next.us c.state) next.own;
              counts = both_visited;
              owns = owns next.own c.pending next.owns;
              long = omega (arith, g.long, next.long);
              few = omega (arith, g.few, next.few);
            }
          where
            go : (r y : Answer (List Bytes))
                → ((r >>= λ ls. y >>= λ a. given (a ++ ls)) >>= λ ls. given (own_is.0 ++ ls)) ≡ (r >>= λ ls. (y >>= λ a. given (own_is.0 ++ a)) >>= λ a. given (a ++ ls))
            go (refused r) y = refl
            go (given l) (refused q) = refl
            go (given l) (given a) = ap given (sym (append_assoc own_is.0 a l))

            first : Owns (given own_is.0) (given tt) b.size.len out mid
            first = subst (λ (p : Answer (Unit {0})). Owns (given own_is.0) p b.size.len out mid) free (subst (λ (y : Answer (List Bytes)). Owns y b.pending b.size.len out mid) own_is.1 g.owns)

            owns : (y : Answer (List Bytes)) (p : Answer (Unit {0})) → Owns y p c.size.len lent part
                → Owns (y >>= λ a. given (own_is.0 ++ a)) p (b.size.len + c.size.len) out (take w mid ++ (part ++ drop (length mid - w) (drop w mid)))
            owns (given y) (refused q) k = absurd k
            owns (refused r) (given u) k = absurd k
            owns (refused r) (refused q) k = k
            owns (given y) (given u) k = (
              omega (arith, first.0, k.0, ap length (ended_append own_is.0 y), length-append (ended own_is.0) (ended y)),
              over_lent (ended own_is.0) (ended y) out mid part b.size.len w first.1 first.0 e₁ (k.1 ∙ ap (over (ended y)) e₂)
                  ∙ ap (λ (z : Bytes). over z out) (sym (ended_append own_is.0 y)),
            )
