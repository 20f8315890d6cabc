-- After the row below a line: all is written, or what was pending is refused. Assumes nothing.
use mathlib.Core.Path.{◌≡◌, refl, sym, ap, subst, ◌∙◌}
use mathlib.Core.Bool.{Bool}
use mathlib.Core.List.{List, ◌++◌}
use Prim.Native.Nat.{ℕ, ◌+◌, ◌-◌, ◌*◌, ◌≤◌, min}
use native.Mathlib.Omega.{arith}
use lib.ListN.{length, take, drop, length-append}
use Rattle.sheets.specs.Refusal.{Refusal}
use Rattle.sheets.specs.Bytes.{Bytes}
use Rattle.sheets.specs.Answer.{Answer, refused, given, ◌>>=◌}
use Rattle.sheets.specs.Sheet.{ended}
use Rattle.sheets.specs.FieldSheet.{Entry}
use Rattle.sheets.specs.FieldTrees.{Head}
use Rattle.sheets.specs.Walk.{Step, Walked, row_walked}
use Rattle.sheets.proofs.SheetLaws.{ended_append}
use Rattle.buffer.specs.Over.{over}
use Rattle.buffer.proofs.OverLaws.{over_lent}
use Rattle.outcome.specs.declared.Size.{Size}
use Rattle.walks.specs.Places.{own_limit, HasRow, WroteAs, RowWrote, Owns, ended_step, Begun, Begins, together}

module _ {S : Type 0} {step : S → Head → Answer (Step S)} {s : Bytes} {at levels : ℕ} {inside : Bool} {o : Walked} {es : List Entry} {out mid : Bytes} {b : Begun S}
    (g : Begins step s at levels inside o es out mid b) where
  -- the row below is there
  pub row_there : HasRow s b.from b.count b.levels b.inside
  row_there = (g.us, es, g.row)

  abbrev after : Answer (List Bytes) → Answer (List Bytes)
  after m = m >>= λ ls. g.own >>= λ a. given (a ++ ls)

  -- one of its types is refused
  pub row_refused : (lent part : Bytes) (a : Answer (ℕ × Size)) (q : Refusal) → a ≡ refused q → RowWrote step s b.from b.count b.levels b.inside b.state lent part a → o.0 ≡ refused q
  row_refused lent part a q e h =
      let w : RowWrote step s b.from b.count b.levels b.inside b.state lent part (refused q) =
      subst (λ (y : Answer (ℕ × Size)). RowWrote step s b.from b.count b.levels b.inside b.state lent part y) e h in
      g.becomes ∙ ap after (w g.us es g.row)

  module _ (lent part : Bytes) (a : Answer (ℕ × Size)) (next : ℕ) (more : Size) (e : a ≡ given (next, more)) (h : RowWrote step s b.from b.count b.levels b.inside b.state lent part a) where
    row_done : WroteAs s b.from es (row_walked step g.us b.state) lent part (given (next, more))
    row_done = subst (λ (y : Answer (ℕ × Size)). RowWrote step s b.from b.count b.levels b.inside b.state lent part y) e h g.us es g.row

    -- neither sum wraps
    pub both_long : b.size.len + more.len ≤ own_limit * 65535
    both_long = let d = row_done in omega (arith, g.long, d.4, d.5, g.row.short)

    pub both_few : b.size.lines + more.lines ≤ 65535
    both_few = let d = row_done in omega (arith, g.few, d.7, d.5, g.row.short)

    -- all is written, or what was pending comes now
    pub type_ended : (w : ℕ) → w ≡ min b.size.len (length mid) → lent ≡ take (length mid - w) (drop w mid)
        → WroteAs s at es o out (take w mid ++ (part ++ drop (length mid - w) (drop w mid))) (ended_step b.pending next (together b.size more))
    type_ended w e₁ e₂ = go g.own b.pending refl g.owns
      where
        chain : (own : Answer (List Bytes)) → g.own ≡ own → o.0 ≡ (own >>= λ x. given (x ++ row_done.0))
        chain own q = g.becomes ∙ ap after row_done.1 ∙ ap (λ (m : Answer (List Bytes)). m >>= λ x. given (x ++ row_done.0)) q

        go : (own : Answer (List Bytes)) (pending : Answer (Unit {0})) → g.own ≡ own → Owns own pending b.size.len out mid
            → WroteAs s at es o out (take w mid ++ (part ++ drop (length mid - w) (drop w mid))) (ended_step pending next (together b.size more))
        go (given x) (refused q) c owns = absurd owns
        go (refused r) (given u) c owns = absurd owns
        go (refused r) (refused q) c owns = chain (refused r) c ∙ ap refused owns
        go (given x) (given u) c owns =
            let (ls, is, put, there, long, within, counted, few) = row_done in (
              x ++ ls,
              chain (given x) c,
              (
                omega (arith, owns.0, put.0, ap length (ended_append x ls), length-append (ended x) (ended ls)),
                over_lent (ended x) (ended ls) out mid part b.size.len w owns.1 owns.0 e₁ (put.1 ∙ ap (over (ended ls)) e₂)
                    ∙ ap (λ (y : Bytes). over y out) (sym (ended_append x ls)),
              ),
              there,
              omega (arith, g.long, long),
              within,
              omega (arith, g.counts, counted),
              omega (arith, g.few, few),
            )
