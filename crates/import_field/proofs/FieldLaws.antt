-- What is known at each place of `to_field`: the node's own lines are written, and what its type visits stands next (`NodeTold`); with what `to_dtype` tells of
-- that, the tree is read, and its lines are written, or what was pending is refused. Assumes nothing.
use Rattle.std.specs.Prelude.{Ok, Err}
use mathlib.Core.Path.{◌≡◌, refl, sym, ap, subst, ◌∙◌}
use mathlib.Core.List.{List, ◌++◌}
use Prim.Native.Nat.{ℕ, ◌+◌, ◌-◌, ◌*◌, ◌≤◌, ◌<◌, min}
use native.Mathlib.Omega.{arith}
use lib.ListN.{length, take, drop}
use Rattle.sheets.specs.Refusal.{Refusal}
use Rattle.sheets.specs.Bytes.{Bytes}
use Rattle.sheets.specs.Answer.{Answer, refused, given, ◌>>=◌}
use Rattle.sheets.specs.Sheet.{ended}
use Rattle.sheets.specs.Schema.{Schema}
use Rattle.sheets.specs.ImportLines.{written, row_written}
use Rattle.sheets.specs.Visits.{import_lines, row_lines}
use Rattle.sheets.proofs.SheetLaws.{ended_append}
use Rattle.buffer.specs.Over.{PutFirst}
use Rattle.buffer.proofs.OverLaws.{put_lent}
use Rattle.outcome.specs.declared.Size.{Size}
use Rattle.refusal.specs.declared.Refusal.{Refusal as Reason}
use Rattle.refusal.specs.Refusals.{refusal_of, Refusing, answer_of}
use Rattle.schema_sheet.specs.Trees.{ReadsRow}
use Rattle.schema_sheet.proofs.ReadLaws.{reads_both, tree_read}
use Rattle.import_field.specs.declared.Tree.{Tree}
use Rattle.import_field.specs.declared.Trees.{Trees}
use Rattle.import_field.specs.declared.Visit.{Visit}
use Rattle.import_field.specs.declared.NodeBegun.{NodeBegun}
use Rattle.import_field.specs.Recursion.{FieldAt, WroteAs, Wrote, TypeTold, RowRead, FieldRead, FieldTold, ended_field, FieldEnds, NodeRead, NodeBegins, NodeTold}

-- the row that a node visits
abbrev pub row_below : Tree → ℕ → Visit → Trees
row_below t from v = record { at = from; count = v.count; levels = t.levels - 1; bare = v.bare; big = t.big }

module _ (s : Bytes) (t : Tree) (out mid : Bytes) (b : Refusing NodeBegun) (h : NodeTold s t out mid b) where
  -- the node is refused
  pub field_refused : (q : Reason) → b ≡ Err q → FieldTold s t out mid (Err q)
  field_refused q e = (tt, subst (λ (y : Refusing NodeBegun). NodeTold s t out mid y) e h)

  module _ (from len : ℕ) (v : Visit) (pending : Refusing (Unit {0})) (e : b ≡ Ok (record { from = from; len = len; visit = v; pending = pending })) where
    told : NodeTold s t out mid (Ok (record { from = from; len = len; visit = v; pending = pending }))
    told = subst (λ (y : Refusing NodeBegun). NodeTold s t out mid y) e h

    n : NodeRead s t from len v
    n = told.0

    -- what its type visits stands in the sheet
    pub below_within : from ≤ length s
    below_within = n.first.0.1

    module _ (lent part : Bytes) (r : Refusing (ℕ × Size)) (k : TypeTold s (row_below t from v) v.last lent part r) where
      -- something below is refused
      pub below_refused : (q : Reason) → r ≡ Err q → FieldTold s t out out (Err q)
      below_refused q d = (
        tt,
        λ u ts f.
            let g = told.1 u ts f in
            let z : row_written t.big v.bare g.us ≡ refused (refusal_of q) = (subst (λ (y : Refusing (ℕ × Size)). TypeTold s (row_below t from v) v.last lent part y) d k).1 g.us g.vs ts g.visited g.others g.low in
            g.becomes ∙ ap (λ (m : Answer (List Bytes)). m >>= λ ls. g.own >>= λ a. given (a ++ ls)) z,
      )

      module _ (next : ℕ) (below : Size) (d : r ≡ Ok (next, below)) where
        rows : RowRead s from (v.count + v.last) (t.levels - 1) (given (next, below))
        rows = subst (λ (y : Refusing (ℕ × Size)). RowRead s from (v.count + v.last) (t.levels - 1) (answer_of y)) d k.0

        -- neither sum wraps
        pub field_next : next ≤ length s
        field_next = rows.0.0.1

        pub field_long : len + below.len + 32 * t.at ≤ 32 * next
        field_long = omega (arith, n.long, rows.1)

        pub field_each : 1 + below.lines + t.at ≤ next
        field_each = omega (arith, rows.2, n.there.low, n.first.0.0)

        abbrev whole : Size
        whole = record { len = len + below.len; lines = 1 + below.lines }

        all_read : 0 < t.levels → ReadsRow s n.line.end (n.line.dictionary + n.line.children) (t.levels - 1) (given next)
        all_read l =
            let both = reads_both s n.line.end v.first from (v.count + v.last) next (t.levels - 1) n.first rows.0 in
            let same : v.first + (v.count + v.last) ≡ n.line.dictionary + n.line.children = omega (arith, n.all) in
            subst (λ (m : ℕ). ReadsRow s n.line.end m (t.levels - 1) (given next)) same both

        -- the tree is read, and its lines are written, or what was pending is refused
        pub field_told : 0 < t.levels → (w : ℕ) → w ≡ min len (length mid) → lent ≡ take (length mid - w) (drop w mid) → (z : Refusing (ℕ × Size)) → FieldEnds pending next whole z
            → FieldTold s t out (take w mid ++ (part ++ drop (length mid - w) (drop w mid))) z
        field_told l w e₁ e₂ z ends = (subst (FieldRead s t.at t.levels) (sym ends) (read (answer_of pending)), λ u ts f. subst (λ (a : Answer (ℕ × Size)). WroteAs s ts (written t.big t.bare u) (import_lines u) out final a) (sym ends) (wrote u ts f))
          where
            final : Bytes
            final = take w mid ++ (part ++ drop (length mid - w) (drop w mid))

            read : (y : Answer (Unit {0})) → FieldRead s t.at t.levels (ended_field y next whole)
            read (refused q) = tt
            read (given u) = (tree_read n.line n.there t.levels l (n.line.dictionary + n.line.children) refl (Ok next) (all_read l), field_long, field_each)

            wrote : (u : Schema) (ts : List Schema) → FieldAt s t.at t.levels u ts → WroteAs s ts (written t.big t.bare u) (import_lines u) out final (ended_field (answer_of pending) next whole)
            wrote u ts f = go (answer_of pending) g.own g.becomes g.pends g.put
              where
                g : NodeBegins s t u ts out mid from len v (answer_of pending)
                g = told.1 u ts f

                done : Wrote s ts (row_written t.big v.bare g.us) (row_lines g.us) lent part (Ok (next, below))
                done = (subst (λ (y : Refusing (ℕ × Size)). TypeTold s (row_below t from v) v.last lent part y) d k).1 g.us g.vs ts g.visited g.others g.low

                go : (y : Answer (Unit {0})) (own : Answer (List Bytes)) → written t.big t.bare u ≡ (row_written t.big v.bare g.us >>= λ ls. own >>= λ a. given (a ++ ls))
                    → y ≡ (own >>= λ a. given tt) → ((a : List Bytes) → own ≡ given a → PutFirst (ended a) len out mid)
                    → WroteAs s ts (written t.big t.bare u) (import_lines u) out final (ended_field y next whole)
                go (refused q) (refused q') is p put =
                    let same : q ≡ q' = refused_same q q' p in
                    is ∙ ap (λ (m : Answer (List Bytes)). m >>= λ ls. refused q' >>= λ a. given (a ++ ls)) done.1 ∙ ap refused (sym same)
                  where
                    refused_same : (q q' : Refusal) → ◌≡◌ {A = Answer (Unit {0})} (refused q) (refused q') → q ≡ q'
                    refused_same q q' e = cc
                go (refused q) (given a) is p put = let z : ◌≡◌ {A = ℕ} 0 1 = cc in absurd (omega arith)
                go (given x) (refused q) is p put = let z : ◌≡◌ {A = ℕ} 0 1 = cc in absurd (omega arith)
                go (given x) (given a) is p put =
                    let (ls, es, laid, there, within, lines) = done in (
                      a ++ ls,
                      is ∙ ap (λ (m : Answer (List Bytes)). m >>= λ ls. given (a ++ ls)) es,
                      subst (λ (y : Bytes). PutFirst y (len + below.len) out (take w mid ++ (part ++ drop (length mid - w) (drop w mid)))) (sym (ended_append a ls))
                          (put_lent (ended a) (ended ls) out (put a refl) e₁ (subst (λ (y : Bytes). PutFirst (ended ls) below.len y part) e₂ laid) refl),
                      there,
                      within,
                      omega (arith, lines, g.lines),
                    )
