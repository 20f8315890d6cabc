-- What is known in the loop of `to_fields`, which writes the lines of one tree after the other, and a law for each way of a turn. Assumes nothing.
use Rattle.std.specs.Prelude.{Ok, Err}
use mathlib.Core.Path.{◌≡◌, refl, sym, ap, subst, ◌∙◌}
use mathlib.Core.Bool.{Bool}
use mathlib.Core.List.{List, [], ◌++◌, append_assoc, append-nil}
use Prim.Native.Nat.{ℕ, ◌+◌, ◌-◌, ◌*◌, ◌<◌, ◌≤◌, min}
use native.Mathlib.Omega.{arith}
use lib.ListN.{length, take, drop}
use Rattle.sheets.specs.Bytes.{Bytes}
use Rattle.sheets.specs.Answer.{Answer, refused, given, ◌>>=◌}
use Rattle.sheets.specs.Sheet.{ended}
use Rattle.sheets.specs.Schema.{Schema, Schemas, end, ◌&◌}
use Rattle.sheets.specs.SchemaTrees.{push_children}
use Rattle.sheets.specs.ImportLines.{row_written}
use Rattle.sheets.specs.Visits.{row_lines}
use Rattle.sheets.proofs.SheetLaws.{ended_append}
use Rattle.buffer.specs.Over.{PutFirst}
use Rattle.buffer.proofs.OverLaws.{over_nothing, put_lent}
use Rattle.outcome.specs.declared.Size.{Size}
use Rattle.refusal.specs.declared.Refusal.{Refusal as Reason}
use Rattle.refusal.specs.Refusals.{refusal_of, Refusing, answer_of}
use Rattle.schema_sheet.proofs.ReadLaws.{Reading, reading_none, reading_more, reading_all}
use Rattle.import_field.specs.Recursion.{FieldAt, FieldsAt, Wrote, FieldWrote, RowRead, FieldRead}
use Rattle.import_field.specs.declared.Tree.{Tree}

none_before : (m : Answer (List Bytes)) → m ≡ (m >>= λ ls. given ([] ++ ls))
none_before (refused r) = refl
none_before (given ls) = refl

both_before : (a b : List Bytes) (m : Answer (List Bytes)) → ((m >>= λ ls. given (b ++ ls)) >>= λ ls. given (a ++ ls)) ≡ (m >>= λ ls. given ((a ++ b) ++ ls))
both_before a b (refused r) = refl
both_before a b (given ls) = ap given (sym (append_assoc a b ls))

-- the tree that stands at a place
abbrev pub tree_at : ℕ → ℕ → Bool → Bool → Tree
tree_at here levels bare big = record { at = here; levels = levels; bare = bare; big = big }

-- ── what is read, whatever stands there

-- of a row of n trees, i were read up to here; what was written for them is not long
pub record RowGoing (s : Bytes) (at n levels here sum seen i : ℕ) : Type 0 where
  pub reading : Reading s at n levels here (n - i)
  pub long : sum + 32 * at ≤ 32 * here
  pub each : seen + at ≤ here
  pub past : i + at ≤ here

pub row_none : (s : Bytes) (at n levels : ℕ) → at ≤ length s → RowGoing s at n levels at 0 0 0
row_none s at n levels h =
    record { reading = subst (λ (k : ℕ). Reading s at n levels at k) (omega arith) (reading_none s at n levels h); long = omega arith; each = omega arith; past = omega arith }

module _ {s : Bytes} {at n levels here sum seen i : ℕ} (g : RowGoing s at n levels here sum seen i) where
  pub row_more : i < n → (r : Refusing (ℕ × Size)) (next : ℕ) (size : Size) → r ≡ Ok (next, size) → FieldRead s here levels (answer_of r) → RowGoing s at n levels next (sum + size.len) (seen + size.lines) (i + 1)
  row_more l r next size e f =
      let (t, long, each) = subst (λ (y : Refusing (ℕ × Size)). FieldRead s here levels (answer_of y)) e f in
      record {
        reading = subst (λ (k : ℕ). Reading s at n levels next k) (omega arith) (reading_more g.reading (omega arith) t);
        long = omega (arith, long, g.long);
        each = omega (arith, each, g.each);
        past = omega (arith, t.0.0, g.past);
      }

  pub row_within : here ≤ length s
  row_within = g.reading.high

  pub row_all : n ≤ i → RowRead s at n levels (given (here, record { len = sum; lines = seen }))
  row_all l = (reading_all g.reading (omega arith), omega (arith, g.long), g.each)

  pub row_past : n ≤ i → n + at ≤ here
  row_past l = omega (arith, g.past)

-- ── what is written for the trees that stand there

-- i of the n trees us, which stood at `at` with ts after them, are written, for `seen` lines: their lines are laid over out₀, and vs are left at here
pub record Going (s : Bytes) (at n levels : ℕ) (bare big : Bool) (out₀ out : Bytes) (here sum seen i : ℕ) (us : Schemas) (ts : List Schema) : Type 0 where
  pub vs : Schemas
  pub lines : List Bytes
  pub left : FieldsAt s here (n - i) levels vs ts
  pub becomes : row_written big bare us ≡ (row_written big bare vs >>= λ ls. given (lines ++ ls))
  pub put : PutFirst (ended lines) sum out₀ out
  pub counted : row_lines us ≡ seen + row_lines vs

module _ (s : Bytes) (at n levels : ℕ) (bare big : Bool) (out₀ : Bytes) (us : Schemas) (ts : List Schema) where
  pub going_none : FieldsAt s at n levels us ts → Going s at n levels bare big out₀ out₀ at 0 0 0 us ts
  going_none h =
      record {
        vs = us;
        lines = [];
        left = record { stands = h.stands; counted = omega (arith, h.counted); deep = h.deep; within = h.within; short = h.short };
        becomes = none_before (row_written big bare us);
        put = (refl, sym (over_nothing out₀));
        counted = omega arith;
      }

  module _ (out : Bytes) (here sum seen i : ℕ) (g : Going s at n levels bare big out₀ out here sum seen i us ts) where
    -- the first tree that is left
    first_at : (t : Schema) (vs : Schemas) → FieldsAt s here (n - i) levels (t & vs) ts → FieldAt s here levels t (push_children vs ts)
    first_at t vs h = record { stands = h.stands; deep = omega (arith, h.deep); short = h.short }

    -- it is written
    pub going_more : i < n → (w : ℕ) → w ≡ min sum (length out) → (part : Bytes) (r : Refusing (ℕ × Size)) (next : ℕ) (size : Size) → r ≡ Ok (next, size)
        → FieldWrote s (tree_at here levels bare big) (take (length out - w) (drop w out)) part r
        → Going s at n levels bare big out₀ (take w out ++ (part ++ drop (length out - w) (drop w out))) next (sum + size.len) (seen + size.lines) (i + 1) us ts
    going_more l w e part r next size is_done wrote = go g.vs g.left g.becomes g.counted
      where
        go : (vs : Schemas) → FieldsAt s here (n - i) levels vs ts → row_written big bare us ≡ (row_written big bare vs >>= λ ls. given (g.lines ++ ls)) → row_lines us ≡ seen + row_lines vs
            → Going s at n levels bare big out₀ (take w out ++ (part ++ drop (length out - w) (drop w out))) next (sum + size.len) (seen + size.lines) (i + 1) us ts
        go end h b m = absurd (omega (arith, h.counted))
        go (t & vs) h b m =
            let f : FieldWrote s (tree_at here levels bare big) (take (length out - w) (drop w out)) part (Ok (next, size)) =
            subst (λ (x : Refusing (ℕ × Size)). FieldWrote s (tree_at here levels bare big) (take (length out - w) (drop w out)) part x) is_done wrote in
            let (ls, is, put, there, within, lines) = f t (push_children vs ts) (first_at t vs h) in
            record {
              vs = vs;
              lines = g.lines ++ ls;
              left = record { stands = there; counted = omega (arith, h.counted); deep = omega (arith, h.deep); within = within; short = h.short };
              becomes =
                  b
                  ∙ ap (λ (o : Answer (List Bytes)). (o >>= λ a. row_written big bare vs >>= λ b. given (a ++ b)) >>= λ b. given (g.lines ++ b)) is
                  ∙ both_before g.lines ls (row_written big bare vs);
              put = subst (λ (x : Bytes). PutFirst x (sum + size.len) out₀ (take w out ++ (part ++ drop (length out - w) (drop w out)))) (sym (ended_append g.lines ls)) (put_lent (ended g.lines) (ended ls) out₀ g.put e put refl);
              counted = omega (arith, m, lines);
            }

    -- it is refused
    pub going_refused : i < n → (lent part : Bytes) (r : Refusing (ℕ × Size)) (q : Reason) → r ≡ Err q → FieldWrote s (tree_at here levels bare big) lent part r
        → row_written big bare us ≡ refused (refusal_of q)
    going_refused l lent part r q is_refused wrote = go g.vs g.left g.becomes
      where
        go : (vs : Schemas) → FieldsAt s here (n - i) levels vs ts → row_written big bare us ≡ (row_written big bare vs >>= λ ls. given (g.lines ++ ls))
            → row_written big bare us ≡ refused (refusal_of q)
        go end h b = absurd (omega (arith, h.counted))
        go (t & vs) h b =
            let f : FieldWrote s (tree_at here levels bare big) lent part (Err q) = subst (λ (x : Refusing (ℕ × Size)). FieldWrote s (tree_at here levels bare big) lent part x) is_refused wrote in
            b ∙ ap (λ (o : Answer (List Bytes)). (o >>= λ a. row_written big bare vs >>= λ b. given (a ++ b)) >>= λ b. given (g.lines ++ b)) (f t (push_children vs ts) (first_at t vs h))

    -- all are written
    pub going_all : n ≤ i → Wrote s ts (row_written big bare us) (row_lines us) out₀ out (Ok (here, record { len = sum; lines = seen }))
    going_all l = go g.vs g.left g.becomes g.counted
      where
        go : (vs : Schemas) → FieldsAt s here (n - i) levels vs ts → row_written big bare us ≡ (row_written big bare vs >>= λ ls. given (g.lines ++ ls)) → row_lines us ≡ seen + row_lines vs
            → Wrote s ts (row_written big bare us) (row_lines us) out₀ out (Ok (here, record { len = sum; lines = seen }))
        go end h b m = (g.lines, b ∙ ap given (append-nil g.lines), g.put, h.stands, h.within, omega (arith, m))
        go (t & vs) h b m = absurd (omega (arith, h.counted))
