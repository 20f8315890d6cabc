-- An extension's line and that of its inner type begun at once (`both_begun` of walks, at the step of any call). Assumes nothing.
use Rattle.std.specs.Prelude.{Ok, Err, is_err}
use mathlib.Core.Path.{◌≡◌, refl, sym}
use mathlib.Core.Bool.{true, false}
use mathlib.Core.List.{◌++◌}
use Prim.Native.Nat.{ℕ, ◌+◌, ◌-◌, ◌*◌, ◌≤◌, min}
use lib.Dec.{eqb}
use lib.ListN.{length, take, drop}
use borrow.Author.Tests.{eqb-true}
use Rattle.sheets.specs.Bytes.{Bytes}
use Rattle.sheets.proofs.Tests.{never, and_right}
use Rattle.refusal.specs.Refusals.{refusal_of, Refusing}
use Rattle.refusal.specs.declared.Refusal.{Refusal}
use Rattle.outcome.specs.declared.Size.{Size}
use Rattle.walks.specs.Places.{own_limit, HasType, together}
use Rattle.walks.specs.declared.Subtree.{Subtree}
use Rattle.walks.specs.declared.Subtrees.{Subtrees}
use Rattle.walks.proofs.BothLaws.{inner_there, both_refused, both_short, both_few, both_begun}
use Rattle.field_walk.specs.declared.Call.{Call}
use Rattle.field_walk.specs.Calls.{is_inner, CallBegins}
use Rattle.walks.specs.declared.LineBegun.{LineBegun}

-- nothing is pending, then
pub settled : (p : Refusing (Unit {0})) → is_err p ≡ false → p ≡ Ok tt
settled (Ok tt) e = refl
settled (Err r) e = never (sym e)

-- what is left, as a type
abbrev pub inner_of : Subtrees → Subtree
inner_of w = record { at = w.at; levels = w.levels; inside = w.inside }

module _ (c : Call) (s : Bytes) (tree : Subtree) (out mid : Bytes) (row : Subtrees) (size : Size) (inner : is_inner row ≡ true) (h : CallBegins c s tree out mid (Ok (record { row = row; size = size; pending = Ok tt }))) where
  one : row.count ≡ 1
  one = eqb-true row.count 1 (and_right row.inside (eqb row.count 1) inner)

  pub has_inner : HasType s tree.at tree.levels tree.inside → HasType s row.at row.levels row.inside
  has_inner (i, t, es, f) = inner_there (h i t es f) one

  module _ (lent part : Bytes) where
    pub inner_refused : (r : Refusal) → CallBegins c s (inner_of row) lent part (Err r) → (last : Bytes) → CallBegins c s tree out last (Err r)
    inner_refused r k last = λ i t es f. both_refused (h i t es f) one refl lent part (refusal_of r) k

    module _ (b : LineBegun) (k : CallBegins c s (inner_of row) lent part (Ok b)) where
      pub inner_short : HasType s tree.at tree.levels tree.inside → size.len + b.size.len ≤ own_limit * 65535
      inner_short (i, t, es, f) = both_short (h i t es f) one refl lent part _ k

      pub inner_few : HasType s tree.at tree.levels tree.inside → size.lines + b.size.lines ≤ 65535
      inner_few (i, t, es, f) = both_few (h i t es f) one refl lent part _ k

      pub inner_begun : (w : ℕ) → w ≡ min size.len (length mid) → lent ≡ take (length mid - w) (drop w mid)
          → CallBegins c s tree out (take w mid ++ (part ++ drop (length mid - w) (drop w mid))) (Ok (record { row = b.row; size = together size b.size; pending = b.pending }))
      inner_begun w e₁ e₂ = λ i t es f. both_begun (h i t es f) one refl lent part _ k w e₁ e₂
