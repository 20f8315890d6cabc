-- `decide` meets its contract. The loop's invariant: the whole is UTF-8 exactly if the bytes that are left are what the state `q` awaits. Assumes nothing.
use mathlib.Core.Path.{refl, sym, ap, ◌∙◌}
use Prim.Native.Nat.{ℕ, ◌<◌, ◌+◌}
use native.Mathlib.Omega.{arith}
use lib.ListN.{get_or, drop}
use Rattle.sheets.proofs.Utf8Laws.{from_state, next_state}
use Rattle.utf8.proofs.StateLaws.{move_at, finish_at}
use borrow.Author.Rules.{rules}
use Rattle.utf8.proofs.decide.Goals as goal

pub loop-b-init : goal.loop-b-init
loop-b-init c = (search rules, refl)

pub step-q-requires : goal.step-q-requires
step-q-requires c =
    record {
      classes = c.class_table-class.ensures;
      nexts = c.next_table-next.ensures;
      state = c.loop-b.invariant.0;
    }

pub loop-b-preserved : goal.loop-b-preserved
loop-b-preserved c =
    let s = c.args.s.now in
    let q = c.loop-b.q in
    let i = c.loop-b.b-index in
    let h : get_or s i 0 < 256 = omega (arith, c.type_inv.s i) in
    (omega (arith, c.step-q.ensures, next_state q (get_or s i 0) c.loop-b.invariant.0 h), c.loop-b.invariant.1 ∙ move_at q c.loop-b.invariant.0 s i (search rules) h ∙ ap (λ (p : ℕ). from_state p (drop (i + 1) s)) (sym c.step-q.ensures))

pub returns : goal.returns
returns c =
    let s = c.args.s.now in
    sym (c.loop-b.invariant.1 ∙ finish_at c.loop-b.q c.loop-b.invariant.0 s c.loop-b.b-index (search rules))
