-- `decide_hex` meets its contract, as `decide` does, at the bytes of the text. Assumes nothing.
use mathlib.Core.Path.{◌≡◌, refl, sym, ap, subst, ◌∙◌}
use Prim.Native.Nat.{ℕ, ◌<◌, ◌+◌}
use native.Mathlib.Omega.{arith}
use lib.ListN.{length, get_or, drop}
use Rattle.sheets.specs.Utf8Classes.{class_of, next_of}
use Rattle.sheets.proofs.Utf8Laws.{from_state, next_state}
use Rattle.hexadecimal.specs.Hex.{bytes_of}
use Rattle.hexadecimal.proofs.HexLaws.{length_bytes}
use Rattle.utf8.proofs.StateLaws.{move_at, finish_at}
use borrow.Author.Rules.{rules}
use Rattle.utf8.proofs.decide_hex.Goals as goal

pub loop-k-init : goal.loop-k-init
loop-k-init c = (refl, search rules, refl)

pub step-q-requires : goal.step-q-requires
step-q-requires c =
    record {
      classes = c.class_table-class.ensures;
      nexts = c.next_table-next.ensures;
      state = c.loop-k.invariant.1;
    }

pub loop-k-preserved : goal.loop-k-preserved
loop-k-preserved c =
    let s = c.args.s.now in
    let q = c.loop-k.q in
    let k = c.loop-k.k in
    let e = c.byte_at.ensures in
    let h : get_or (bytes_of s) k 0 < 256 = subst (λ (n : ℕ). n < 256) e c.byte_at.type_inv in
    let p : c.step-q.result ≡ next_of q (class_of (get_or (bytes_of s) k 0)) = c.step-q.ensures ∙ ap (λ (n : ℕ). next_of q (class_of n)) e in
    let m : k < length (bytes_of s) = omega (arith, length_bytes s c.requires) in
    (c.loop-k.invariant.0, omega (arith, p, next_state q (get_or (bytes_of s) k 0) c.loop-k.invariant.1 h), c.loop-k.invariant.2 ∙ move_at q c.loop-k.invariant.1 (bytes_of s) k m h ∙ ap (λ (r : ℕ). from_state r (drop (k + 1) (bytes_of s))) (sym p))

pub returns : goal.returns
returns c =
    let s = c.args.s.now in
    sym (c.loop-k.invariant.2 ∙ finish_at c.loop-k.q c.loop-k.invariant.1 (bytes_of s) c.loop-k.k (omega (arith, length_bytes s c.requires)))
