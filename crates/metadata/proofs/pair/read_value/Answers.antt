-- `read_value` meets its contract: a value's refusal is the pair's. Assumes nothing.
use mathlib.Core.Path.{sym, ap, ◌∙◌}
use Prim.Native.Nat.{ℕ, ◌+◌}
use native.Mathlib.Omega.{arith}
use Rattle.sheets.specs.Answer.{Answer, given, ◌>>=◌}
use Rattle.hexadecimal.specs.Hex.{bytes_of}
use Rattle.metadata.proofs.TextLaws.{after_key, key_within, value_within}
use Rattle.refusal.proofs.ErrLaws.{passed}
use Rattle.metadata.proofs.pair.read_value.Goals as goal

pub overflow_add-at : goal.overflow_add-at
overflow_add-at c = omega (arith, key_within c.args.big c.args.m.now c.args.k c.args.n c.requires, c.requires.0.short)

pub overflow_add-at-2 : goal.overflow_add-at-2
overflow_add-at-2 c = omega (arith, key_within c.args.big c.args.m.now c.args.k c.args.n c.requires, c.requires.0.short)

pub read_text-requires : goal.read_text-requires
read_text-requires c = record { block = c.requires.0; within = omega (arith, key_within c.args.big c.args.m.now c.args.k c.args.n c.requires) }

pub overflow_add-result : goal.overflow_add-result
overflow_add-result c = omega (arith, key_within c.args.big c.args.m.now c.args.k c.args.n c.requires, c.requires.0.short)

pub overflow_add-result-2 : goal.overflow_add-result-2
overflow_add-result-2 c =
    let a = c.args in
    omega (arith, value_within a.big a.m.now a.k a.n _ c.requires.0 (sym c.in_ok-size.ensures), c.requires.0.short)

pub returns-in_err-size : goal.returns-in_err-size
returns-in_err-size c =
    let a = c.args in
    let b = bytes_of a.m.now in
    rw (passed c.from_residual.result _ c.from_residual.ensures.1) (
    ap (λ (x : Answer ℕ). x >>= λ v. given (a.n, a.k + 4 + a.n + 4 + v)) c.in_err-size.ensures
    ∙ ap (λ (x : Answer ℕ). x >>= after_key a.big b a.k) (sym c.requires.1)
    )

pub returns : goal.returns
returns c =
    let a = c.args in
    let b = bytes_of a.m.now in
    ap (λ (x : Answer ℕ). x >>= λ v. given (a.n, a.k + 4 + a.n + 4 + v)) c.in_ok-size.ensures
    ∙ ap (λ (x : Answer ℕ). x >>= after_key a.big b a.k) (sym c.requires.1)
