-- `types::read_numbers` meets its contract: each column that is not there or does not fit has its law. Assumes nothing.
use mathlib.Core.Path.{refl, sym, ◌∙◌}
use Prim.Native.Nat.{◌+◌}
use native.Mathlib.Omega.{arith}
use Rattle.read_field_line.proofs.StageLaws.{number_told, kind_bad, p_bad, q_bad, p_unfit, q_unfit}
use Rattle.read_field_line.proofs.types.read_numbers.Goals as goal

pub returns-in_err-kind : goal.returns-in_err-kind
returns-in_err-kind c = rw c.from_residual.ensures ((refl, λ x rest w. kind_bad w (number_told c.args.s.now c.args.at 32 refl c.in_err-kind.was c.number_column.ensures)))

pub overflow_add-kind_end : goal.overflow_add-kind_end
overflow_add-kind_end c = omega (arith, (number_told c.args.s.now c.args.at 32 refl c.in_ok-kind.was c.number_column.ensures).0.high)

pub returns-in_err-p : goal.returns-in_err-p
returns-in_err-p c = rw c.from_residual-in_err-p.ensures ((refl, λ x rest w. p_bad w (number_told c.args.s.now c.args.at 32 refl c.in_ok-kind.was c.number_column.ensures).0 (number_told c.args.s.now (c.in_ok-kind.kind_end + 1) 32 refl c.in_err-p.was c.number_column-2.ensures)))

pub overflow_add-p_end : goal.overflow_add-p_end
overflow_add-p_end c = omega (arith, (number_told c.args.s.now (c.in_ok-kind.kind_end + 1) 32 refl c.in_ok-p.was c.number_column-2.ensures).0.high)

pub returns-in_err-q : goal.returns-in_err-q
returns-in_err-q c = rw c.from_residual-in_err-q.ensures ((refl, λ x rest w. q_bad w (number_told c.args.s.now c.args.at 32 refl c.in_ok-kind.was c.number_column.ensures).0 (number_told c.args.s.now (c.in_ok-kind.kind_end + 1) 32 refl c.in_ok-p.was c.number_column-2.ensures).0 (number_told c.args.s.now (c.in_ok-p.p_end + 1) 32 refl c.in_err-q.was c.number_column-3.ensures)))

pub returns-then-not-p_fits : goal.returns-then-not-p_fits
returns-then-not-p_fits c = (refl, λ x rest w. p_unfit w (number_told c.args.s.now c.args.at 32 refl c.in_ok-kind.was c.number_column.ensures).0 (number_told c.args.s.now (c.in_ok-kind.kind_end + 1) 32 refl c.in_ok-p.was c.number_column-2.ensures).0 (number_told c.args.s.now (c.in_ok-p.p_end + 1) 32 refl c.in_ok-q.was c.number_column-3.ensures).0 (number_told c.args.s.now c.args.at 32 refl c.in_ok-kind.was c.number_column.ensures).1 (number_told c.args.s.now (c.in_ok-kind.kind_end + 1) 32 refl c.in_ok-p.was c.number_column-2.ensures).1 (number_told c.args.s.now (c.in_ok-p.p_end + 1) 32 refl c.in_ok-q.was c.number_column-3.ensures).1 (sym c.p_fits.ensures ∙ c.if-not-p_fits.true))

pub returns-then-not-q_fits : goal.returns-then-not-q_fits
returns-then-not-q_fits c = (refl, λ x rest w. q_unfit w (number_told c.args.s.now c.args.at 32 refl c.in_ok-kind.was c.number_column.ensures).0 (number_told c.args.s.now (c.in_ok-kind.kind_end + 1) 32 refl c.in_ok-p.was c.number_column-2.ensures).0 (number_told c.args.s.now (c.in_ok-p.p_end + 1) 32 refl c.in_ok-q.was c.number_column-3.ensures).0 (number_told c.args.s.now c.args.at 32 refl c.in_ok-kind.was c.number_column.ensures).1 (number_told c.args.s.now (c.in_ok-kind.kind_end + 1) 32 refl c.in_ok-p.was c.number_column-2.ensures).1 (number_told c.args.s.now (c.in_ok-p.p_end + 1) 32 refl c.in_ok-q.was c.number_column-3.ensures).1 (sym c.q_fits.ensures ∙ c.if-not-q_fits.true))

pub returns : goal.returns
returns c =
    record {
      kind_end = c.in_ok-kind.kind_end;
      p_end = c.in_ok-p.p_end;
      kind_at = (number_told c.args.s.now c.args.at 32 refl c.in_ok-kind.was c.number_column.ensures).0;
      p_at = (number_told c.args.s.now (c.in_ok-kind.kind_end + 1) 32 refl c.in_ok-p.was c.number_column-2.ensures).0;
      q_at = (number_told c.args.s.now (c.in_ok-p.p_end + 1) 32 refl c.in_ok-q.was c.number_column-3.ensures).0;
      kind_is = (number_told c.args.s.now c.args.at 32 refl c.in_ok-kind.was c.number_column.ensures).1;
      p_is = (number_told c.args.s.now (c.in_ok-kind.kind_end + 1) 32 refl c.in_ok-p.was c.number_column-2.ensures).1;
      q_is = (number_told c.args.s.now (c.in_ok-p.p_end + 1) 32 refl c.in_ok-q.was c.number_column-3.ensures).1;
      p_fit = sym c.p_fits.ensures ∙ c.if-not-p_fits.false;
      q_fit = sym c.q_fits.ensures ∙ c.if-not-q_fits.false;
    }
