-- `yes_no_of` meets its contract. Assumes nothing.
use mathlib.Core.Path.{sym, ap, ◌∙◌}
use Prim.Native.Nat.{ℕ}
use Rattle.juzontefa.specs.Answers.{yes_no_for}
use Rattle.juzontefa.proofs.yes_no_of.Goals as goal

pub returns-in-Ok : goal.returns-in-Ok
returns-in-Ok c = ap (λ (n : ℕ). record { number = 0; answer = n }) c.flag.ensures ∙ ap yes_no_for (sym c.in-Ok.is)
