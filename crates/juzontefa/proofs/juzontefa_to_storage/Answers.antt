-- `juzontefa_to_storage` meets its contract: the number and the length are those of the call. Assumes nothing.
use mathlib.Core.Path.{ap, ◌∙◌}
use Rattle.outcome.specs.Answers.{numbers_outcome}
use Rattle.juzontefa.specs.declared.Answer.{Answer}
use Rattle.juzontefa.proofs.juzontefa_to_storage.Goals as goal

pub returns : goal.returns
returns c =
    let r = c.to_storage in ap (λ (a : Answer). numbers_outcome a.number a.length r.new.out) c.answer_of.ensures ∙ r.ensures
