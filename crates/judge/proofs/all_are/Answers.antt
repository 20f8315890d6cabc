-- `all_are` meets its contract: every byte is b exactly if the whole is so many bytes b. Assumes nothing.
use Rattle.std.proofs.Common.{◌∙◌, rules, eqb}
use Rattle.std.proofs.lemmas.Iterator.{YieldsList-from_slice}
use Rattle.std.proofs.lemmas.Iterator.Search.{all_from_yields_List}
use borrow.Author.Tests.{tests}
use Rattle.judge.proofs.JudgingLaws.{all_same}
use Rattle.judge.proofs.all_are.Goals as goal

pub returns : goal.returns
returns c =
    let s = c.args.s.now in
    let b = c.args.b in
    all_from_yields_List (λ x. eqb x b) _ _ _ c.all.ensures.ran (YieldsList-from_slice s cc) (λ x t q k. search (rules, tests)) ∙ all_same s b
