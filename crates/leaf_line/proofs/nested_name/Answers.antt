-- `nested_name` meets its contract: the digits are those of one of the three names, or of none. Assumes nothing.
use mathlib.Core.Path.{sym, ◌∙◌}
use Rattle.leaf_line.specs.Nested.{list_type, large_list_type, struct_type}
use Rattle.leaf_line.proofs.NestedLaws.{named_some, named_none}
use Rattle.leaf_line.proofs.nested_name.Goals as goal

pub returns-then-w-two_pairs : goal.returns-then-w-two_pairs
returns-then-w-two_pairs c = named_some c.args.w list_type (c.if-w-two_pairs.true ∙ c.two_pairs.ensures.0)

pub returns-then-w-two_pairs-2 : goal.returns-then-w-two_pairs-2
returns-then-w-two_pairs-2 c = named_some c.args.w large_list_type (c.if-w-two_pairs-2.true ∙ c.two_pairs-2.ensures.0)

pub returns-then-w-two_pairs-3 : goal.returns-then-w-two_pairs-3
returns-then-w-two_pairs-3 c = named_some c.args.w struct_type (c.if-w-two_pairs-3.true ∙ c.two_pairs-3.ensures.0)

pub returns : goal.returns
returns c =
    named_none c.args.w c.requires (λ e. c.if-w-two_pairs.false (e ∙ sym c.two_pairs.ensures.0)) (λ e. c.if-w-two_pairs-2.false (e ∙ sym c.two_pairs-2.ensures.0))
    (λ e. c.if-w-two_pairs-3.false (e ∙ sym c.two_pairs-3.ensures.0))
