-- `to_integer_type` meets its contract: by the row of the name. Assumes nothing.
use mathlib.Core.Path.{sym, ◌∙◌, ap}
use Rattle.hexadecimal.specs.Hex.{bytes_of}
use Rattle.format_names.specs.Names.{name_option}
use Rattle.format.proofs.IndexLaws.{index_named, no_index}
use Rattle.format.proofs.dictionary.to_integer_type.Goals as goal

pub returns-in-Leaf : goal.returns-in-Leaf
returns-in-Leaf c =
    let b = bytes_of c.args.f.now in
    c.index_of.ensures ∙ sym (index_named b c.in-Leaf.kind c.in-Leaf.field-1 (ap name_option (sym c.in-Leaf.is) ∙ c.fixed_name.ensures.0))

pub returns-in-Nested : goal.returns-in-Nested
returns-in-Nested c =
    let b = bytes_of c.args.f.now in
    c.index_of-in-Nested.ensures ∙ sym (index_named b c.in-Nested.kind 0 (ap name_option (sym c.in-Nested.is) ∙ c.fixed_name.ensures.0))

pub returns-in-Other : goal.returns-in-Other
returns-in-Other c =
    let b = bytes_of c.args.f.now in
    no_index b (ap name_option (sym c.in-Other.is) ∙ c.fixed_name.ensures.0)
