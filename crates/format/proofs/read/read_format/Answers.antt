-- `read_format` meets its contract: what its fixed name says, and if it has none, what its parts say. Assumes nothing.
use mathlib.Core.Path.{sym, ◌∙◌, ap, subst}
use Rattle.sheets.specs.Answer.{given}
use Rattle.sheets.specs.Format.{cut, read_other, read_format}
use Rattle.sheets.proofs.FixedNameLaws.{leaf_format_lem}
use Rattle.hexadecimal.specs.Hex.{bytes_of}
use Rattle.format_names.specs.Names.{name_option, Told}
use Rattle.format_names.proofs.NameLaws.{name_says, name_other}
use Rattle.format.proofs.ReadLaws.{reads_as}
use Rattle.format.proofs.read.read_format.Goals as goal

pub nested_type-requires : goal.nested_type-requires
nested_type-requires c = subst Told c.in-Nested.is c.fixed_name.ensures.1

pub returns-in-Leaf : goal.returns-in-Leaf
returns-in-Leaf c =
    let n = c.fixed_name.ensures in
    (ap given (sym (leaf_format_lem c.args.sorted c.in-Leaf.kind c.in-Leaf.unit (subst Told c.in-Leaf.is n.1))) ∙ name_says c.args.sorted (bytes_of c.args.f.now) c.in-Leaf.kind c.in-Leaf.unit (ap name_option (sym c.in-Leaf.is) ∙ n.0), tt)

pub returns-in-Nested : goal.returns-in-Nested
returns-in-Nested c = (ap given c.nested_type.ensures ∙ name_says c.args.sorted (bytes_of c.args.f.now) c.in-Nested.kind 0 (ap name_option (sym c.in-Nested.is) ∙ c.fixed_name.ensures.0), tt)

pub returns-in-Other : goal.returns-in-Other
returns-in-Other c =
    let b = bytes_of c.args.f.now in
    reads_as c.args.f.now c.read_other.result (read_other (cut b)) (read_format c.args.sorted b)
    (name_other c.args.sorted b (ap name_option (sym c.in-Other.is) ∙ c.fixed_name.ensures.0)) c.read_other.ensures
